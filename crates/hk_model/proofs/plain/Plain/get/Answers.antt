use Rattle.std.proofs.Common.{sym, ◌∙◌, ap}
use Rattle.hk_words.specs.declared.call.Reply.TheVariants.{Num}
use Rattle.hk_model.specs.Heap.{register, value}
use Rattle.hk_model.specs.Replies.{has_number, reply_of}
use Rattle.hk_model.proofs.Replies.{looked_number, looked_err, reply_of-get}
use Rattle.hk_model.proofs.plain.Plain.get.Goals as goal

pub returns-in-Ok : goal.returns-in-Ok
returns-in-Ok c =
    let p = looked_number c.args.self.now c.args.seat c.args.reg c.args.field c.in-Ok.birth c.in-Ok.ensures.value in
    ap Num c.number.ensures ∙ sym (reply_of-get c.args.self.now c.args.seat c.args.reg c.args.field c.in-Ok.birth p.0 p.1)

pub returns-in-Err : goal.returns-in-Err
unfolding reply_of
returns-in-Err c = looked_err (register c.args.self.now c.args.seat c.args.reg) (has_number c.args.self.now c.args.field) c.in-Err.reply c.in-Err.ensures.value (λ birth. Num (value c.args.self.now birth c.args.field))
