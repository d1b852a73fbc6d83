use Rattle.std.proofs.Common.{sym, ◌∙◌, ap}
use Rattle.hk_words.specs.declared.call.Reply.TheVariants.{Unit as Done}
use Rattle.hk_model.specs.Heap.{register, link}
use Rattle.hk_model.specs.Replies.{has_reference, reply_of, heap_after, with_register}
use Rattle.hk_model.proofs.Replies.{looked_reference, looked_err, looked_err_same, reply_of-load, heap_after-load}
use Rattle.hk_model.proofs.plain.Plain.load.Goals as goal

pub returns-in-Ok-clause-reply : goal.returns-in-Ok-clause-reply
returns-in-Ok-clause-reply c = let p = looked_reference c.args.self.now c.args.seat c.args.reg c.args.field c.in-Ok.birth c.in-Ok.ensures.value in sym (reply_of-load c.args.self.now c.args.seat c.args.dest c.args.reg c.args.field c.in-Ok.birth p.0 p.1)

pub returns-in-Ok-clause-heap : goal.returns-in-Ok-clause-heap
returns-in-Ok-clause-heap c =
    let p = looked_reference c.args.self.now c.args.seat c.args.reg c.args.field c.in-Ok.birth c.in-Ok.ensures.value in
    c.set_register.ensures.heap ∙ ap (with_register c.args.self.now c.args.seat c.args.dest) c.reference-found.ensures.value ∙ sym (heap_after-load c.args.self.now c.args.seat c.args.dest c.args.reg c.args.field c.in-Ok.birth p.0 p.1)

pub returns-in-Err-clause-reply : goal.returns-in-Err-clause-reply
unfolding reply_of
returns-in-Err-clause-reply c = looked_err (register c.args.self.now c.args.seat c.args.reg) (has_reference c.args.self.now c.args.field) c.in-Err.reply c.in-Err.ensures.value (λ birth. Done)

pub returns-in-Err-clause-heap : goal.returns-in-Err-clause-heap
unfolding heap_after
returns-in-Err-clause-heap c =
    looked_err_same (register c.args.self.now c.args.seat c.args.reg) (has_reference c.args.self.now c.args.field) c.in-Err.reply c.in-Err.ensures.value c.args.self.now (λ birth. with_register c.args.self.now c.args.seat c.args.dest (link c.args.self.now birth c.args.field))
