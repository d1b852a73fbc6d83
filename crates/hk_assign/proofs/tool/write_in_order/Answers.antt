-- The arranged sheet is a sheet, and it is the one that is called for.
use Rattle.std.proofs.Common.{List, ℕ, Ok, sym, subst}
use Rattle.hk_sheet.specs.declared.sheet.Sheet.{Sheet}
use Rattle.hk_sheet.specs.Answers.{IsRead}
use Rattle.hk_sheet.specs.Valid.{IsSheet}
use Rattle.hk_assign.specs.Sheets.{in_sheet_order}
use Rattle.hk_assign.proofs.Ends.{arranged, as_puts}
use Rattle.hk_assign.proofs.Permuted.{still_sheet, sheet_order}
use Rattle.hk_assign.proofs.tool.write_in_order.Goals as goal

pub text-requires : goal.text-requires
text-requires g c =
    subst IsSheet (sym c.in_order-arranged.ensures)
    (still_sheet c.args.sheet c.args.order.now c.requires.sheet (sheet_order c.args.sheet.high c.args.order.now c.requires.order))

pub returns-in-Ok-clause-ends : goal.returns-in-Ok-clause-ends
returns-in-Ok-clause-ends g c = λ bytes is.
    let read : IsRead c.in-Ok.bytes.items (Ok (in_sheet_order c.args.sheet c.args.order.now)) =
    subst (λ (s : Sheet). IsRead c.in-Ok.bytes.items (Ok s)) c.in_order-arranged.ensures c.in-Ok.ensures in
    arranged _ _ _ _ bytes c.args.sheet c.args.order.now c.as_slice.result.now c.put_all.result c.ended.result is c.requires.order
    (subst (λ (t : List ℕ). IsRead t (Ok (in_sheet_order c.args.sheet c.args.order.now))) (sym c.as_slice.ensures.value) read)
    (as_puts _ _ _ _ _ _ c.put_all.ensures.ok c.put_all.ensures.prefix c.put_all.ensures.cause) c.ended.ensures
