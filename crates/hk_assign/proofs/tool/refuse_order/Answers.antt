-- The line with the names of the set.
use Rattle.std.proofs.Common.{◌≡◌, List, ap, ◌∙◌}
use Rattle.hk_sheet.specs.declared.sheet.High.{High}
use Rattle.hk_sheet.specs.declared.sheet.Sheet.{Sheet}
use Rattle.hk_front.proofs.WordLemmas.{puts_as}
use Rattle.hk_assign.specs.Sheets.{names_at}
use Rattle.hk_assign.specs.Tool.{order_line}
use Rattle.hk_assign.proofs.Ends.{order_refused}
use Rattle.hk_assign.proofs.tool.refuse_order.Goals as goal

pub returns-clause-ends : goal.returns-clause-ends
returns-clause-ends g c = λ bytes is.
    let lent : c.deref.result.now ≡ c.args.sheet.now.high = c.deref.ensures.value ∙ ap (λ (s : Sheet). s.high) c.sheet.view_is in
    order_refused _ _ _ _ bytes c.args.sheet.now c.args.set.now c.put_no_order.result c.ended.result is c.requires
    (puts_as _ _ _ _ _ _ _ (ap (λ (tasks : List High). order_line (names_at tasks c.args.set.now)) lent) c.put_no_order.ensures) c.ended.ensures
