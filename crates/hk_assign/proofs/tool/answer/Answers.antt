-- The times of a sheet that can be read are in their ranges; bytes that are no sheet are refused.
use Rattle.std.proofs.Common.{◌≡◌, List, All, sym, ap, ◌∙◌, subst}
use Rattle.hk_rta.specs.Demand.{IsTimed}
use Rattle.hk_sheet.specs.declared.sheet.High.{High}
use Rattle.hk_sheet.specs.declared.sheet.Sheet.{Sheet}
use Rattle.hk_admit.specs.Analysis.{timings_of}
use Rattle.hk_front.proofs.EndLemmas.{ends_unread}
use Rattle.hk_assign.specs.Tool.{BytesCallFor}
use Rattle.hk_assign.proofs.OneEnd.{timed}
use Rattle.hk_assign.proofs.tool.answer.Goals as goal

pub order_of-requires-clause-timed : goal.order_of-requires-clause-timed
order_of-requires-clause-timed g c =
    let lent : c.deref.result.now ≡ c.in-Ok.sheet.high = c.deref.ensures.value ∙ ap (λ (s : Sheet). s.high) c.sheet.view_is in
    subst (λ (tasks : List High). All IsTimed (timings_of tasks)) (sym lent) (timed c.in-Ok.sheet c.in-Ok.ensures.valid)

pub returns-in-Err-clause-ends : goal.returns-in-Err-clause-ends
returns-in-Err-clause-ends g c =
    let bytes = c.args.bytes.now in
    ends_unread (BytesCallFor bytes) bytes _ _ _ _ c.refuse_sheet.result (λ t unread. unread) (c.refuse_sheet.ensures.ends bytes c.requires c.in-Err.ensures.answer)
