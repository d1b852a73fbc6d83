use Rattle.std.proofs.Common.{◌∙◌, ap, subst, List}
use Rattle.std.proofs.lemmas.Result.{err_from_is_err_and}
use Rattle.hk_sheet.specs.declared.sheet.High.{High}
use Rattle.hk_sheet.specs.declared.sheet.Sheet.{Sheet}
use Rattle.hk_admit.specs.Analysis.{timings_of}
use Rattle.hk_admit.specs.Conditions.{AreInTime}
use Rattle.hk_admit.proofs.Parted.{all_in_time, room_whole}
use Rattle.hk_admit.proofs.admission.admit.Goals as goal

pub returns-in_err-checked : goal.returns-in_err-checked
returns-in_err-checked c =
    let p = err_from_is_err_and c.from_residual-in_err-checked.result c.from_residual-in_err-checked.ensures.1 in
    let in_time = subst (λ (tasks : List High). AreInTime (timings_of tasks)) (c.deref-2.ensures.value ∙ ap (λ (s : Sheet). s.high) c.sheet.view_is) (all_in_time _ _ c.in_ok-responses.ensures) in
    rw (p.1, p.2) (room_whole c.args.sheet _ in_time c.in_err-checked.ensures)
