use Rattle.std.proofs.Common.{◌∙◌, sym, refl, subst, ◌≤◌, List, All, slice_index, arith}
use Rattle.hk_rta.specs.declared.Timing.{Timing}
use Rattle.hk_rta.specs.Demand.{IsTimed, deadline_at}
use Rattle.hk_admit.proofs.Readable.{all_timed}
use Rattle.hk_ceiling.specs.Bounds.{Response, IsLate}
use Rattle.hk_ceiling.proofs.Late.{late_at}
use Rattle.hk_ceiling.proofs.admission.responses.Goals as goal

pub response-requires-clause-timed : goal.response-requires-clause-timed
response-requires-clause-timed c =
    subst (All IsTimed) (sym (c.deref.ensures.value ∙ c.in_ok-timings.ensures)) (all_timed c.args.tasks.now c.requires.tasks)

pub returns-in-None : goal.returns-in-None
returns-in-None c =
    late_at c.args.tasks.now c.args.sections.now c.loop-place.items.items c.loop-place.place c.index-tasks-place.result _ (omega arith) c.index-tasks-place.is c.in_ok-name_of-in-None.ensures
    (subst (λ (tasks : List Timing). IsLate tasks c.args.sections.now c.loop-place.place) (c.deref.ensures.value ∙ c.in_ok-timings.ensures) (c.in-None.ensures.none.0 refl))
    (λ j before. subst (λ (tasks : List Timing). Response tasks c.args.sections.now j (slice_index c.loop-place.items.items j)) c.in_ok-timings.ensures (c.loop-place.invariant.each j before))
    (λ j before. subst (λ (tasks : List Timing). slice_index c.loop-place.items.items j ≤ deadline_at tasks j) c.in_ok-timings.ensures (c.loop-place.invariant.in_time j before))
