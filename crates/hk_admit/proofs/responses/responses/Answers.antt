use Rattle.std.proofs.Common.{◌≡◌, ◌∙◌, sym, refl, subst, ◌≤◌, List, All, length, slice_index, arith}
use Rattle.hk_rta.specs.declared.Timing.{Timing}
use Rattle.hk_rta.specs.Demand.{IsTimed, deadline_at}
use Rattle.hk_rta.specs.Response.{Response, IsLate}
use Rattle.hk_admit.proofs.Readable.{all_timed}
use Rattle.hk_admit.proofs.Parted.{late_at}
use Rattle.hk_admit.proofs.responses.responses.Goals as goal

pub next_response-requires-clause-timed : goal.next_response-requires-clause-timed
next_response-requires-clause-timed c =
    subst (All IsTimed) (sym (c.deref.ensures.value ∙ c.in_ok-timings.ensures)) (all_timed c.args.tasks.now c.requires.tasks)

pub returns-in-None : goal.returns-in-None
returns-in-None c =
    let so_far : length c.deref-in-loop-task.result.now ≡ c.loop-task.task-index =
    omega (arith, c.deref-in-loop-task.ensures.len, c.loop-task.invariant.whole) in
    late_at c.args.tasks.now c.loop-task.items.items c.loop-task.task-index c.task-item.result _ (omega arith) c.task-item.is c.in_ok-name_of-in-None.ensures
    (subst (λ (tasks : List Timing). IsLate tasks c.loop-task.task-index) (c.deref.ensures.value ∙ c.in_ok-timings.ensures) (subst (IsLate c.deref.result.now) so_far (c.in-None.ensures.none.0 refl)))
    (λ j before. subst (λ (tasks : List Timing). Response tasks j (slice_index c.loop-task.items.items j)) c.in_ok-timings.ensures (c.loop-task.invariant.each j before))
    (λ j before. subst (λ (tasks : List Timing). slice_index c.loop-task.items.items j ≤ deadline_at tasks j) c.in_ok-timings.ensures (c.loop-task.invariant.in_time j before))
