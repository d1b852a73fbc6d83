use Rattle.std.proofs.Common.{◌≡◌, ℕ, ◌<◌, ◌≤◌, vec_len, slice_index}
use Rattle.hk_rta.specs.Demand.{deadline_at}
use Rattle.hk_rta.specs.Response.{Response}
use Rattle.hk_admit.proofs.responses.responses.Given as goal

abbrev pub invariant-loop-task : goal.invariant-loop-task
invariant-loop-task l = record {
  whole : vec_len l.items ≡ l.task-index;
  each : (i : ℕ) → i < l.task-index → Response l.timings.items i (slice_index l.items.items i);
  in_time : (i : ℕ) → i < l.task-index → slice_index l.items.items i ≤ deadline_at l.timings.items i;
}
