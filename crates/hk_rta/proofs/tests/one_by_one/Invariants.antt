use Rattle.std.proofs.Common.{◌≡◌, ℕ, ◌<◌, ◌≤◌, vec_len, slice_index}
use Rattle.hk_rta.specs.Demand.{deadline_at}
use Rattle.hk_rta.specs.Response.{Response}
use Rattle.hk_rta.proofs.tests.one_by_one.Given as goal

-- each task so far has its response time
abbrev pub invariant-loop : goal.invariant-loop
invariant-loop g l = record {
  whole : vec_len l.times ≡ l.counter;
  each : (i : ℕ) → i < l.counter → Response l.tasks.items i (slice_index l.times.items i);
  in_time : (i : ℕ) → i < l.counter → slice_index l.times.items i ≤ deadline_at l.tasks.items i;
}
