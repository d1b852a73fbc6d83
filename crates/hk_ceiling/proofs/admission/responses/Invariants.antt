use Rattle.std.proofs.Common.{◌≡◌, ℕ, ◌<◌, ◌≤◌, vec_len, slice_index}
use Rattle.hk_rta.specs.Demand.{deadline_at}
use Rattle.hk_ceiling.specs.Bounds.{Response}
use Rattle.hk_ceiling.proofs.admission.responses.Given as goal

abbrev pub invariant-loop-place : goal.invariant-loop-place
invariant-loop-place l = record {
  whole : vec_len l.items ≡ l.place;
  each : (i : ℕ) → i < l.place → Response l.timings.items l.sections i (slice_index l.items.items i);
  in_time : (i : ℕ) → i < l.place → slice_index l.items.items i ≤ deadline_at l.timings.items i;
}
