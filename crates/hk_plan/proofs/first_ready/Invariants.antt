use Rattle.std.proofs.Common.{◌≡◌, ◌<◌, IfSome, slice_index}
use Rattle.hk_plan.specs.Alone.{chosen_below}
use Rattle.hk_plan.proofs.first_ready.Given as goal

abbrev pub invariant-loop-place : goal.invariant-loop-place
invariant-loop-place l = record {
  so_far : l.first ≡ chosen_below l.rows (slice_index l.had) l.moment l.place;
  within : IfSome l.first (λ k. k < l.place);
}
