use Rattle.std.proofs.Common.{ℕ, ◌<◌, ◌≤◌, length}
use Rattle.hk_assign.specs.Placing.{FitsAt}
use Rattle.hk_assign.proofs.placing.last_fit.Given as goal

abbrev pub invariant-loop-place : goal.invariant-loop-place
invariant-loop-place l = record {
  within : l.place ≤ length l.free;
  none : (k : ℕ) → l.place ≤ k → k < length l.free → ¬ (FitsAt l.timings l.free k);
}

abbrev pub decreases-loop-place : goal.decreases-loop-place
decreases-loop-place l = l.place
