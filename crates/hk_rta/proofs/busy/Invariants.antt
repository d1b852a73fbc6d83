use Rattle.std.proofs.Common.{ℕ, ◌+◌, ◌-◌, ◌≤◌}
use Rattle.hk_rta.specs.Busy.{Suffices}
use Rattle.hk_rta.proofs.busy.Given as goal

abbrev pub invariant-loop-length : goal.invariant-loop-length
invariant-loop-length l = record {
  positive : 1 ≤ l.length;
  below : (x : ℕ) → Suffices l.loads l.base x → l.length ≤ x;
}

abbrev pub decreases-loop-length : goal.decreases-loop-length
decreases-loop-length l = l.cap + 1 - l.length
