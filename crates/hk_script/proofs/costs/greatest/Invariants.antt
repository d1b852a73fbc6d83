-- The sums of the statements from the place on, up to the limit.
use Rattle.std.proofs.Common.{◌≡◌, ◌≤◌, length, drop}
use Rattle.hk_script.specs.Cost.{ahead, weight_of}
use Rattle.hk_script.specs.Sums.{seen}
use Rattle.hk_script.proofs.Totals.{capped}
use Rattle.hk_script.proofs.costs.greatest.Given as goal

abbrev pub invariant-loop-place : goal.invariant-loop-place
invariant-loop-place l = (l.place ≤ length l.statements) × (seen l.sums ≡ capped (ahead (weight_of l.measure) (drop l.place l.statements)))

abbrev pub decreases-loop-place : goal.decreases-loop-place
decreases-loop-place l = l.place
