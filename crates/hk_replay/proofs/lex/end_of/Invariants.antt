-- No byte before the place is the one sought.
use Rattle.std.proofs.Common.{◌≡◌, ℕ, ◌<◌, false, get_or}
use Rattle.std.specs.Prelude.{◌==◌}
use Rattle.hk_replay.proofs.lex.end_of.Given as goal

abbrev pub invariant-loop-place : goal.invariant-loop-place
invariant-loop-place l = (k : ℕ) → k < l.place → (get_or l.bytes k 0 == 10) ≡ false
