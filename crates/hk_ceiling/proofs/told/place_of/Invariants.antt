use Rattle.std.proofs.Common.{◌≡◌, ℕ, ◌<◌, false, get_or, bytes_eq}
use Rattle.hk_dispatch.specs.Tasks.{no_high}
use Rattle.hk_ceiling.proofs.told.place_of.Given as goal

abbrev pub invariant-loop-place : goal.invariant-loop-place
invariant-loop-place l = (k : ℕ) → k < l.place → bytes_eq (get_or l.tasks k no_high).name l.name ≡ false
