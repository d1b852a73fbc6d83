use Rattle.std.proofs.Common.{◌≡◌, ◌<◌, length}
use Rattle.hk_edf.specs.Earliest.{earliest_below}
use Rattle.hk_edf.proofs.choice.EarliestPick.pick.Given as goal

abbrev pub invariant-loop-place : goal.invariant-loop-place
invariant-loop-place l = record {
  so_far : l.best ≡ earliest_below l.ready l.place;
  within : l.best < length l.ready;
}
