use Rattle.hk_race.specs.Jobs.{Parts}
use Rattle.hk_race.proofs.competing.taken_apart.Given as goal

-- the parts of those that were taken
abbrev pub invariant-loop-one : goal.invariant-loop-one
invariant-loop-one l = Parts l.yielded l.passes.items l.all.items
