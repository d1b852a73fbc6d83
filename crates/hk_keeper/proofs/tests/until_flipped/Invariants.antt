use Rattle.hk_table.specs.Passes.{IsKeeperOf}
use Rattle.hk_keeper.proofs.tests.until_flipped.Given as goal

abbrev pub invariant-loop-turn : goal.invariant-loop-turn
invariant-loop-turn g l = IsKeeperOf l.heap l.keeper
