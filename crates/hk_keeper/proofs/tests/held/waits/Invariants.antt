use Rattle.hk_table.specs.Passes.{IsKeeperOf}
use Rattle.hk_keeper.proofs.tests.held.waits.Given as goal

abbrev pub invariant-loop : goal.invariant-loop
invariant-loop g l = IsKeeperOf l.heap l.keeper

abbrev pub invariant-loop-2 : goal.invariant-loop-2
invariant-loop-2 g l = IsKeeperOf l.heap l.keeper
