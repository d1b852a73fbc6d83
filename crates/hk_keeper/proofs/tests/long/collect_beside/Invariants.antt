use Rattle.hk_table.specs.Passes.{IsKeeperOf}
use Rattle.hk_keeper.proofs.tests.long.collect_beside.Given as goal

abbrev pub invariant-loop : goal.invariant-loop
invariant-loop g l = IsKeeperOf l.heap l.keeper
