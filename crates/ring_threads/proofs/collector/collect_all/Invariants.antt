use Rattle.hk_table.specs.Passes.{IsKeeperOf}
use Rattle.ring_threads.proofs.collector.collect_all.Given as goal

abbrev pub invariant-loop : goal.invariant-loop
invariant-loop g l = IsKeeperOf l.heap l.keeper
