use Rattle.hk_table.specs.Passes.{IsKeeperOf}
use Rattle.shared_mix.proofs.history.round.collect_beside.Given as goal

abbrev pub invariant-loop : goal.invariant-loop
invariant-loop g l = IsKeeperOf l.heap l.collector.keeper
