use Rattle.hk_table.specs.Passes.{IsPassOf}
use Rattle.ring_threads.proofs.sender.make.Given as goal

abbrev pub invariant-loop : goal.invariant-loop
invariant-loop g l = IsPassOf l.heap l.pass
