use Rattle.hk_table.specs.Passes.{IsPassOf}
use Rattle.ring_threads.proofs.sender.send_all.Given as goal

abbrev pub invariant-loop-count : goal.invariant-loop-count
invariant-loop-count g l = IsPassOf l.heap l.pass
