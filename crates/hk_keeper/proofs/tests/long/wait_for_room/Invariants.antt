use Rattle.hk_table.specs.Passes.{IsPassOf}
use Rattle.hk_keeper.proofs.tests.long.wait_for_room.Given as goal

abbrev pub invariant-loop : goal.invariant-loop
invariant-loop g l = IsPassOf l.heap l.pass
