use Rattle.hk_table.specs.Passes.{IsPassOf}
use Rattle.hk_keeper.proofs.tests.long.rounds.Given as goal

abbrev pub invariant-loop-number : goal.invariant-loop-number
invariant-loop-number g l = IsPassOf l.heap l.pass
