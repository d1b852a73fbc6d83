use Rattle.hk_table.specs.Passes.{IsPassOf}
use Rattle.hk_keeper.proofs.tests.long.round.Given as goal

abbrev pub invariant-loop-call : goal.invariant-loop-call
invariant-loop-call g l = IsPassOf l.heap l.pass
