use Rattle.hk_table.specs.Passes.{IsPassOf}
use Rattle.hk_keeper.proofs.tests.long.read_last.Given as goal

abbrev pub invariant-loop-cell : goal.invariant-loop-cell
invariant-loop-cell g l = IsPassOf l.heap l.pass
