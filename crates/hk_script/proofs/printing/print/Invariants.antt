-- The lines of the statements so far.
use Rattle.std.proofs.Common.{◌≡◌, take}
use Rattle.hk_script.specs.Printing.{text_of}
use Rattle.hk_script.proofs.printing.print.Given as goal

abbrev pub invariant-loop-statement : goal.invariant-loop-statement
invariant-loop-statement l = l.out.items ≡ text_of (take l.statement-index l.statement-items)
