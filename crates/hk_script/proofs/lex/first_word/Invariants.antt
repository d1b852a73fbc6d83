-- What is left has the words of the line.
use Rattle.std.proofs.Common.{◌≡◌, length}
use Rattle.hk_script.specs.Lex.{words}
use Rattle.hk_script.proofs.lex.first_word.Given as goal

abbrev pub invariant-loop-rest : goal.invariant-loop-rest
invariant-loop-rest l = words l.rest ≡ words l.line

abbrev pub decreases-loop-rest : goal.decreases-loop-rest
decreases-loop-rest l = length l.rest
