-- What was read so far and the lines that are left give what all lines give.
use Rattle.std.proofs.Common.{◌≡◌, length, map}
use Rattle.hk_script.specs.Lex.{words, lines}
use Rattle.hk_script.specs.Texts.{lines_read, nothing_read}
use Rattle.hk_script.specs.Progress.{progress_of}
use Rattle.hk_script.proofs.parsing.read_lines.Given as goal

abbrev pub invariant-loop-end : goal.invariant-loop-end
invariant-loop-end l = lines_read l.limits l.line (progress_of l.reading) (map words (lines l.rest)) ≡ lines_read l.limits 1 nothing_read (map words (lines l.text))

abbrev pub decreases-loop-end : goal.decreases-loop-end
decreases-loop-end l = length l.rest
