-- No byte before the place ends the word.
use Rattle.std.proofs.Common.{◌≡◌, ℕ, ◌<◌, false, get_or}
use Rattle.hk_script.specs.Lex.{ends_word}
use Rattle.hk_script.proofs.lex.word_length.Given as goal

abbrev pub invariant-loop-place : goal.invariant-loop-place
invariant-loop-place l = (k : ℕ) → k < l.place → ends_word (get_or l.text k 0) ≡ false
