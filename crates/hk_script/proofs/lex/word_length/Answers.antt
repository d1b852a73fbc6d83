use Rattle.std.proofs.Common.{sym, ◌∙◌, arith}
use Rattle.std.proofs.lemmas.List.Sums.{position_or_len_is}
use Rattle.hk_script.specs.Lex.{ends_word}
use Rattle.hk_script.proofs.lex.word_length.Goals as goal

pub returns-then-ends_word-clause-place : goal.returns-then-ends_word-clause-place
returns-then-ends_word-clause-place c =
    sym (position_or_len_is ends_word c.args.text.now c.loop-place.place 0 (omega arith) c.loop-place.invariant (λ h. sym c.ends_word.ensures ∙ c.if-ends_word.true))

pub returns-clause-place : goal.returns-clause-place
returns-clause-place c =
    sym (position_or_len_is ends_word c.args.text.now _ 0 (omega arith) (λ k lt. c.loop-place.invariant k (omega arith)) (λ h. absurd (omega arith)))
