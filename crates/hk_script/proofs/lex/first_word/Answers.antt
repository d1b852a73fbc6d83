use Rattle.std.proofs.Common.{sym, ◌∙◌, arith}
use Rattle.hk_script.proofs.Cut.{words_cut}
use Rattle.hk_script.proofs.lex.first_word.Goals as goal

pub returns-then-not-is_blank : goal.returns-then-not-is_blank
returns-then-not-is_blank c =
    let cut = words_cut c.loop-rest.rest.now c.word_length-length.result c.word_length-length.ensures.place c.word_length-length.ensures.within (omega arith) in
    sym c.loop-rest.invariant ∙ rw (c.split_at.ensures.front, c.split_at.ensures.back) cut
