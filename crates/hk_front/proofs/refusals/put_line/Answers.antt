-- The words one behind another, and the newline.
use Rattle.std.proofs.lemmas.Result.{err_from_is_err_and, on_err_weaker}
use Rattle.hk_front.proofs.WordLemmas.{word_prefix, last_prefix}
use Rattle.hk_front.proofs.refusals.put_line.Goals as goal

pub returns-in_err-put_word-clause-prefix : goal.returns-in_err-put_word-clause-prefix
returns-in_err-put_word-clause-prefix g c =
    let p = err_from_is_err_and c.from_residual.result c.from_residual.ensures.1 in
    rw p.1 (word_prefix _ _ _ c.args.words.now c.loop-word.word-index _ c.loop-word.begun c.loop-word-test.true c.loop-word.invariant.begun
    c.loop-word.invariant.written c.in_err-put_word.ensures.prefix)

pub returns-clause-prefix : goal.returns-clause-prefix
returns-clause-prefix g c =
    on_err_weaker c.put_all.result (last_prefix _ _ _ c.args.words.now c.loop-word.word-index c.loop-word-test.false c.loop-word.invariant.written) c.put_all.ensures.prefix
