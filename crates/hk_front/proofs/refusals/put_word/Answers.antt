-- A space and then the word.
use Rattle.std.proofs.lemmas.Result.{on_err_weaker}
use Rattle.hk_front.proofs.WordLemmas.{space_prefix}
use Rattle.hk_front.proofs.refusals.put_word.Goals as goal

pub returns-in_ok-put_all-clause-prefix : goal.returns-in_ok-put_all-clause-prefix
returns-in_ok-put_all-clause-prefix g c =
    on_err_weaker c.put_all-then-begun.result (space_prefix _ _ _ c.args.begun c.args.word.now c.if-begun.true c.in_ok-put_all.ensures.ok) c.put_all-then-begun.ensures.prefix
