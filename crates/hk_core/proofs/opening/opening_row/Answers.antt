use Rattle.std.proofs.Common.{ℕ, arith}
use Rattle.std.proofs.lemmas.List.FromFn.{map-range_with_len_more}
use Rattle.hk_words.specs.Row.{slot_at}
use Rattle.hk_core.specs.State.{opening_word}
use Rattle.hk_core.proofs.opening.opening_row.Goals as goal

pub loop-index-preserved : goal.loop-index-preserved
loop-index-preserved c =
    let e = map-range_with_len_more (λ (index : ℕ). opening_word c.args.g.now (slot_at c.args.g.now index)) 0 c.loop-index.index c.loop-index.index (omega arith) in
    cc (e, c.in_ok-push.ensures.items)
