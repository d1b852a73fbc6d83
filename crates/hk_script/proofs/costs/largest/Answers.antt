use Rattle.std.proofs.Common.{◌∙◌, ap, sym, ℕ, max, get_or, arith}
use Rattle.hk_script.specs.Cost.{words_of}
use Rattle.hk_script.proofs.Totals.{largest_more}
use Rattle.hk_script.proofs.costs.largest.Goals as goal

pub loop-statement-preserved : goal.loop-statement-preserved
loop-statement-preserved c =
    let x = c.statement-item.result in
    let more = largest_more c.statements-statement-items.result.now c.loop-statement.statement-index x (omega arith) in
    let item = ap words_of c.statement-item.is in
    c.max-largest.ensures ∙ ap (λ (n : ℕ). max n c.loop-statement.largest) (c.words_made.ensures.value ∙ item) ∙ ap (λ (n : ℕ). max (words_of (get_or c.statements-statement-items.result.now c.loop-statement.statement-index x)) n) c.loop-statement.invariant ∙ sym more
