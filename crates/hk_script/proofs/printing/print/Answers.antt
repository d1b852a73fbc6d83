use Rattle.std.proofs.Common.{◌≡◌, ◌∙◌, ℕ, List, sym, ap, subst, arith}
use Rattle.hk_script.specs.Printing.{text_of}
use Rattle.hk_script.specs.Texts.{Spells}
use Rattle.hk_script.proofs.Printed.{script_spelled, whole_text}
use Rattle.hk_script.proofs.printing.print.Goals as goal

pub returns-clause-spelled : goal.returns-clause-spelled
returns-clause-spelled c =
    λ limits are h.
    let items = c.statements-statement-items.result.now in
    let text : c.loop-statement.out.items ≡ text_of items = c.loop-statement.invariant ∙ whole_text items c.loop-statement.statement-index (omega arith) in
    let same = c.statements-statement-items.ensures.statements in
    subst (λ (t : List ℕ). Spells limits t c.args.script.now) (sym (text ∙ ap text_of same)) (script_spelled limits are c.args.script.now h)
