use Rattle.std.proofs.Common.{◌≡◌, subst, List, ℕ, IfOk, string_bytes, rules}
use Rattle.hk_gen.proofs.Statements as laid
use Rattle.hk_gen.proofs.scripts.low_text.Goals as goal

pub returns : goal.returns
returns c = subst (λ (t : List ℕ). IfOk c.format.result (λ s. string_bytes s ≡ t)) (laid.low_text c.args.field) (search rules)
