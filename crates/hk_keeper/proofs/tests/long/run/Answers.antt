use Rattle.std.proofs.Common.{sym, subst, arith, zero, suc, [], ◌∷◌}
use Rattle.std.specs.Prelude.{All}
use Rattle.hk_table.specs.Passes.{IsPassOf}
use Rattle.hk_table.specs.declared.pass.Pass.{Pass}
use Rattle.hk_keeper.proofs.tests.long.run.Goals as goal

all_four : (P : Pass → Type 0) (a b c d : Pass) → P a → P b → P c → P d → All P (a ∷ b ∷ c ∷ d ∷ [])
all_four P a b c d x y z w zero other below = x
all_four P a b c d x y z w (suc zero) other below = y
all_four P a b c d x y z w (suc (suc zero)) other below = z
all_four P a b c d x y z w (suc (suc (suc zero))) other below = w
all_four P a b c d x y z w (suc (suc (suc (suc k)))) other below = absurd (omega arith)

pub close_all-closed-requires-clause-passes : goal.close_all-closed-requires-clause-passes
close_all-closed-requires-clause-passes g c =
    let h = c.in_ok-heap.heap in
    let e = c.work_and_collect-first.ensures in
    subst (All (IsPassOf h)) (sym c.in_ok-passes.ensures.items) (all_four (IsPassOf h) _ _ _ _ c.read_last.ensures e.second e.third e.fourth)
