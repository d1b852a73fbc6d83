use Rattle.std.proofs.Common.{◌≡◌, ◌∙◌, ap, sym, subst, arith, ℕ, zero, suc, [], ◌∷◌}
use Rattle.hk_words.specs.Geometry.{tasks}
use Rattle.hk_table.specs.Ends.{HasAllSeats}
use Rattle.hk_table.specs.declared.pass.Pass.{Pass}
use Rattle.hk_table.proofs.tests.full.low_first.Goals as goal

both_seats : (a b : Pass) → a.number ≡ 0 → b.number ≡ 1 → HasAllSeats 2 (a ∷ b ∷ [])
both_seats a b first second zero below = (0, omega arith, λ d. first)
both_seats a b first second (suc zero) below = (1, omega arith, λ d. second)
both_seats a b first second (suc (suc k)) below = absurd (omega arith)

pub close-closed-requires-clause-seats : goal.close-closed-requires-clause-seats
close-closed-requires-clause-seats g c =
    let numbers = c.in_ok-heap.ensures.numbers in
    let high = c.in_ok-g.ensures.1.high in
    let low = c.in_ok-g.ensures.1.low in
    let count : tasks c.in_ok-heap.heap.geometry ≡ 2 = ap tasks c.in_ok-heap.ensures.heap ∙ omega arith in
    subst (λ (n : ℕ). HasAllSeats n c.in_ok-vec.field-0.items) (sym count)
    (subst (HasAllSeats 2) (sym c.in_ok-vec.ensures.items) (both_seats _ _ (c.fill-2.ensures.number ∙ numbers.0) (c.fill.ensures.number ∙ numbers.1)))
