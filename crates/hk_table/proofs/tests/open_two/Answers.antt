use Rattle.std.proofs.Common.{◌≡◌, ◌∙◌, ap, sym, subst, arith, ℕ, ◌<◌, List, [], ◌∷◌, ◌++◌, length}
use Rattle.std.proofs.lemmas.List.{length-append}
use Rattle.std.specs.Prelude.{slice_index_or}
use Rattle.hk_table.specs.Knows.{PassView}
use Rattle.hk_table.specs.Passes.{IsPassOf}
use Rattle.hk_table.specs.declared.pass.Pass.{Pass}
use Rattle.hk_table.proofs.tests.open_two.Goals as goal

-- a list of two, taken from its end
two : (P : ℕ → Pass → Type 0) (items middle rest : List Pass) (high low : Pass) → length items ≡ 2 → ((i : ℕ) (d : Pass) → i < 2 → P i (slice_index_or items i d))
    → items ≡ middle ++ low ∷ [] → middle ≡ rest ++ high ∷ [] → P 0 high × P 1 low
two P items middle rest high low count each last first = by_rest rest (last ∙ ap (λ (l : List Pass). l ++ low ∷ []) first)
  where
    by_rest : (r : List Pass) → items ≡ (r ++ high ∷ []) ++ low ∷ [] → P 0 high × P 1 low
    by_rest [] is = (subst (λ (l : List Pass). P 0 (slice_index_or l 0 high)) is (each 0 high (omega arith)), subst (λ (l : List Pass). P 1 (slice_index_or l 1 high)) is (each 1 high (omega arith)))
    by_rest (x ∷ r) is =
        let long : length items ≡ length ((x ∷ (r ++ high ∷ [])) ++ low ∷ []) = ap length is in
        let a = length-append (x ∷ (r ++ high ∷ [])) (low ∷ []) in
        let b = length-append r (high ∷ []) in
        absurd (omega arith)

pub returns-clause-high : goal.returns-clause-high
returns-clause-high c =
    let h = c.in_ok-heap.heap in
    let o = c.in_ok-heap.ensures in
    let n = c.requires in
    (two (λ i p. IsPassOf h p) c.in_ok-heap.passes.items _ _ c.in-Some-pop.high c.in-Some.low (o.count ∙ n) (λ i d below. (o.each i d (subst (λ (k : ℕ). i < k) (sym n) below)).0)
    c.in-Some.ensures.items c.in-Some-pop.ensures.items).0

pub returns-clause-low : goal.returns-clause-low
returns-clause-low c =
    let h = c.in_ok-heap.heap in
    let o = c.in_ok-heap.ensures in
    let n = c.requires in
    (two (λ i p. IsPassOf h p) c.in_ok-heap.passes.items _ _ c.in-Some-pop.high c.in-Some.low (o.count ∙ n) (λ i d below. (o.each i d (subst (λ (k : ℕ). i < k) (sym n) below)).0)
    c.in-Some.ensures.items c.in-Some-pop.ensures.items).1

pub returns-clause-numbers : goal.returns-clause-numbers
returns-clause-numbers c =
    let o = c.in_ok-heap.ensures in
    let n = c.requires in
    two (λ i p. p.number ≡ i) c.in_ok-heap.passes.items _ _ c.in-Some-pop.high c.in-Some.low (o.count ∙ n)
    (λ i d below. let one = o.each i d (subst (λ (k : ℕ). i < k) (sym n) below) in sym one.0.number ∙ ap (λ (k : PassView). k.seat) one.1)
    c.in-Some.ensures.items c.in-Some-pop.ensures.items
