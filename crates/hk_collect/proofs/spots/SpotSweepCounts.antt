-- Counts of numbers: those that pass a test and stand on a list are no more than the entries of the list.
use Rattle.std.proofs.Common.{◌≡◌, ◌≢◌, ◌⊎◌, ℕ, zero, suc, ◌+◌, ◌<◌, ◌≤◌, Bool, true, false, inl, inr, refl, sym, ◌∙◌, ap, arith}
use Rattle.std.proofs.lemmas.Bool.{both_ways, cases_Bool, cases_lt}
use Rattle.hk_model.specs.View.{upd}
use Rattle.hk_model.proofs.Updates.{upd_other}
use Rattle.hk_core.specs.Counts.{count_below}
use Rattle.hk_core.proofs.Update.{upd_cases}
use Rattle.hk_core.proofs.Counts.{one_if, count_same, count-upd_in}

-- where no number passes, the count is 0
pub count_none : (p : ℕ → Bool) (n : ℕ) → ((m : ℕ) → m < n → p m ≡ false) → count_below n p ≡ 0
unfolding count_below
count_none p zero none = refl
count_none p (suc n) none = rw (count_none p n (λ m b. none m (omega arith)), none n (omega arith)) refl

one_at_most : (b : Bool) → one_if b ≤ 1
one_at_most true = omega arith
one_at_most false = omega arith

-- with one number left out, at most one less is counted
count_without : (p : ℕ → Bool) (x n : ℕ) → count_below n p ≤ count_below n (upd p x false) + 1
count_without p x n =
    elim (cases_lt x n) [
      | inl below ↦
          let c : count_below n (λ k. upd p x false k) + one_if (p x) ≡ count_below n (λ k. p k) + one_if false = count-upd_in (λ (b : Bool). b) p x false n below in
          let one : one_if (p x) ≤ 1 = one_at_most (p x) in
          let none : one_if false ≡ 0 = refl in
          omega arith
      | inr out ↦
          let same : count_below n (upd p x false) ≡ count_below n p = count_same (upd p x false) p n (λ k b. upd_other p x false k (omega arith)) in
          omega arith
    ]

-- where each number that passes is one of so many entries, at most so many pass
pub count_listed : (k : ℕ) (p : ℕ → Bool) (next : ℕ → ℕ) (n : ℕ) → ((m : ℕ) → m < n → p m ≡ true → (j : ℕ) × (j < k) × (next j ≡ m)) → count_below n p ≤ k
count_listed zero p next n listed =
    let none : count_below n p ≡ 0 = count_none p n (λ m b. elim (cases_Bool (p m)) [
      | inl e ↦ let o = listed m b e in absurd (none_below o.0 o.1)
      | inr e ↦ e
    ]) in
    omega arith
  where
    none_below : (j : ℕ) → j < 0 → ⊥
    none_below j h = omega arith
count_listed (suc k) p next n listed =
    let fewer : count_below n (upd p (next k) false) ≤ k = count_listed k (upd p (next k) false) next n (λ m b e. elim (upd_cases p (next k) false m) [
      | inl (same, u) ↦ absurd (both_ways _ u e)
      | inr (differ, u) ↦
          let o = listed m b (sym u ∙ e) in
          (o.0, lower o.0 (λ last. differ (sym o.2 ∙ ap next last)) o.1, o.2)
    ]) in
    let one : count_below n p ≤ count_below n (upd p (next k) false) + 1 = count_without p (next k) n in
    omega arith
  where
    lower : (j : ℕ) → j ≢ k → j < suc k → j < k
    lower j differ below = omega arith

-- where each number passes one of two tests, all are counted
pub count_covers : (p q : ℕ → Bool) (n : ℕ) → ((m : ℕ) → m < n → (p m ≡ true) ⊎ (q m ≡ true)) → n ≤ count_below n p + count_below n q
unfolding count_below
count_covers p q zero all = omega arith
count_covers p q (suc n) all =
    let before : n ≤ count_below n p + count_below n q = count_covers p q n (λ m b. all m (omega arith)) in
    elim (all n (omega arith)) [
      | inl e ↦ let one : one_if (p n) ≡ 1 = ap one_if e in omega arith
      | inr e ↦ let one : one_if (q n) ≡ 1 = ap one_if e in omega arith
    ]
