-- Counts and sums over the seats after a change of one seat.
use Rattle.std.proofs.Common.{◌≡◌, ℕ, zero, suc, ◌+◌, ◌<◌, ◌≤◌, Bool, true, false, inl, inr, refl, sym, ◌∙◌, ap, arith}
use Rattle.std.proofs.lemmas.Bool.{cases_eq}
use Rattle.std.specs.Prelude.{if◌then◌else◌}
use Rattle.hk_model.specs.View.{upd}
use Rattle.hk_model.proofs.Updates.{upd_same, upd_other}
use Rattle.hk_core.proofs.Update.{upd_cases}
use Rattle.hk_core.specs.Counts.{count_below, sum_below, any_below}

-- 1 where a test holds
abbrev pub one_if : Bool → ℕ
one_if test = if test then 1 else 0

-- two sums of the same values are one, and two counts of the same tests
pub sum_same : (f g : ℕ → ℕ) (n : ℕ) → ((k : ℕ) → k < n → f k ≡ g k) → sum_below n f ≡ sum_below n g
unfolding sum_below
sum_same f g zero same = refl
sum_same f g (suc n) same = rw (sum_same f g n (λ k h. same k (omega arith)), same n (omega arith)) refl

pub count_same : (p q : ℕ → Bool) (n : ℕ) → ((k : ℕ) → k < n → p k ≡ q k) → count_below n p ≡ count_below n q
unfolding count_below
count_same p q zero same = refl
count_same p q (suc n) same = rw (count_same p q n (λ k h. same k (omega arith)), same n (omega arith)) refl

-- a sum after a change beyond its end, and of one of its values
sum-upd_out : {A : Type 0} (h : A → ℕ) (f : ℕ → A) (s : ℕ) (v : A) (n : ℕ) → n ≤ s → sum_below n (λ k. h (upd f s v k)) ≡ sum_below n (λ k. h (f k))
sum-upd_out h f s v n out = sum_same (λ k. h (upd f s v k)) (λ k. h (f k)) n (λ k below. ap h (upd_other f s v k (omega arith)))

pub sum-upd_in : {A : Type 0} (h : A → ℕ) (f : ℕ → A) (s : ℕ) (v : A) (n : ℕ) → s < n
    → sum_below n (λ k. h (upd f s v k)) + h (f s) ≡ sum_below n (λ k. h (f k)) + h v
unfolding sum_below
sum-upd_in h f s v zero below = absurd (omega arith)
sum-upd_in h f s v (suc n) below =
    elim (cases_eq s n) [
      | inl e ↦ sum_last h f s v n e
      | inr d ↦
          let i : sum_below n (λ k. h (upd f s v k)) + h (f s) ≡ sum_below n (λ k. h (f k)) + h v = sum-upd_in h f s v n (omega arith) in
          let o : h (upd f s v n) ≡ h (f n) = ap h (upd_other f s v n (omega arith)) in
          omega arith
    ]
  where
    sum_last : {A : Type 0} (h : A → ℕ) (f : ℕ → A) (s : ℕ) (v : A) (n : ℕ) → s ≡ n
        → sum_below n (λ k. h (upd f s v k)) + h (upd f s v n) + h (f s) ≡ sum_below n (λ k. h (f k)) + h (f n) + h v
    sum_last h f s v n e =
        let a : sum_below n (λ k. h (upd f s v k)) ≡ sum_below n (λ k. h (f k)) = sum-upd_out h f s v n (omega arith) in
        let b : h (upd f s v n) ≡ h v = ap h (ap (upd f s v) (sym e) ∙ upd_same f s v) in
        let c : h (f s) ≡ h (f n) = ap (λ k. h (f k)) e in
        omega arith

-- a count is a sum of ones
pub count_is_sum : (p : ℕ → Bool) (n : ℕ) → count_below n p ≡ sum_below n (λ k. one_if (p k))
unfolding count_below sum_below
count_is_sum p zero = refl
count_is_sum p (suc n) = rw (count_is_sum p n) refl

pub count-upd_in : {A : Type 0} (p : A → Bool) (f : ℕ → A) (s : ℕ) (v : A) (n : ℕ) → s < n
    → count_below n (λ k. p (upd f s v k)) + one_if (p (f s)) ≡ count_below n (λ k. p (f k)) + one_if (p v)
count-upd_in p f s v n below =
    let a : count_below n (λ k. p (upd f s v k)) ≡ sum_below n (λ k. one_if (p (upd f s v k))) = count_is_sum (λ k. p (upd f s v k)) n in
    let b : count_below n (λ k. p (f k)) ≡ sum_below n (λ k. one_if (p (f k))) = count_is_sum (λ k. p (f k)) n in
    let c : sum_below n (λ k. one_if (p (upd f s v k))) + one_if (p (f s)) ≡ sum_below n (λ k. one_if (p (f k))) + one_if (p v) = sum-upd_in (λ x. one_if (p x)) f s v n below in
    omega arith

-- one more seat passes the test, one less does, and as many do
pub count_more : {A : Type 0} (p : A → Bool) (f : ℕ → A) (s : ℕ) (v : A) (n : ℕ) → s < n → p (f s) ≡ false → p v ≡ true
    → count_below n (λ k. p (upd f s v k)) ≡ count_below n (λ k. p (f k)) + 1
count_more p f s v n below was now =
    let c = count-upd_in p f s v n below in
    let a : one_if (p (f s)) ≡ 0 = ap one_if was in
    let b : one_if (p v) ≡ 1 = ap one_if now in
    omega arith

pub count_less : {A : Type 0} (p : A → Bool) (f : ℕ → A) (s : ℕ) (v : A) (n : ℕ) → s < n → p (f s) ≡ true → p v ≡ false
    → count_below n (λ k. p (upd f s v k)) + 1 ≡ count_below n (λ k. p (f k))
count_less p f s v n below was now =
    let c = count-upd_in p f s v n below in
    let a : one_if (p (f s)) ≡ 1 = ap one_if was in
    let b : one_if (p v) ≡ 0 = ap one_if now in
    omega arith

pub count_kept : {A : Type 0} (p : A → Bool) (f : ℕ → A) (s : ℕ) (v : A) (n : ℕ) → p v ≡ p (f s)
    → count_below n (λ k. p (upd f s v k)) ≡ count_below n (λ k. p (f k))
count_kept p f s v n same =
    count_same (λ k. p (upd f s v k)) (λ k. p (f k)) n
    (λ k below. elim (upd_cases f s v k) [ inl (e, u) ↦ ap p u ∙ same ∙ ap (λ j. p (f j)) (sym e) | inr (d, u) ↦ ap p u ])

-- at most as many do, where the new value passes only if the old one did
pub count_at_most : {A : Type 0} (p : A → Bool) (f : ℕ → A) (s : ℕ) (v : A) (n : ℕ) → s < n → (p v ≡ true → p (f s) ≡ true)
    → count_below n (λ k. p (upd f s v k)) ≤ count_below n (λ k. p (f k))
count_at_most p f s v n below only = at_most (p v) (p (f s)) only (count-upd_in p f s v n below)
  where
    at_most : (b a : Bool) {m k : ℕ} → (b ≡ true → a ≡ true) → m + one_if a ≡ k + one_if b → m ≤ k
    at_most true a only e = let x : one_if a ≡ 1 = ap one_if (only refl) in omega arith
    at_most false a only e = omega arith

-- a seat that passes the test is counted
pub count_some : (p : ℕ → Bool) (s n : ℕ) → s < n → p s ≡ true → 0 < count_below n p
unfolding count_below
count_some p s zero below h = absurd (omega arith)
count_some p s (suc n) below h =
    elim (cases_eq s n) [
      | inl e ↦ let x : one_if (p n) ≡ 1 = ap one_if (ap p (sym e) ∙ h) in omega arith
      | inr d ↦ let i : 0 < count_below n p = count_some p s n (omega arith) h in omega arith
    ]

pub one_at_most : (b : Bool) → one_if b ≤ 1
one_at_most true = omega arith
one_at_most false = omega arith

-- at most all seats pass the test
pub count_bounded : (p : ℕ → Bool) (n : ℕ) → count_below n p ≤ n
unfolding count_below
count_bounded p zero = omega arith
count_bounded p (suc n) = let i : count_below n p ≤ n = count_bounded p n in let x : one_if (p n) ≤ 1 = one_at_most (p n) in omega arith

-- where a seat fails the test, fewer than all seats pass it
pub count_room : (p : ℕ → Bool) (s n : ℕ) → s < n → p s ≡ false → count_below n p < n
unfolding count_below
count_room p s zero below h = absurd (omega arith)
count_room p s (suc n) below h =
    elim (cases_eq s n) [
      | inl e ↦ let x : one_if (p n) ≡ 0 = ap one_if (ap p (sym e) ∙ h) in let i : count_below n p ≤ n = count_bounded p n in omega arith
      | inr d ↦ let i : count_below n p < n = count_room p s n (omega arith) h in let x : one_if (p n) ≤ 1 = one_at_most (p n) in omega arith
    ]

-- a test on some seat gives the same answer where the change leaves the test of the seat as it was
pub any_kept : {A : Type 0} (p : A → Bool) (f : ℕ → A) (s : ℕ) (v : A) (n : ℕ) → p v ≡ p (f s)
    → any_below n (λ k. p (upd f s v k)) ≡ any_below n (λ k. p (f k))
unfolding any_below
any_kept p f s v n same = rw (count_kept p f s v n same) refl
