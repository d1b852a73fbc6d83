-- Functions with one value changed.
use Rattle.std.proofs.Common.{◌≡◌, ℕ, ◌≢◌, ◌⊎◌, inl, inr, sym, ◌∙◌, ap, arith}
use Rattle.std.proofs.lemmas.Bool.{cases_eq}
use Rattle.std.proofs.lemmas.Bool.Decides.{nat_tests}
use Rattle.hk_model.specs.View.{upd, upd2}

pub upd_same : {A : Type 0} (f : ℕ → A) (n : ℕ) (v : A) → upd f n v n ≡ v
unfolding upd
upd_same f n v = grind (arith, nat_tests)

pub upd_other : {A : Type 0} (f : ℕ → A) (n : ℕ) (v : A) (k : ℕ) → k ≢ n → upd f n v k ≡ f k
unfolding upd
upd_other f n v k d = grind (arith, nat_tests)

-- a function is the changed one where it has the value there, and elsewhere what the other one has
pub is_upd : {A : Type 0} (g f : ℕ → A) (n : ℕ) (v : A) → g n ≡ v → ((k : ℕ) → k ≢ n → g k ≡ f k) → g ≡ upd f n v
is_upd {A} g f n v here elsewhere =
    let at : (k : ℕ) → g k ≡ upd f n v k = λ k.
    elim (cases_eq k n) [
      | inl e ↦ let s : g k ≡ v = ap g e ∙ here in let u : upd f n v k ≡ v = ap (upd f n v) e ∙ upd_same f n v in s ∙ sym u
      | inr d ↦ elsewhere k d ∙ sym (upd_other f n v k d)
    ] in
    λ i k. at k i

pub upd2_same : {A : Type 0} (f : ℕ → ℕ → A) (m n : ℕ) (v : A) → upd2 f m n v m n ≡ v
unfolding upd2
upd2_same {A} f m n v = ap {B = A} (λ (h : ℕ → A). h n) (upd_same {A = ℕ → A} f m (upd (f m) n v)) ∙ upd_same (f m) n v

pub upd2_other : {A : Type 0} (f : ℕ → ℕ → A) (m n : ℕ) (v : A) (k j : ℕ) → (k ≢ m) ⊎ (j ≢ n) → upd2 f m n v k j ≡ f k j
unfolding upd2
upd2_other {A} f m n v k j d =
    elim (cases_eq k m) [
      | inl e ↦ rw e (ap {B = A} (λ (h : ℕ → A). h j) (upd_same {A = ℕ → A} f m (upd (f m) n v)) ∙ upd_other (f m) n v j (other_place f m n v k j e d))
      | inr o ↦ ap {B = A} (λ (h : ℕ → A). h j) (upd_other {A = ℕ → A} f m (upd (f m) n v) k o)
    ]
  where
    other_place : {A : Type 0} (f : ℕ → ℕ → A) (m n : ℕ) (v : A) (k j : ℕ) → k ≡ m → (k ≢ m) ⊎ (j ≢ n) → j ≢ n
    other_place f m n v k j e (inl d) = absurd (d e)
    other_place f m n v k j e (inr d) = d

pub is_upd2 : {A : Type 0} (g f : ℕ → ℕ → A) (m n : ℕ) (v : A) → g m n ≡ v → ((k j : ℕ) → (k ≢ m) ⊎ (j ≢ n) → g k j ≡ f k j) → g ≡ upd2 f m n v
is_upd2 {A} g f m n v here elsewhere =
    let at : (k j : ℕ) → g k j ≡ upd2 f m n v k j = λ k j.
    elim (cases_eq k m) [
      | inl e ↦ elim (cases_eq j n) [
        | inl d ↦ rw (e, d) (here ∙ sym (upd2_same f m n v))
        | inr d ↦ elsewhere k j (inr d) ∙ sym (upd2_other f m n v k j (inr d))
      ]
      | inr e ↦ elsewhere k j (inl e) ∙ sym (upd2_other f m n v k j (inl e))
    ] in
    λ i k j. at k j i
