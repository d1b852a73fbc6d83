-- Columns with one value changed: what a function of a column's values is then, and what holds of each seat and of each
-- two seats.
use Rattle.std.proofs.Common.{◌≡◌, ℕ, ◌≢◌, ◌⊎◌, ◌<◌, inl, inr, refl, sym, ◌∙◌, ap}
use Rattle.std.proofs.lemmas.Bool.{cases_eq}
use Rattle.hk_model.specs.View.{upd, upd2}
use Rattle.hk_model.proofs.Updates.{upd_same, upd_other, is_upd, upd2_same, upd2_other}

-- the value at an index: the new one, or the old one at another index
pub upd_cases : {A : Type 0} (f : ℕ → A) (n : ℕ) (v : A) (k : ℕ) → ((k ≡ n) × (upd f n v k ≡ v)) ⊎ ((k ≢ n) × (upd f n v k ≡ f k))
upd_cases {A} f n v k =
    elim (cases_eq k n) [
      | inl e ↦ inl (e, ap (upd f n v) e ∙ upd_same f n v)
      | inr d ↦ inr (d, upd_other f n v k d)
    ]

-- a value that is written where it stands changes nothing
pub upd_own : {A : Type 0} (f : ℕ → A) (n : ℕ) (v : A) → v ≡ f n → upd f n v ≡ f
upd_own {A} f n v e = sym (is_upd f f n v (sym e) (λ k d. refl))

-- what holds of a value at another index holds after the change
pub unwritten : {A : Type 0} (f : ℕ → A) (n : ℕ) (v : A) (k : ℕ) (P : A → Type 0) → k ≢ n → P (f k) → P (upd f n v k)
unwritten f n v k P differ o = rw (upd_other f n v k differ) o

-- a function of the values of a changed column
pub map_upd : {A B : Type 0} (h : A → B) (f : ℕ → A) (n : ℕ) (v : A) (w : B) → h v ≡ w → ◌≡◌ {A = ℕ → B} (λ k. h (upd f n v k)) (upd (λ k. h (f k)) n w)
map_upd {A} {B} h f n v w e =
    is_upd {A = B} (λ k. h (upd f n v k)) (λ k. h (f k)) n w (ap h (upd_same f n v) ∙ e) (λ k d. ap h (upd_other f n v k d))

-- one that has the same value for the new as for the old
pub map_upd_kept : {A B : Type 0} (h : A → B) (f : ℕ → A) (n : ℕ) (v : A) → h v ≡ h (f n) → ◌≡◌ {A = ℕ → B} (λ k. h (upd f n v k)) (λ k. h (f k))
map_upd_kept {A} {B} h f n v e = map_upd h f n v (h v) refl ∙ upd_own {A = B} (λ k. h (f k)) n (h v) e

-- what holds of the values of the seats holds after a change of one, where it holds of the new value
pub each_upd : {A : Type 0} (P : ℕ → A → Type 0) (f : ℕ → A) (s : ℕ) (v : A) (n : ℕ) → ((t : ℕ) → t < n → P t (f t)) → P s v
    → (t : ℕ) → t < n → P t (upd f s v t)
each_upd {A} P f s v n all here t below =
    elim (upd_cases f s v t) [
      | inl (e, u) ↦ rw (u, e) here
      | inr (d, u) ↦ rw u (all t below)
    ]

-- what holds of each two seats likewise
pub pairs_upd : {A : Type 0} (P : A → A → Type 0) (f : ℕ → A) (s : ℕ) (v : A) (n : ℕ) → ((t u : ℕ) → t < n → u < n → t ≢ u → P (f t) (f u))
    → ((t : ℕ) → t < n → t ≢ s → P v (f t) × P (f t) v) → (t u : ℕ) → t < n → u < n → t ≢ u → P (upd f s v t) (upd f s v u)
pairs_upd {A} P f s v n all here t u t_below u_below differ =
    elim (upd_cases f s v t) [
      | inl (e, a) ↦ elim (upd_cases f s v u) [
        | inl (d, b) ↦ absurd (differ (e ∙ sym d))
        | inr (d, b) ↦ rw (a, b) ((here u u_below d).0)
      ]
      | inr (e, a) ↦ elim (upd_cases f s v u) [
        | inl (d, b) ↦ rw (a, b) ((here t t_below e).1)
        | inr (d, b) ↦ rw (a, b) (all t u t_below u_below differ)
      ]
    ]

-- the value at two indexes
pub upd2_cases : {A : Type 0} (f : ℕ → ℕ → A) (m n : ℕ) (v : A) (k j : ℕ)
    → ((k ≡ m) × (j ≡ n) × (upd2 f m n v k j ≡ v)) ⊎ (((k ≢ m) ⊎ (j ≢ n)) × (upd2 f m n v k j ≡ f k j))
upd2_cases {A} f m n v k j =
    elim (cases_eq k m) [
      | inl e ↦ elim (cases_eq j n) [
        | inl d ↦ inl (e, d, rw (e, d) (upd2_same f m n v))
        | inr d ↦ inr (inr d, upd2_other f m n v k j (inr d))
      ]
      | inr e ↦ inr (inl e, upd2_other f m n v k j (inl e))
    ]
