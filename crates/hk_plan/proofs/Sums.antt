-- Sums over the places below a bound.
use Rattle.std.proofs.Common.{◌≡◌, ◌∙◌, ℕ, zero, suc, ◌+◌, ◌*◌, ◌<◌, ◌≤◌, Bool, true, false, cond, refl, sym, ap, subst, List, length, take, get_or, arith, inl, inr}
use Rattle.std.specs.List.{sum_by}
use Rattle.std.proofs.lemmas.List.{take_all}
use Rattle.std.proofs.lemmas.List.Sums.{sum_by_more}
use Rattle.std.proofs.lemmas.Bool.{cases_eq}

-- the sum of f over the places below n
abbrev pub total : (ℕ → ℕ) → ℕ → ℕ
total f zero = 0
total f (suc n) = total f n + f n

-- a sum over a list is that over its places
sum_of_first : {X : Type 0} (f : X → ℕ) (xs : List X) (d : X) (n : ℕ) → n ≤ length xs → sum_by f (take n xs) ≡ total (λ k. f (get_or xs k d)) n
sum_of_first f xs d zero within = refl
sum_of_first f xs d (suc n) within =
    let next : suc n ≡ n + 1 = omega arith in
    ap (λ (k : ℕ). sum_by f (take k xs)) next ∙ sum_by_more f xs n d (omega arith) ∙ ap (λ (s : ℕ). s + f (get_or xs n d)) (sum_of_first f xs d n (omega arith))

pub sum_is_total : {X : Type 0} (f : X → ℕ) (xs : List X) (d : X) → sum_by f xs ≡ total (λ k. f (get_or xs k d)) (length xs)
sum_is_total f xs d =
    ap (sum_by f) (sym (take_all (length xs) xs (omega arith))) ∙ sum_of_first f xs d (length xs) (omega arith)

-- a number where a test passes, else nothing
abbrev pub pick : Bool → ℕ → ℕ
pick b x = cond b x 0

pub total-le : (f g : ℕ → ℕ) (n : ℕ) → ((k : ℕ) → k < n → f k ≤ g k) → total f n ≤ total g n
total-le f g zero h = omega arith
total-le f g (suc n) h = omega (arith, total-le f g n (λ k below. h k (omega arith)), h n (omega arith))

-- sums of nothing
pub total_zero : (f : ℕ → ℕ) (n : ℕ) → ((k : ℕ) → k < n → f k ≡ 0) → total f n ≡ 0
total_zero f zero h = refl
total_zero f (suc n) h = omega (arith, total_zero f n (λ k below. h k (omega arith)), h n (omega arith))

pub total-add : (f g : ℕ → ℕ) (n : ℕ) → total (λ k. f k + g k) n ≡ total f n + total g n
total-add f g zero = refl
total-add f g (suc n) = omega (arith, total-add f g n)

-- a sum of terms that are at most multiples of others
pub total-le-times : (f g : ℕ → ℕ) (c n : ℕ) → ((k : ℕ) → k < n → f k ≤ g k * c) → total f n ≤ total g n * c
total-le-times f g c zero h = omega arith
total-le-times f g c (suc n) h = omega (arith, total-le-times f g c n (λ k below. h k (omega arith)), h n (omega arith))

-- one term is larger by one, and none is less
pub total_more : (f g : ℕ → ℕ) (l n : ℕ) → l < n → ((k : ℕ) → k < n → f k ≤ g k) → f l + 1 ≤ g l → total f n + 1 ≤ total g n
total_more f g l zero below h more = absurd (omega arith)
total_more f g l (suc n) below h more =
    elim (cases_eq l n) [
      | inl same ↦
          let P : ℕ → Type 0 = λ i. f i + 1 ≤ g i in
          let here : f n + 1 ≤ g n = subst P same more in
          omega (arith, here, total-le f g n (λ k b. h k (omega arith)))
      | inr other ↦ omega (arith, h n (omega arith), total_more f g l n (omega arith) (λ k b. h k (omega arith)) more)
    ]

-- at one place the term may be larger by c
pub total_but_one : (f g : ℕ → ℕ) (c l n : ℕ) → ((k : ℕ) → k < n → (k ≡ l → ⊥) → f k ≤ g k) → f l ≤ g l + c → total f n ≤ total g n + c
total_but_one f g c l zero h one = omega arith
total_but_one f g c l (suc n) h one =
    elim (cases_eq n l) [
      | inl same ↦
          let P : ℕ → Type 0 = λ i. f i ≤ g i + c in
          let here : f n ≤ g n + c = subst P (sym same) one in
          omega (arith, here, total-le f g n (λ k b. h k (omega arith) (λ e. omega arith)))
      | inr other ↦ omega (arith, h n (omega arith) other, total_but_one f g c l n (λ k b. h k (omega arith)) one)
    ]

-- a picked number is at most one that is as large
pub pick-le : (b : Bool) (x y : ℕ) → x ≤ y → pick b x ≤ pick b y
pick-le true x y h = h
pick-le false x y h = omega arith

pub pick-le-self : (b : Bool) (x : ℕ) → pick b x ≤ x
pick-le-self true x = omega arith
pick-le-self false x = omega arith
