-- A list with one element more.
use Rattle.std.proofs.Common.{◌≡◌, ℕ, ◌<◌, ◌+◌, List, [], ◌∷◌, ◌++◌, length, zero, suc, refl, arith}
use Rattle.std.specs.Prelude.{slice_index_or}

pub at_before : {A : Type 0} (xs : List A) (x : A) (i : ℕ) (d : A) → i < length xs → slice_index_or (xs ++ x ∷ []) i d ≡ slice_index_or xs i d
at_before [] x i d below = absurd (omega (arith, below))
at_before (y ∷ xs) x zero d below = refl
at_before (y ∷ xs) x (suc i) d below = at_before xs x i d (omega (arith, below))

pub at_last : {A : Type 0} (xs : List A) (x : A) (i : ℕ) (d : A) → i ≡ length xs → slice_index_or (xs ++ x ∷ []) i d ≡ x
at_last [] x zero d is = refl
at_last [] x (suc i) d is = absurd (omega (arith, is))
at_last (y ∷ xs) x zero d is = absurd (omega (arith, is))
at_last (y ∷ xs) x (suc i) d is = at_last xs x i d (omega (arith, is))

pub length_more : {A : Type 0} (xs : List A) (x : A) → length (xs ++ x ∷ []) ≡ length xs + 1
length_more [] x = refl
length_more (y ∷ xs) x = let e = length_more xs x in omega (arith, e)

-- the element at a place of the list
pub item : {A : Type 0} (xs : List A) (i : ℕ) → i < length xs → A
item [] i below = absurd (omega (arith, below))
item (x ∷ xs) zero below = x
item (x ∷ xs) (suc i) below = item xs i (omega (arith, below))
