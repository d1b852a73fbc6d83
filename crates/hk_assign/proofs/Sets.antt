-- Lists of different numbers as sets.
use Rattle.std.proofs.Common.{◌≡◌, ◌∙◌, refl, sym, ap, subst, ℕ, ◌+◌, ◌<◌, ◌≤◌, ◌⊎◌, zero, suc, Bool, true, false, cond, not, ◌==◌, List, [], ◌∷◌, ◌++◌, All, Contains, length, get_or, slice_index, arith, inl, inr}
use Rattle.std.specs.List.{sum_by, remove, range_with_len}
use Rattle.std.specs.List.Sorted.{IsStrictlyIncreasing, IsPermutation}
use Rattle.std.proofs.lemmas.Bool.{cases_lt}
use Rattle.std.proofs.lemmas.Bool.Decides.{nat_tests}
use Rattle.std.proofs.lemmas.List.{get_or_default}
use Rattle.std.proofs.lemmas.List.Edits.{length-remove, get_or-remove_below, get_or-remove_above}
use Rattle.std.proofs.lemmas.List.FromFn.{length-range_with_len, get_or-range_with_len}
use Rattle.std.proofs.lemmas.List.Sorted.{IsPermutation-remove, IsPermutation-sym, IsPermutation-to_front, IsPermutation-trans, Contains-permutation, sum_by-IsPermutation}
use Rattle.std.proofs.lemmas.List.Sums.{sum_by-cons}
use Rattle.hk_assign.specs.Assignment.{others}

-- MEMBERS

pub first_or_rest : (x : ℕ) (xs : List ℕ) (z : ℕ) → Contains (x ∷ xs) z → (x ≡ z) ⊎ Contains xs z
first_or_rest x xs z (zero, within, is) = inl is
first_or_rest x xs z (suc k, within, is) = inr (k, omega (arith, within), is)

pub is_first : (x : ℕ) (xs : List ℕ) → Contains (x ∷ xs) x
is_first x xs = (zero, omega arith, refl)

pub in_rest : (x : ℕ) (xs : List ℕ) (z : ℕ) → Contains xs z → Contains (x ∷ xs) z
in_rest x xs z (k, within, is) = (suc k, omega (arith, within), is)

differ : (x y : ℕ) → (x == y) ≡ false → ¬ (x ≡ y)
differ x y e same = grind (arith, nat_tests)

-- the others of some tasks are those that differ
pub among_others : (tasks : List ℕ) (task z : ℕ) → Contains (others tasks task) z → Contains tasks z × (¬ (z ≡ task))
among_others [] task z h = absurd (omega (arith, h.1))
among_others (x ∷ xs) task z h = by (among_others xs task z) (x == task) refl
  where
    by : (Contains (others xs task) z → Contains xs z × (¬ (z ≡ task))) → (b : Bool) → (x == task) ≡ b → Contains (x ∷ xs) z × (¬ (z ≡ task))
    by later true e =
        let rest = later (subst (λ (c : Bool). Contains (cond (not c) (x ∷ others xs task) (others xs task)) z) e h) in
        (in_rest x xs z rest.0, rest.1)
    by later false e = elim (first_or_rest x (others xs task) z (subst (λ (c : Bool). Contains (cond (not c) (x ∷ others xs task) (others xs task)) z) e h)) [
      | inl here ↦ ((zero, omega arith, here), λ same. differ x task e (here ∙ same))
      | inr among ↦ let rest = later among in (in_rest x xs z rest.0, rest.1)
    ]

-- DIFFERENT NUMBERS

-- no number stands twice
abbrev pub AreDifferent : List ℕ → Type 0
AreDifferent [] = Unit {0}
AreDifferent (x ∷ xs) = (¬ (Contains xs x)) × AreDifferent xs

pub different_others : (tasks : List ℕ) (task : ℕ) → AreDifferent tasks → AreDifferent (others tasks task)
different_others [] task h = tt
different_others (x ∷ xs) task h = by (x == task) (different_others xs task h.1)
  where
    by : (b : Bool) → AreDifferent (others xs task) → AreDifferent (cond (not b) (x ∷ others xs task) (others xs task))
    by true rest = rest
    by false rest = (λ among. h.0 (among_others xs task x among).0, rest)

-- what is left without one of the numbers holds all the others
pub left_over : (ys : List ℕ) (k x z : ℕ) → k < length ys → x ≡ get_or ys k x → Contains ys z → ¬ (z ≡ x) → Contains (remove ys k) z
left_over ys k x z within is among other =
    elim (first_or_rest x (remove ys k) z (Contains-permutation ys (x ∷ remove ys k) z (IsPermutation-remove ys k x within is) among)) [
      | inl here ↦ absurd (other (sym here))
      | inr rest ↦ rest
    ]

-- a sum over different numbers that are all among others is at most the sum over those
pub part-le : (f : ℕ → ℕ) (xs ys : List ℕ) → AreDifferent xs → ((z : ℕ) → Contains xs z → Contains ys z) → sum_by f xs ≤ sum_by f ys
part-le f [] ys different among = omega arith
part-le f (x ∷ xs) ys different among =
    let at = among x (is_first x xs) in
    let within : at.0 < length ys = at.1 in
    let rest = part-le f xs (remove ys at.0) different.1
    (λ z h. left_over ys at.0 x z within (sym at.2) (among z (in_rest x xs z h)) (λ same. different.0 (subst (λ (n : ℕ). Contains xs n) same h))) in
    let whole = sum_by-IsPermutation f ys (x ∷ remove ys at.0) (IsPermutation-remove ys at.0 x within (sym at.2)) in
    omega (arith, rest, whole, sum_by-cons f x xs, sum_by-cons f x (remove ys at.0))

-- RISING NUMBERS

-- each is below the next
next : (xs : List ℕ) (k : ℕ) → IsStrictlyIncreasing xs → suc k < length xs → slice_index xs k < slice_index xs (suc k)
next xs k h within =
    let same : k + 1 ≡ suc k = omega arith in
    subst (λ (n : ℕ). slice_index xs k < slice_index xs n) same (h k (omega (arith, within)))

pub rest_rises : (x : ℕ) (xs : List ℕ) → IsStrictlyIncreasing (x ∷ xs) → IsStrictlyIncreasing xs
rest_rises x xs h k within =
    let same : suc k ≡ k + 1 = omega arith in
    subst (λ (n : ℕ). slice_index xs k < slice_index xs n) same (next (x ∷ xs) (suc k) h (omega (arith, within)))

-- a number is below each later one
pub far : (xs : List ℕ) (i j : ℕ) → IsStrictlyIncreasing xs → i < j → j < length xs → slice_index xs i < slice_index xs j
far xs i zero h less within = absurd (omega arith)
far xs i (suc j) h less within = elim (cases_lt i j) [
  | inl before ↦ omega (arith, far xs i j h before (omega (arith, within)), next xs j h within)
  | inr past ↦ let same : i ≡ j = omega arith in subst (λ (n : ℕ). slice_index xs n < slice_index xs (suc j)) (sym same) (next xs j h within)
]

-- the first is below all the others
pub all_above : (x : ℕ) (xs : List ℕ) → IsStrictlyIncreasing (x ∷ xs) → (z : ℕ) → Contains xs z → x < z
all_above x xs h z at =
    let less : x < slice_index xs at.0 = far (x ∷ xs) 0 (suc at.0) h (omega arith) (omega (arith, at.1)) in
    let same : slice_index xs at.0 ≡ z = get_or_default xs at.0 0 z at.1 ∙ at.2 in
    omega (arith, less, same)

pub rising_differ : (xs : List ℕ) → IsStrictlyIncreasing xs → AreDifferent xs
rising_differ [] h = tt
rising_differ (x ∷ xs) h = (λ among. omega (arith, all_above x xs h x among), rising_differ xs (rest_rises x xs h))

-- where none of some numbers is this one, all are others
all_others : (xs : List ℕ) (task : ℕ) → ((z : ℕ) → Contains xs z → ¬ (z ≡ task)) → others xs task ≡ xs
all_others [] task apart = refl
all_others (x ∷ xs) task apart =
    let different : (x == task) ≡ false = grind (arith, nat_tests, apart x (is_first x xs)) in
    let rest : others xs task ≡ xs = all_others xs task (λ z h. apart z (in_rest x xs z h)) in
    ap (λ (b : Bool). cond (not b) (x ∷ others xs task) (others xs task)) different ∙ ap (λ (l : List ℕ). x ∷ l) rest

-- the others of rising numbers are what is left without the one
pub others_left : (xs : List ℕ) (k : ℕ) → IsStrictlyIncreasing xs → k < length xs → others xs (slice_index xs k) ≡ remove xs k
others_left [] k h within = absurd (omega arith)
others_left (x ∷ xs) zero h within =
    let same : (x == x) ≡ true = grind (arith, nat_tests) in
    ap (λ (b : Bool). cond (not b) (x ∷ others xs x) (others xs x)) same
    ∙ all_others xs x (λ z among e. omega (arith, all_above x xs h z among, e))
others_left (x ∷ xs) (suc k) h within =
    let above : x < slice_index xs k = far (x ∷ xs) 0 (suc k) h (omega arith) within in
    let different : (x == slice_index xs k) ≡ false = grind (arith, nat_tests) in
    ap (λ (b : Bool). cond (not b) (x ∷ others xs (slice_index xs k)) (others xs (slice_index xs k))) different
    ∙ ap (λ (l : List ℕ). x ∷ l) (others_left xs k (rest_rises x xs h) (omega (arith, within)))

-- numbers still rise where one is left out
pub remove_rises : (xs : List ℕ) (k : ℕ) → IsStrictlyIncreasing xs → k < length xs → IsStrictlyIncreasing (remove xs k)
remove_rises xs k h within j short =
    let long = length-remove xs k within in
    elim (cases_lt (j + 1) k) [
      | inl below ↦ rw (get_or-remove_below xs k 0 j (omega arith) within, get_or-remove_below xs k 0 (j + 1) below within) (h j (omega arith))
      | inr past ↦ elim (cases_lt j k) [
        | inl before ↦ rw (get_or-remove_below xs k 0 j before within, get_or-remove_above xs k 0 (j + 1) (omega arith) within) (far xs j (j + 1 + 1) h (omega arith) (omega (arith, long, short)))
        | inr after ↦ rw (get_or-remove_above xs k 0 j after within, get_or-remove_above xs k 0 (j + 1) (omega arith) within) (h (j + 1) (omega (arith, long, short)))
      ]
    ]

-- all indices, from 0 on, rise
pub indices_rise : (n : ℕ) → IsStrictlyIncreasing (range_with_len 0 n)
indices_rise n k within =
    let long = length-range_with_len 0 n in
    rw (get_or-range_with_len 0 n k 0 (omega (arith, long, within)), get_or-range_with_len 0 n (k + 1) 0 (omega (arith, long, within))) (omega arith)

zero_plus : (n : ℕ) → 0 + n ≡ n
zero_plus n = omega arith

-- an index is among them
pub is_index : (n z : ℕ) → z < n → Contains (range_with_len 0 n) z
is_index n z less = (z, omega (arith, length-range_with_len 0 n), get_or-range_with_len 0 n z z less ∙ zero_plus z)

pub all_indices : (n : ℕ) → All (λ (z : ℕ). z < n) (range_with_len 0 n)
all_indices n k d within =
    let long = length-range_with_len 0 n in
    subst (λ (z : ℕ). z < n) (sym (get_or-range_with_len 0 n k d (omega (arith, long, within)))) (omega (arith, long, within))

-- ONE BEHIND ALL THE OTHERS

pub to_the_end : (xs : List ℕ) (k : ℕ) → k < length xs → IsPermutation xs (remove xs k ++ slice_index xs k ∷ [])
to_the_end xs k within =
    let x : ℕ = slice_index xs k in
    IsPermutation-trans xs (x ∷ remove xs k) (remove xs k ++ x ∷ [])
    (IsPermutation-remove xs k x within (get_or_default xs k 0 x within))
    (IsPermutation-sym (remove xs k ++ x ∷ []) (x ∷ remove xs k) (IsPermutation-to_front (remove xs k) x))

-- a sum over the others, as a sum over all
pub others_sum : (f : ℕ → ℕ) (xs : List ℕ) (task : ℕ) → sum_by f (others xs task) ≡ sum_by (λ z. cond (not (z == task)) (f z) 0) xs
others_sum f [] task = refl
others_sum f (x ∷ xs) task =
    by (x == task) (others_sum f xs task) ∙ sym (sum_by-cons (λ z. cond (not (z == task)) (f z) 0) x xs)
  where
    by : (b : Bool) → sum_by f (others xs task) ≡ sum_by (λ z. cond (not (z == task)) (f z) 0) xs → sum_by f (cond (not b) (x ∷ others xs task) (others xs task)) ≡ cond (not b) (f x) 0 + sum_by (λ z. cond (not (z == task)) (f z) 0) xs
    by true rest = rest ∙ sym (zero_plus (sum_by (λ z. cond (not (z == task)) (f z) 0) xs))
    by false rest = sum_by-cons f x (others xs task) ∙ ap (λ (n : ℕ). f x + n) rest

-- in whichever order
pub others_permuted : (f : ℕ → ℕ) (xs ys : List ℕ) (task : ℕ) → IsPermutation xs ys → sum_by f (others ys task) ≡ sum_by f (others xs task)
others_permuted f xs ys task h =
    others_sum f ys task ∙ sum_by-IsPermutation (λ z. cond (not (z == task)) (f z) 0) xs ys h ∙ sym (others_sum f xs task)
