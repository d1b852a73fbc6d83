-- A sheet with its high tasks in another order is a sheet.
use Rattle.std.proofs.Common.{◌≡◌, ◌∙◌, refl, sym, subst, ℕ, ◌<◌, Bool, true, false, ◌||◌, List, [], ◌∷◌, ◌++◌, map, length, None, arith}
use Rattle.std.specs.Str.{bytes_eq}
use Rattle.std.specs.List.{AllByRecursion, IsDistinct, list_any, range_with_len}
use Rattle.std.specs.List.Sorted.{IsPermutation}
use Rattle.std.proofs.lemmas.Bool.{false_from_ne_true}
use Rattle.std.proofs.lemmas.List.{length-map, same_lists, get_or_default}
use Rattle.std.proofs.lemmas.List.Elements.{All-from_recursion, recursion_from_All}
use Rattle.std.proofs.lemmas.List.Folds.{list_any_none}
use Rattle.std.proofs.lemmas.List.FromFn.{get_or-map-range_with_len, length-map-range_with_len}
use Rattle.std.proofs.lemmas.List.Sorted.{IsPermutation-map, IsPermutation-append_left, All-permutation, length_permutation}
use Rattle.std.proofs.lemmas.Map.Keys.{IsDistinct-IsPermutation}
use Rattle.std.proofs.lemmas.Slice.Eq.{bytes_eq-Decides}
use Rattle.hk_words.specs.Geometry.{first_error}
use Rattle.hk_sheet.specs.declared.sheet.High.{High}
use Rattle.hk_sheet.specs.declared.sheet.Low.{Low}
use Rattle.hk_sheet.specs.declared.sheet.Sheet.{Sheet}
use Rattle.hk_sheet.specs.Faults.{sizes_for}
use Rattle.hk_sheet.specs.Valid.{IsHigh, AreDistinct, IsSheet}
use Rattle.hk_assign.specs.Orders.{IsOrder}
use Rattle.hk_assign.specs.Sheets.{no_high, high_at, highs_at, in_sheet_order, IsAssigned}

-- NAMES THAT DIFFER

either_false : (a b : Bool) → (a || b) ≡ false → (a ≡ false) × (b ≡ false)
either_false true b h = absurd (cc)
either_false false b h = (refl, h)

none_equal : (name : List ℕ) (rest : List (List ℕ)) → list_any (bytes_eq name) rest ≡ false → AllByRecursion (λ other. bytes_eq name other ≡ false) rest
none_equal name [] none = tt
none_equal name (other ∷ rest) none =
    let both = either_false (bytes_eq name other) (list_any (bytes_eq name) rest) none in
    (both.0, none_equal name rest both.1)

distinct_from : (names : List (List ℕ)) → AreDistinct names → IsDistinct bytes_eq names
unfolding IsDistinct
distinct_from [] h = tt
distinct_from (name ∷ rest) h = (none_equal name rest (false_from_ne_true (list_any (bytes_eq name) rest) h.0), distinct_from rest h.1)

distinct_to : (names : List (List ℕ)) → IsDistinct bytes_eq names → AreDistinct names
unfolding IsDistinct
distinct_to [] h = tt
distinct_to (name ∷ rest) h = (
  λ among. let none = list_any_none (bytes_eq name) rest (All-from_recursion (λ other. bytes_eq name other ≡ false) rest h.0) in cc,
  distinct_to rest h.1,
)

flips : (x y : List ℕ) → bytes_eq x y ≡ bytes_eq y x
flips x y = by (bytes_eq x y) (bytes_eq y x) (bytes_eq-Decides x y) (bytes_eq-Decides y x)
  where
    by : (a b : Bool) → ((a ≡ true → x ≡ y) × (x ≡ y → a ≡ true)) → ((b ≡ true → y ≡ x) × (y ≡ x → b ≡ true)) → a ≡ b
    by true b p q = sym (q.1 (sym (p.0 refl)))
    by false true p q = p.1 (sym (q.0 refl))
    by false false p q = refl

-- names that differ do so in another order
distinct_permuted : (names others : List (List ℕ)) → IsPermutation names others → AreDistinct names → AreDistinct others
distinct_permuted names others h distinct = distinct_to others (IsDistinct-IsPermutation bytes_eq flips names others h (distinct_from names distinct))

-- TASKS IN AN ORDER

-- in the order of their places they are as they were
pub as_they_were : (tasks : List High) → highs_at tasks (range_with_len 0 (length tasks)) ≡ tasks
as_they_were tasks =
    let long = length-map-range_with_len (high_at tasks) 0 (length tasks) in
    same_lists (highs_at tasks (range_with_len 0 (length tasks))) tasks long
    (λ k d within.
    let inside : k < length tasks = omega (arith, within, long) in
    get_or-map-range_with_len (high_at tasks) 0 (length tasks) k k d inside (omega arith) ∙ get_or_default tasks k no_high d inside)

pub permuted : (tasks : List High) (order : List ℕ) → IsOrder (length tasks) order → IsPermutation tasks (highs_at tasks order)
permuted tasks order h =
    subst (λ (from : List High). IsPermutation from (highs_at tasks order)) (as_they_were tasks)
    (IsPermutation-map (high_at tasks) (range_with_len 0 (length tasks)) order h)

-- A SHEET

-- so a sheet with its high tasks in an order is one that can be read
pub still_sheet : (sheet : Sheet) (order : List ℕ) → IsSheet sheet → IsOrder (length sheet.high) order → IsSheet (in_sheet_order sheet order)
still_sheet sheet order is h =
    let moved = permuted sheet.high order h in
    let names = λ (task : High). task.name in
    let lows = map (λ (task : Low). task.name) sheet.low in
    record {
      ticks = is.ticks;
      heap = is.heap;
      high =
          recursion_from_All (IsHigh sheet.ticks sheet.heap) (highs_at sheet.high order)
          (All-permutation (IsHigh sheet.ticks sheet.heap) sheet.high (highs_at sheet.high order) moved
          (All-from_recursion (IsHigh sheet.ticks sheet.heap) sheet.high is.high));
      low = is.low;
      names =
          distinct_permuted (map names sheet.high ++ lows) (map names (highs_at sheet.high order) ++ lows)
          (IsPermutation-append_left lows (map names sheet.high) (map names (highs_at sheet.high order)) (IsPermutation-map names sheet.high (highs_at sheet.high order) moved))
          is.names;
      geometry =
          subst (λ (n : ℕ). first_error sheet.heap.fields (sizes_for sheet.heap n (length sheet.low)) ≡ None)
          (sym (length_permutation sheet.high (highs_at sheet.high order) moved)) is.geometry;
    }

-- there are as many times as tasks
pub sheet_order : (tasks : List High) (order : List ℕ) → IsAssigned tasks order → IsOrder (length tasks) order
sheet_order tasks order is = subst (λ (n : ℕ). IsOrder n order) (length-map tasks (λ (task : High). task.timing)) is.keeps.is_order
