-- An order whose last places are filled.
use Rattle.std.proofs.Common.{◌≡◌, ◌∙◌, sym, ap, subst, ℕ, ◌+◌, ◌<◌, ◌≤◌, ◌⊎◌, List, [], ◌∷◌, ◌++◌, All, Contains, length, take, drop, get_or, slice_index, arith, inl, inr}
use Rattle.std.specs.List.{remove, range_with_len}
use Rattle.std.specs.List.Sorted.{IsStrictlyIncreasing, IsPermutation}
use Rattle.std.proofs.lemmas.List.{append_assoc, take-append-drop, take_all, drop_all, take_at, drop_at, length-take-le}
use Rattle.std.proofs.lemmas.List.Edits.{length-remove}
use Rattle.std.proofs.lemmas.List.Elements.{All-take, All-contains, Contains-append_left, Contains-append_right}
use Rattle.std.proofs.lemmas.List.FromFn.{length-range_with_len}
use Rattle.std.proofs.lemmas.List.Sorted.{IsPermutation-refl, IsPermutation-trans, IsPermutation-append_left, All-permutation, length_permutation}
use Rattle.hk_rta.specs.declared.Timing.{Timing}
use Rattle.hk_rta.specs.Demand.{IsTimed, timing_at}
use Rattle.hk_assign.specs.Orders.{IsOrder, KeepsDeadlines}
use Rattle.hk_assign.specs.Assignment.{TakesGreatest, IsBlocked, IsStuck}
use Rattle.hk_assign.specs.Placing.{ArePlaced, IsLastFit, NoneFits}
use Rattle.hk_assign.proofs.Sets.{indices_rise, all_indices, is_index, remove_rises, to_the_end}
use Rattle.hk_assign.proofs.Blocked.{costs}
use Rattle.hk_assign.proofs.Placed.{turned, one_more, blocked_left, stuck, keeps, takes_greatest}

-- The first so many tasks of an order are free and rise, those behind them are placed, and each blocked set is one of free
-- tasks.
pub record IsFilled (timings : List Timing) (order : List ℕ) (free : ℕ) : Type 0 where
  pub within : free ≤ length order
  pub is_order : IsOrder (length timings) order
  pub rising : IsStrictlyIncreasing (take free order)
  pub placed : ArePlaced timings (take free order) (drop free order)
  pub kept : (set : List ℕ) → IsBlocked timings set → All (Contains (take free order)) set

pub order_length : (count : ℕ) (order : List ℕ) → IsOrder count order → length order ≡ count
order_length count order is_order = length_permutation (range_with_len 0 count) order is_order ∙ length-range_with_len 0 count

pub all_tasks : (count : ℕ) (order : List ℕ) → IsOrder count order → All (λ (task : ℕ). task < count) order
all_tasks count order is_order = All-permutation (λ (task : ℕ). task < count) (range_with_len 0 count) order is_order (all_indices count)

pub free_tasks : (timings : List Timing) (order : List ℕ) (free : ℕ) → IsFilled timings order free → All (λ (task : ℕ). task < length timings) (take free order)
free_tasks timings order free filled = All-take (λ (task : ℕ). task < length timings) free order (all_tasks (length timings) order filled.is_order)

pub few_free : (timings : List Timing) (order : List ℕ) (free : ℕ) → length timings ≤ 31 → IsFilled timings order free → length (take free order) ≤ 31
few_free timings order free few filled =
    omega (arith, length-take-le free order filled.within, filled.within, order_length (length timings) order filled.is_order)

-- before any place is given
starts : (timings : List Timing) → IsFilled timings (range_with_len 0 (length timings)) (length (range_with_len 0 (length timings)))
starts timings =
    let order : List ℕ = range_with_len 0 (length timings) in
    let whole : take (length order) order ≡ order = take_all (length order) order (omega arith) in
    record {
      within = omega arith;
      is_order = IsPermutation-refl order;
      rising = subst IsStrictlyIncreasing (sym whole) (indices_rise (length timings));
      placed = subst (λ (rest : List ℕ). ArePlaced timings (take (length order) order) rest) (sym (drop_all (length order) order (omega arith))) tt;
      kept = λ set blocked k d within.
          subst (λ (l : List ℕ). Contains l (get_or set k d)) (sym whole) (is_index (length timings) (get_or set k d) (blocked.within k d within));
    }

pub started : (timings : List Timing) (order : List ℕ) → order ≡ range_with_len 0 (length timings) → IsFilled timings order (length order)
started timings order is = subst (λ (l : List ℕ). IsFilled timings l (length l)) (sym is) (starts timings)

-- THE NEXT PLACE

module _ (timings : List Timing) (timed : All IsTimed timings) (order : List ℕ) (free : ℕ) (filled : IsFilled timings order free) (place : ℕ) (fit : IsLastFit timings (take free order) place) where
  abbrev pub front : List ℕ
  front = take free order

  abbrev pub rest : List ℕ
  rest = drop free order

  abbrev pub task : ℕ
  task = slice_index front place

  abbrev pub next_order : List ℕ
  next_order = turned front place ++ rest

  split : next_order ≡ remove front place ++ task ∷ rest
  split = append_assoc (remove front place) (task ∷ []) rest

  whole : front ++ rest ≡ order
  whole = take-append-drop free order

  shorter : (left : ℕ) → left + 1 ≡ free → length (remove front place) ≡ left
  shorter left e = omega (arith, length-remove front place fit.within, length-take-le free order filled.within, e)

  now_free : (left : ℕ) → left + 1 ≡ free → take left next_order ≡ remove front place
  now_free left e = ap (take left) split ∙ take_at (remove front place) (task ∷ rest) left (shorter left e)

  now_placed : (left : ℕ) → left + 1 ≡ free → drop left next_order ≡ task ∷ rest
  now_placed left e = ap (drop left) split ∙ drop_at (remove front place) (task ∷ rest) left (shorter left e)

  moved : IsPermutation order next_order
  moved = subst (λ (l : List ℕ). IsPermutation l next_order) whole (IsPermutation-append_left rest front (turned front place) (to_the_end front place fit.within))

  each_costs : (z : ℕ) → Contains front z ⊎ Contains rest z → 1 ≤ (timing_at timings z).cost
  each_costs z among =
      let all = all_tasks (length timings) order filled.is_order in
      elim among [
        | inl first ↦ costs timings z timed (All-contains (λ (t : ℕ). t < length timings) order z all (subst (λ (l : List ℕ). Contains l z) whole (Contains-append_left front rest z first)))
        | inr later ↦ costs timings z timed (All-contains (λ (t : ℕ). t < length timings) order z all (subst (λ (l : List ℕ). Contains l z) whole (Contains-append_right front rest z later)))
      ]

  stepped : (left : ℕ) → left + 1 ≡ free → IsFilled timings next_order left
  stepped left e = record {
    within = omega (arith, filled.within, length_permutation order next_order moved, e);
    is_order = IsPermutation-trans (range_with_len 0 (length timings)) order next_order filled.is_order moved;
    rising = subst IsStrictlyIncreasing (sym (now_free left e)) (remove_rises front place filled.rising fit.within);
    placed = subst (λ (l : List ℕ). ArePlaced timings l (drop left next_order)) (sym (now_free left e))
        (subst (λ (l : List ℕ). ArePlaced timings (remove front place) l) (sym (now_placed left e))
        (one_more timings front rest place each_costs filled.rising fit filled.placed));
    kept = λ set blocked.
        subst (λ (l : List ℕ). All (Contains l) set) (sym (now_free left e)) (blocked_left timings front place timed fit filled.kept set blocked);
  }

  pub step : (after : List ℕ) (left : ℕ) → after ≡ next_order → left + 1 ≡ free → IsFilled timings after left
  step after left is e = subst (λ (l : List ℕ). IsFilled timings l left) (sym is) (stepped left e)

-- THE END

pub stuck_now : (timings : List Timing) (order : List ℕ) (free : ℕ) → IsFilled timings order free → 0 < free → NoneFits timings (take free order) → IsStuck timings (take free order)
stuck_now timings order free filled some none =
    stuck timings (take free order) (omega (arith, length-take-le free order filled.within)) filled.rising (free_tasks timings order free filled) none filled.kept

pub keeps_now : (timings : List Timing) (order : List ℕ) (free : ℕ) → IsFilled timings order free → free ≡ 0 → KeepsDeadlines timings order
keeps_now timings order free filled none =
    let at_0 = subst (IsFilled timings order) none filled in
    keeps timings order filled.is_order at_0.placed

pub greatest_now : (timings : List Timing) (order : List ℕ) (free : ℕ) → IsFilled timings order free → free ≡ 0 → TakesGreatest timings order
greatest_now timings order free filled none =
    let at_0 = subst (IsFilled timings order) none filled in
    takes_greatest timings order at_0.placed
