-- Tasks that are put into an order, by exchanges of two at a time.
use Rattle.std.proofs.Common.{◌≡◌, ◌≢◌, ◌∙◌, refl, sym, ap, subst, ℕ, ◌+◌, ◌<◌, ◌≤◌, ◌⊎◌, false, eqb, List, map, set, length, get_or, slice_index, Contains, arith, inl, inr}
use Rattle.std.specs.List.{IsDistinct, range_with_len, swap}
use Rattle.std.proofs.lemmas.Bool.{cases_lt, cases_eq}
use Rattle.std.proofs.lemmas.Bool.Decides.{nat_tests}
use Rattle.std.proofs.lemmas.Grind.{same_number_lists}
use Rattle.std.proofs.lemmas.List.{map-set, get_or-map, length-map, length-set, get_or-set_same, get_or-set_other}
use Rattle.std.proofs.lemmas.List.Edits.{swap_is}
use Rattle.std.proofs.lemmas.List.Elements.{Contains-get_or}
use Rattle.std.proofs.lemmas.List.FromFn.{length-range_with_len, get_or-range_with_len}
use Rattle.std.proofs.lemmas.List.Sorted.{IsPermutation-refl, IsPermutation-sym, IsPermutation-trans, IsPermutation-swap, Contains-permutation}
use Rattle.std.proofs.lemmas.Map.Keys.{IsDistinct-IsPermutation, IsDistinct-from_apart, apart_from_distinct}
use Rattle.hk_sheet.specs.declared.sheet.High.{High}
use Rattle.hk_assign.specs.Orders.{IsOrder}
use Rattle.hk_assign.specs.Sheets.{no_high, high_at, highs_at}
use Rattle.hk_assign.proofs.Filled.{order_length}
use Rattle.hk_assign.proofs.Permuted.{as_they_were}

-- EXCHANGES

-- two are exchanged in a list of values as in the list of their arguments
swap_mapped : (f : ℕ → High) (xs : List ℕ) (i j : ℕ) → i < length xs → j < length xs → swap (map f xs) i j ≡ map f (swap xs i j)
swap_mapped f xs i j a b =
    let long = length-map xs f in
    let at_i = get_or-map f xs i 0 no_high a in
    let at_j = get_or-map f xs j 0 no_high b in
    sym (swap_is (map f xs) i j no_high (omega (arith, a, long)) (omega (arith, b, long)))
    ∙ (λ k. set (set (map f xs) i (at_j k)) j (at_i k))
    ∙ ap (λ (l : List High). set l j (f (get_or xs i 0))) (sym (map-set f xs i (get_or xs j 0)))
    ∙ sym (map-set f (set xs i (get_or xs j 0)) j (get_or xs i 0))
    ∙ ap (map f) (swap_is xs i j 0 a b)

-- what stands at the first place then
swap_first : (xs : List ℕ) (i j : ℕ) → i < length xs → j < length xs → slice_index (swap xs i j) i ≡ slice_index xs j
swap_first xs i j a b = ap (λ (l : List ℕ). slice_index l i) (sym (swap_is xs i j 0 a b)) ∙ by (cases_eq i j)
  where
    by : (i ≡ j) ⊎ (i ≢ j) → slice_index (set (set xs i (get_or xs j 0)) j (get_or xs i 0)) i ≡ slice_index xs j
    by (inl same) =
        ap (λ (n : ℕ). slice_index (set (set xs i (get_or xs j 0)) j (get_or xs i 0)) n) same
        ∙ get_or-set_same (set xs i (get_or xs j 0)) j (get_or xs i 0) 0 (omega (arith, b, length-set xs i (get_or xs j 0)))
        ∙ ap (λ (n : ℕ). get_or xs n 0) same
    by (inr apart) =
        get_or-set_other (set xs i (get_or xs j 0)) j i (get_or xs i 0) 0 apart
        ∙ get_or-set_same xs i (get_or xs j 0) 0 a

-- and at a place before both
swap_before : (xs : List ℕ) (i j k : ℕ) → i < length xs → j < length xs → k < i → i ≤ j → slice_index (swap xs i j) k ≡ slice_index xs k
swap_before xs i j k a b less at =
    ap (λ (l : List ℕ). slice_index l k) (sym (swap_is xs i j 0 a b))
    ∙ get_or-set_other (set xs i (get_or xs j 0)) j k (get_or xs i 0) 0 (λ (e : k ≡ j). omega (arith, e, less, at))
    ∙ get_or-set_other xs i k (get_or xs j 0) 0 (λ (e : k ≡ i). omega (arith, e, less))

-- AN ORDER HAS EACH TASK ONCE

same_test : (x y : ℕ) → eqb x y ≡ eqb y x
same_test x y = grind (arith, nat_tests)

different_places : (n i j d : ℕ) → i < j → j < length (range_with_len 0 n) → eqb (get_or (range_with_len 0 n) i d) (get_or (range_with_len 0 n) j d) ≡ false
different_places n i j d less within =
    let long = length-range_with_len 0 n in
    let first = get_or-range_with_len 0 n i d (omega (arith, less, within, long)) in
    let second = get_or-range_with_len 0 n j d (omega (arith, within, long)) in
    rw (first, second) (grind (arith, nat_tests, less))

order_differs : (n : ℕ) (order : List ℕ) → IsOrder n order → IsDistinct eqb order
order_differs n order h =
    IsDistinct-IsPermutation eqb same_test (range_with_len 0 n) order h
    (IsDistinct-from_apart eqb (range_with_len 0 n) (λ i j d less within. different_places n i j d less within))

-- so two places of it have different tasks
apart : (n : ℕ) (order : List ℕ) (i j : ℕ) → IsOrder n order → i < j → j < length order → slice_index order i ≡ slice_index order j → ⊥
apart n order i j h less within same =
    let different = apart_from_distinct eqb order i j 0 (order_differs n order h) less within in
    grind (arith, nat_tests, different, same)

-- THE LOOP

-- Which task stands at each place: those of the first places stand as in the order.
pub record AreStanding (old now : List High) (standing order : List ℕ) (done : ℕ) : Type 0 where
  pub is_order : IsOrder (length old) standing
  pub tasks : now ≡ highs_at old standing
  pub first : (place : ℕ) → place < done → slice_index standing place ≡ slice_index order place

-- at first each stands at its own place
pub at_first : (old now : List High) (standing order : List ℕ) → now ≡ old → standing ≡ range_with_len 0 (length old) → AreStanding old now standing order 0
at_first old now standing order same is = record {
  is_order = subst (IsOrder (length old)) (sym is) (IsPermutation-refl (range_with_len 0 (length old)));
  tasks = same ∙ sym (as_they_were old) ∙ ap (highs_at old) (sym is);
  first = λ place less. absurd (omega (arith, less));
}

module _ (old now : List High) (standing order : List ℕ) (done : ℕ) (are : AreStanding old now standing order done) where
  pub standing_length : length standing ≡ length old
  standing_length = order_length (length old) standing are.is_order

  -- the next task of the order stands somewhere
  pub stands : IsOrder (length old) order → done < length old → Contains standing (slice_index order done)
  stands h less =
      let within : done < length order = omega (arith, less, order_length (length old) order h) in
      Contains-permutation order standing (slice_index order done)
      (IsPermutation-trans order (range_with_len 0 (length old)) standing (IsPermutation-sym (range_with_len 0 (length old)) order h) are.is_order)
      (Contains-get_or order done 0 within)

  -- and not before its place
  not_before : (other : ℕ) → IsOrder (length old) order → done < length old → slice_index standing other ≡ slice_index order done → done ≤ other
  not_before other h less found = elim (cases_lt other done) [
    | inl before ↦ absurd (
        apart (length old) order other done h before (omega (arith, less, order_length (length old) order h))
        (sym (are.first other before) ∙ found))
    | inr past ↦ past
  ]

  -- it comes to its place
  pub one_more : (other : ℕ) → IsOrder (length old) order → done < length old → other < length standing → slice_index standing other ≡ slice_index order done
      → AreStanding old (swap now done other) (swap standing done other) order (done + 1)
  one_more other h less within found =
      let at : done < length standing = omega (arith, less, standing_length) in
      let past : done ≤ other = not_before other h less found in
      record {
        is_order =
            IsPermutation-trans (range_with_len 0 (length old)) standing (swap standing done other) are.is_order
            (IsPermutation-swap standing (swap standing done other) done other at within refl);
        tasks = ap (λ (l : List High). swap l done other) are.tasks ∙ swap_mapped (high_at old) standing done other at within;
        first = λ place short. elim (cases_lt place done) [
          | inl before ↦ swap_before standing done other place at within before past ∙ are.first place before
          | inr after ↦
              let same : place ≡ done = omega (arith, short, after) in
              subst (λ (k : ℕ). slice_index (swap standing done other) k ≡ slice_index order k) (sym same) (swap_first standing done other at within ∙ found)
        ];
      }

  -- at last they stand in the order
  pub at_last : IsOrder (length old) order → length old ≤ done → now ≡ highs_at old order
  at_last h all =
      let whole : length standing ≡ length order = standing_length ∙ sym (order_length (length old) order h) in
      are.tasks
      ∙ ap (highs_at old) (same_number_lists standing order whole (λ k within. are.first k (omega (arith, within, standing_length, all))))
