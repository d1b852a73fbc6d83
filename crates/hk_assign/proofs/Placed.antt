-- Places that are filled from the last to the first.
use Rattle.std.proofs.Common.{◌≡◌, ◌∙◌, refl, sym, ap, subst, ℕ, ◌<◌, ◌≤◌, ◌⊎◌, zero, suc, List, [], ◌∷◌, ◌++◌, All, Contains, length, take, get_or, slice_index, arith, inl, inr}
use Rattle.std.specs.List.{remove}
use Rattle.std.specs.List.Sorted.{IsStrictlyIncreasing, IsPermutation}
use Rattle.std.proofs.lemmas.Bool.{cases_lt}
use Rattle.std.proofs.lemmas.List.{append-nil, append_assoc, take_more, get_or_default}
use Rattle.std.proofs.lemmas.List.Elements.{All-contains, Contains-push_cases, Contains-get_or}
use Rattle.std.proofs.lemmas.List.Sorted.{IsPermutation-sym, IsPermutation-append_left, Contains-permutation, sum_by-IsPermutation}
use Rattle.hk_rta.specs.declared.Timing.{Timing}
use Rattle.hk_rta.specs.Demand.{IsTimed, timing_at}
use Rattle.hk_assign.specs.Orders.{IsInTime, IsOrder, KeepsDeadlines}
use Rattle.hk_assign.specs.Assignment.{others, CanBeLast, TakesGreatest, IsBlocked, IsStuck}
use Rattle.hk_assign.specs.Placing.{IsPlaced, ArePlaced, IsLastFit, NoneFits}
use Rattle.hk_assign.proofs.Demands.{asks}
use Rattle.hk_assign.proofs.Fewer.{fewer}
use Rattle.hk_assign.proofs.Sets.{others_left, others_permuted, to_the_end, far}
use Rattle.hk_assign.proofs.Blocked.{blocked_before}

-- a task takes a tick at least, and so does each of some
abbrev Costs : List Timing → ℕ → Type 0
Costs timings task = 1 ≤ (timing_at timings task).cost

-- a task is in time behind the same tasks in another order
in_time_permuted : (timings : List Timing) (xs ys : List ℕ) (task : ℕ) → Costs timings task → IsPermutation xs ys → IsInTime timings xs task → IsInTime timings ys task
in_time_permuted timings xs ys task some h in_time =
    fewer timings ys xs task some (λ window. omega (arith, sum_by-IsPermutation (asks timings window) xs ys h)) in_time

-- and it can be the last of them in another order
last_permuted : (timings : List Timing) (xs ys : List ℕ) (task : ℕ) → Costs timings task → IsPermutation xs ys → CanBeLast timings xs task → CanBeLast timings ys task
last_permuted timings xs ys task some h last =
    fewer timings (others ys task) (others xs task) task some (λ window. omega (arith, others_permuted (asks timings window) xs ys task h)) last

placed_permuted : (timings : List Timing) (xs ys : List ℕ) (task : ℕ) → ((z : ℕ) → Contains ys z ⊎ (task ≡ z) → Costs timings z) → IsPermutation xs ys → IsPlaced timings xs task → IsPlaced timings ys task
placed_permuted timings xs ys task some h placed =
    let longer = IsPermutation-append_left (task ∷ []) xs ys h in
    let back = IsPermutation-sym (xs ++ task ∷ []) (ys ++ task ∷ []) longer in
    record {
      in_time = in_time_permuted timings xs ys task (some task (inr refl)) h placed.in_time;
      greatest = λ other among last.
          placed.greatest other
          (Contains-permutation (ys ++ task ∷ []) (xs ++ task ∷ []) other back among)
          (last_permuted timings (ys ++ task ∷ []) (xs ++ task ∷ []) other (some other (Contains-push_cases ys task other among)) back last);
    }

-- what was placed behind some tasks stands behind the same in another order
pub all_permuted : (timings : List Timing) (xs ys placed : List ℕ) → ((z : ℕ) → Contains ys z ⊎ Contains placed z → Costs timings z) → IsPermutation xs ys → ArePlaced timings xs placed → ArePlaced timings ys placed
all_permuted timings xs ys [] some h are = tt
all_permuted timings xs ys (task ∷ rest) some h are = (
  placed_permuted timings xs ys task
      (λ z among. elim among [
        | inl before ↦ some z (inl before)
        | inr here ↦ some z (inr (zero, omega arith, here))
      ])
      h are.0,
  all_permuted timings (xs ++ task ∷ []) (ys ++ task ∷ []) rest
      (λ z among. elim among [
        | inl first ↦ elim (Contains-push_cases ys task z first) [
          | inl before ↦ some z (inl before)
          | inr here ↦ some z (inr (zero, omega arith, here))
        ]
        | inr later ↦ some z (inr (suc later.0, omega (arith, later.1), later.2))
      ])
      (IsPermutation-append_left (task ∷ []) xs ys h) are.1,
)

-- THE LAST FIT IS PLACED

-- the free tasks with the one that fits behind the others
abbrev pub turned : List ℕ → ℕ → List ℕ
turned free place = remove free place ++ slice_index free place ∷ []

-- of the free tasks one with a greater index can't be the last
none_greater : (timings : List Timing) (free : List ℕ) (place : ℕ) → IsStrictlyIncreasing free → IsLastFit timings free place → (other : ℕ) → Contains free other → CanBeLast timings free other → other ≤ slice_index free place
none_greater timings free place rising fit other among last =
    let at : slice_index free among.0 ≡ other = get_or_default free among.0 0 other among.1 ∙ among.2 in
    elim (cases_lt (slice_index free place) other) [
      | inl greater ↦ elim (cases_lt place among.0) [
        | inl later ↦ absurd (fit.later among.0 later among.1
            (subst (λ (before : List ℕ). IsInTime timings before (slice_index free among.0)) (others_left free among.0 rising among.1)
            (subst (λ (task : ℕ). IsInTime timings (others free task) task) (sym at) last)))
        | inr before ↦ elim (cases_lt among.0 place) [
          | inl earlier ↦ absurd (omega (arith, far free among.0 place rising earlier fit.within, at, greater))
          | inr same ↦ absurd (let here : among.0 ≡ place = omega arith in omega (arith, ap (λ (n : ℕ). slice_index free n) here, at, greater))
        ]
      ]
      | inr fine ↦ fine
    ]

-- what is placed, with the last fit
pub one_more : (timings : List Timing) (free placed : List ℕ) (place : ℕ) → ((z : ℕ) → Contains free z ⊎ Contains placed z → Costs timings z) → IsStrictlyIncreasing free → IsLastFit timings free place → ArePlaced timings free placed → ArePlaced timings (remove free place) (slice_index free place ∷ placed)
one_more timings free placed place some rising fit are =
    let turns = to_the_end free place fit.within in
    let back = IsPermutation-sym free (turned free place) turns in (
      record {
        in_time = fit.fits;
        greatest = λ other among last.
            let member : Contains free other = Contains-permutation (turned free place) free other back among in
            none_greater timings free place rising fit other member
            (last_permuted timings (turned free place) free other (some other (inl member)) back last);
      },
      all_permuted timings free (turned free place) placed
          (λ z among. elim among [
            | inl member ↦ some z (inl (Contains-permutation (turned free place) free z back member))
            | inr later ↦ some z (inr later)
          ])
          turns are,
    )

-- and each blocked set is one of those that are left
pub blocked_left : (timings : List Timing) (free : List ℕ) (place : ℕ) → All IsTimed timings → IsLastFit timings free place → ((set : List ℕ) → IsBlocked timings set → All (Contains free) set) → (set : List ℕ) → IsBlocked timings set → All (Contains (remove free place)) set
blocked_left timings free place timed fit kept set blocked k d within =
    blocked_before timings set (remove free place) (slice_index free place) timed blocked fit.fits
    (λ z among. Contains-push_cases (remove free place) (slice_index free place) z
    (Contains-permutation free (turned free place) z (to_the_end free place fit.within)
    (All-contains (Contains free) set z (kept set blocked) among)))
    (get_or set k d) (Contains-get_or set k d within)

-- where none of the free tasks fits they are stuck
pub stuck : (timings : List Timing) (free : List ℕ) → 0 < length free → IsStrictlyIncreasing free → All (λ (task : ℕ). task < length timings) free → NoneFits timings free → ((set : List ℕ) → IsBlocked timings set → All (Contains free) set) → IsStuck timings free
stuck timings free some rising within none kept = record {
  some = some;
  blocked = record {
    rising = rising;
    within = within;
    none = λ task among last.
        let at : slice_index free among.0 ≡ task = get_or_default free among.0 0 task among.1 ∙ among.2 in
        none among.0 among.1
        (subst (λ (before : List ℕ). IsInTime timings before (slice_index free among.0)) (others_left free among.0 rising among.1)
        (subst (λ (t : ℕ). IsInTime timings (others free t) t) (sym at) last));
  };
  largest = kept;
}

-- ALL ARE PLACED

at_place : (timings : List Timing) (before placed : List ℕ) → ArePlaced timings before placed → (place : ℕ) → place < length placed → IsPlaced timings (before ++ take place placed) (slice_index placed place)
at_place timings before [] are place within = absurd (omega arith)
at_place timings before (task ∷ rest) are zero within = subst (λ (l : List ℕ). IsPlaced timings l task) (sym (append-nil before)) are.0
at_place timings before (task ∷ rest) are (suc place) within =
    subst (λ (l : List ℕ). IsPlaced timings l (slice_index rest place)) (append_assoc before (task ∷ []) (take place rest))
    (at_place timings (before ++ task ∷ []) rest are.1 place (omega (arith, within)))

pub keeps : (timings : List Timing) (order : List ℕ) → IsOrder (length timings) order → ArePlaced timings [] order → KeepsDeadlines timings order
keeps timings order is_order are = record {
  is_order = is_order;
  each = λ place within. (at_place timings [] order are place within).in_time;
}

pub takes_greatest : (timings : List Timing) (order : List ℕ) → ArePlaced timings [] order → TakesGreatest timings order
takes_greatest timings order are place other within among last =
    let upto = take_more order place 0 within in
    (at_place timings [] order are place within).greatest other
    (subst (λ (l : List ℕ). Contains l other) upto among)
    (subst (λ (l : List ℕ). CanBeLast timings l other) upto last)
