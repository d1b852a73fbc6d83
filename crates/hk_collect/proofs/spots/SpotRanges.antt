-- What the ranges say of the scan offset: where something is reserved behind it, a range begins there. So where no number
-- is grey, nothing is.
use Rattle.std.proofs.Common.{◌≡◌, ◌≢◌, ℕ, zero, suc, ◌+◌, ◌<◌, ◌≤◌, Bool, false, inl, inr, refl, subst, arith, Option, Some, None}
use Rattle.std.proofs.lemmas.Bool.{cases_eq, cases_lt, both_ways}
use Rattle.hk_words.specs.declared.geometry.Geometry.{Geometry}
use Rattle.hk_words.specs.Geometry.{numbers}
use Rattle.hk_core.specs.declared.flight.Flight.{Flight}
use Rattle.hk_core.specs.declared.spot.Spot.{Spot}
use Rattle.hk_core.specs.View.{Words, Names, Contents}
use Rattle.hk_core.specs.Flights.{Hand}
use Rattle.hk_core.specs.Colours.{Spaces, Shades}
use Rattle.hk_core.specs.Facts as fact
use Rattle.hk_core.specs.Lawful.{Facts}
use Rattle.hk_core.proofs.kinds.LoadRead.{some_words}
use Rattle.hk_core.proofs.kinds.WriteCell.{ShadesMean}

-- the number of the range that begins at an offset
abbrev pub RangeAt : (range : ℕ → Option ℕ) → (offset : ℕ) → Type 0
RangeAt range offset = (n : ℕ) × (range offset ≡ Some n)

a_range : (o : Option ℕ) → o ≢ None → (n : ℕ) × (o ≡ Some n)
a_range None some = absurd (some refl)
a_range (Some n) some = (n, refl)

module _ (size : ℕ → ℕ) (range : ℕ → Option ℕ) (scan reserved : ℕ) (words : (n : ℕ) → 0 < size n) (join : fact.RangesJoin reserved size range)
    (first : fact.FirstRange reserved range) (ends : (x n : ℕ) → range x ≡ Some n → x < scan → x + size n ≤ scan) where
  -- from a range at or below the scan offset the ranges lead on to one that begins there
  walk : (fuel x n : ℕ) → range x ≡ Some n → x ≤ scan → scan < x + fuel → scan < reserved → RangeAt range scan
  walk zero x n there before enough below = absurd (omega arith)
  walk (suc fuel) x n there before enough below = elim (cases_eq x scan) [
    | inl here ↦ (n, subst (λ x. range x ≡ Some n) here there)
    | inr ahead ↦
        let some : 0 < size n = words n in
        let within : x + size n ≤ scan = ends x n there (omega arith) in
        let next : RangeAt range (x + size n) = a_range (range (x + size n)) (join x n there (omega arith)) in
        walk fuel (x + size n) next.0 next.1 within (omega arith) below
  ]

  -- where more is reserved than the scan offset, a range begins there
  pub range_at_scan : scan < reserved → RangeAt range scan
  range_at_scan below =
      let start : RangeAt range 0 = a_range (range 0) (first (omega arith)) in
      walk (scan + 1) 0 start.0 start.1 (omega arith) (omega arith) below

-- the scan offset reaches what is reserved, or a range
pub record Reaches (g : Geometry) (scan reserved : ℕ) (grey : ℕ → Bool) (range : ℕ → Option ℕ) : Type 0 where
  pub at_range : scan < reserved → RangeAt range scan
  pub all_scanned : ((n : ℕ) → n < numbers g → grey n ≡ false) → reserved ≤ scan

pub reaches : (g : Geometry) (w : Words) (z : Spaces) (sh : Shades) (flight : ℕ → Flight) (begun : ℕ → ℕ) (hand : ℕ → Hand) (t : Spot)
    (names : Names) (contents : Contents) (range : ℕ → Option ℕ) → Facts g w z sh flight begun hand t names contents range
    → ShadesMean g w z sh flight t.line names → Reaches g t.scan w.reserved sh.grey range
reaches g w z sh flight begun hand t names contents range h m =
    let at_range : t.scan < w.reserved → RangeAt range t.scan = range_at_scan sh.size range t.scan w.reserved (λ n. some_words names sh.size n (m.size n))
    h.ranges_join h.first_range (λ x n there below. (h.ranges_below_moved x n there below).ends) in
    record {
      at_range = at_range;
      all_scanned = λ none. elim (cases_lt t.scan w.reserved) [
        | inl below ↦
            let found : RangeAt range t.scan = at_range below in
            let above = h.ranges_above_grey t.scan found.0 found.1 (omega arith) in
            absurd (both_ways (sh.grey found.0) (none found.0 (m.kept found.0 above.0).within) above.1)
        | inr all ↦ all
      ];
    }
