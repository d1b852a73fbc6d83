-- What a lawful state promises of words: the ranges that are reserved are apart and belong to claimed numbers, and a word of
-- the current space that is in no black object, no range and none of a New's words is 0.
use Rattle.std.proofs.Common.{◌≡◌, ◌≢◌, ℕ, zero, suc, ◌+◌, ◌-◌, ◌<◌, ◌≤◌, true, inl, inr, refl, sym, ◌∙◌, ap, subst, arith, Option, Some, None}
use Rattle.std.proofs.lemmas.Bool.{cases_lt, cases_Bool}
use Rattle.hk_words.specs.declared.geometry.Geometry.{Geometry}
use Rattle.hk_core.specs.declared.flight.Flight.{Flight}
use Rattle.hk_core.specs.declared.spot.Spot.{Spot}
use Rattle.hk_core.specs.View.{Words, Names, Contents}
use Rattle.hk_core.specs.Flights.{Hand}
use Rattle.hk_core.specs.Lines as l
use Rattle.hk_core.specs.Colours.{Spaces, Shades, InOld, Covers}
use Rattle.hk_core.specs.Facts.{IsMoved}
use Rattle.hk_core.specs.Lawful.{Facts}
use Rattle.hk_core.specs.Stands.{LiesInRange, IsTiled, LiesNowhere, RangesStand, SpaceStands}
use Rattle.hk_core.proofs.kinds.LoadRead.{ColoursMean, some_words}
use Rattle.hk_core.proofs.kinds.WriteCell.{ShadesMean}
use Rattle.hk_core.proofs.PromisedNumbers.{mark_fresh, borne_by}
use Rattle.hk_core.proofs.Shared.{never_both}

module _ (g : Geometry) (w : Words) (z : Spaces) (sh : Shades) (flight : ℕ → Flight) (begun : ℕ → ℕ) (hand : ℕ → Hand) (t : Spot)
    (names : Names) (contents : Contents) (range : ℕ → Option ℕ) (h : Facts g w z sh flight begun hand t names contents range)
    (m : ShadesMean g w z sh flight t.line names) (c : ColoursMean w z sh) where
  some : (n : ℕ) → 0 < sh.size n
  some n = some_words names sh.size n (m.size n)

  -- RANGES

  -- a range below the scan offset belongs to a black number
  moved_black : (x n : ℕ) → range x ≡ Some n → x < t.scan → sh.black n ≡ true
  moved_black x n there below =
      let o : IsMoved z w.cycle t.scan sh.kept w.place w.mark sh.size x n = h.ranges_below_moved x n there below in
      let stands : w.place n ≡ z.current + x = o.stands in
      let words : 0 < sh.size n = some n in
      let within : x + sh.size n ≤ w.reserved = h.ranges_within x n there in
      elim (cases_Bool (l.is_resting t.line)) [
        | inl rests ↦ let nothing : w.reserved ≡ 0 = h.nothing_reserved_at_rest rests in absurd (omega arith)
        | inr busy ↦
            let bound : (t.scan ≤ w.reserved) × (t.scan ≤ z.live) = h.scan_bounded busy in
            let few : t.scan ≤ z.live = bound.1 in
            c.is_black n o.is_claimed (omega arith) (omega arith)
      ]

  -- the range that begins at an offset, or a later one, has a reserved word from there on
  covered_from : (fuel from i : ℕ) → range from ≢ None → from ≤ i → i < w.reserved → i < from + fuel → (x : ℕ) × LiesInRange sh.size range x i
  covered_from zero from i there after below enough = absurd (omega arith)
  covered_from (suc fuel) from i there after below enough =
      let o = number_there (range from) there in
      let n = o.0 in
      let words : 0 < sh.size n = some n in
      elim (cases_lt i (from + sh.size n)) [
        | inl here ↦ (from, (n, o.1, record { after = after; before = here }))
        | inr later ↦ covered_from fuel (from + sh.size n) i (h.ranges_join from n o.1 (omega arith)) later below (omega arith)
      ]
    where
      number_there : (o : Option ℕ) → o ≢ None → (n : ℕ) × (o ≡ Some n)
      number_there None none = absurd (none refl)
      number_there (Some n) none = (n, refl)

  -- no word lies in two ranges
  not_later : (x y i : ℕ) → LiesInRange sh.size range x i → LiesInRange sh.size range y i → x < y → ⊥
  not_later x y i (n, there, covers) (n', there', covers') less =
      let to : i < x + sh.size n = covers.before in
      let from : y ≤ i = covers'.after in
      never_both (range y) n' (h.ranges_apart x n y there less (omega arith)) there'

  tiled : IsTiled w.reserved sh.size range
  tiled = record {
    within = h.ranges_within;
    covered = λ i below. covered_from (i + 1) 0 i (h.first_range (omega arith)) (omega arith) below (omega arith);
    once = λ x y i a b. elim (cases_lt x y) [
      | inl less ↦ absurd (not_later x y i a b less)
      | inr more ↦ elim (cases_lt y x) [ inl less ↦ absurd (not_later y x i b a less) | inr not_less ↦ omega arith ]
    ];
  }

  pub ranges_stand : RangesStand w z sh t names range
  ranges_stand = record {
    tiled = tiled;
    one_each = h.one_range_each;
    claimed = λ x n there. elim (cases_lt x t.scan) [
      | inl below ↦ (h.ranges_below_moved x n there below).is_claimed
      | inr above ↦ (m.grey n (h.ranges_above_grey x n there above).1).of_cycle
    ];
    linked = h.ranges_linked;
    moved = moved_black;
  }

  -- WORDS

  -- an object of the old space has no word of the current one
  old_elsewhere : (place size i : ℕ) → InOld z place size → i < z.live + z.alloc → Covers place size (z.current + i) → ⊥
  old_elsewhere place size i old below covers =
      let after : z.old ≤ place = old.after in
      let before : place + size ≤ z.old + (z.live + z.alloc) = old.before in
      let from : place ≤ z.current + i = covers.after in
      let to : z.current + i < place + size = covers.before in
      elim m.spaces [ inl a ↦ omega arith | inr a ↦ omega arith ]

  -- a kept object that has one is black
  black_there : (n i : ℕ) → sh.kept n ≡ true → i < z.live + z.alloc → Covers (w.place n) (sh.size n) (z.current + i) → sh.black n ≡ true
  black_there n i kept below covers = elim (mark_fresh w.cycle (l.is_marking t.line) (w.mark n) (m.kept n kept).is_fresh) [
    | inl marked ↦ elim (h.objects_in_one_space n kept) [
      | inl old ↦ absurd (old_elsewhere (w.place n) (sh.size n) i old below covers)
      | inr new ↦
          let after : z.current ≤ w.place n = new.after in
          let before : w.place n + sh.size n ≤ z.current + (z.live + z.alloc) = new.before in
          let words : 0 < sh.size n = some n in
          c.is_black n marked after (omega arith)
    ]
    | inr past ↦ absurd (old_elsewhere (w.place n) (sh.size n) i (h.unclaimed_is_old n kept (omega arith)) below covers)
  ]

  -- so a word that is in no black object is in no kept one
  in_none : (i : ℕ) → i < z.live + z.alloc → LiesNowhere g w z sh flight names range (z.current + i) → (n : ℕ) → sh.kept n ≡ true
      → ¬ Covers (w.place n) (sh.size n) (z.current + i)
  in_none i below nowhere n kept covers =
      let k = m.kept n kept in
      let b = borne_by (names.bearer n) k.is_born in
      nowhere.no_object n b.0 (black_there n i kept below covers) b.1 k.not_held covers

  in_alloc : (i j : ℕ) → z.live + j ≡ i → i < z.live + z.alloc → LiesNowhere g w z sh flight names range (z.current + i) → w.cell (z.current + i) ≡ 0
  in_alloc i j at below nowhere =
      let here : z.current + (z.live + j) ≡ z.current + i = omega arith in
      ap w.cell (sym here) ∙ h.free_is_zero j (omega arith)
      (λ n kept covers. in_none i below nowhere n kept (subst (λ (p : ℕ). Covers (w.place n) (sh.size n) p) here covers))

  pub space_stands : SpaceStands g w z sh flight names range
  space_stands i below nowhere = elim (cases_lt i z.live) [
    | inl low ↦ elim (cases_Bool (l.is_resting t.line)) [
      | inl rests ↦ h.unused_is_zero rests i low (in_none i below nowhere)
      | inr busy ↦ h.unreserved_is_zero busy i low (λ y n there fits covers.
          let from : y ≤ i = covers.after in
          let to : i < y + sh.size n = covers.before in
          nowhere.no_range y n there fits (record { after = omega arith; before = omega arith }))
    ]
    | inr high ↦ in_alloc i (i - z.live) (omega arith) below nowhere
  ]
