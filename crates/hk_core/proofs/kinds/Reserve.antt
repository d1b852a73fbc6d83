-- Whoever has claimed an object reserves its place: the words reserved grow by the object's, and a range of its number begins
-- where they ended. Where the range fits, its link word is still to be written.
use Rattle.std.proofs.Common.{◌≡◌, ◌≢◌, ◌⊎◌, ℕ, ◌+◌, ◌*◌, ◌<◌, ◌≤◌, Bool, true, false, inl, inr, refl, sym, ◌∙◌, ap, arith, Option, Some, None}
use Rattle.std.proofs.lemmas.Bool.{cases_eq, le-leb, both_ways, cases_Bool, leb-true}
use Rattle.std.specs.Prelude.{nat_eq, if◌then◌else◌}
use Rattle.hk_words.specs.declared.geometry.Geometry.{Geometry}
use Rattle.hk_words.specs.Geometry.{tasks, numbers}
use Rattle.hk_words.specs.Layout as layout
use Rattle.hk_model.specs.View.{upd}
use Rattle.hk_model.proofs.Updates.{upd_same, upd_other}
use Rattle.hk_core.specs.declared.flight.Flight.{Flight}
use Rattle.hk_core.specs.declared.spot.Spot.{Spot}
use Rattle.hk_core.specs.declared.spot.Line.{Line}
use Rattle.hk_core.specs.declared.spot.Line.TheVariants as line
use Rattle.hk_core.specs.Counts.{count_below}
use Rattle.hk_core.specs.Step.{reference_size, reserved_fits}
use Rattle.hk_core.specs.View.{Words, Names, Contents, reference_at}
use Rattle.hk_core.specs.Flights as f
use Rattle.hk_core.specs.Flights.{Hand, no_claim, to_reserve, to_link}
use Rattle.hk_core.specs.Lines as l
use Rattle.hk_core.specs.Colours.{Spaces, Shades}
use Rattle.hk_core.specs.Facts as fact
use Rattle.hk_core.specs.Facts.{IsSettled, HoldsClaim, HoldsRange}
use Rattle.hk_core.specs.Lawful.{Facts}
use Rattle.hk_core.proofs.Waiting.{linking_else, reserving_not_linking}
use Rattle.hk_core.proofs.Update.{upd_cases}
use Rattle.hk_core.proofs.Counts.{count_less}
use Rattle.hk_core.proofs.kinds.WriteCell.{ShadesMean, some_words}
use Rattle.hk_core.proofs.Shared.{never_both, one_value}

-- the words after a reserve of so many words, and the ranges; the claim in hand after it
abbrev pub reserve_words : Words → ℕ → Words
reserve_words w size = record w { reserved = w.reserved + size }

abbrev pub reserve_range : (range : ℕ → Option ℕ) → (offset n : ℕ) → ℕ → Option ℕ
reserve_range range offset n = upd range offset (Some n)

abbrev pub reserve_hand : Geometry → (item c offset : ℕ) → Hand
reserve_hand g item c offset = if reserved_fits g offset item then to_link item c offset else no_claim

-- what a reserve asks of whoever holds the claim: the number of the reference is kept, and its object has the words that the
-- reference says, two or more
pub record CanReserve (g : Geometry) (z : Spaces) (sh : Shades) (hand : ℕ → Hand) (k item c n : ℕ) : Type 0 where
  pub within : k ≤ tasks g
  pub holds : hand k ≡ to_reserve item c
  pub number : layout.reference_number item ≡ n
  pub is_kept : sh.kept n ≡ true
  pub size : reference_size item ≡ sh.size n
  pub two : 2 ≤ sh.size n
  pub live : z.live ≡ g.live

some_is : (m n : ℕ) → Some m ≡ Some n → m ≡ n
some_is m n e = cc

-- a claim in hand of one kind is none of another
reserving_only : {A : Type 0} (a : Hand) (item c offset other d : ℕ) → (a ≡ no_claim) ⊎ (a ≡ to_link item c offset) → a ≡ to_reserve other d → A
reserving_only a item c offset other d (inl e) h = absurd (cc)
reserving_only a item c offset other d (inr e) h = absurd (cc)

linking_same : (a : Hand) (item c offset other d there : ℕ) → a ≡ to_link item c offset → a ≡ to_link other d there → (item ≡ other) × (c ≡ d) × (offset ≡ there)
linking_same a item c offset other d there e h = (cc, cc, cc)

linking_none : {A : Type 0} (a : Hand) (other d there : ℕ) → a ≡ no_claim → a ≡ to_link other d there → A
linking_none a other d there e h = absurd (cc)

item_left : (a : Hand) (item c offset other : ℕ) → (a ≡ no_claim) ⊎ (a ≡ to_link item c offset) → f.item_in a ≡ Some other → item ≡ other
unfolding f.item_in
item_left a item c offset other (inl e) h = let none : f.item_in a ≡ None = ap f.item_in e in never_both (f.item_in a) other none h
item_left a item c offset other (inr e) h = let some : f.item_in a ≡ Some item = ap f.item_in e in one_value (f.item_in a) item other some h

reserves_left : (a : Hand) (item c offset : ℕ) → (a ≡ no_claim) ⊎ (a ≡ to_link item c offset) → f.is_to_reserve a ≡ false
unfolding f.is_to_reserve
reserves_left a item c offset (inl e) = ap f.is_to_reserve e
reserves_left a item c offset (inr e) = ap f.is_to_reserve e

reserves_held : (a : Hand) (item c : ℕ) → a ≡ to_reserve item c → f.is_to_reserve a ≡ true
unfolding f.is_to_reserve
reserves_held a item c e = ap f.is_to_reserve e

item_held : (a : Hand) (item c : ℕ) → a ≡ to_reserve item c → f.item_in a ≡ Some item
unfolding f.item_in
item_held a item c e = ap f.item_in e

-- while the collector looks for objects it doesn't rest
pub marking_is_busy : (ln : Line) → l.is_marking ln ≡ true → l.is_resting ln ≡ false
unfolding l.is_marking l.is_resting
marking_is_busy line.Rest e = absurd (cc)
marking_is_busy (line.Frame s) e = refl
marking_is_busy (line.Register s r stage) e = refl
marking_is_busy (line.FrameTrade s) e = refl
marking_is_busy line.Scan e = refl
marking_is_busy line.Link e = refl
marking_is_busy line.Look e = refl
marking_is_busy (line.Cell i stage) e = refl
marking_is_busy line.ObjectTrade e = refl
marking_is_busy (line.Pass n) e = refl
marking_is_busy (line.PassHead n) e = refl
marking_is_busy (line.Sweep n stage) e = refl
marking_is_busy (line.Clear i) e = refl
marking_is_busy line.Reset e = refl

-- where a number is grey, the collector looks for objects
pub grey_is_marking : (g : Geometry) (cycle : ℕ) (white grey : ℕ → Bool) (register : ℕ → ℕ → ℕ) (flight : ℕ → Flight) (ln : Line) (n : ℕ) → n < numbers g → grey n ≡ true
    → fact.SettledFromSweep ln (IsSettled g cycle white grey register flight) → l.is_marking ln ≡ true
grey_is_marking g cycle white grey register flight ln n within is settled = elim (cases_Bool (l.is_marking ln)) [
  | inl e ↦ e
  | inr e ↦ absurd (both_ways _ ((settled e).none_grey n within) is)
]

module _ (g : Geometry) (w : Words) (z : Spaces) (sh : Shades) (flight : ℕ → Flight) (begun : ℕ → ℕ) (hand : ℕ → Hand) (t : Spot)
    (names : Names) (contents : Contents) (range : ℕ → Option ℕ) (h : Facts g w z sh flight begun hand t names contents range)
    (m : ShadesMean g w z sh flight t.line names) (k item c n : ℕ) (o : CanReserve g z sh hand k item c n) where
  claim_held : HoldsClaim w.cycle sh.grey range item c
  claim_held = h.claims_unreserved k item c o.within o.holds

  held_grey : sh.grey n ≡ true
  held_grey = ap sh.grey (sym o.number) ∙ claim_held.is_grey

  held_unreserved : (x : ℕ) → range x ≢ Some n
  held_unreserved x e = claim_held.unreserved x (e ∙ ap Some (sym o.number))

  busy : l.is_resting t.line ≡ false
  busy = marking_is_busy t.line (grey_is_marking g w.cycle sh.white sh.grey w.register flight t.line n (m.kept n o.is_kept).within held_grey h.settled_from_sweep)

  -- no range begins past the words that are reserved
  none_past : (y : ℕ) → w.reserved ≤ y → range y ≡ None
  none_past y past = by_range (range y) refl
    where
      by_range : (a : Option ℕ) → range y ≡ a → range y ≡ None
      by_range None e = e
      by_range (Some j) e = let within : y + sh.size j ≤ w.reserved = h.ranges_within y j e in let some = some_words g w z sh flight t.line names m j in absurd (omega arith)

  -- so the ranges stay, and there is one more
  grown : (x j : ℕ) → range x ≡ Some j → upd range w.reserved (Some n) x ≡ Some j
  grown x j e = elim (upd_cases range w.reserved (Some n) x) [
    | inl (a, u) ↦ never_both (range x) j (none_past x (omega arith)) e
    | inr (d, u) ↦ u ∙ e
  ]

  back : (x j : ℕ) → upd range w.reserved (Some n) x ≡ Some j → ((x ≡ w.reserved) × (n ≡ j)) ⊎ ((x ≢ w.reserved) × (range x ≡ Some j))
  back x j e = elim (upd_cases range w.reserved (Some n) x) [
    | inl (a, u) ↦ inl (a, some_is n j (sym u ∙ e))
    | inr (d, u) ↦ inr (d, sym u ∙ e)
  ]

  -- the first word past them is 0, where it is one of the area for evacuation
  zero_there : w.reserved < z.live → w.cell (z.current + w.reserved) ≡ 0
  zero_there below = h.unreserved_is_zero busy w.reserved below (λ y j there fits covers.
      let within : y + sh.size j ≤ w.reserved = h.ranges_within y j there in
      let before : w.reserved < y + sh.size j = covers.before in
      omega arith)

  reserve_within : fact.RangesWithin (w.reserved + reference_size item) sh.size (upd range w.reserved (Some n))
  reserve_within x j e =
      let size = o.size in
      elim (back x j e) [
        | inl (a, b) ↦ let same : sh.size n ≡ sh.size j = ap sh.size b in omega arith
        | inr (d, there) ↦ let within : x + sh.size j ≤ w.reserved = h.ranges_within x j there in omega arith
      ]

  reserve_join : fact.RangesJoin (w.reserved + reference_size item) sh.size (upd range w.reserved (Some n))
  reserve_join x j e below =
      let size = o.size in
      elim (back x j e) [
        | inl (a, b) ↦ let same : sh.size n ≡ sh.size j = ap sh.size b in absurd (omega arith)
        | inr (d, there) ↦
            let within : x + sh.size j ≤ w.reserved = h.ranges_within x j there in
            elim (upd_cases range w.reserved (Some n) (x + sh.size j)) [
              | inl (a, u) ↦ λ none. never_both _ n none u
              | inr (d, u) ↦ λ none. h.ranges_join x j there (omega arith) (sym u ∙ none)
            ]
      ]

  reserve_first : fact.FirstRange (w.reserved + reference_size item) (upd range w.reserved (Some n))
  reserve_first some = elim (upd_cases range w.reserved (Some n) 0) [
    | inl (a, u) ↦ λ none. never_both _ n none u
    | inr (d, u) ↦ λ none. h.first_range (omega arith) (sym u ∙ none)
  ]

  reserve_apart : fact.RangesApart sh.size (upd range w.reserved (Some n))
  reserve_apart x j y e from before =
      elim (back x j e) [
        | inl (a, b) ↦ upd_other range w.reserved (Some n) y (omega arith) ∙ none_past y (omega arith)
        | inr (d, there) ↦
            let within : x + sh.size j ≤ w.reserved = h.ranges_within x j there in
            upd_other range w.reserved (Some n) y (omega arith) ∙ h.ranges_apart x j y there from before
      ]

  reserve_rest : fact.NothingReservedAtRest (l.is_resting t.line) (w.reserved + reference_size item)
  reserve_rest rests = absurd (both_ways _ busy rests)

  reserve_scan : fact.ScanBounded z (l.is_resting t.line) t.scan (w.reserved + reference_size item)
  reserve_scan going =
      let a = h.scan_bounded going in
      let b : t.scan ≤ w.reserved = a.0 in
      (omega arith, a.1)

  reserve_moved : fact.MovedStandsInRange z (l.is_resting t.line) sh.kept w.place (upd range w.reserved (Some n))
  reserve_moved going j x kept stands below = grown x j (h.moved_stands_in_range going j x kept stands below)

  reserve_unreserved : fact.UnreservedIsZero z (l.is_resting t.line) sh.size w.cell (upd range w.reserved (Some n))
  reserve_unreserved going x below free = h.unreserved_is_zero going x below (λ y j there fits. free y j (grown y j there) fits)

  reserve_one_each : fact.OneRangeEach (upd range w.reserved (Some n))
  reserve_one_each x y j a b = elim (back x j a) [
    | inl (p, e) ↦ elim (back y j b) [
      | inl (q, d) ↦ p ∙ sym q
      | inr (q, there) ↦ absurd (held_unreserved y (there ∙ ap Some (sym e)))
    ]
    | inr (p, here) ↦ elim (back y j b) [
      | inl (q, d) ↦ absurd (held_unreserved x (here ∙ ap Some (sym d)))
      | inr (q, there) ↦ h.one_range_each x y j here there
    ]
  ]

  reserve_below_moved : fact.RangesBelowMoved z w.cycle t.scan sh.kept w.place w.mark sh.size (upd range w.reserved (Some n))
  reserve_below_moved x j e lower = elim (back x j e) [
    | inl (a, b) ↦ let scanned : t.scan ≤ w.reserved = (h.scan_bounded busy).0 in absurd (omega arith)
    | inr (d, there) ↦ h.ranges_below_moved x j there lower
  ]

  reserve_above_grey : fact.RangesAboveGrey t.scan sh.kept sh.grey (upd range w.reserved (Some n))
  reserve_above_grey x j e upper = elim (back x j e) [
    | inl (a, b) ↦ (ap sh.kept (sym b) ∙ o.is_kept, ap sh.grey (sym b) ∙ held_grey)
    | inr (d, there) ↦ h.ranges_above_grey x j there upper
  ]

  reserve_linked : fact.RangesLinked z sh.size w.cell (reference_at names) (upd range w.reserved (Some n))
  reserve_linked x j e fits = elim (back x j e) [
    | inl (a, b) ↦ let some = some_words g w z sh flight t.line names m j in inl (ap (λ y. w.cell (z.current + y)) a ∙ zero_there (omega arith))
    | inr (d, there) ↦ h.ranges_linked x j there fits
  ]

  reserve_scan_at : fact.ScanAtRange z t.line t.scan sh.size (upd range w.reserved (Some n))
  reserve_scan_at e = let a = h.scan_at_range e in (a.0, grown t.scan a.0 a.1, a.2)

  -- what is left in hand
  left : (reserve_hand g item c w.reserved ≡ no_claim) ⊎ (reserve_hand g item c w.reserved ≡ to_link item c w.reserved)
  left = by_fit (reserved_fits g w.reserved item)
    where
      by_fit : (fits : Bool) → ((if fits then to_link item c w.reserved else no_claim) ≡ no_claim) ⊎ ((if fits then to_link item c w.reserved else no_claim) ≡ to_link item c w.reserved)
      by_fit true = inr refl
      by_fit false = inl refl

  left_fits : (other d there : ℕ) → reserve_hand g item c w.reserved ≡ to_link other d there → (item ≡ other) × (c ≡ d) × (w.reserved ≡ there) × (w.reserved + sh.size n ≤ z.live)
  left_fits other d there e = by_fit (reserved_fits g w.reserved item) refl e
    where
      by_fit : (fits : Bool) → reserved_fits g w.reserved item ≡ fits → (if fits then to_link item c w.reserved else no_claim) ≡ to_link other d there
          → (item ≡ other) × (c ≡ d) × (w.reserved ≡ there) × (w.reserved + sh.size n ≤ z.live)
      by_fit true is e =
          let fit : w.reserved + reference_size item ≤ g.live = leb-true _ _ is in
          let size : reference_size item ≡ sh.size n = o.size in
          let live : z.live ≡ g.live = o.live in
          let same = linking_same (to_link item c w.reserved) item c w.reserved other d there refl e in
          (same.0, same.1, same.2, omega arith)
      by_fit false is e = linking_none no_claim other d there refl e

  reserve_few : fact.MarksFew g t.line w.cycle (w.reserved + reference_size item) w.mark (upd hand k (reserve_hand g item c w.reserved))
  reserve_few e =
      let few : 2 * count_below (numbers g) (λ j. nat_eq (w.mark j) w.cycle) ≤ g.alloc + w.reserved + 2 * count_below (tasks g + 1) (λ j. f.is_to_reserve (hand j)) = h.marks_few e in
      let within = o.within in
      let size = o.size in
      let two = o.two in
      let hands : count_below (tasks g + 1) (λ j. f.is_to_reserve (upd hand k (reserve_hand g item c w.reserved) j)) + 1 ≡ count_below (tasks g + 1) (λ j. f.is_to_reserve (hand j)) =
      count_less f.is_to_reserve hand k (reserve_hand g item c w.reserved) (tasks g + 1) (omega arith) (reserves_held (hand k) item c o.holds)
      (reserves_left (reserve_hand g item c w.reserved) item c w.reserved left) in
      omega arith

  -- a claim in hand after the reserve was one before
  item_before : (j other : ℕ) → f.item_in (upd hand k (reserve_hand g item c w.reserved) j) ≡ Some other → f.item_in (hand j) ≡ Some other
  item_before j other e = elim (upd_cases hand k (reserve_hand g item c w.reserved) j) [
    | inl (a, u) ↦
        let same : item ≡ other = item_left (reserve_hand g item c w.reserved) item c w.reserved other left (ap f.item_in (sym u) ∙ e) in
        ap (λ i. f.item_in (hand i)) a ∙ item_held (hand k) item c o.holds ∙ ap Some same
    | inr (d, u) ↦ ap f.item_in (sym u) ∙ e
  ]

  reserve_claims_apart : fact.ClaimsApart g (upd hand k (reserve_hand g item c w.reserved))
  reserve_claims_apart i j a b differ one other p q = h.claims_apart i j a b differ one other (item_before i one p) (item_before j other q)

  reserve_claims : fact.ClaimsUnreserved g w.cycle sh.grey (upd range w.reserved (Some n)) (upd hand k (reserve_hand g item c w.reserved))
  reserve_claims j other d below e = elim (upd_cases hand k (reserve_hand g item c w.reserved) j) [
    | inl (a, u) ↦ reserving_only (reserve_hand g item c w.reserved) item c w.reserved other d left (sym u ∙ e)
    | inr (differ, u) ↦
        let held : hand j ≡ to_reserve other d = sym u ∙ e in
        let old : HoldsClaim w.cycle sh.grey range other d = h.claims_unreserved j other d below held in
        record {
          some = old.some;
          of_cycle = old.of_cycle;
          is_grey = old.is_grey;
          unreserved = λ x r. elim (back x (layout.reference_number other) r) [
            | inl (a, b) ↦ h.claims_apart j k below o.within differ other item (item_held (hand j) other d held) (item_held (hand k) item c o.holds) (sym b ∙ sym o.number)
            | inr (d, there) ↦ old.unreserved x there
          ];
        }
  ]

  reserve_unlinked : fact.ClaimsUnlinked g z w.cycle sh.grey sh.size w.cell (upd range w.reserved (Some n)) (upd hand k (reserve_hand g item c w.reserved))
  reserve_unlinked j other d there below e = elim (upd_cases hand k (reserve_hand g item c w.reserved) j) [
    | inl (a, u) ↦
        let fit = left_fits other d there (sym u ∙ e) in
        let ends : w.reserved + sh.size n ≤ z.live = fit.3 in
        let some = some_words g w z sh flight t.line names m n in
        let number : layout.reference_number other ≡ n = ap (λ i. layout.reference_number i) (sym fit.0) ∙ o.number in
        record {
          some = λ null. claim_held.some (fit.0 ∙ null);
          of_cycle = sym fit.1 ∙ claim_held.of_cycle;
          is_grey = ap sh.grey number ∙ held_grey;
          has_range = ap (upd range w.reserved (Some n)) (sym fit.2) ∙ upd_same range w.reserved (Some n) ∙ ap Some (sym number);
          fits = rw (← fit.2, number) ends;
          unlinked = ap (λ x. w.cell (z.current + x)) (sym fit.2) ∙ zero_there (omega arith);
        }
    | inr (differ, u) ↦
        let old : HoldsRange z w.cycle sh.grey sh.size w.cell range other d there = h.claims_unlinked j other d there below (sym u ∙ e) in
        record {
          some = old.some;
          of_cycle = old.of_cycle;
          is_grey = old.is_grey;
          has_range = grown there (layout.reference_number other) old.has_range;
          fits = old.fits;
          unlinked = old.unlinked;
        }
  ]

  -- what fits is held to be linked
  reserved_to_link : w.reserved + sh.size n ≤ z.live → reserve_hand g item c w.reserved ≡ to_link item c w.reserved
  reserved_to_link fits =
      let size : reference_size item ≡ sh.size n = o.size in
      let live : z.live ≡ g.live = o.live in
      rw (le-leb (w.reserved + reference_size item) g.live (omega arith)) refl

  reserve_grey : fact.GreyWaits g sh.grey (upd range w.reserved (Some n)) (upd hand k (reserve_hand g item c w.reserved))
  reserve_grey j below e = elim (h.grey_waits j below e) [
    | inl (x, there) ↦ inl (x, grown x j there)
    | inr (i, other, d, inside, holds, is) ↦ elim (cases_eq i k) [
      | inl same ↦
          let one : other ≡ item = let q : to_reserve other d ≡ to_reserve item c = sym holds ∙ ap hand same ∙ o.holds in cc in
          let number : j ≡ n = sym is ∙ ap (λ v. layout.reference_number v) one ∙ o.number in
          inl (w.reserved, upd_same range w.reserved (Some n) ∙ ap Some (sym number))
      | inr differ ↦ inr (i, other, d, inside, upd_other hand k (reserve_hand g item c w.reserved) i differ ∙ holds, is)
    ]
  ]

  reserve_waits : fact.UnlinkedWaits g z sh.size w.cell (upd range w.reserved (Some n)) (upd hand k (reserve_hand g item c w.reserved))
  reserve_waits x j there fits e = elim (back x j there) [
    | inl (here, number) ↦
        let fit : w.reserved + sh.size n ≤ z.live = let same : sh.size n ≡ sh.size j = ap sh.size number in omega arith in
        (k, item, c, o.within, upd_same hand k (reserve_hand g item c w.reserved) ∙ reserved_to_link fit ∙ ap (to_link item c) (sym here))
    | inr (differ, before) ↦
        linking_else g hand k (reserve_hand g item c w.reserved) x (reserving_not_linking (hand k) item c o.holds x) (h.unlinked_waits x j before fits e)
  ]

  -- all facts hold after a reserve, for whoever holds the claim
  pub reserve_facts : Facts g (reserve_words w (reference_size item)) z sh flight begun (upd hand k (reserve_hand g item c w.reserved)) t names contents (reserve_range range w.reserved n)
  reserve_facts =
      let a = reserve_within in
      let b = reserve_join in
      let d = reserve_first in
      let e = reserve_apart in
      let i = reserve_rest in
      let j = reserve_scan in
      let p = reserve_moved in
      let q = reserve_unreserved in
      let r = reserve_one_each in
      let s = reserve_below_moved in
      let u = reserve_above_grey in
      let v = reserve_linked in
      let x = reserve_scan_at in
      let y = reserve_few in
      let a' = reserve_claims_apart in
      let b' = reserve_claims in
      let d' = reserve_unlinked in
      let e' = reserve_grey in
      let i' = reserve_waits in
      assumption
