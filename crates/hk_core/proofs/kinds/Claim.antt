-- A claim of the object of a reference, by a call or by the collector: the mark of the object's number rises to the cycle of
-- the claim. Where it was lower, the number was white and is grey, and whoever did it has a claim in hand.
use Rattle.std.proofs.Common.{◌≡◌, ◌≢◌, ◌⊎◌, ℕ, ◌+◌, ◌*◌, ◌<◌, ◌≤◌, Bool, true, false, inl, inr, refl, sym, ◌∙◌, ap, arith, Option, Some}
use Rattle.std.proofs.lemmas.Bool.{both_ways, cases_lt, ltb-true, lt-ltb, le-leb, eqb-true, eq-eqb, ne_eqb, and_parts, and_from, and_right, or_cases}
use Rattle.std.proofs.lemmas.Bool.Decides.{nat_tests}
use Rattle.std.specs.Prelude.{max, nat_eq, nat_lt, nat_le, not, ◌&&◌, if◌then◌else◌}
use Rattle.hk_words.specs.declared.geometry.Geometry.{Geometry}
use Rattle.hk_words.specs.Geometry.{tasks, numbers}
use Rattle.hk_words.specs.Layout as layout
use Rattle.hk_model.specs.View.{upd}
use Rattle.hk_model.proofs.Updates.{upd_same, upd_other, is_upd}
use Rattle.hk_core.specs.declared.flight.Flight.{Flight}
use Rattle.hk_core.specs.declared.spot.Spot.{Spot}
use Rattle.hk_core.specs.declared.spot.Line.{Line}
use Rattle.hk_core.specs.declared.spot.Line.TheVariants as line
use Rattle.hk_core.specs.Collect.{current_space, next_list}
use Rattle.hk_core.specs.Counts.{count_below}
use Rattle.hk_core.specs.View.{Words, Names, Contents, size_at}
use Rattle.hk_core.specs.Flights as f
use Rattle.hk_core.specs.Flights.{Hand, no_claim, to_reserve, to_link}
use Rattle.hk_core.specs.Lines as l
use Rattle.hk_core.specs.Colours.{Spaces, spaces_of, Shades, shades_of, held_by, is_fresh, is_within, white_by, grey_by, black_by, black_frame_by, kept_by, NamesNoWhite, IsNullOrMarked}
use Rattle.hk_core.specs.Facts as fact
use Rattle.hk_core.specs.Facts.{IsRecent, IsUnread, IsOwn, IsMoved, IsSettled, HoldsClaim, HoldsRange}
use Rattle.hk_core.specs.Lawful.{Facts}
use Rattle.hk_core.proofs.Waiting.{held_else, linking_else, free_not_reserving, free_not_linking}
use Rattle.hk_core.proofs.Update.{upd_cases, upd_own}
use Rattle.hk_core.proofs.Counts.{count_more}
use Rattle.hk_core.proofs.kinds.Seats.{NewsFacts, own_not_kept, kept_means}
use Rattle.hk_core.proofs.kinds.WriteCell.{ShadesMean, SpacesApart, shades_mean}

-- MARKS THAT RISE

module _ (mark : ℕ → ℕ) (n cycle : ℕ) (low : mark n < cycle) where
  -- a mark that is at least so much stays so
  risen_at_least : (m c : ℕ) → c ≤ mark m → c ≤ upd mark n cycle m
  risen_at_least m c h = elim (upd_cases mark n cycle m) [
    | inl (e, u) ↦ let same : mark m ≡ mark n = ap mark e in omega arith
    | inr (d, u) ↦ omega arith
  ]

  -- a mark that is the cycle stays it
  risen_equal : (m : ℕ) → mark m ≡ cycle → upd mark n cycle m ≡ cycle
  risen_equal m h = elim (upd_cases mark n cycle m) [ inl (e, u) ↦ u | inr (d, u) ↦ u ∙ h ]

  -- a mark below the cycle, or above it, was what it is
  risen_below : (m : ℕ) → upd mark n cycle m < cycle → mark m < cycle
  risen_below m h = elim (upd_cases mark n cycle m) [ inl (e, u) ↦ absurd (omega arith) | inr (d, u) ↦ omega arith ]

  risen_above : (m : ℕ) → cycle < upd mark n cycle m → cycle < mark m
  risen_above m h = elim (upd_cases mark n cycle m) [ inl (e, u) ↦ absurd (omega arith) | inr (d, u) ↦ omega arith ]

  -- what is claimed stays claimed
  risen_null : (word : ℕ) → IsNullOrMarked cycle mark word → IsNullOrMarked cycle (upd mark n cycle) word
  risen_null word (inl null) = inl null
  risen_null word (inr marked) = inr (risen_equal (layout.reference_number word) marked)

-- what isn't white stays so, and what is grey
dark_stays : (white : ℕ → Bool) (n word : ℕ) → NamesNoWhite white word → NamesNoWhite (upd white n false) word
dark_stays white n word (inl null) = inl null
dark_stays white n word (inr dark) = inr (not_white (layout.reference_number word) dark)
  where
    not_white : (m : ℕ) → white m ≡ false → upd white n false m ≡ false
    not_white m dark = elim (upd_cases white n false m) [ inl (e, u) ↦ u | inr (d, u) ↦ u ∙ dark ]

grey_stays : (grey : ℕ → Bool) (n m : ℕ) → grey m ≡ true → upd grey n true m ≡ true
grey_stays grey n m dark = elim (upd_cases grey n true m) [ inl (e, u) ↦ u | inr (d, u) ↦ u ∙ dark ]

-- a kept number with a mark below the cycle has the mark of the cycle before, and the collector looks for objects
fresh_below : (cycle : ℕ) (marking : Bool) (mark : ℕ) → mark < cycle → is_fresh cycle marking mark ≡ true → (marking ≡ true) × (mark + 1 ≡ cycle)
fresh_below cycle marking mark low fresh = elim (or_cases (nat_eq mark cycle) (marking && nat_eq (mark + 1) cycle) fresh) [
  | inl e ↦ let same : mark ≡ cycle = eqb-true _ _ e in absurd (omega arith)
  | inr e ↦ let p = and_parts _ _ e in (p.0, eqb-true _ _ p.1)
]

-- while the collector looks for objects, the marks say nothing of the sweep
in_step_kept : (length cycle entries : ℕ) (mark other next : ℕ → ℕ) (ln : Line) → l.is_marking ln ≡ true → l.InStep length cycle entries mark next ln
    → l.InStep length cycle entries other next ln
unfolding l.is_marking
in_step_kept length cycle entries mark other next line.Rest e h = absurd (cc)
in_step_kept length cycle entries mark other next (line.Frame s) e h = h
in_step_kept length cycle entries mark other next (line.Register s r stage) e h = h
in_step_kept length cycle entries mark other next (line.FrameTrade s) e h = h
in_step_kept length cycle entries mark other next line.Scan e h = h
in_step_kept length cycle entries mark other next line.Link e h = h
in_step_kept length cycle entries mark other next line.Look e h = h
in_step_kept length cycle entries mark other next (line.Cell i stage) e h = h
in_step_kept length cycle entries mark other next line.ObjectTrade e h = h
in_step_kept length cycle entries mark other next (line.Pass n) e h = h
in_step_kept length cycle entries mark other next (line.PassHead n) e h = h
in_step_kept length cycle entries mark other next (line.Sweep n stage) e h = absurd (cc)
in_step_kept length cycle entries mark other next (line.Clear i) e h = absurd (cc)
in_step_kept length cycle entries mark other next line.Reset e h = absurd (cc)

-- ALL FACTS, WHERE THE MARK RISES

-- the words after the mark of a number has risen to the cycle
abbrev pub marked_words : Words → ℕ → Words
marked_words w n = record w { mark = upd w.mark n w.cycle }

-- what many facts read then: the number is white no more, and grey
abbrev pub greyed : Shades → ℕ → Shades
greyed sh n = record sh { white = upd sh.white n false; grey = upd sh.grey n true }

-- a number of a claim in hand is grey
claimed_is_grey : (g : Geometry) (z : Spaces) (cycle : ℕ) (grey : ℕ → Bool) (size cell : ℕ → ℕ) (range : ℕ → Option ℕ) (hand : ℕ → Hand)
    → fact.ClaimsUnreserved g cycle grey range hand → fact.ClaimsUnlinked g z cycle grey size cell range hand → (j item : ℕ) → j ≤ tasks g → f.item_in (hand j) ≡ Some item
    → grey (layout.reference_number item) ≡ true
unfolding f.item_in
claimed_is_grey g z cycle grey size cell range hand unreserved unlinked j item within e = by_hand (hand j) refl e
  where
    by_hand : (a : Hand) → hand j ≡ a → f.item_in a ≡ Some item → grey (layout.reference_number item) ≡ true
    by_hand no_claim is some = absurd (cc)
    by_hand (to_reserve other c) is some =
        let same : other ≡ item = cc in
        ap (λ k. grey (layout.reference_number k)) (sym same) ∙ (unreserved j other c within is).is_grey
    by_hand (to_link other c offset) is some =
        let same : other ≡ item = cc in
        ap (λ k. grey (layout.reference_number k)) (sym same) ∙ (unlinked j other c offset within is).is_grey

-- the claim in hand that is made, and another
reserving : (item cycle other other_cycle : ℕ) → to_reserve item cycle ≡ to_reserve other other_cycle → (item ≡ other) × (cycle ≡ other_cycle)
reserving item cycle other other_cycle e = (cc, cc)

reserve_no_link : {A : Type 0} (item cycle other other_cycle offset : ℕ) → to_reserve item cycle ≡ to_link other other_cycle offset → A
reserve_no_link item cycle other other_cycle offset e = absurd (cc)

reserve_item : (item cycle other : ℕ) → f.item_in (to_reserve item cycle) ≡ Some other → item ≡ other
unfolding f.item_in
reserve_item item cycle other e = cc

is_reserving : (item cycle : ℕ) → f.is_to_reserve (to_reserve item cycle) ≡ true
unfolding f.is_to_reserve
is_reserving item cycle = refl

none_to_reserve : (a : Hand) → a ≡ no_claim → f.is_to_reserve a ≡ false
unfolding f.is_to_reserve
none_to_reserve a e = ap f.is_to_reserve e

-- a kept number with a mark below the cycle; where the pass finds no grey number ahead any more, there is none
pub record IsWhite (g : Geometry) (w : Words) (sh : Shades) (flight : ℕ → Flight) (ln : Line) (n : ℕ) : Type 0 where
  pub is_kept : sh.kept n ≡ true
  pub low : w.mark n < w.cycle
  pub unsettled : (p : ℕ) → l.passing ln ≡ Some p → ¬ IsSettled g w.cycle sh.white sh.grey w.register flight

module _ (g : Geometry) (w : Words) (z : Spaces) (sh : Shades) (flight : ℕ → Flight) (begun : ℕ → ℕ) (hand : ℕ → Hand) (t : Spot)
    (names : Names) (contents : Contents) (range : ℕ → Option ℕ) (h : Facts g w z sh flight begun hand t names contents range)
    (m : ShadesMean g w z sh flight t.line names) (n : ℕ) (o : IsWhite g w sh flight t.line n) where
  marking : l.is_marking t.line ≡ true
  marking = (fresh_below w.cycle (l.is_marking t.line) (w.mark n) o.low (m.kept n o.is_kept).is_fresh).0

  not_marked : (k : ℕ) → sh.grey k ≡ true → k ≢ n
  not_marked k e same =
      let marked : w.mark k ≡ w.cycle = (m.grey k e).of_cycle in
      let here : w.mark k ≡ w.mark n = ap w.mark same in
      let low = o.low in
      omega arith

  -- the number has no range
  no_range_yet : (x : ℕ) → range x ≢ Some n
  no_range_yet x e = elim (cases_lt x t.scan) [
    | inl lower ↦
        let marked : w.mark n ≡ w.cycle = (h.ranges_below_moved x n e lower).is_claimed in
        let low = o.low in
        omega arith
    | inr upper ↦ not_marked n (h.ranges_above_grey x n e (omega arith)).1 refl
  ]

  -- facts on marks
  raise_marks_above : fact.MarksAboveAreWritten g w.cycle (upd w.mark n w.cycle) (w.entry (next_list w.cycle)) (l.marked g t t.line)
  raise_marks_above k within above = h.marks_above_are_written k within (risen_above w.mark n w.cycle o.low k above)

  raise_unclaimed : fact.UnclaimedIsOld z w.cycle sh.kept w.place (upd w.mark n w.cycle) sh.size
  raise_unclaimed k kept low = h.unclaimed_is_old k kept (risen_below w.mark n w.cycle o.low k low)

  raise_below_moved : fact.RangesBelowMoved z w.cycle t.scan sh.kept w.place (upd w.mark n w.cycle) sh.size range
  raise_below_moved x k there lower =
      let a : IsMoved z w.cycle t.scan sh.kept w.place w.mark sh.size x k = h.ranges_below_moved x k there lower in
      record { is_kept = a.is_kept; is_claimed = risen_equal w.mark n w.cycle o.low k a.is_claimed; stands = a.stands; ends = a.ends }

  raise_unread : fact.UnreadFree g w.cycle w.objects w.accessors w.place w.version (upd w.mark n w.cycle) (w.entry (current_space w.cycle))
  raise_unread j from below =
      let a : IsUnread g w.cycle w.accessors w.place w.version w.mark (w.entry (current_space w.cycle) j) = h.unread_free j from below in
      record { within = a.within; no_header = a.no_header; is_marked = risen_equal w.mark n w.cycle o.low (w.entry (current_space w.cycle) j) a.is_marked }

  raise_own : fact.OwnEntries g w.accessors w.place w.version (upd w.mark n w.cycle) w.entry flight
  raise_own s below making =
      let between : NewsFacts g w sh flight = assumption in
      let k = fact.own_entry w.entry (flight s) in
      let a : IsOwn g w.accessors w.place w.version w.mark (flight s) k = h.own_entries s below making in
      let differ : k ≢ n = own_not_kept g w sh names t.line flight m.kept between s n below making o.is_kept in
      record { within = a.within; is_marked = upd_other w.mark n w.cycle k differ ∙ a.is_marked; no_accessors = a.no_accessors; no_version = a.no_version; placed = a.placed }

  raise_written : fact.WrittenMarked w.cycle (l.marked g t t.line) (upd w.mark n w.cycle) (w.entry (next_list w.cycle))
  raise_written j below =
      let k = w.entry (next_list w.cycle) j in
      let a : w.mark k ≡ w.cycle + 1 = h.written_marked j below in
      upd_other w.mark n w.cycle k (λ e. let same : w.mark k ≡ w.mark n = ap w.mark e in let low = o.low in omega arith) ∙ a

  raise_swept : fact.SweptMarked w.cycle (upd w.mark n w.cycle) t.line
  raise_swept p k e below = risen_at_least w.mark n w.cycle o.low k w.cycle (h.swept_marked p k e below)

  raise_claims_last : fact.ClaimsLast g (upd w.mark n w.cycle) flight
  raise_claims_last s below e = risen_at_least w.mark n w.cycle o.low _ _ (h.claims_last s below e)

  raise_registers : fact.RegistersPassed g t.line w.cycle t.first w.frame_version w.register (upd w.mark n w.cycle)
  raise_registers s passed r e same below = risen_null w.mark n w.cycle o.low (w.register s r) (h.registers_passed s passed r e same below)

  raise_cell : fact.CellClaimed t.line w.cycle t.item t.cell (upd w.mark n w.cycle)
  raise_cell i e below = risen_null w.mark n w.cycle o.low t.cell (h.cell_claimed i e below)

  raise_cells : fact.CellsPassed t t.line w.cycle t.first t.item w.version (upd w.mark n w.cycle) w.cell
  raise_cells passed i e same below fits = risen_null w.mark n w.cycle o.low _ (h.cells_passed passed i e same below fits)

  -- facts on shades
  raise_black : fact.BlackLeadsToNoWhite (upd sh.white n false) sh.black sh.kept names contents.link
  raise_black k b kept black borne i child below there = not_white (names.number child) (h.black_leads_to_no_white k b kept black borne i child below there)
    where
      not_white : (k : ℕ) → sh.white k ≡ false → upd sh.white n false k ≡ false
      not_white k dark = elim (upd_cases sh.white n false k) [ inl (e, u) ↦ u | inr (d, u) ↦ u ∙ dark ]

  raise_black_frame : fact.BlackFrameHasNoWhite g (upd sh.white n false) sh.black_frame w.register
  raise_black_frame s r a b black = dark_stays sh.white n (w.register s r) (h.black_frame_has_no_white s r a b black)

  raise_loaded : fact.LoadedWhiteFromNoBlack g (upd sh.white n false) sh.black flight
  raise_loaded s a e black = dark_stays sh.white n (flight s).item (h.loaded_white_from_no_black s a e black)

  raise_entered : fact.EnteredWhiteInNoBlackFrame g (upd sh.white n false) sh.black_frame flight
  raise_entered s a e black = dark_stays sh.white n (flight s).entered (h.entered_white_in_no_black_frame s a e black)

  raise_above_grey : fact.RangesAboveGrey t.scan sh.kept (upd sh.grey n true) range
  raise_above_grey x k there upper = let a = h.ranges_above_grey x k there upper in (a.0, grey_stays sh.grey n k a.1)

  raise_pass : fact.PassMeetsGrey g t.line (upd sh.grey n true) (IsSettled g w.cycle (upd sh.white n false) (upd sh.grey n true) w.register flight)
  raise_pass p e = elim (h.pass_meets_grey p e) [
    | inl (k, a, b, c) ↦ inl (k, a, b, grey_stays sh.grey n k c)
    | inr settled ↦ absurd (o.unsettled p e settled)
  ]

  raise_settled : fact.SettledFromSweep t.line (IsSettled g w.cycle (upd sh.white n false) (upd sh.grey n true) w.register flight)
  raise_settled done = absurd (both_ways _ done marking)

  -- facts on claims in hand
  module _ (k item : ℕ) (within : k ≤ tasks g) (free : hand k ≡ no_claim) (some : item ≢ 0) (is : layout.reference_number item ≡ n) where
    raise_few : fact.MarksFew g t.line w.cycle w.reserved (upd w.mark n w.cycle) (upd hand k (to_reserve item w.cycle))
    raise_few e =
        let below : n < numbers g = (m.kept n o.is_kept).within in
        let few : 2 * count_below (numbers g) (λ j. nat_eq (w.mark j) w.cycle) ≤ g.alloc + w.reserved + 2 * count_below (tasks g + 1) (λ j. f.is_to_reserve (hand j)) = h.marks_few e in
        let low = o.low in
        let marks : count_below (numbers g) (λ j. nat_eq (upd w.mark n w.cycle j) w.cycle) ≡ count_below (numbers g) (λ j. nat_eq (w.mark j) w.cycle) + 1 =
        count_more (λ v. nat_eq v w.cycle) w.mark n w.cycle (numbers g) below (ne_eqb (w.mark n) w.cycle (λ e. omega arith)) (eq-eqb w.cycle w.cycle refl) in
        let hands : count_below (tasks g + 1) (λ j. f.is_to_reserve (upd hand k (to_reserve item w.cycle) j)) ≡ count_below (tasks g + 1) (λ j. f.is_to_reserve (hand j)) + 1 =
        count_more f.is_to_reserve hand k (to_reserve item w.cycle) (tasks g + 1) (omega arith) (none_to_reserve (hand k) free) (is_reserving item w.cycle) in
        omega arith

    raise_unreserved : fact.ClaimsUnreserved g w.cycle (upd sh.grey n true) range (upd hand k (to_reserve item w.cycle))
    raise_unreserved j other c below e = elim (upd_cases hand k (to_reserve item w.cycle) j) [
      | inl (a, u) ↦
          let same = reserving item w.cycle other c (sym u ∙ e) in
          let number : layout.reference_number other ≡ n = ap (λ i. layout.reference_number i) (sym same.0) ∙ is in
          record { some = λ null. some (same.0 ∙ null); of_cycle = sym same.1; is_grey = ap (upd sh.grey n true) number ∙ upd_same sh.grey n true; unreserved = λ x r. no_range_yet x (r ∙ ap Some number) }
      | inr (d, u) ↦
          let old : HoldsClaim w.cycle sh.grey range other c = h.claims_unreserved j other c below (sym u ∙ e) in
          record { some = old.some; of_cycle = old.of_cycle; is_grey = grey_stays sh.grey n (layout.reference_number other) old.is_grey; unreserved = old.unreserved }
    ]

    raise_unlinked : fact.ClaimsUnlinked g z w.cycle (upd sh.grey n true) sh.size w.cell range (upd hand k (to_reserve item w.cycle))
    raise_unlinked j other c offset below e = elim (upd_cases hand k (to_reserve item w.cycle) j) [
      | inl (a, u) ↦ reserve_no_link item w.cycle other c offset (sym u ∙ e)
      | inr (d, u) ↦
          let old : HoldsRange z w.cycle sh.grey sh.size w.cell range other c offset = h.claims_unlinked j other c offset below (sym u ∙ e) in
          record {
            some = old.some;
            of_cycle = old.of_cycle;
            is_grey = grey_stays sh.grey n (layout.reference_number other) old.is_grey;
            has_range = old.has_range;
            fits = old.fits;
            unlinked = old.unlinked;
          }
    ]

    -- nobody else holds a claim of the number
    not_claimed : (j other : ℕ) → j ≤ tasks g → f.item_in (hand j) ≡ Some other → layout.reference_number other ≢ n
    not_claimed j other below e = not_marked (layout.reference_number other) (claimed_is_grey g z w.cycle sh.grey sh.size w.cell range hand h.claims_unreserved h.claims_unlinked j other below e)

    raise_apart : fact.ClaimsApart g (upd hand k (to_reserve item w.cycle))
    raise_apart i j a b differ one other p q = elim (upd_cases hand k (to_reserve item w.cycle) i) [
      | inl (e, u) ↦ elim (upd_cases hand k (to_reserve item w.cycle) j) [
        | inl (d, v) ↦ absurd (differ (e ∙ sym d))
        | inr (d, v) ↦
            let same : item ≡ one = reserve_item item w.cycle one (ap f.item_in (sym u) ∙ p) in
            λ r. not_claimed j other b (ap f.item_in (sym v) ∙ q) (sym r ∙ ap (λ i. layout.reference_number i) (sym same) ∙ is)
      ]
      | inr (e, u) ↦ elim (upd_cases hand k (to_reserve item w.cycle) j) [
        | inl (d, v) ↦
            let same : item ≡ other = reserve_item item w.cycle other (ap f.item_in (sym v) ∙ q) in
            λ r. not_claimed i one a (ap f.item_in (sym u) ∙ p) (r ∙ ap (λ i. layout.reference_number i) (sym same) ∙ is)
        | inr (d, v) ↦ h.claims_apart i j a b differ one other (ap f.item_in (sym u) ∙ p) (ap f.item_in (sym v) ∙ q)
      ]
    ]

    raise_grey_waits : fact.GreyWaits g (upd sh.grey n true) range (upd hand k (to_reserve item w.cycle))
    raise_grey_waits j below e = elim (upd_cases sh.grey n true j) [
      | inl (same, u) ↦ inr (k, item, w.cycle, within, upd_same hand k (to_reserve item w.cycle), is ∙ sym same)
      | inr (differ, u) ↦ elim (h.grey_waits j below (sym u ∙ e)) [
        | inl there ↦ inl there
        | inr other ↦ inr (held_else g hand k (to_reserve item w.cycle) j (free_not_reserving (hand k) free) other)
      ]
    ]

    raise_unlinked_waits : fact.UnlinkedWaits g z sh.size w.cell range (upd hand k (to_reserve item w.cycle))
    raise_unlinked_waits x j there fits e =
        linking_else g hand k (to_reserve item w.cycle) x (free_not_linking (hand k) free x) (h.unlinked_waits x j there fits e)

    -- all facts hold after a white number was claimed
    pub raise_facts : Facts g (marked_words w n) z (greyed sh n) flight begun (upd hand k (to_reserve item w.cycle)) t names contents range
    raise_facts =
        let a = raise_marks_above in
        let b = raise_unclaimed in
        let c = raise_below_moved in
        let d = raise_unread in
        let e = raise_own in
        let i = raise_written in
        let j = raise_swept in
        let p = raise_claims_last in
        let q = raise_registers in
        let r = raise_cell in
        let s = raise_cells in
        let u = raise_black in
        let v = raise_black_frame in
        let x = raise_loaded in
        let y = raise_entered in
        let a' = raise_above_grey in
        let b' = raise_pass in
        let c' = raise_settled in
        let d' = raise_few in
        let e' = raise_unreserved in
        let i' = raise_unlinked in
        let j' = raise_apart in
        let q' = raise_grey_waits in
        let r' = raise_unlinked_waits in
        let p' : fact.SweepInStep g w.cycle t.entries (upd w.mark n w.cycle) (w.entry (next_list w.cycle)) t.line =
        in_step_kept _ w.cycle t.entries w.mark (upd w.mark n w.cycle) (w.entry (next_list w.cycle)) t.line marking h.sweep_in_step in
        assumption

-- WHAT MANY FACTS READ

-- a place of the old space is none of the current one
old_not_current : (z : Spaces) (place : ℕ) → SpacesApart z → z.old ≤ place → place < z.old + (z.live + z.alloc) → is_within z z.current place ≡ false
old_not_current z place apart after before =
    not_within z.current (z.current + (z.live + z.alloc)) place (elim apart [ inl a ↦ inl (omega arith) | inr a ↦ inr (omega arith) ])
  where
    not_within : (first last place : ℕ) → (place < first) ⊎ (last ≤ place) → (nat_le first place && nat_lt place last) ≡ false
    not_within first last place (inl e) = grind (arith, nat_tests)
    not_within first last place (inr e) = grind (arith, nat_tests)

module _ (g : Geometry) (w : Words) (flight : ℕ → Flight) (ln : Line) (names : Names) (n : ℕ) where
  -- a kept number that wasn't claimed is in the old space
  pub record StandsOld : Type 0 where
    pub low : w.mark n < w.cycle
    pub fresh : is_fresh w.cycle (l.is_marking ln) (w.mark n) ≡ true
    pub placed : w.place n ≢ 0
    pub after : (spaces_of g w.cycle).old ≤ w.place n
    pub before : w.place n < (spaces_of g w.cycle).old + (g.live + g.alloc)
    pub apart : SpacesApart (spaces_of g w.cycle)

  module _ (o : StandsOld) where
    white_raised : white_by w.cycle w.place (upd w.mark n w.cycle) ≡ upd (white_by w.cycle w.place w.mark) n false
    white_raised = is_upd {A = Bool} (white_by w.cycle w.place (upd w.mark n w.cycle)) (white_by w.cycle w.place w.mark) n false here (λ k d. rw (upd_other w.mark n w.cycle k d) refl)
      where
        no_less : (c : ℕ) → nat_lt c c ≡ false
        no_less c = grind (arith, nat_tests)

        here : (not (nat_eq (w.place n) 0) && nat_lt (upd w.mark n w.cycle n) w.cycle) ≡ false
        here = rw (upd_same w.mark n w.cycle, no_less w.cycle) (and_right _ false refl)

    grey_raised : grey_by (spaces_of g w.cycle) w.cycle w.place (upd w.mark n w.cycle) ≡ upd (grey_by (spaces_of g w.cycle) w.cycle w.place w.mark) n true
    grey_raised = is_upd {A = Bool} (grey_by (spaces_of g w.cycle) w.cycle w.place (upd w.mark n w.cycle)) (grey_by (spaces_of g w.cycle) w.cycle w.place w.mark) n true here
        (λ k d. rw (upd_other w.mark n w.cycle k d) refl)
      where
        here : (nat_eq (upd w.mark n w.cycle n) w.cycle && is_within (spaces_of g w.cycle) (spaces_of g w.cycle).old (w.place n)) ≡ true
        here = rw (upd_same w.mark n w.cycle) (and_from _ _ (eq-eqb w.cycle w.cycle refl) (and_from _ _ (le-leb _ _ o.after) (lt-ltb _ _ o.before)))

    black_raised : black_by (spaces_of g w.cycle) w.cycle w.place (upd w.mark n w.cycle) ≡ black_by (spaces_of g w.cycle) w.cycle w.place w.mark
    black_raised = λ i k. at k i
      where
        at : (k : ℕ) → (nat_eq (upd w.mark n w.cycle k) w.cycle && is_within (spaces_of g w.cycle) (spaces_of g w.cycle).current (w.place k))
            ≡ (nat_eq (w.mark k) w.cycle && is_within (spaces_of g w.cycle) (spaces_of g w.cycle).current (w.place k))
        at k = elim (upd_cases w.mark n w.cycle k) [
          | inl (e, u) ↦ rw (e, old_not_current (spaces_of g w.cycle) (w.place n) o.apart o.after o.before) (and_right _ false refl ∙ sym (and_right _ false refl))
          | inr (d, u) ↦ rw u refl
        ]

    kept_raised : (held : ℕ → Bool) → kept_by g w.cycle (l.is_marking ln) held names.bearer w.place (upd w.mark n w.cycle) ≡ kept_by g w.cycle (l.is_marking ln) held names.bearer w.place w.mark
    kept_raised held = λ i k. at k i
      where
        at : (k : ℕ) → kept_by g w.cycle (l.is_marking ln) held names.bearer w.place (upd w.mark n w.cycle) k ≡ kept_by g w.cycle (l.is_marking ln) held names.bearer w.place w.mark k
        at k = elim (upd_cases w.mark n w.cycle k) [
          | inl (e, u) ↦ rw (u, e, o.fresh, eq-eqb w.cycle w.cycle refl) refl
          | inr (d, u) ↦ rw u refl
        ]

    pub shades_raised : shades_of g (marked_words w n) flight ln names ≡ greyed (shades_of g w flight ln names) n
    unfolding shades_of
    shades_raised = λ i. record {
      white = white_raised i;
      grey = grey_raised i;
      black = black_raised i;
      black_frame = black_frame_by w.cycle w.frame_cycle;
      kept = kept_raised (held_by g flight) i;
      size = size_at names;
    }

-- A CLAIM

-- the words after a claim of a number for a cycle, and what many facts read then; the claim in hand of whoever claimed
abbrev pub claim_words : Words → (n c : ℕ) → Words
claim_words w n c = record w { mark = upd w.mark n (max (w.mark n) c) }

abbrev pub claim_shades : Shades → ℕ → Bool → Shades
claim_shades sh n first = if first then greyed sh n else sh

abbrev pub claim_hand : (item c : ℕ) → Bool → Hand
claim_hand item c first = if first then to_reserve item c else no_claim

-- what a claim of a number for a cycle asks: the number is kept, the cycle is this one or the one before, and where the pass
-- finds no grey number ahead any more, the number isn't white
pub record CanClaim (g : Geometry) (w : Words) (sh : Shades) (flight : ℕ → Flight) (ln : Line) (n c : ℕ) : Type 0 where
  pub is_kept : sh.kept n ≡ true
  pub recent : IsRecent w.cycle c
  pub unsettled : w.mark n < w.cycle → (p : ℕ) → l.passing ln ≡ Some p → ¬ IsSettled g w.cycle sh.white sh.grey w.register flight

not_low : (a b : ℕ) → nat_lt a b ≡ false → b ≤ a
not_low a b e = grind (arith, nat_tests)

-- a kept number with a mark below the cycle of a claim: the claim is of this cycle
claim_of_cycle : (cycle : ℕ) (marking : Bool) (mark c : ℕ) → IsRecent cycle c → is_fresh cycle marking mark ≡ true → mark < c → c ≡ cycle
claim_of_cycle cycle marking mark c recent fresh low =
    elim (or_cases (nat_eq mark cycle) (marking && nat_eq (mark + 1) cycle) fresh) [
      | inl e ↦ let same : mark ≡ cycle = eqb-true mark cycle e in elim recent [ inl a ↦ a | inr a ↦ absurd (omega arith) ]
      | inr e ↦ let same : mark + 1 ≡ cycle = eqb-true (mark + 1) cycle (and_parts marking (nat_eq (mark + 1) cycle) e).1 in elim recent [ inl a ↦ a | inr a ↦ absurd (omega arith) ]
    ]

module _ (g : Geometry) (w : Words) (z : Spaces) (sh : Shades) (flight : ℕ → Flight) (begun : ℕ → ℕ) (hand : ℕ → Hand) (t : Spot)
    (names : Names) (contents : Contents) (range : ℕ → Option ℕ) (h : Facts g w z sh flight begun hand t names contents range)
    (m : ShadesMean g w z sh flight t.line names) (n c : ℕ) (o : CanClaim g w sh flight t.line n c) (k item : ℕ) (within : k ≤ tasks g) (free : hand k ≡ no_claim) (some : item ≢ 0) (is : layout.reference_number item ≡ n) where
  -- all facts hold after a claim, for whoever holds no claim in hand
  pub claim_facts : Facts g (claim_words w n c) z (claim_shades sh n (nat_lt (w.mark n) c)) flight begun (upd hand k (claim_hand item c (nat_lt (w.mark n) c))) t names contents range
  claim_facts = by_mark (nat_lt (w.mark n) c) refl
    where
      by_mark : (first : Bool) → nat_lt (w.mark n) c ≡ first
          → Facts g (claim_words w n c) z (claim_shades sh n first) flight begun (upd hand k (claim_hand item c first)) t names contents range
      by_mark true e =
          let low : w.mark n < c = ltb-true _ _ e in
          let same : c ≡ w.cycle = claim_of_cycle w.cycle (l.is_marking t.line) (w.mark n) c o.recent (m.kept n o.is_kept).is_fresh low in
          let top : max (w.mark n) c ≡ w.cycle = omega arith in
          let white : IsWhite g w sh flight t.line n = record { is_kept = o.is_kept; low = omega arith; unsettled = o.unsettled (omega arith) } in
          rw (top, same) (raise_facts g w z sh flight begun hand t names contents range h m n white k item within free some is)
      by_mark false e =
          let high : c ≤ w.mark n = not_low (w.mark n) c e in
          let top : max (w.mark n) c ≡ w.mark n = omega arith in
          rw (top, upd_own w.mark n (w.mark n) refl, upd_own hand k no_claim (sym free)) h

words_some : (g : Geometry) (w : Words) (flight : ℕ → Flight) (ln : Line) (names : Names) (n : ℕ) → 0 < (shades_of g w flight ln names).size n
unfolding shades_of size_at
words_some g w flight ln names n = omega arith

-- what many facts read after a claim of a kept number
pub shades_claimed : (g : Geometry) (w : Words) (flight : ℕ → Flight) (ln : Line) (names : Names) (n c : ℕ)
    → fact.UnclaimedIsOld (spaces_of g w.cycle) w.cycle (shades_of g w flight ln names).kept w.place w.mark (shades_of g w flight ln names).size
    → (shades_of g w flight ln names).kept n ≡ true → IsRecent w.cycle c
    → shades_of g (claim_words w n c) flight ln names ≡ claim_shades (shades_of g w flight ln names) n (nat_lt (w.mark n) c)
shades_claimed g w flight ln names n c unclaimed kept recent = by_mark (nat_lt (w.mark n) c) refl
  where
    by_mark : (first : Bool) → nat_lt (w.mark n) c ≡ first → shades_of g (claim_words w n c) flight ln names ≡ claim_shades (shades_of g w flight ln names) n first
    by_mark true e =
        let low : w.mark n < c = ltb-true _ _ e in
        let means = kept_means g w flight ln names n kept in
        let same : c ≡ w.cycle = claim_of_cycle w.cycle (l.is_marking ln) (w.mark n) c recent means.is_fresh low in
        let top : max (w.mark n) c ≡ w.cycle = omega arith in
        let old = unclaimed n kept (omega arith) in
        let before : w.place n + (shades_of g w flight ln names).size n ≤ (spaces_of g w.cycle).old + (g.live + g.alloc) = old.before in
        let some = words_some g w flight ln names n in
        rw top (shades_raised g w flight ln names n (record { low = omega arith; fresh = means.is_fresh; placed = means.placed; after = old.after; before = omega arith; apart = (shades_mean g w flight ln names).spaces }))
    by_mark false e =
        let high : c ≤ w.mark n = not_low (w.mark n) c e in
        let top : max (w.mark n) c ≡ w.mark n = omega arith in
        rw (top, upd_own w.mark n (w.mark n) refl) refl
