-- Whoever has reserved a place that fits writes the reference of the object there, as the link word of its range. The word was
-- 0, and it is in no object: the range is ahead of the scan, where nothing was moved yet.
use Rattle.std.proofs.Common.{◌≡◌, ◌≢◌, ◌⊎◌, ℕ, zero, suc, ◌+◌, ◌-◌, ◌*◌, ◌%◌, ◌<◌, ◌≤◌, Bool, true, false, inl, inr, refl, sym, ◌∙◌, ap, arith, Option, Some, None}
use Rattle.std.proofs.lemmas.Bool.{both_ways, cases_eq, cases_lt, and_parts, and_from, leb-true}
use Rattle.std.proofs.lemmas.Bool.Decides.{nat_tests}
use Rattle.std.specs.Prelude.{nat_eq, nat_le, not, ◌&&◌}
use Rattle.hk_words.specs.declared.geometry.Geometry.{Geometry}
use Rattle.hk_words.specs.declared.call.Call.{Call}
use Rattle.hk_words.specs.declared.call.Call.TheVariants as call
use Rattle.hk_words.specs.Geometry.{tasks, numbers}
use Rattle.hk_words.specs.Layout as layout
use Rattle.hk_words.specs.Row.{place_at}
use Rattle.hk_model.specs.View.{upd}
use Rattle.hk_model.proofs.Updates.{upd_same, upd_other}
use Rattle.hk_core.specs.declared.flight.Flight.{Flight}
use Rattle.hk_core.specs.declared.spot.Spot.{Spot}
use Rattle.hk_core.specs.declared.spot.Line.{Line}
use Rattle.hk_core.specs.declared.spot.Line.TheVariants as line
use Rattle.hk_core.specs.Collect.{current_space}
use Rattle.hk_core.specs.Counts.{count_below}
use Rattle.hk_core.specs.Step.{new_place, reference_size}
use Rattle.hk_core.specs.View.{Words, Names, Contents, reference_at}
use Rattle.hk_core.specs.Flights as f
use Rattle.hk_core.specs.Flights.{Hand, no_claim, to_reserve, to_link}
use Rattle.hk_core.specs.Lines as l
use Rattle.hk_core.specs.Colours.{Spaces, Shades, IsNullOrMarked}
use Rattle.hk_core.specs.Facts as fact
use Rattle.hk_core.specs.Facts.{HoldsRange, ObjectBehind, FoundRoom}
use Rattle.hk_core.specs.Lawful.{Facts}
use Rattle.hk_core.proofs.Waiting.{held_else, linking_else, linking_not_reserving, linking_not_elsewhere}
use Rattle.hk_core.proofs.Update.{upd_cases, unwritten}
use Rattle.hk_core.proofs.Counts.{count_kept}
use Rattle.hk_core.proofs.kinds.Read.{ShapesFit}
use Rattle.hk_core.proofs.kinds.WriteCell.{ShadesMean, some_words, not_grey, IsMoving, CellFacts, cell_words, attempt_moves, loaded_moves, cleared_marks, reference_parts, size_of_reference}
use Rattle.hk_core.proofs.kinds.Reserve.{marking_is_busy, grey_is_marking}
use Rattle.hk_core.proofs.Shared.{never_both, one_value, size_borne}

-- what a link asks of whoever holds the claim: the reference is that of the object of its number, and the current space is one
-- of the two of the geometry
pub record CanLink (g : Geometry) (cycle : ℕ) (z : Spaces) (names : Names) (hand : ℕ → Hand) (k item c offset : ℕ) : Type 0 where
  pub within : k ≤ tasks g
  pub holds : hand k ≡ to_link item c offset
  pub shows : item ≡ reference_at names (layout.reference_number item)
  pub current : z.current ≡ place_at g (current_space cycle) 0
  pub live : z.live ≡ g.live

-- THE CLAIM IN HAND

none_reserves : {A : Type 0} (a : Hand) (item c : ℕ) → a ≡ no_claim → a ≡ to_reserve item c → A
none_reserves a item c e h = absurd (cc)

none_links : {A : Type 0} (a : Hand) (item c offset : ℕ) → a ≡ no_claim → a ≡ to_link item c offset → A
none_links a item c offset e h = absurd (cc)

none_has_item : {A : Type 0} (a : Hand) (item : ℕ) → a ≡ no_claim → f.item_in a ≡ Some item → A
unfolding f.item_in
none_has_item a item e h = let none : f.item_in a ≡ None = ap f.item_in e in never_both (f.item_in a) item none h

item_to_link : (a : Hand) (item c offset : ℕ) → a ≡ to_link item c offset → f.item_in a ≡ Some item
unfolding f.item_in
item_to_link a item c offset e = ap f.item_in e

neither_reserves : (a : Hand) (item c offset : ℕ) → a ≡ to_link item c offset → f.is_to_reserve no_claim ≡ f.is_to_reserve a
unfolding f.is_to_reserve
neither_reserves a item c offset e = sym (ap f.is_to_reserve e)

-- A NEW THAT MAKES AN OBJECT HAS ROOM

making_has_room : (x : Flight) → f.IsInStep x → f.is_making x ≡ true → f.has_room x ≡ true
unfolding f.is_making f.has_room f.has_raised f.is_new_at
making_has_room x step making = by_call x.call x.place x.full x.raised step making
  where
    wider : (n : ℕ) → (nat_le 4 n && nat_le n 6) ≡ true → (nat_le 4 n && nat_le n 7) ≡ true
    wider n h = grind (arith, nat_tests)

    not_full : (b : Bool) → not b ≡ true → b ≡ false
    not_full true e = absurd (cc)
    not_full false e = refl

    by_call : (call : Call) (place : ℕ) (full raised : Bool) → f.IsInStepAt call place full raised → (f.is_new_at 4 6 call place && not full) ≡ true
        → ((f.is_new_at 4 7 call place && raised) && not full) ≡ true
    by_call (call.Get reg field) place full raised step e = absurd (cc)
    by_call (call.Put reg field value) place full raised step e = absurd (cc)
    by_call (call.Load dest reg field) place full raised step e = absurd (cc)
    by_call (call.Store reg field from) place full raised step e = absurd (cc)
    by_call (call.Move dest from) place full raised step e = absurd (cc)
    by_call (call.Clear dest) place full raised step e = absurd (cc)
    by_call (call.New dest shape) place full raised step e =
        let p = and_parts _ _ e in
        let late = and_parts _ _ p.0 in
        and_from _ _ (and_from _ _ (wider place p.0) (step.raised_by_then (leb-true 4 place late.0) (not_full full p.1))) p.1
    by_call (call.Same a b) place full raised step e = absurd (cc)
    by_call (call.IsNull reg) place full raised step e = absurd (cc)

-- the words of a New lie in the area for allocation of a space, and a place of the area for evacuation of a space isn't one of
-- them
new_elsewhere : (live alloc side words i other offset : ℕ) → side < 2 → other < 2 → words + i < alloc → offset < live
    → (1 + side * (live + alloc) + (live + words)) + i ≢ (1 + other * (live + alloc) + 0) + offset
new_elsewhere live alloc zero words i zero offset a b few below e = omega arith
new_elsewhere live alloc zero words i (suc zero) offset a b few below e = omega arith
new_elsewhere live alloc (suc zero) words i zero offset a b few below e = omega arith
new_elsewhere live alloc (suc zero) words i (suc zero) offset a b few below e = omega arith
new_elsewhere live alloc zero words i (suc (suc other)) offset a b few below e = omega arith
new_elsewhere live alloc (suc zero) words i (suc (suc other)) offset a b few below e = omega arith
new_elsewhere live alloc (suc (suc side)) words i other offset a b few below e = omega arith

-- LINES

-- a line with an item is at a range
item_at_range : (ln : Line) → l.has_item ln ≡ true → l.is_at_range ln ≡ true
unfolding l.has_item l.is_at_range
item_at_range line.Rest e = absurd (cc)
item_at_range (line.Frame s) e = absurd (cc)
item_at_range (line.Register s r stage) e = absurd (cc)
item_at_range (line.FrameTrade s) e = absurd (cc)
item_at_range line.Scan e = absurd (cc)
item_at_range line.Link e = absurd (cc)
item_at_range line.Look e = refl
item_at_range (line.Cell j stage) e = refl
item_at_range line.ObjectTrade e = refl
item_at_range (line.Pass n) e = absurd (cc)
item_at_range (line.PassHead n) e = absurd (cc)
item_at_range (line.Sweep n stage) e = absurd (cc)
item_at_range (line.Clear j) e = absurd (cc)
item_at_range line.Reset e = absurd (cc)

-- THE WORD AND THE OTHERS

module _ (g : Geometry) (w : Words) (z : Spaces) (sh : Shades) (flight : ℕ → Flight) (begun : ℕ → ℕ) (hand : ℕ → Hand) (t : Spot)
    (names : Names) (contents : Contents) (range : ℕ → Option ℕ) (h : Facts g w z sh flight begun hand t names contents range)
    (m : ShadesMean g w z sh flight t.line names) (fit : ShapesFit names) (k item c offset : ℕ) (o : CanLink g w.cycle z names hand k item c offset) where
  held : HoldsRange z w.cycle sh.grey sh.size w.cell range item c offset
  held = h.claims_unlinked k item c offset o.within o.holds

  offset_in_area : offset < z.live
  offset_in_area = let fits : offset + sh.size (layout.reference_number item) ≤ z.live = held.fits in let some = some_words g w z sh flight t.line names m (layout.reference_number item) in omega arith

  -- the range is ahead of the scan, so its number is kept, and the collector looks for objects
  not_scanned : t.scan ≤ offset
  not_scanned = elim (cases_lt offset t.scan) [
    | inl lower ↦ absurd (not_grey g w z sh flight t.line names m (layout.reference_number item) offset (h.ranges_below_moved offset (layout.reference_number item) held.has_range lower).stands offset_in_area held.is_grey)
    | inr upper ↦ omega arith
  ]

  linked_kept : sh.kept (layout.reference_number item) ≡ true
  linked_kept = (h.ranges_above_grey offset (layout.reference_number item) held.has_range not_scanned).0

  marking : l.is_marking t.line ≡ true
  marking = grey_is_marking g w.cycle sh.white sh.grey w.register flight t.line (layout.reference_number item) (m.kept (layout.reference_number item) linked_kept).within held.is_grey h.settled_from_sweep

  busy : l.is_resting t.line ≡ false
  busy = marking_is_busy t.line marking

  -- an object of the current space that stands below the words for allocation was moved to its range, which the scan has passed
  passed_range : (j y : ℕ) → sh.kept j ≡ true → w.place j ≡ z.current + y → y < z.live → y + sh.size j ≤ t.scan
  passed_range j y kept stands below =
      let there : range y ≡ Some j = h.moved_stands_in_range busy j y kept stands below in
      elim (cases_lt y t.scan) [
        | inl lower ↦ (h.ranges_below_moved y j there lower).ends
        | inr upper ↦ absurd (not_grey g w z sh flight t.line names m j y stands below (h.ranges_above_grey y j there (omega arith)).1)
      ]

  -- the word is in no kept object
  pub in_no_object : (j i : ℕ) → sh.kept j ≡ true → i < sh.size j → w.place j + i ≢ z.current + offset
  in_no_object j i kept below e =
      let area = offset_in_area in
      let ahead = not_scanned in
      elim (h.objects_in_one_space j kept) [
        | inl old ↦
            let a : z.old ≤ w.place j = old.after in
            let b : w.place j + sh.size j ≤ z.old + (z.live + z.alloc) = old.before in
            elim m.spaces [ inl d ↦ omega arith | inr d ↦ omega arith ]
        | inr new ↦
            let a : z.current ≤ w.place j = new.after in
            let y = w.place j - z.current in
            let stands : w.place j ≡ z.current + y = omega arith in
            let ends : y + sh.size j ≤ t.scan = passed_range j y kept stands (omega arith) in
            omega arith
      ]

  -- it is none of the words of a New
  in_no_new : (s i : ℕ) → s < tasks g → f.is_making (flight s) ≡ true → i < f.new_size (flight s) → new_place g (flight s) + i ≢ z.current + offset
  in_no_new s i below makes within e =
      let room : FoundRoom g w.cycle w.used (flight s) = h.news_found_room s below (making_has_room (flight s) (h.news_in_step s below) makes) in
      let words : f.words_before (flight s) + f.new_size (flight s) ≤ g.alloc = room.words in
      let area = offset_in_area in
      let live : z.live ≡ g.live = o.live in
      new_elsewhere g.live g.alloc (f.cycle_of (flight s) % 2) (f.words_before (flight s)) i (w.cycle % 2) offset (omega arith) (omega arith) (omega arith) (omega arith)
      (e ∙ ap (λ a. a + offset) o.current)

  -- it is none of the link words of other ranges, nor of the words of the range at the scan
  own_range : (x j : ℕ) → range x ≡ Some j → x ≡ offset → j ≡ layout.reference_number item
  own_range x j there same = one_value (range x) j (layout.reference_number item) there (ap range same ∙ held.has_range)

  -- the object that is moved
  is_moving : l.has_item t.line ≡ true → IsMoving z sh t.scan t.item range
  is_moving e =
      let found = h.scan_at_range (item_at_range t.line e) in
      let j = found.0 in
      let linked = h.item_is_linked e in
      let kept : sh.kept j ≡ true = (h.ranges_above_grey t.scan j found.1 (omega arith)).0 in
      let shows : t.item ≡ reference_at names j = elim (h.ranges_linked t.scan j found.1 found.2) [
        | inl none ↦ absurd (linked.0 (sym linked.1 ∙ none))
        | inr some ↦ sym linked.1 ∙ some
      ] in
      let parts = reference_parts g names j t.item (m.kept j kept).within fit shows in
      record {
        is_kept = ap sh.kept parts.0 ∙ kept;
        has_range = rw parts.0 found.1;
        fits = rw parts.0 found.2;
        size = size_of_reference names j t.item parts.1 parts.2 ∙ sym (m.size j) ∙ ap sh.size (sym parts.0);
      }

  -- so it is none of the item's cells, old or new, nor the item's link word
  in_no_item : (passed i : ℕ) → l.object_attempt t t.line ≡ Some passed → i + 1 < reference_size t.item → layout.header_place t.first + 1 + i ≢ z.current + offset
  in_no_item passed i attempt below e =
      let moving : IsMoving z sh t.scan t.item range = is_moving (attempt_moves g t t.line passed h.spot_formed attempt).0 in
      let behind : ObjectBehind t.first w.accessors w.place w.version (layout.reference_number t.item) = h.object_attempt_behind passed attempt in
      let placed : layout.header_place t.first ≡ w.place (layout.reference_number t.item) = behind.placed in
      let size : reference_size t.item ≡ sh.size (layout.reference_number t.item) = moving.size in
      in_no_object (layout.reference_number t.item) (1 + i) moving.is_kept (omega arith) (omega arith)

  in_no_copy : (passed i : ℕ) → l.object_attempt t t.line ≡ Some passed → i < passed → z.current + t.scan + 1 + i ≢ z.current + offset
  in_no_copy passed i attempt below e =
      let moves = attempt_moves g t t.line passed h.spot_formed attempt in
      let few : passed + 1 ≤ reference_size t.item = moves.1 in
      let moving : IsMoving z sh t.scan t.item range = is_moving moves.0 in
      let size : reference_size t.item ≡ sh.size (layout.reference_number t.item) = moving.size in
      let same : offset ≡ t.scan + 1 + i = omega arith in
      never_both (range offset) (layout.reference_number item)
      (h.ranges_apart t.scan (layout.reference_number t.item) offset moving.has_range (omega arith) (omega arith)) held.has_range

  in_no_scan : l.has_item t.line ≡ true → z.current + t.scan ≢ z.current + offset
  in_no_scan e same =
      let linked = h.item_is_linked e in
      linked.0 (sym linked.1 ∙ ap w.cell same ∙ held.unlinked)

  -- THE FACTS OF CELLS

  link_links : fact.LinksShown sh.kept names w.place (upd w.cell (z.current + offset) item) contents.link
  link_links j b kept borne i below =
      let size : sh.size j ≡ 1 + names.refs b + names.nums b = m.size j ∙ size_borne names j b borne in
      upd_other w.cell (z.current + offset) item (w.place j + 1 + i) (λ e. in_no_object j (1 + i) kept (omega arith) (omega arith)) ∙ h.links_shown j b kept borne i below

  link_values : fact.ValuesShown sh.kept names w.place (upd w.cell (z.current + offset) item) contents.value
  link_values j b kept borne i below =
      let size : sh.size j ≡ 1 + names.refs b + names.nums b = m.size j ∙ size_borne names j b borne in
      upd_other w.cell (z.current + offset) item (w.place j + 1 + names.refs b + i) (λ e. in_no_object j (1 + names.refs b + i) kept (omega arith) (omega arith))
      ∙ h.values_shown j b kept borne i below

  link_linked : fact.RangesLinked z sh.size (upd w.cell (z.current + offset) item) (reference_at names) range
  link_linked x j there fits = elim (cases_eq x offset) [
    | inl same ↦
        let written : upd w.cell (z.current + offset) item (z.current + x) ≡ item = ap (λ y. upd w.cell (z.current + offset) item (z.current + y)) same ∙ upd_same w.cell (z.current + offset) item in
        inr (written ∙ o.shows ∙ ap (reference_at names) (sym (own_range x j there same)))
    | inr differ ↦ unwritten w.cell (z.current + offset) item (z.current + x) (λ a. (a ≡ 0) ⊎ (a ≡ reference_at names j)) (λ e. differ (omega arith)) (h.ranges_linked x j there fits)
  ]

  link_unlinked : fact.ClaimsUnlinked g z w.cycle sh.grey sh.size (upd w.cell (z.current + offset) item) range (upd hand k no_claim)
  link_unlinked j other d there below e = elim (upd_cases hand k no_claim j) [
    | inl (a, u) ↦ none_links (upd hand k no_claim j) other d there u e
    | inr (differ, u) ↦
        let links : hand j ≡ to_link other d there = sym u ∙ e in
        let old : HoldsRange z w.cycle sh.grey sh.size w.cell range other d there = h.claims_unlinked j other d there below links in
        let elsewhere : there ≢ offset = λ same.
        h.claims_apart j k below o.within differ other item (item_to_link (hand j) other d there links) (item_to_link (hand k) item c offset o.holds)
        (own_range there (layout.reference_number other) old.has_range same) in
        record {
          some = old.some;
          of_cycle = old.of_cycle;
          is_grey = old.is_grey;
          has_range = old.has_range;
          fits = old.fits;
          unlinked = unwritten w.cell (z.current + offset) item (z.current + there) (λ a. a ≡ 0) (λ e. elsewhere (omega arith)) old.unlinked;
        }
  ]

  link_waits : fact.UnlinkedWaits g z sh.size (upd w.cell (z.current + offset) item) range (upd hand k no_claim)
  link_waits x j there fits e = elim (cases_eq x offset) [
    | inl same ↦
        let written : upd w.cell (z.current + offset) item (z.current + x) ≡ item = ap (λ y. upd w.cell (z.current + offset) item (z.current + y)) same ∙ upd_same w.cell (z.current + offset) item in
        absurd (held.some (sym written ∙ e))
    | inr differ ↦
        let before : w.cell (z.current + x) ≡ 0 = sym (upd_other w.cell (z.current + offset) item (z.current + x) (λ q. differ (omega arith))) ∙ e in
        linking_else g hand k no_claim x (linking_not_elsewhere (hand k) item c offset x o.holds differ) (h.unlinked_waits x j there fits before)
  ]

  link_grey : fact.GreyWaits g sh.grey range (upd hand k no_claim)
  link_grey j within is = elim (h.grey_waits j within is) [
    | inl there ↦ inl there
    | inr other ↦ inr (held_else g hand k no_claim j (linking_not_reserving (hand k) item c offset o.holds) other)
  ]

  link_cells : CellFacts g w z sh flight (upd hand k no_claim) t names range (upd w.cell (z.current + offset) item)
  link_cells =
      let p = z.current + offset in
      let area = offset_in_area in
      record {
        free_is_zero = λ i below free. unwritten w.cell p item (z.current + (z.live + i)) (λ a. a ≡ 0) (λ e. omega arith) (h.free_is_zero i below free);
        unreserved_is_zero = λ going x below free. unwritten w.cell p item (z.current + x) (λ a. a ≡ 0)
            (λ e. free offset (layout.reference_number item) held.has_range held.fits (record { after = omega arith; before = let some = some_words g w z sh flight t.line names m (layout.reference_number item) in omega arith }))
            (h.unreserved_is_zero going x below free);
        unused_is_zero = λ rests. absurd (both_ways _ busy rests);
        cleared_is_zero = λ i below. absurd (both_ways _ (cleared_marks g t t.line i h.spot_formed below).0 marking);
        ranges_linked = link_linked;
        claims_unlinked = link_unlinked;
        unlinked_waits = link_waits;
        news_clean = λ s i below makes within. unwritten w.cell p item (new_place g (flight s) + i) (λ a. a ≡ 0) (in_no_new s i below makes within) (h.news_clean s i below makes within);
        item_is_linked = λ e. let linked = h.item_is_linked e in (linked.0, upd_other w.cell p item (z.current + t.scan) (in_no_scan e) ∙ linked.1);
        cells_passed = λ passed i e same below fits.
            let few : passed + 1 ≤ reference_size t.item = (attempt_moves g t t.line passed h.spot_formed e).1 in
            unwritten w.cell p item (layout.header_place t.first + 1 + i) (λ a. IsNullOrMarked w.cycle w.mark a) (in_no_item passed i e (omega arith)) (h.cells_passed passed i e same below fits);
        cells_copied = λ passed i e same below.
            let few : passed + 1 ≤ reference_size t.item = (attempt_moves g t t.line passed h.spot_formed e).1 in
            upd_other w.cell p item (z.current + t.scan + 1 + i) (in_no_copy passed i e below) ∙ h.cells_copied passed i e same below
            ∙ sym (upd_other w.cell p item (layout.header_place t.first + 1 + i) (in_no_item passed i e (omega arith)));
        cell_loaded = λ i e same.
            let moves = loaded_moves g t t.line i h.spot_formed e in
            h.cell_loaded i e same ∙ sym (upd_other w.cell p item (layout.header_place t.first + 1 + i) (in_no_item i i moves.0 moves.1));
      }

  -- THE FACTS OF CLAIMS IN HAND

  link_few : fact.MarksFew g t.line w.cycle w.reserved w.mark (upd hand k no_claim)
  link_few e =
      let few : 2 * count_below (numbers g) (λ j. nat_eq (w.mark j) w.cycle) ≤ g.alloc + w.reserved + 2 * count_below (tasks g + 1) (λ j. f.is_to_reserve (hand j)) = h.marks_few e in
      let same : count_below (tasks g + 1) (λ j. f.is_to_reserve (upd hand k no_claim j)) ≡ count_below (tasks g + 1) (λ j. f.is_to_reserve (hand j)) =
      count_kept f.is_to_reserve hand k no_claim (tasks g + 1) (neither_reserves (hand k) item c offset o.holds) in
      omega arith

  link_unreserved : fact.ClaimsUnreserved g w.cycle sh.grey range (upd hand k no_claim)
  link_unreserved j other d below e = elim (upd_cases hand k no_claim j) [
    | inl (a, u) ↦ none_reserves (upd hand k no_claim j) other d u e
    | inr (differ, u) ↦ h.claims_unreserved j other d below (sym u ∙ e)
  ]

  item_before : (j other : ℕ) → f.item_in (upd hand k no_claim j) ≡ Some other → f.item_in (hand j) ≡ Some other
  item_before j other e = elim (upd_cases hand k no_claim j) [
    | inl (a, u) ↦ none_has_item (upd hand k no_claim j) other u e
    | inr (d, u) ↦ ap f.item_in (sym u) ∙ e
  ]

  link_apart : fact.ClaimsApart g (upd hand k no_claim)
  link_apart i j a b differ one other p q = h.claims_apart i j a b differ one other (item_before i one p) (item_before j other q)

  -- all facts hold after a link, for whoever holds the claim
  pub link_facts : Facts g (cell_words w (z.current + offset) item) z sh flight begun (upd hand k no_claim) t names contents range
  link_facts =
      let a = link_links in
      let b = link_values in
      let d = link_cells in
      let e = link_few in
      let i = link_unreserved in
      let j = link_apart in
      let p = link_grey in
      assumption
