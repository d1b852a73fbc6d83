-- The collector writes a cell of the object that it moves at the object's new place. The word is one of the range at the scan
-- offset, behind its link word. No kept object stands there, nor has a New words there, and it is no link word.
use Rattle.std.proofs.Common.{◌≡◌, ◌≢◌, ◌⊎◌, ℕ, zero, suc, ◌+◌, ◌-◌, ◌*◌, ◌%◌, ◌<◌, ◌≤◌, Bool, true, false, inl, inr, refl, sym, ◌∙◌, ap, subst, arith, Option, Some}
use Rattle.std.proofs.lemmas.Bool.{both_ways, cases_eq, cases_lt, ltb-true}
use Rattle.std.specs.Prelude.{nat_lt, if◌then◌else◌}
use Rattle.hk_words.specs.declared.geometry.Geometry.{Geometry}
use Rattle.hk_words.specs.Geometry.{tasks}
use Rattle.hk_words.specs.Layout as layout
use Rattle.hk_words.specs.Row.{place_at}
use Rattle.hk_model.specs.View.{upd}
use Rattle.hk_model.proofs.Updates.{upd_same, upd_other}
use Rattle.hk_core.specs.declared.flight.Flight.{Flight}
use Rattle.hk_core.specs.declared.spot.Spot.{Spot}
use Rattle.hk_core.specs.declared.spot.Line.{Line}
use Rattle.hk_core.specs.declared.spot.Line.TheVariants as line
use Rattle.hk_core.specs.declared.spot.Stage.TheVariants as stage
use Rattle.hk_core.specs.Collect.{current_space, moved_to, after_cell}
use Rattle.hk_core.specs.Step.{new_place, reference_size}
use Rattle.hk_core.specs.View.{Words, Names, Contents, reference_at}
use Rattle.hk_core.specs.Flights as f
use Rattle.hk_core.specs.Flights.{Hand}
use Rattle.hk_core.specs.Lines as l
use Rattle.hk_core.specs.Colours.{Spaces, spaces_of, Shades, shades_of, IsNullOrMarked}
use Rattle.hk_core.specs.Facts as fact
use Rattle.hk_core.specs.Facts.{HoldsRange, FoundRoom}
use Rattle.hk_core.specs.Lawful.{Facts, FactsOf, hands_of}
use Rattle.hk_core.proofs.kinds.Read.{ShapesFit}
use Rattle.hk_core.proofs.kinds.WriteCell.{ShadesMean, IsGreyIn, IsMoving, CellFacts, cell_words, shades_mean, shades_cell, cleared_marks, reference_parts, size_of_reference}
use Rattle.hk_core.proofs.kinds.Reserve.{marking_is_busy}
use Rattle.hk_core.proofs.kinds.NewRaise.{making_has_room}
use Rattle.hk_collect.proofs.spots.Spots.{WorkFacts, GoesMarking, work_facts, marking_on, on_spot}
use Rattle.hk_collect.proofs.spots.SpotLines.{AtItem, InObject, AtCell, at_cell, cell_works, object_trade_works}
use Rattle.hk_core.proofs.Shared.{never_both, size_borne}
use Rattle.std.proofs.lemmas.Bool.{ltb-false}
use Rattle.hk_collect.proofs.spots.SpotClaim.{no_read_work, read_rank, write_rank, loaded_now}

-- THE OBJECT THAT IS MOVED

-- the words of a New lie in the area for allocation of a space, so they are no place of the area for evacuation of a space
new_elsewhere : (live alloc side words i other offset : ℕ) → side < 2 → other < 2 → words + i < alloc → offset < live
    → (1 + side * (live + alloc) + (live + words)) + i ≢ (1 + other * (live + alloc) + 0) + offset
new_elsewhere live alloc zero words i zero offset a b few below e = omega arith
new_elsewhere live alloc zero words i (suc zero) offset a b few below e = omega arith
new_elsewhere live alloc (suc zero) words i zero offset a b few below e = omega arith
new_elsewhere live alloc (suc zero) words i (suc zero) offset a b few below e = omega arith
new_elsewhere live alloc zero words i (suc (suc other)) offset a b few below e = omega arith
new_elsewhere live alloc (suc zero) words i (suc (suc other)) offset a b few below e = omega arith
new_elsewhere live alloc (suc (suc side)) words i other offset a b few below e = omega arith

-- the current space is one of the two of the geometry
pub record IsSpaceOf (g : Geometry) (cycle : ℕ) (z : Spaces) : Type 0 where
  pub current : z.current ≡ place_at g (current_space cycle) 0
  pub live : z.live ≡ g.live
  pub alloc : z.alloc ≡ g.alloc

pub spaces_are : (g : Geometry) (cycle : ℕ) → IsSpaceOf g cycle (spaces_of g cycle)
spaces_are g cycle = record { current = refl; live = refl; alloc = refl }

module _ (g : Geometry) (w : Words) (z : Spaces) (sh : Shades) (flight : ℕ → Flight) (begun : ℕ → ℕ) (hand : ℕ → Hand) (t : Spot)
    (names : Names) (contents : Contents) (range : ℕ → Option ℕ) (h : Facts g w z sh flight begun hand t names contents range)
    (m : ShadesMean g w z sh flight t.line names) (fit : ShapesFit names) (marks : l.is_marking t.line ≡ true) (o : AtItem g w z sh t range) where
  pub busy : l.is_resting t.line ≡ false
  busy = marking_is_busy t.line marks

  -- a number whose place is in the current space isn't grey
  not_grey : (j y : ℕ) → w.place j ≡ z.current + y → y < z.live → sh.grey j ≢ true
  not_grey j y stands below e =
      let a : IsGreyIn z w.cycle w.place w.mark j = m.grey j e in
      let after : z.old ≤ w.place j = a.after in
      let before : w.place j < z.old + (z.live + z.alloc) = a.before in
      elim m.spaces [ inl b ↦ omega arith | inr b ↦ omega arith ]

  -- an object of the current space that stands below the words for allocation was moved to its range, which the scan has passed
  pub passed_range : (j y : ℕ) → sh.kept j ≡ true → w.place j ≡ z.current + y → y < z.live → y + sh.size j ≤ t.scan
  passed_range j y kept stands below =
      let there : range y ≡ Some j = h.moved_stands_in_range busy j y kept stands below in
      elim (cases_lt y t.scan) [
        | inl lower ↦ (h.ranges_below_moved y j there lower).ends
        | inr upper ↦ absurd (not_grey j y stands below (h.ranges_above_grey y j there (omega arith)).1)
      ]

  -- the number of the range at the scan is that of the item
  pub moving : IsMoving z sh t.scan t.item range
  moving =
      let found = o.at_range.found in
      let j = found.0 in
      let kept : sh.kept j ≡ true = (h.ranges_above_grey t.scan j found.1 (omega arith)).0 in
      let shows : t.item ≡ reference_at names j = elim (h.ranges_linked t.scan j found.1 found.2) [
        | inl none ↦ absurd (o.some (sym o.linked ∙ none))
        | inr some ↦ sym o.linked ∙ some
      ] in
      let parts = reference_parts g names j t.item (m.kept j kept).within fit shows in
      record {
        is_kept = ap sh.kept parts.0 ∙ kept;
        has_range = rw parts.0 found.1;
        fits = rw parts.0 found.2;
        size = size_of_reference names j t.item parts.1 parts.2 ∙ sym (m.size j) ∙ ap sh.size (sym parts.0);
      }

  pub item_shows : t.item ≡ reference_at names (layout.reference_number t.item)
  item_shows = elim (h.ranges_linked t.scan (layout.reference_number t.item) moving.has_range moving.fits) [
    | inl none ↦ absurd (o.some (sym o.linked ∙ none))
    | inr some ↦ sym o.linked ∙ some
  ]

  pub item_grey : sh.grey (layout.reference_number t.item) ≡ true
  item_grey = (h.ranges_above_grey t.scan (layout.reference_number t.item) moving.has_range (omega arith)).1

  -- no kept object has a word of the range at the scan, nor a later one of the area for evacuation
  pub in_no_object : (j k x : ℕ) → sh.kept j ≡ true → k < sh.size j → t.scan ≤ x → x < z.live → w.place j + k ≢ z.current + x
  in_no_object j k x kept below from area e =
      elim (h.objects_in_one_space j kept) [
        | inl old ↦
            let a : z.old ≤ w.place j = old.after in
            let b : w.place j + sh.size j ≤ z.old + (z.live + z.alloc) = old.before in
            elim m.spaces [ inl d ↦ omega arith | inr d ↦ omega arith ]
        | inr new ↦
            let a : z.current ≤ w.place j = new.after in
            let y = w.place j - z.current in
            let stands : w.place j ≡ z.current + y = omega arith in
            let ends : y + sh.size j ≤ t.scan = passed_range j y kept stands (omega arith) in
            omega arith
      ]

  -- no word of a New is there
  pub in_no_new : IsSpaceOf g w.cycle z → (s i x : ℕ) → s < tasks g → f.is_making (flight s) ≡ true → i < f.new_size (flight s) → x < z.live → new_place g (flight s) + i ≢ z.current + x
  in_no_new space s i x below makes within area e =
      let room : FoundRoom g w.cycle w.used (flight s) = h.news_found_room s below (making_has_room (flight s) (h.news_in_step s below) makes) in
      let words : f.words_before (flight s) + f.new_size (flight s) ≤ g.alloc = room.words in
      let live : z.live ≡ g.live = space.live in
      new_elsewhere g.live g.alloc (f.cycle_of (flight s) % 2) (f.words_before (flight s)) i (w.cycle % 2) x (omega arith) (omega arith) (omega arith) (omega arith)
      (e ∙ ap (λ a. a + x) space.current)

-- A WORD OF THE RANGE

-- a column after a write at another index
unwritten : (cell : ℕ → ℕ) (p v i : ℕ) (P : ℕ → Type 0) → i ≢ p → P (cell i) → P (upd cell p v i)
unwritten cell p v i P differ o = rw (upd_other cell p v i differ) o

module _ (g : Geometry) (w : Words) (z : Spaces) (sh : Shades) (flight : ℕ → Flight) (begun : ℕ → ℕ) (hand : ℕ → Hand) (t : Spot)
    (names : Names) (contents : Contents) (range : ℕ → Option ℕ) (h : Facts g w z sh flight begun hand t names contents range)
    (m : ShadesMean g w z sh flight t.line names) (fit : ShapesFit names) (space : IsSpaceOf g w.cycle z) (i v : ℕ) (at : t.line ≡ line.Cell i stage.Write)
    (o : InObject g w z sh t range i) (inside : i + 1 < reference_size t.item) where
  marks : l.is_marking t.line ≡ true
  unfolding l.is_marking
  marks = ap l.is_marking at

  going : l.is_resting t.line ≡ false
  going = marking_is_busy t.line marks

  own : IsMoving z sh t.scan t.item range
  own = moving g w z sh flight begun hand t names contents range h m fit marks o.at_item

  attempt_is : (passed : ℕ) → l.object_attempt t t.line ≡ Some passed → passed ≡ i
  unfolding l.object_attempt
  attempt_is passed e = let same : Some i ≡ Some passed = sym (ap (l.object_attempt t) at) ∙ e in cc

  loaded_is : (j : ℕ) → l.cell_loaded t.line ≡ Some j → j ≡ i
  unfolding l.cell_loaded l.loaded_at
  loaded_is j e = let same : Some i ≡ Some j = sym (ap l.cell_loaded at) ∙ e in cc

  -- the word is one of the area for evacuation
  in_area : t.scan + 1 + i < z.live
  in_area =
      let size : reference_size t.item ≡ sh.size (layout.reference_number t.item) = own.size in
      let fits : t.scan + sh.size (layout.reference_number t.item) ≤ z.live = own.fits in
      omega arith

  -- none of a kept object
  not_of : (j k : ℕ) → sh.kept j ≡ true → k < sh.size j → w.place j + k ≢ z.current + t.scan + 1 + i
  not_of j k kept below e =
      let area = in_area in
      in_no_object g w z sh flight begun hand t names contents range h m fit marks o.at_item j k (t.scan + 1 + i) kept below (omega arith) area (omega arith)

  -- none of the item's old cells
  not_item : (j : ℕ) → j + 1 < reference_size t.item → layout.header_place t.first + 1 + j ≢ z.current + t.scan + 1 + i
  not_item j below e =
      let size : reference_size t.item ≡ sh.size (layout.reference_number t.item) = own.size in
      let placed : layout.header_place t.first ≡ w.place (layout.reference_number t.item) = o.behind.placed in
      not_of (layout.reference_number t.item) (1 + j) own.is_kept (omega arith) (omega arith)

  -- no link word
  not_link : (x j : ℕ) → range x ≡ Some j → z.current + x ≢ z.current + t.scan + 1 + i
  not_link x j there e =
      let size : reference_size t.item ≡ sh.size (layout.reference_number t.item) = own.size in
      never_both (range x) j (h.ranges_apart t.scan (layout.reference_number t.item) x own.has_range (omega arith) (omega arith)) there

  copy_links : fact.LinksShown sh.kept names w.place (upd w.cell (z.current + t.scan + 1 + i) v) contents.link
  copy_links j b kept borne k below =
      let size : sh.size j ≡ 1 + names.refs b + names.nums b = m.size j ∙ size_borne names j b borne in
      upd_other w.cell (z.current + t.scan + 1 + i) v (w.place j + 1 + k) (λ e. not_of j (1 + k) kept (omega arith) (omega arith)) ∙ h.links_shown j b kept borne k below

  copy_values : fact.ValuesShown sh.kept names w.place (upd w.cell (z.current + t.scan + 1 + i) v) contents.value
  copy_values j b kept borne k below =
      let size : sh.size j ≡ 1 + names.refs b + names.nums b = m.size j ∙ size_borne names j b borne in
      upd_other w.cell (z.current + t.scan + 1 + i) v (w.place j + 1 + names.refs b + k) (λ e. not_of j (1 + names.refs b + k) kept (omega arith) (omega arith))
      ∙ h.values_shown j b kept borne k below

  copy_cells : CellFacts g w z sh flight hand t names range (upd w.cell (z.current + t.scan + 1 + i) v)
  copy_cells =
      let p = z.current + t.scan + 1 + i in
      let area = in_area in
      let size : reference_size t.item ≡ sh.size (layout.reference_number t.item) = own.size in
      record {
        free_is_zero = λ j below free. unwritten w.cell p v (z.current + (z.live + j)) (λ a. a ≡ 0) (λ e. omega arith) (h.free_is_zero j below free);
        unreserved_is_zero = λ busy x below free. unwritten w.cell p v (z.current + x) (λ a. a ≡ 0)
            (λ e. free t.scan (layout.reference_number t.item) own.has_range own.fits (record { after = omega arith; before = omega arith }))
            (h.unreserved_is_zero busy x below free);
        unused_is_zero = λ rests. absurd (both_ways _ going rests);
        cleared_is_zero = λ j below. absurd (both_ways _ (cleared_marks g t t.line j h.spot_formed below).0 marks);
        ranges_linked = λ x j there fits. unwritten w.cell p v (z.current + x) (λ a. (a ≡ 0) ⊎ (a ≡ reference_at names j)) (not_link x j there) (h.ranges_linked x j there fits);
        claims_unlinked = λ k claimed cycle offset within e.
            let r : HoldsRange z w.cycle sh.grey sh.size w.cell range claimed cycle offset = h.claims_unlinked k claimed cycle offset within e in
            record {
              some = r.some;
              of_cycle = r.of_cycle;
              is_grey = r.is_grey;
              has_range = r.has_range;
              fits = r.fits;
              unlinked = unwritten w.cell p v (z.current + offset) (λ a. a ≡ 0) (not_link offset (layout.reference_number claimed) r.has_range) r.unlinked;
            };
        unlinked_waits = λ x j there fits e. h.unlinked_waits x j there fits (sym (upd_other w.cell p v (z.current + x) (not_link x j there)) ∙ e);
        news_clean = λ s j below makes within. unwritten w.cell p v (new_place g (flight s) + j) (λ a. a ≡ 0)
            (λ e. in_no_new g w z sh flight begun hand t names contents range h m fit marks o.at_item space s j (t.scan + 1 + i) below makes within area (omega arith))
            (h.news_clean s j below makes within);
        item_is_linked = λ e. let linked = h.item_is_linked e in (linked.0, upd_other w.cell p v (z.current + t.scan) (λ e. omega arith) ∙ linked.1);
        cells_passed = λ passed j e same below fits. unwritten w.cell p v (layout.header_place t.first + 1 + j) (λ a. IsNullOrMarked w.cycle w.mark a)
            (not_item j (let few = attempt_is passed e in omega arith)) (h.cells_passed passed j e same below fits);
        cells_copied = λ passed j e same below. let few : passed ≡ i = attempt_is passed e in
            upd_other w.cell p v (z.current + t.scan + 1 + j) (λ e. omega arith) ∙ h.cells_copied passed j e same below
            ∙ sym (upd_other w.cell p v (layout.header_place t.first + 1 + j) (not_item j (omega arith)));
        cell_loaded = λ j e same. let this : j ≡ i = loaded_is j e in
            h.cell_loaded j e same ∙ sym (upd_other w.cell p v (layout.header_place t.first + 1 + j) (not_item j (omega arith)));
      }

  -- all facts hold after a write of the word
  pub copy_facts : Facts g (cell_words w (z.current + t.scan + 1 + i) v) z sh flight begun hand t names contents range
  copy_facts =
      let a = copy_links in
      let b = copy_values in
      let d = copy_cells in
      assumption

-- THE WRITE OF A CELL

pub cell_marks : (ln : Line) (i : ℕ) → ln ≡ line.Cell i stage.Write → l.is_marking ln ≡ true
unfolding l.is_marking
cell_marks ln i e = ap l.is_marking e

-- the spot after the write
abbrev pub copied_spot : Spot → ℕ → Spot
copied_spot t i = record t { line = after_cell t i; spent = t.spent + 1 }

copied_hand : (t : Spot) (i : ℕ) → t.line ≡ line.Cell i stage.Write → l.hand_of_spot (copied_spot t i) ≡ l.hand_of_spot t
unfolding l.hand_of_spot l.hand_at_line l.hand_at
copied_hand t i e = by_last (nat_lt (i + 2) (reference_size t.item)) ∙ sym (ap (l.hand_at_line t) e)
  where
    by_last : (more : Bool) → l.hand_at_line (copied_spot t i) (if more then line.Cell (i + 1) stage.Read else line.ObjectTrade) ≡ l.hand_at_line t (line.Cell i stage.Write)
    by_last true = refl
    by_last false = refl

copied_marks : (t : Spot) (i : ℕ) → l.is_marking (after_cell t i) ≡ true
unfolding l.is_marking
copied_marks t i = by_last (nat_lt (i + 2) (reference_size t.item))
  where
    by_last : (more : Bool) → l.is_marking (if more then line.Cell (i + 1) stage.Read else line.ObjectTrade) ≡ true
    by_last true = refl
    by_last false = refl

none_written : {A : Type 0} (i j : ℕ) → l.written_at i stage.Read ≡ Some j → A
unfolding l.written_at
none_written i j e = absurd (cc)

none_loaded : {A : Type 0} (i j : ℕ) → l.loaded_at i stage.Read ≡ Some j → A
unfolding l.loaded_at
none_loaded i j e = absurd (cc)

written_now : (i : ℕ) → l.written_at i stage.Write ≡ Some i
unfolding l.written_at
written_now i = refl

-- the cell that was written is past
cell_past : (g : Geometry) (w : Words) (z : Spaces) (sh : Shades) (t : Spot) (names : Names) (range : ℕ → Option ℕ) (i : ℕ) → AtCell g w z sh t names range i stage.Write
    → w.cell (z.current + t.scan + 1 + i) ≡ t.cell → InObject g w z sh (copied_spot t i) range (i + 1)
cell_past g w z sh t names range i o written =
    let item = o.in_object.at_item in
    let same_cell : w.version (layout.reference_number t.item) ≡ layout.header_version t.first → t.cell ≡ w.cell (layout.header_place t.first + 1 + i) = o.loaded i (loaded_now i) in
    record {
      at_item = record { at_range = record { all_black = item.at_range.all_black; found = item.at_range.found }; some = item.some; linked = item.linked };
      behind = o.in_object.behind;
      passed = λ j same below fits. elim (cases_eq j i) [
        | inl e ↦
            let marked : IsNullOrMarked w.cycle w.mark t.cell = o.claimed i (written_now i) (omega arith) in
            subst (λ (word : ℕ). IsNullOrMarked w.cycle w.mark word) (same_cell same ∙ ap (λ k. w.cell (layout.header_place t.first + 1 + k)) (sym e)) marked
        | inr d ↦ o.in_object.passed j same (omega arith) fits
      ];
      copied = λ j same below. elim (cases_eq j i) [
        | inl e ↦ ap (λ k. w.cell (z.current + t.scan + 1 + k)) e ∙ written ∙ same_cell same ∙ ap (λ k. w.cell (layout.header_place t.first + 1 + k)) (sym e)
        | inr d ↦ o.in_object.copied j same (omega arith)
      ];
    }

copied_works : (g : Geometry) (w : Words) (z : Spaces) (sh : Shades) (flight : ℕ → Flight) (t : Spot) (names : Names) (range : ℕ → Option ℕ) (i : ℕ) → AtCell g w z sh t names range i stage.Write
    → w.cell (z.current + t.scan + 1 + i) ≡ t.cell → WorkFacts g w z sh flight (copied_spot t i) names range (after_cell t i)
copied_works g w z sh flight t names range i o written = by_last (nat_lt (i + 2) (reference_size t.item)) refl
  where
    by_last : (more : Bool) → nat_lt (i + 2) (reference_size t.item) ≡ more
        → WorkFacts g w z sh flight (copied_spot t i) names range (if more then line.Cell (i + 1) stage.Read else line.ObjectTrade)
    by_last true e =
        let more : i + 2 < reference_size t.item = ltb-true _ _ e in
        let spent : t.spent ≤ 1 + 5 * i + l.stage_rank stage.Write = o.spent in
        let rank = write_rank in
        let next = read_rank in
        cell_works g w z sh flight (copied_spot t i) names range (i + 1) stage.Read (record {
          in_object = cell_past g w z sh t names range i o written;
          cell = omega arith;
          staged = tt;
          good = λ e. no_read_work e;
          claimed = λ j e. none_written (i + 1) j e;
          loaded = λ j e. none_loaded (i + 1) j e;
          spent = omega arith;
        })
    by_last false e =
        let most : reference_size t.item ≤ i + 2 = ltb-false (i + 2) (reference_size t.item) e in
        let below : i + 1 < reference_size t.item = o.cell in
        let last : i + 1 ≡ reference_size t.item - 1 = omega arith in
        let spent : t.spent ≤ 1 + 5 * i + l.stage_rank stage.Write = o.spent in
        let rank = write_rank in
        object_trade_works g w z sh flight (copied_spot t i) names range (record {
          in_object = subst (λ (gone : ℕ). InObject g w z sh (copied_spot t i) range gone) last (cell_past g w z sh t names range i o written);
          spent = omega arith;
        })

-- the new place of a cell
cell_there : (g : Geometry) (t : Spot) (cycle i : ℕ) → t.cycle ≡ cycle → (spaces_of g cycle).current + t.scan + 1 + i ≡ moved_to g t + 1 + i
cell_there g t cycle i e = rw (← e) (omega arith)

-- all facts hold after the collector has written a cell of the object that it moves
pub cell_copied : (g : Geometry) (w : Words) (flight : ℕ → Flight) (begun : ℕ → ℕ) (t : Spot) (names : Names) (contents : Contents) (range : ℕ → Option ℕ) (i : ℕ)
    → t.line ≡ line.Cell i stage.Write → ShapesFit names → FactsOf g w flight begun t names contents range
    → FactsOf g (cell_words w (moved_to g t + 1 + i) t.cell) flight begun (copied_spot t i) names contents range
cell_copied g w flight begun t names contents range i at fit h =
    let z = spaces_of g w.cycle in
    let sh = shades_of g w flight t.line names in
    let p = z.current + t.scan + 1 + i in
    let w' = cell_words w p t.cell in
    let hand = hands_of g flight t in
    let before : AtCell g w z sh t names range i stage.Write =
    at_cell g w z sh flight t names range i stage.Write (work_facts g w z sh flight begun hand t names contents range h (line.Cell i stage.Write) at) in
    let mid : FactsOf g w' flight begun t names contents range =
    rw (shades_cell g w p t.cell flight t.line names)
    (copy_facts g w z sh flight begun hand t names contents range h (shades_mean g w flight t.line names) fit (spaces_are g w.cycle) i t.cell at before.in_object before.cell) in
    let sh' = shades_of g w' flight t.line names in
    let here : AtCell g w' z sh' t names range i stage.Write =
    at_cell g w' z sh' flight t names range i stage.Write (work_facts g w' z sh' flight begun hand t names contents range mid (line.Cell i stage.Write) at) in
    let other = copied_spot t i in
    let goes : GoesMarking t other = record { from = cell_marks t.line i at; to = copied_marks t i; cycle = refl; scan = refl; entries = refl } in
    let works : WorkFacts g w' z sh' flight other names range (after_cell t i) = copied_works g w' z sh' flight t names range i here (upd_same w.cell p t.cell) in
    let done : FactsOf g w' flight begun other names contents range =
    on_spot g w' flight begun t other names contents range (copied_hand t i at) (goes.to ∙ sym goes.from) mid
    (marking_on g w' z sh' flight begun hand t names contents range mid other goes works) in
    subst (λ (p : ℕ). FactsOf g (cell_words w p t.cell) flight begun other names contents range) (cell_there g t w.cycle i h.spot_knows_cycle) done
