-- What is in use after a step of a seat that makes no birth: the event of each place of each call keeps the facts.
use Rattle.std.proofs.Common.{◌≡◌, ◌≢◌, ℕ, ◌+◌, ◌*◌, ◌%◌, ◌<◌, ◌≤◌, Bool, true, false, inl, inr, refl, sym, ◌∙◌, ap, arith, List, Option, Some, None}
use Rattle.std.proofs.lemmas.Bool.{cases_eq, eqb-true, eq-eqb, ne_eqb, and_right}
use Rattle.std.proofs.lemmas.Bool.Decides.{nat_tests}
use Rattle.std.specs.Prelude.{◌||◌, nat_eq, nat_le, nat_lt, not, ◌&&◌, if◌then◌else◌}
use Rattle.hk_words.specs.declared.geometry.Geometry.{Geometry}
use Rattle.hk_words.specs.declared.call.Call.{Call}
use Rattle.hk_words.specs.declared.call.Call.TheVariants as call
use Rattle.hk_words.specs.declared.shape.Shape.{Shape}
use Rattle.hk_words.specs.Geometry.{tasks, numbers, space_words}
use Rattle.hk_words.specs.Calls.{RegistersFit}
use Rattle.hk_words.specs.Layout as layout
use Rattle.hk_words.specs.Row.{place_at, header_at, mark_at, frame_at, register_at, space_at, w0_at, w1_at}
use Rattle.hk_words.specs.Shape.{size}
use Rattle.hk_model.specs.Heap.{opening_of}
use Rattle.hk_model.specs.History.{History, after}
use Rattle.hk_model.specs.View.{upd}
use Rattle.hk_model.proofs.Updates.{upd_same}
use Rattle.hk_core.specs.declared.event.Event.{Event}
use Rattle.hk_core.specs.declared.event.Event.TheVariants as event
use Rattle.hk_core.specs.Begin.{copied}
use Rattle.hk_core.specs.Event.{fired_if}
use Rattle.hk_core.specs.State.{State}
use Rattle.hk_core.specs.Step as table
use Rattle.hk_core.specs.Step.{number_cell, reference_cell, reference_size, reserved_fits, side_of, new_place}
use Rattle.hk_core.specs.View.{Words, words_of, names_of, contents_of, flight_at, shown}
use Rattle.hk_core.specs.Flights as f
use Rattle.hk_core.specs.Facts.{IsRecent}
use Rattle.hk_core.specs.Colours.{spaces_of, shades_of, held_by, is_within, IsKeptBirth, IsNullOrKept}
use Rattle.hk_core.specs.Lawful.{Lawful}
use Rattle.hk_core.proofs.Columns.{words_some}
use Rattle.hk_core.proofs.kinds.ClaimWords.{words-claim}
use Rattle.hk_core.proofs.kinds.ClaimSeats.{load_item_good, store_item_good}
use Rattle.hk_core.proofs.kinds.Enter.{object_of, entering_words}
use Rattle.hk_core.proofs.kinds.Leave.{leaving_words}
use Rattle.hk_core.proofs.kinds.LoadRead.{kept_number, shown_none, shown_birth}
use Rattle.hk_core.proofs.kinds.NewSteps.{new_does_5}
use Rattle.hk_core.proofs.kinds.Seats.{kept_means}
use Rattle.hk_core.proofs.kinds.Words.{words-enter_object, words-leave_object, words-write_register, room_in_object, some_in_object}
use Rattle.hk_collect.specs.Used.{Closed, IsUsedWord, stands_claimed, claimed_by}
use Rattle.hk_collect.proofs.UsedFacts.{MarksUsed, SpotUsed, marks_same, marks_agree, marks_claim, marks_place, spot_agree, spot_same, spot_register}
use Rattle.hk_collect.proofs.UsedRows.{Agrees, agrees_fired, agrees_load, agrees_rest, beside_w0, beside_w1, beside_frame, beside_space}

-- a place of the current space isn't one of the old one
pub not_old : (g : Geometry) (cycle x : ℕ) → x < g.live + g.alloc → is_within (spaces_of g cycle) (spaces_of g cycle).old (place_at g (cycle % 2) x) ≡ false
not_old g cycle x few = elim (cases_eq (cycle % 2) 0) [
  | inl first ↦
      let other : (cycle + 1) % 2 ≡ 1 = omega arith in
      rw (first, other) (before (1 + 1 * space_words g + 0) (1 + 0 * space_words g + x) (1 + 1 * space_words g + 0 + (g.live + g.alloc)) (omega arith))
  | inr second ↦
      let side : cycle % 2 ≡ 1 = omega arith in
      let other : (cycle + 1) % 2 ≡ 0 = omega arith in
      rw (side, other) (past (1 + 0 * space_words g + 0) (1 + 1 * space_words g + x) (1 + 0 * space_words g + 0 + (g.live + g.alloc)) (omega arith))
]
  where
    before : (from p to : ℕ) → p < from → (nat_le from p && nat_lt p to) ≡ false
    before from p to low = grind (arith, nat_tests)

    past : (from p to : ℕ) → to ≤ p → (nat_le from p && nat_lt p to) ≡ false
    past from p to high = grind (arith, nat_tests)

never : {A : Type 0} → false ≡ true → A
never e = absurd (cc)

-- a place among the words for allocation of the current space is neither in the old one nor where moved objects stand
pub not_claimed : (g : Geometry) (cycle x : ℕ) → g.live ≤ x → x < g.live + g.alloc → stands_claimed (spaces_of g cycle) (place_at g (cycle % 2) x) ≡ false
not_claimed g cycle x above few = neither (is_within (spaces_of g cycle) (spaces_of g cycle).old (place_at g (cycle % 2) x)) _ (not_old g cycle x few) (beyond (spaces_of g cycle).current (place_at g (cycle % 2) x) g.live (omega arith))
  where
    neither : (a b : Bool) → a ≡ false → b ≡ false → (a || b) ≡ false
    neither a b e d = rw (e, d) refl

    beyond : (from p live : ℕ) → from + live ≤ p → (nat_le from p && nat_lt p (from + live)) ≡ false
    beyond from p live high = grind (arith, nat_tests)

not_null : (word : ℕ) → nat_eq word 0 ≡ false → word ≢ 0
not_null word e = grind (arith, nat_tests)

agrees_to : (w v u : Words) → v ≡ u → Agrees w u → Agrees w v
agrees_to w v u e a = rw e a

-- a word that isn't null names a number that a birth in use bears
pub used_some : (bearer : ℕ → Option ℕ) (used : ℕ → Type 0) (word : ℕ) → word ≢ 0 → IsUsedWord bearer used word
    → (b : ℕ) × (bearer (layout.reference_number word) ≡ Some b) × used b
used_some bearer used word some (inl null) = absurd (some null)
used_some bearer used word some (inr found) = found

recent_few : (cycle past : ℕ) → IsRecent cycle past → past ≤ cycle
recent_few cycle past (inl e) = omega arith
recent_few cycle past (inr e) = omega arith

module _ (c : State) (history : History) (h : Lawful c history) (used : ℕ → Type 0) (closed : Closed (after (opening_of c.geometry) history) used) where
  abbrev pub now : Words
  now = words_of c.geometry c.row

  -- which birth bears a number
  abbrev pub borne : ℕ → Option ℕ
  borne = (names_of c.geometry history).bearer

  -- what the plain registers hold is in use
  pub plain_used : (s r : ℕ) → s < tasks c.geometry → r < c.geometry.registers
      → IsUsedWord borne used (shown (names_of c.geometry history) ((contents_of c.geometry history).register s r))
  unfolding contents_of
  plain_used s r below fits = by_plain _ refl (h.facts.registers_kept s r below fits)
    where
      by_plain : (plain : Option ℕ) → (contents_of c.geometry history).register s r ≡ plain
          → IsNullOrKept (shades_of c.geometry now (flight_at c) c.spot.line (names_of c.geometry history)).kept (names_of c.geometry history) plain
          → IsUsedWord borne used (shown (names_of c.geometry history) plain)
      by_plain plain e (inl none) = inl (shown_none (names_of c.geometry history) plain none)
      by_plain plain e (inr found) =
          let g = c.geometry in
          let names = names_of g history in
          let sh = shades_of g now (flight_at c) c.spot.line names in
          let b = found.0 in
          let birth : IsKeptBirth sh.kept names b = found.2 in
          let number = kept_number g now (held_by g (flight_at c)) c.spot.line names sh (kept_means g now (flight_at c) c.spot.line names) b (shown names plain) birth (shown_birth names plain b found.1) in
          inr (b, ap names.bearer number.0 ∙ birth.bears, closed.registers s r b (e ∙ found.1))

  -- so is what a register word shows that no Load holds back
  pub word_used : (s r : ℕ) → s < tasks c.geometry → r < c.geometry.registers → f.holds_back (flight_at c s) r ≡ false → IsUsedWord borne used (now.register s r)
  word_used s r below fits free =
      let shows : now.register s r ≡ shown (names_of c.geometry history) ((contents_of c.geometry history).register s r) = rw free at (h.facts.registers_shown s r below fits) in
      rw shows (plain_used s r below fits)

  module _ (s : ℕ) (below : s < tasks c.geometry) (young : List ℕ) (marks : MarksUsed c.geometry now borne used young)
      (spot : SpotUsed c.geometry now c.spot.line c.spot.cell borne used) where
    -- the words after an event
    abbrev pub then_words : Option Event → Words
    then_words e = words_of c.geometry (fired_if c.row e)

    -- an event after which the cycle is the same keeps the facts
    abbrev pub Keeps : Option Event → Type 0
    Keeps e = (then_words e).cycle ≡ now.cycle → MarksUsed c.geometry (then_words e) borne used young × SpotUsed c.geometry (then_words e) c.spot.line c.spot.cell borne used

    by_test : (test : Bool) (a b : Option Event) → (test ≡ true → Keeps a) → (test ≡ false → Keeps b) → Keeps (if test then a else b)
    by_test true a b yes' no' = yes' refl
    by_test false a b yes' no' = no' refl

    -- EVENTS ON OTHER WORDS

    quiet : (e : Option Event) → Agrees now (then_words e) → Keeps e
    quiet e a cycle = (marks_agree c.geometry now (then_words e) borne used young a cycle marks, spot_agree c.geometry now (then_words e) borne used young c.spot.line c.spot.cell a spot)

    rests : Keeps None
    rests = quiet None (agrees_rest c.geometry c.row)

    loads : (word : ℕ) → Keeps (Some (event.Load word))
    loads word = quiet (Some (event.Load word)) (agrees_load c.geometry c.row word)

    writes_cell : (p v : ℕ) → Keeps (table.write_cell c.geometry p v)
    unfolding table.write_cell
    writes_cell p v = quiet (Some (event.Write (space_at c.geometry p) v)) (agrees_fired c.geometry c.row (event.Write (space_at c.geometry p) v) (beside_space c.geometry p))

    reads_cell : (p : ℕ) → Keeps (table.read_cell c.geometry p)
    unfolding table.read_cell
    reads_cell p = loads (space_at c.geometry p)

    loads_w0 : Keeps (table.load_w0 c.geometry)
    unfolding table.load_w0
    loads_w0 = loads (w0_at c.geometry)

    seated : (flight_at c s).seat ≡ s
    seated = (h.facts.flights_formed s below).seated

    enters_frame : Keeps (table.enter_frame c.geometry (flight_at c s))
    unfolding table.enter_frame
    enters_frame = quiet (Some (event.Add (frame_at c.geometry (flight_at c s).seat) layout.entering))
        (agrees_fired c.geometry c.row (event.Add (frame_at c.geometry (flight_at c s).seat) layout.entering) (beside_frame c.geometry (flight_at c s).seat (rw seated below)))

    leaves_frame : Keeps (table.leave_frame c.geometry (flight_at c s))
    unfolding table.leave_frame
    leaves_frame = quiet (Some (event.Sub (frame_at c.geometry (flight_at c s).seat) layout.leaving))
        (agrees_fired c.geometry c.row (event.Sub (frame_at c.geometry (flight_at c s).seat) layout.leaving) (beside_frame c.geometry (flight_at c s).seat (rw seated below)))

    reserves : Keeps (table.reserve c.geometry (flight_at c s))
    unfolding table.reserve
    reserves = by_test (flight_at c s).claimer _ _
        (λ _. quiet (Some (event.Add (w1_at c.geometry) (reference_size (flight_at c s).item)))
        (agrees_fired c.geometry c.row (event.Add (w1_at c.geometry) (reference_size (flight_at c s).item)) (beside_w1 c.geometry)))
        (λ _. rests)

    links : Keeps (table.link c.geometry (flight_at c s))
    unfolding table.link
    links =
        let x = flight_at c s in
        let p = place_at c.geometry (side_of x) x.offset in
        by_test (x.claimer && reserved_fits c.geometry x.offset x.item) _ _
        (λ _. quiet (Some (event.Write (space_at c.geometry p) x.item)) (agrees_fired c.geometry c.row (event.Write (space_at c.geometry p) x.item) (beside_space c.geometry p)))
        (λ _. rests)

    raises : (shape : Shape) → Keeps (table.raise c.geometry shape)
    unfolding table.raise
    raises shape = quiet (Some (event.Add (w0_at c.geometry) (layout.raise_by (size shape))))
        (agrees_fired c.geometry c.row (event.Add (w0_at c.geometry) (layout.raise_by (size shape))) (beside_w0 c.geometry))

    loads_entry : Keeps (table.load_entry c.geometry (flight_at c s))
    unfolding table.load_entry
    loads_entry = loads _

    -- ENTERING AND LEAVING

    entered_within : f.is_through (flight_at c s).call ≡ true → f.is_flying (flight_at c s) ≡ true → object_of (flight_at c s) < numbers c.geometry
    entered_within through flying =
        (kept_means c.geometry now (flight_at c) c.spot.line (names_of c.geometry history) (object_of (flight_at c s)) (h.facts.entered_good s below through flying).is_kept).within

    enters : f.is_through (flight_at c s).call ≡ true → f.is_flying (flight_at c s) ≡ true → f.in_object (flight_at c s) ≡ false → Keeps (table.enter_object c.geometry (flight_at c s))
    unfolding table.enter_object f.is_inside
    enters through flying outside =
        let g = c.geometry in
        let n = object_of (flight_at c s) in
        let e = event.Add (header_at g n) layout.entering in
        let fits : n < numbers g = entered_within through flying in
        let few = room_in_object g now.accessors (flight_at c) s n below fits (rw outside refl) h.facts.accessors_counted in
        quiet (Some e) (agrees_to now (then_words (Some e)) (entering_words now n) (words_some g c.row e (entering_words now n) (words-enter_object g c.row h.sized.row n fits few))
        (record { mark = refl; place = refl; register = refl }))

    leaves : f.is_through (flight_at c s).call ≡ true → f.is_flying (flight_at c s) ≡ true → f.in_object (flight_at c s) ≡ true → Keeps (table.leave_object c.geometry (flight_at c s))
    unfolding table.leave_object f.is_inside
    leaves through flying inside =
        let g = c.geometry in
        let n = object_of (flight_at c s) in
        let e = event.Sub (header_at g n) layout.leaving in
        let fits : n < numbers g = entered_within through flying in
        let some = some_in_object g now.accessors (flight_at c) s n below fits (rw inside (eq-eqb n n refl)) h.facts.accessors_counted in
        quiet (Some e) (agrees_to now (then_words (Some e)) (leaving_words now n) (words_some g c.row e (leaving_words now n) (words-leave_object g c.row h.sized.row n fits some))
        (record { mark = refl; place = refl; register = refl }))

    -- A REGISTER

    writes_register : (r v : ℕ) → r < c.geometry.registers → IsUsedWord borne used v → Keeps (table.write_register c.geometry (flight_at c s) r v)
    unfolding table.write_register
    writes_register r v fits is = rw seated (λ cycle.
        let g = c.geometry in
        let e = event.Write (register_at g s r) v in
        let after' = words_some g c.row e _ (words-write_register g c.row h.sized.row s r v below fits) in (
          marks_same g now (then_words (Some e)) borne used young (ap (λ (u : Words). u.mark) after') (ap (λ (u : Words). u.place) after') cycle marks,
          spot_register g now (then_words (Some e)) borne used young c.spot.line c.spot.cell s r v (ap (λ (u : Words). u.register) after') is spot,
        ))

    -- A CLAIM

    claims : ((flight_at c s).item ≢ 0 → layout.reference_number (flight_at c s).item < numbers c.geometry) → ((flight_at c s).item ≢ 0 → f.has_cycle_inside (flight_at c s) ≡ true)
        → IsUsedWord borne used (flight_at c s).item → Keeps (table.claim c.geometry (flight_at c s))
    unfolding table.claim
    claims within has is = by_test (nat_eq (flight_at c s).item 0) _ _ (λ _. rests) (λ other cycle.
        let g = c.geometry in
        let x = flight_at c s in
        let some = not_null x.item other in
        let n = layout.reference_number x.item in
        let k = layout.w0_cycle x.word in
        let e = event.Max (mark_at g n) k in
        let found = used_some borne used x.item some is in
        let after' = words_some g c.row e _ (words-claim g c.row h.sized.row n k (within some)) in
        let few : k ≤ now.cycle = recent_few now.cycle k (h.facts.loaded_recent s below (has some)) in (
          marks_claim g now (then_words (Some e)) borne used young n k found.0 cycle (ap (λ (u : Words). u.place) after') (ap (λ (u : Words). u.mark) after') few found.1 found.2 marks,
          spot_same g now (then_words (Some e)) borne used young c.spot.line c.spot.cell (ap (λ (u : Words). u.register) after') spot,
        ))

    -- THE CALLS

    get_keeps : (reg field : ℕ) → (flight_at c s).call ≡ call.Get reg field → Keeps (table.get_event c.geometry (flight_at c s) field)
    unfolding table.get_event f.is_through f.in_object f.in_object_at
    get_keeps reg field is_get =
        let x = flight_at c s in
        by_test (nat_eq x.place 1) _ _ (λ e. let at = eqb-true x.place 1 e in enters (rw is_get refl) (rw at refl) (rw (is_get, at) refl))
        (λ _. by_test (nat_eq x.place 2) _ _ (λ e. reads_cell (number_cell x field))
        (λ _. by_test (nat_eq x.place 3) _ _ (λ e. let at = eqb-true x.place 3 e in leaves (rw is_get refl) (rw at refl) (rw (is_get, at) refl))
        (λ _. rests)))

    put_keeps : (reg field value : ℕ) → (flight_at c s).call ≡ call.Put reg field value → Keeps (table.put_event c.geometry (flight_at c s) field value)
    unfolding table.put_event f.is_through f.in_object f.in_object_at
    put_keeps reg field value is_put =
        let x = flight_at c s in
        by_test (nat_eq x.place 1) _ _ (λ e. let at = eqb-true x.place 1 e in enters (rw is_put refl) (rw at refl) (rw (is_put, at) refl))
        (λ _. by_test (nat_eq x.place 2) _ _ (λ e. writes_cell (number_cell x field) value)
        (λ _. by_test (nat_eq x.place 3) _ _ (λ e. let at = eqb-true x.place 3 e in leaves (rw is_put refl) (rw at refl) (rw (is_put, at) refl))
        (λ _. rests)))

    -- the reference that a Store or a Move copies
    copied_used : (from : ℕ) → f.is_flying (flight_at c s) ≡ true → copied (flight_at c s).call ≡ Some from → from < c.geometry.registers → f.holds_back (flight_at c s) from ≡ false
        → IsUsedWord borne used (flight_at c s).item
    copied_used from flying copies fits free = rw (h.facts.copied_stays s from below flying copies) (word_used s from below fits free)

    move_keeps : (dest from : ℕ) → (flight_at c s).call ≡ call.Move dest from → Keeps (table.move_event c.geometry (flight_at c s) dest)
    unfolding table.move_event f.holds_back f.holds_back_at
    move_keeps dest from is_move =
        let x = flight_at c s in
        by_test (nat_eq x.place 1) _ _ (λ e. enters_frame)
        (λ _. by_test (nat_eq x.place 2) _ _ (λ e. let at = eqb-true x.place 2 e in
        let registers : RegistersFit c.geometry.registers (call.Move dest from) = rw is_move at ((h.facts.flights_formed s below).registers (rw at refl)) in
        writes_register dest x.item registers.0.1 (copied_used from (rw at refl) (rw is_move refl) registers.1 (rw is_move refl)))
        (λ _. by_test (nat_eq x.place 3) _ _ (λ e. leaves_frame)
        (λ _. rests)))

    clear_keeps : (dest : ℕ) → (flight_at c s).call ≡ call.Clear dest → Keeps (table.clear_event c.geometry (flight_at c s) dest)
    unfolding table.clear_event
    clear_keeps dest is_clear =
        let x = flight_at c s in
        by_test (nat_eq x.place 1) _ _ (λ e. let at = eqb-true x.place 1 e in
        let registers : RegistersFit c.geometry.registers (call.Clear dest) = rw is_clear at ((h.facts.flights_formed s below).registers (rw at refl)) in
        writes_register dest 0 registers.1 (inl refl))
        (λ _. rests)

    -- the reference that a Load has read and not written yet
    loaded_used : (dest reg field : ℕ) → (flight_at c s).call ≡ call.Load dest reg field → f.is_between 5 8 (flight_at c s).place ≡ true → dest < c.geometry.registers
        → IsUsedWord borne used (flight_at c s).item
    unfolding f.holds_back f.holds_back_at
    loaded_used dest reg field is_load between fits =
        let back : f.holds_back (flight_at c s) dest ≡ true = rw (is_load, between) (eq-eqb dest dest refl) in
        let shows : (flight_at c s).item ≡ shown (names_of c.geometry history) ((contents_of c.geometry history).register s dest) = rw back at (h.facts.registers_shown s dest below fits) in
        rw shows (plain_used s dest below fits)

    load_keeps : (dest reg field : ℕ) → (flight_at c s).call ≡ call.Load dest reg field → Keeps (table.load_event c.geometry (flight_at c s) dest field)
    unfolding table.load_event f.is_through f.in_object f.in_object_at f.has_cycle_inside f.has_cycle_inside_at
    load_keeps dest reg field is_load =
        let x = flight_at c s in
        let g = c.geometry in
        let names = names_of g history in
        let sh = shades_of g now (flight_at c) c.spot.line names in
        by_test (nat_eq x.place 1) _ _ (λ e. enters_frame)
        (λ _. by_test (nat_eq x.place 2) _ _ (λ e. let at = eqb-true x.place 2 e in enters (rw is_load refl) (rw at refl) (rw (is_load, at) refl))
        (λ _. by_test (nat_eq x.place 3) _ _ (λ e. loads_w0)
        (λ _. by_test (nat_eq x.place 4) _ _ (λ e. reads_cell (reference_cell x field))
        (λ _. by_test (nat_eq x.place 5) _ _ (λ e. let at = eqb-true x.place 5 e in
        let registers : RegistersFit c.geometry.registers (call.Load dest reg field) = rw is_load at ((h.facts.flights_formed s below).registers (rw at refl)) in
        claims (λ some. (kept_means g now (flight_at c) c.spot.line names (layout.reference_number x.item)
        (load_item_good g sh.kept names (flight_at c) s dest reg field below is_load (rw at refl) some h.facts.loaded_good).is_kept).within)
        (λ some. rw (is_load, at) refl)
        (loaded_used dest reg field is_load (rw at refl) registers.0.1))
        (λ _. by_test (nat_eq x.place 6) _ _ (λ e. reserves)
        (λ _. by_test (nat_eq x.place 7) _ _ (λ e. links)
        (λ _. by_test (nat_eq x.place 8) _ _ (λ e. let at = eqb-true x.place 8 e in
        let registers : RegistersFit c.geometry.registers (call.Load dest reg field) = rw is_load at ((h.facts.flights_formed s below).registers (rw at refl)) in
        writes_register dest x.item registers.0.1 (loaded_used dest reg field is_load (rw at refl) registers.0.1))
        (λ _. by_test (nat_eq x.place 9) _ _ (λ e. let at = eqb-true x.place 9 e in leaves (rw is_load refl) (rw at refl) (rw (is_load, at) refl))
        (λ _. by_test (nat_eq x.place 10) _ _ (λ e. leaves_frame)
        (λ _. rests))))))))))

    store_keeps : (reg field from : ℕ) → (flight_at c s).call ≡ call.Store reg field from → Keeps (table.store_event c.geometry (flight_at c s) field)
    unfolding table.store_event f.is_through f.in_object f.in_object_at f.holds_back f.holds_back_at f.has_cycle_inside f.has_cycle_inside_at
    store_keeps reg field from is_store =
        let x = flight_at c s in
        let g = c.geometry in
        let names = names_of g history in
        let sh = shades_of g now (flight_at c) c.spot.line names in
        by_test (nat_eq x.place 1) _ _ (λ e. let at = eqb-true x.place 1 e in enters (rw is_store refl) (rw at refl) (rw (is_store, at) refl))
        (λ _. by_test (nat_eq x.place 2) _ _ (λ e. by_test (nat_eq x.item 0) _ _ (λ null. rests) (λ some. loads_w0))
        (λ _. by_test (nat_eq x.place 3) _ _ (λ e. let at = eqb-true x.place 3 e in
        let registers : RegistersFit c.geometry.registers (call.Store reg field from) = rw is_store at ((h.facts.flights_formed s below).registers (rw at refl)) in
        claims (λ some. (kept_means g now (flight_at c) c.spot.line names (layout.reference_number x.item)
        (store_item_good g sh.kept names now.register (flight_at c) s reg field from below is_store (rw at refl) some h.facts.flights_formed h.facts.copied_stays h.facts.registers_good).is_kept).within)
        (λ some. rw (is_store, at, ne_eqb x.item 0 some) refl)
        (copied_used from (rw at refl) (rw is_store refl) registers.1 (rw is_store refl)))
        (λ _. by_test (nat_eq x.place 4) _ _ (λ e. reserves)
        (λ _. by_test (nat_eq x.place 5) _ _ (λ e. links)
        (λ _. by_test (nat_eq x.place 6) _ _ (λ e. writes_cell (reference_cell x field) x.item)
        (λ _. by_test (nat_eq x.place 7) _ _ (λ e. let at = eqb-true x.place 7 e in leaves (rw is_store refl) (rw at refl) (rw (is_store, at) refl))
        (λ _. rests)))))))

    -- the header of a New's number gets a place of the space of the New's cycle: the number isn't grey
    new_dark : (dest : ℕ) (shape : Shape) → (flight_at c s).call ≡ call.New dest shape → (flight_at c s).place ≡ 5 → (flight_at c s).full ≡ false
        → claimed_by (spaces_of c.geometry now.cycle) now.cycle (upd now.place (flight_at c s).number (new_place c.geometry (flight_at c s))) now.mark (flight_at c s).number ≡ false
    unfolding f.is_making f.has_number f.has_room f.has_raised f.is_new_at f.new_size f.new_size_of
    new_dark dest shape is_new at room =
        let g = c.geometry in
        let x = flight_at c s in
        let step : f.IsNewInStep x.place x.full x.raised = rw is_new at (h.facts.news_in_step s below) in
        let raised : x.raised ≡ true = step.raised_by_then (omega arith) room in
        let own = h.facts.own_entries s below (rw (is_new, at, room) refl) in
        let number = h.facts.number_is_own s below (rw (is_new, at, room) refl) in
        let there = h.facts.news_found_room s below (rw (is_new, at, raised, room) refl) in
        let words : f.words_before x + size shape ≤ g.alloc = rw is_new at there.words in
        let marked : now.mark x.number ≡ f.cycle_of x = ap now.mark number ∙ own.is_marked in
        elim (cases_eq (now.mark x.number) now.cycle) [
          | inr other ↦ rw (ne_eqb (now.mark x.number) now.cycle other) refl
          | inl same ↦
              let cycle : f.cycle_of x ≡ now.cycle = sym marked ∙ same in
              let away = not_claimed g now.cycle (g.live + f.words_before x) (omega arith) (omega arith) in
              rw (upd_same now.place x.number (new_place g x)) (and_right _ _ (ap (λ k. stands_claimed (spaces_of g now.cycle) (place_at g (k % 2) (g.live + f.words_before x))) cycle ∙ away))
        ]

    new_heads : (dest : ℕ) (shape : Shape) → (flight_at c s).call ≡ call.New dest shape → (flight_at c s).place ≡ 5 → (flight_at c s).full ≡ false
        → Keeps (table.write_header c.geometry (flight_at c s))
    unfolding table.write_header
    new_heads dest shape is_new at room cycle =
        let g = c.geometry in
        let x = flight_at c s in
        let e = event.Write (header_at g x.number) (layout.pack_header 0 (new_place g x) 0) in
        let after' = (new_does_5 c history h s dest shape below is_new at room).words in
        let places : (then_words (Some e)).place ≡ upd now.place x.number (new_place g x) = ap (λ (u : Words). u.place) after' in
        let marked : (then_words (Some e)).mark ≡ now.mark = ap (λ (u : Words). u.mark) after' in (
          marks_place g now (then_words (Some e)) borne used young x.number (new_place g x) cycle marked places
              (λ within claimed. never (sym (rw (cycle, places, marked) (new_dark dest shape is_new at room)) ∙ claimed)) marks,
          spot_same g now (then_words (Some e)) borne used young c.spot.line c.spot.cell (ap (λ (u : Words). u.register) after') spot,
        )

    -- a New, but for its effect where it found room
    new_keeps : (dest : ℕ) (shape : Shape) → (flight_at c s).call ≡ call.New dest shape → ((flight_at c s).place ≡ 6 → (flight_at c s).full ≡ true)
        → Keeps (table.new_event c.geometry (flight_at c s) dest shape)
    unfolding table.new_event
    new_keeps dest shape is_new refused =
        let x = flight_at c s in
        let g = c.geometry in
        by_test (nat_eq x.place 1) _ _ (λ e. loads_w0)
        (λ _. by_test (nat_eq x.place 2) _ _ (λ e. by_test x.full _ _ (λ full. rests) (λ found. enters_frame))
        (λ _. by_test (nat_eq x.place 3) _ _ (λ e. by_test x.full _ _ (λ full. rests) (λ found. raises shape))
        (λ _. by_test (nat_eq x.place 4) _ _ (λ e. by_test x.full _ _ (λ full. rests) (λ found. loads_entry))
        (λ _. by_test (nat_eq x.place 5) _ _ (λ e. by_test x.full _ _ (λ full. rests) (λ found. new_heads dest shape is_new (eqb-true x.place 5 e) found))
        (λ _. by_test (nat_eq x.place 6) _ _ (λ e. by_test x.full _ _ (λ full. rests) (λ found. never (sym found ∙ refused (eqb-true x.place 6 e))))
        (λ _. by_test (nat_eq x.place 7) _ _ (λ e. by_test (x.full && not x.raised) _ _ (λ full. rests) (λ busy. leaves_frame))
        (λ _. rests)))))))
      where
        never : {A : Type 0} → false ≡ true → A
        never e = absurd (cc)

    refused_at_6 : (dest : ℕ) (shape : Shape) → (flight_at c s).call ≡ call.New dest shape → f.has_header (flight_at c s) ≡ false → (flight_at c s).place ≡ 6 → (flight_at c s).full ≡ true
    unfolding f.has_header f.is_new_at
    refused_at_6 dest shape is_new none at = by_full (flight_at c s).full (rw (is_new, at) at none)
      where
        by_full : (full : Bool) → not full ≡ false → full ≡ true
        by_full true e = refl
        by_full false e = absurd (cc)

    -- so every step but a birth keeps the facts
    pub step_keeps : f.has_header (flight_at c s) ≡ false → Keeps (table.event_by c s)
    unfolding table.event_by table.event_of table.event_at flight_at
    step_keeps none = each (flight_at c s).call refl
      where
        each : (call' : Call) → (flight_at c s).call ≡ call' → Keeps (table.event_at c.geometry (flight_at c s) call')
        each (call.Get reg field) e = get_keeps reg field e
        each (call.Put reg field value) e = put_keeps reg field value e
        each (call.Load dest reg field) e = load_keeps dest reg field e
        each (call.Store reg field from) e = store_keeps reg field from e
        each (call.Move dest from) e = move_keeps dest from e
        each (call.Clear dest) e = clear_keeps dest e
        each (call.New dest shape) e = new_keeps dest shape e (refused_at_6 dest shape e none)
        each (call.Same a b) e = rests
        each (call.IsNull reg) e = rests
