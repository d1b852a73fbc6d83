-- The number that a New loads from its entry is in use nowhere.
use Rattle.std.proofs.Common.{◌≡◌, ◌≢◌, ℕ, ◌<◌, ◌≤◌, Bool, true, false, inl, inr, refl, ◌∙◌, ap, arith, length, Some}
use Rattle.std.proofs.lemmas.Bool.{cases_Bool, le-leb}
use Rattle.std.proofs.lemmas.Bool.Decides.{nat_tests}
use Rattle.std.specs.Prelude.{not, nat_le, ◌&&◌}
use Rattle.hk_words.specs.declared.call.Call.{Call}
use Rattle.hk_words.specs.declared.call.Call.TheVariants as call
use Rattle.hk_words.specs.declared.shape.Shape.{Shape}
use Rattle.hk_words.specs.Calls.{RegistersFit}
use Rattle.hk_words.specs.Geometry.{tasks}
use Rattle.hk_words.specs.Layout as layout
use Rattle.hk_model.specs.Heap.{opening_of}
use Rattle.hk_model.specs.History.{History, after, number_of}
use Rattle.hk_model.proofs.Updates.{upd_same}
use Rattle.hk_core.specs.declared.flight.Flight.{Flight}
use Rattle.hk_core.specs.State.{State}
use Rattle.hk_core.specs.Step.{took_of, next}
use Rattle.hk_core.specs.Begin.{register_word, copied}
use Rattle.hk_core.specs.View.{decoded, words_of, names_of, contents_of, flight_at}
use Rattle.hk_core.specs.Flights as f
use Rattle.hk_core.specs.Colours.{IsNullOrGood, IsKeptBirth}
use Rattle.hk_core.specs.Facts.{own_entry}
use Rattle.hk_core.specs.Reach.{Reached, in_register, in_cell}
use Rattle.hk_core.specs.Fresh.{IsFresh}
use Rattle.hk_core.specs.Lawful.{Lawful}
use Rattle.hk_core.specs.Inside.{kept_in}
use Rattle.hk_core.proofs.Columns.{raw_register}
use Rattle.hk_core.proofs.Next.{flight_at-next, found_at_place}
use Rattle.hk_core.proofs.kinds.Seats.{kept_means}
use Rattle.hk_core.proofs.kinds.NewFlight.{new_is_making, new_has_header}
use Rattle.hk_core.proofs.kinds.NewLoads.{new_on}
use Rattle.hk_core.proofs.kinds.NewSteps.{new_does_4}
use Rattle.hk_core.proofs.Shared.{some_good, some_kept}

-- a place from a first one on isn't 0
in_flight : (first last p : ℕ) → 1 ≤ first → f.is_between first last p ≡ true → nat_le 1 p ≡ true
in_flight first last p from e = grind (arith, nat_tests)

-- a New that has a number is making its object
pub making : (x : Flight) → f.has_number x ≡ true → f.is_making x ≡ true
unfolding f.has_number f.is_making f.is_new_at
making x has = each x.call x.place has
  where
    wider : (p : ℕ) (full : Bool) → (f.is_between 5 6 p && not full) ≡ true → (f.is_between 4 6 p && not full) ≡ true
    wider p full e = grind (arith, nat_tests)

    each : (call' : Call) (p : ℕ) → (f.is_new_at 5 6 call' p && not x.full) ≡ true → (f.is_new_at 4 6 call' p && not x.full) ≡ true
    each (call.Get reg field) p e = e
    each (call.Put reg field value) p e = e
    each (call.Load dest' reg field) p e = e
    each (call.Store reg field from) p e = e
    each (call.Move dest' from) p e = e
    each (call.Clear dest') p e = e
    each (call.New dest' shape) p e = wider p x.full e
    each (call.Same a b) p e = e
    each (call.IsNull reg) p e = e

module _ (c : State) (history : History) (h : Lawful c history) where
  -- every birth that can be reached in the plain heap is kept
  pub reached_kept : (birth : ℕ) → Reached c.geometry (after (opening_of c.geometry) history) birth → IsKeptBirth (kept_in c history) (names_of c.geometry history) birth
  unfolding names_of contents_of
  reached_kept birth (in_register seat reg below fits holds) = some_kept (IsKeptBirth (kept_in c history) (names_of c.geometry history)) _ birth (h.facts.registers_kept seat reg below fits) holds
  reached_kept birth (in_cell holder field reach within holds) =
      let o = reached_kept holder reach in
      some_kept (IsKeptBirth (kept_in c history) (names_of c.geometry history)) _ birth (h.facts.links_kept ((names_of c.geometry history).number holder) holder o.is_kept o.bears field within) holds

  -- a number without a place isn't kept, so it is nowhere in use
  module _ (n : ℕ) (unplaced : (words_of c.geometry c.row).place n ≡ 0) where
    not_kept : (m : ℕ) → kept_in c history m ≡ true → m ≢ n
    not_kept m kept same = (kept_means c.geometry (words_of c.geometry c.row) (flight_at c) c.spot.line (names_of c.geometry history) m kept).placed (ap (words_of c.geometry c.row).place same ∙ unplaced)

    not_good : (word : ℕ) → word ≢ 0 → IsNullOrGood (kept_in c history) (names_of c.geometry history) word → layout.reference_number word ≢ n
    not_good word some good = not_kept (layout.reference_number word) (some_good _ word some good).is_kept

    in_no_register : (s r : ℕ) → s < tasks c.geometry → r < c.geometry.registers → register_word c s r ≢ 0 → layout.reference_number (register_word c s r) ≢ n
    unfolding words_of decoded register_word
    in_no_register s r below fits some =
        let word : (words_of c.geometry c.row).register s r ≡ register_word c s r = raw_register c.geometry c.row s r below fits in
        not_good (register_word c s r) some (rw word at (h.facts.registers_good s r below fits))

    not_entered : (s : ℕ) → s < tasks c.geometry → 1 ≤ (flight_at c s).place → (flight_at c s).entered ≢ 0 → layout.reference_number (flight_at c s).entered ≢ n
    not_entered s below some entered = elim (cases_Bool (f.is_through (flight_at c s).call)) [
      | inl through ↦ not_good (flight_at c s).entered entered (inr (h.facts.entered_good s below through (le-leb 1 _ some)))
      | inr past ↦ absurd (entered ((h.facts.flights_formed s below).entered_null past))
    ]

    -- the reference that a call copies from a register
    not_copied : (s from : ℕ) → s < tasks c.geometry → f.is_flying (flight_at c s) ≡ true → from < c.geometry.registers → copied (flight_at c s).call ≡ Some from → (flight_at c s).item ≢ 0
        → layout.reference_number (flight_at c s).item ≢ n
    not_copied s from below flying fits copies some =
        let same : (flight_at c s).item ≡ (words_of c.geometry c.row).register s from = h.facts.copied_stays s from below flying copies in
        not_good (flight_at c s).item some (rw same (h.facts.registers_good s from below fits))

    no_item : (s : ℕ) → s < tasks c.geometry → f.has_item (flight_at c s) ≡ true → (flight_at c s).item ≢ 0 → layout.reference_number (flight_at c s).item ≢ n
    unfolding f.has_item f.has_item_at f.has_loaded f.is_load_at
    no_item s below has some = each (flight_at c s).call refl has
      where
        flying : (first last : ℕ) → 1 ≤ first → f.is_between first last (flight_at c s).place ≡ true → f.is_flying (flight_at c s) ≡ true
        flying first last from between = in_flight first last (flight_at c s).place from between

        each : (call' : Call) → (flight_at c s).call ≡ call' → f.has_item_at call' (flight_at c s).place ≡ true → layout.reference_number (flight_at c s).item ≢ n
        each (call.Get reg field) e has = absurd (cc)
        each (call.Put reg field value) e has = absurd (cc)
        each (call.Load dest reg field) e has = not_good (flight_at c s).item some (h.facts.loaded_good s below (rw e has))
        each (call.Store reg field from) e has =
            let busy = flying 1 7 (omega arith) has in
            let registers : RegistersFit c.geometry.registers (call.Store reg field from) = rw e at ((h.facts.flights_formed s below).registers busy) in
            not_copied s from below busy registers.1 (rw e refl) some
        each (call.Move dest from) e has =
            let busy = flying 1 3 (omega arith) has in
            let registers : RegistersFit c.geometry.registers (call.Move dest from) = rw e at ((h.facts.flights_formed s below).registers busy) in
            not_copied s from below busy registers.1 (rw e refl) some
        each (call.Clear dest) e has = absurd (cc)
        each (call.New dest shape) e has = absurd (cc)
        each (call.Same a b) e has = absurd (cc)
        each (call.IsNull reg) e has = absurd (cc)

    not_reached : (birth : ℕ) → Reached c.geometry (after (opening_of c.geometry) history) birth → number_of history birth ≢ n
    unfolding names_of
    not_reached birth reach = not_kept (number_of history birth) (reached_kept birth reach).is_kept

  module _ (s dest : ℕ) (shape : Shape) (below : s < tasks c.geometry) (is_new : (flight_at c s).call ≡ call.New dest shape) (at : (flight_at c s).place ≡ 4) (room : (flight_at c s).full ≡ false) where
    -- the number that the New gets is that of its entry
    given : (flight_at (next c s) s).number ≡ own_entry (words_of c.geometry c.row).entry (flight_at c s)
    given =
        let does = new_does_4 c history h s dest shape below is_new at room in
        let flights : s < length c.flights = let sized = h.sized.flights in omega arith in
        let found = found_at_place c s _ _ _ (record { event = does.event; flight = does.flight; entry = does.entry }) in
        let after_it : flight_at (next c s) s ≡ new_on (flight_at c s) 5 (own_entry (words_of c.geometry c.row).entry (flight_at c s)) =
        ap (λ (flight : ℕ → Flight). flight s) (flight_at-next c s flights) ∙ upd_same (flight_at c) s _ ∙ ap (took_of c.geometry (flight_at c s)) found ∙ does.flight in
        ap (λ (x : Flight). x.number) after_it

    is_made : f.is_making (flight_at c s) ≡ true
    is_made = new_is_making (flight_at c s) dest shape is_new ∙ rw (at, room) refl

    no_place : (words_of c.geometry c.row).place (own_entry (words_of c.geometry c.row).entry (flight_at c s)) ≡ 0
    no_place =
        let header : f.has_header (flight_at c s) ≡ false = new_has_header (flight_at c s) dest shape is_new ∙ rw at refl in
        rw header at ((h.facts.own_entries s below is_made).placed)

    -- another New that has a number has another one
    differs : (t : ℕ) → t < tasks c.geometry → t ≢ s → f.has_number (flight_at c t) ≡ true → (flight_at c t).number ≢ own_entry (words_of c.geometry c.row).entry (flight_at c s)
    unfolding f.has_number f.is_making f.is_new_at
    differs t t_below other has =
        let same : (flight_at c t).number ≡ own_entry (words_of c.geometry c.row).entry (flight_at c t) = h.facts.number_is_own t t_below has in
        rw same (h.facts.own_entries_distinct t s t_below below other (making (flight_at c t) has) is_made)

    pub number_is_fresh : IsFresh c history s (flight_at (next c s) s).number
    unfolding flight_at
    number_is_fresh =
        let n = own_entry (words_of c.geometry c.row).entry (flight_at c s) in
        rw given (record {
          registers = in_no_register n no_place;
          entered = not_entered n no_place;
          items = no_item n no_place;
          news = λ t t_below other has. differs t t_below other has;
          reached = not_reached n no_place;
        })
