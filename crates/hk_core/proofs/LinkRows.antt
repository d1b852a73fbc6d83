-- The places of a Load and of a Store: the row and the flight after them, as the code goes through them, and that it can.
use Rattle.std.proofs.Common.{◌≡◌, ℕ, List, Bool, false, refl, sym, ◌∙◌, ap, subst}
use Rattle.hk_words.specs.declared.geometry.Geometry.{Geometry}
use Rattle.hk_words.specs.declared.call.Call.TheVariants.{Load, Store}
use Rattle.hk_core.specs.declared.flight.Flight.{Flight}
use Rattle.hk_core.specs.Event.{fired_if, learnt}
use Rattle.hk_core.specs.State.{State}
use Rattle.hk_core.specs.Step.{event_of, event_at, load_event, store_event, load_w0, enter_frame, enter_object, read_cell, write_cell, claim, reserve, link, write_register, leave_object, leave_frame, took_of, took_at, load_took, store_took}
use Rattle.hk_core.specs.Begin.{first_flight, entered_word, copied_word, register_word}
use Rattle.hk_core.specs.Fits.{NamesNumber}
use Rattle.hk_core.specs.Passing.{Passing, passed, passed_by, CanPass, CanPassBy, begins}
use Rattle.hk_core.specs.LinkRows.{after_claim, after_reserve, claimed_row, reserved_row, linked_row, ClaimFits, entered_row, cell_of, cycle_row, cycle_read, item_row, item_read, ReadFits, loaded_row, load_row, LoadFits, cell_inside, seen_row, seen_word, stored_row, store_row, StoreFits}
use Rattle.hk_core.specs.WholeRows.{inside_row, framed_row}

-- LOAD

-- a Load in flight at a place, with what it has found
abbrev load_at : (seat dest reg field entered : ℕ) → (place at word item : ℕ) → (claimer : Bool) → (offset : ℕ) → Flight
load_at seat dest reg field entered place at word item claimer offset = record {
  seat = seat;
  call = Load dest reg field;
  place = place;
  entered = entered;
  at = at;
  word = word;
  item = item;
  claimer = claimer;
  offset = offset;
  number = 0;
  full = false;
  raised = false;
}

module _ (g : Geometry) (seat dest reg field entered : ℕ) where
  abbrev load_first : List ℕ → Passing
  load_first row = record { row = row; flight = load_at seat dest reg field entered 1 0 0 0 false 0 }

  abbrev at_read : List ℕ → ℕ
  at_read row = (passed_by 4 g (load_first row)).flight.at

  load_reads : (row : List ℕ) → passed_by 4 g (load_first row)
      ≡ record { row = item_row g row seat entered field; flight = load_at seat dest reg field entered 5 (at_read row) (cycle_read g row seat entered) (item_read g row seat entered field) false 0 }
  unfolding passed passed_by fired_if learnt event_of event_at load_event enter_frame enter_object load_w0 read_cell took_of took_at load_took framed_row entered_row cell_of cycle_row cycle_read item_row item_read
  load_reads row = refl

  load_claims : (row : List ℕ) (at word item : ℕ) → passed_by 3 g (record { row = row; flight = load_at seat dest reg field entered 5 at word item false 0 })
      ≡ record { row = linked_row g row item word; flight = load_at seat dest reg field entered 8 at word item (after_claim g row item word).claimer (after_reserve g row item word).offset }
  unfolding passed passed_by event_of event_at load_event took_of took_at load_took claim reserve link claimed_row reserved_row linked_row
  load_claims row at word item = refl

  load_writes : (row : List ℕ) (at word item offset : ℕ) (claimer : Bool)
      → (passed_by 3 g (record { row = linked_row g row item word; flight = load_at seat dest reg field entered 8 at word item claimer offset })).row ≡ load_row g row seat dest entered item word
  unfolding passed passed_by fired_if event_of event_at load_event write_register leave_object leave_frame took_of took_at load_took loaded_row load_row
  load_writes row at word item offset claimer = refl

module _ (c : State) (seat dest reg field : ℕ) where
  abbrev g : Geometry
  g = c.geometry

  abbrev entered : ℕ
  entered = register_word c seat reg

  abbrev started : Passing
  started = begins c seat (Load dest reg field)

  abbrev row4 : List ℕ
  row4 = item_row g c.row seat entered field

  abbrev word4 : ℕ
  word4 = cycle_read g c.row seat entered

  abbrev item4 : ℕ
  item4 = item_read g c.row seat entered field

  abbrev after_four : Passing
  after_four = record { row = row4; flight = load_at seat dest reg field entered 5 (at_read g seat dest reg field entered c.row) word4 item4 false 0 }

  abbrev after_seven : Passing
  after_seven = record {
    row = linked_row g row4 item4 word4;
    flight = load_at seat dest reg field entered 8 (at_read g seat dest reg field entered c.row) word4 item4 (after_claim g row4 item4 word4).claimer (after_reserve g row4 item4 word4).offset;
  }

  load_starts : started ≡ load_first g seat dest reg field entered c.row
  unfolding begins first_flight entered_word copied_word
  load_starts = refl

  load_four : passed_by 4 g started ≡ after_four
  load_four = ap (passed_by 4 g) load_starts ∙ load_reads g seat dest reg field entered c.row

  load_seven : passed_by 7 g started ≡ after_seven
  unfolding passed_by
  load_seven = ap (passed_by 3 g) load_four ∙ load_claims g seat dest reg field entered row4 _ word4 item4

  pub whole_load_row : (passed_by 10 g started).row ≡ load_row g row4 seat dest entered item4 word4
  unfolding passed_by
  whole_load_row = ap (λ (p : Passing). (passed_by 3 g p).row) load_seven ∙ load_writes g seat dest reg field entered row4 _ word4 item4 _ _

  module _ (can : CanPassBy 10 g started) where
    pub read_fits : ReadFits g c.row seat entered field
    unfolding CanPassBy passed_by passed begins first_flight entered_word copied_word fired_if learnt event_of event_at load_event enter_frame enter_object load_w0 read_cell took_of took_at load_took framed_row entered_row cell_of cycle_row
    read_fits =
        let one = can.0.0.0.0.0.0.0.0.0.1 in
        let two = can.0.0.0.0.0.0.0.0.1 in
        let three = can.0.0.0.0.0.0.0.1 in
        let four = can.0.0.0.0.0.0.1 in
        record {
          number = one.flight.call.1;
          within = four.flight.call.2 refl;
          frame = one.event;
          entry = two.event;
          cycle = three.event;
          reads = four.event;
        }

    claim_fits : ClaimFits g row4 item4 word4
    unfolding CanPassBy passed_by passed event_of event_at load_event claim reserve link took_of took_at load_took claimed_row reserved_row
    claim_fits =
        let five = subst (CanPass g) load_four can.0.0.0.0.0.1 in
        let six = subst (λ (p : Passing). CanPass g (passed g p)) load_four can.0.0.0.0.1 in
        let seven = subst (λ (p : Passing). CanPass g (passed g (passed g p))) load_four can.0.0.0.1 in
        record {
          number = five.flight.call.3 refl;
          claims = five.event;
          reserves = six.event;
          links = seven.event;
        }

    pub load_fits : LoadFits g row4 seat dest entered item4 word4
    unfolding CanPassBy passed_by passed fired_if event_of event_at load_event write_register leave_object leave_frame took_of took_at load_took loaded_row
    load_fits =
        let eight = subst (CanPass g) load_seven can.0.0.1 in
        let nine = subst (λ (p : Passing). CanPass g (passed g p)) load_seven can.0.1 in
        let ten = subst (λ (p : Passing). CanPass g (passed g (passed g p))) load_seven can.1 in
        record { claims = claim_fits; writes = eight.event; exit = nine.event; frame = ten.event }

-- STORE

-- a Store in flight at a place, with what it has found
abbrev store_at : (seat reg field from entered item : ℕ) → (place at word : ℕ) → (claimer : Bool) → (offset : ℕ) → Flight
store_at seat reg field from entered item place at word claimer offset = record {
  seat = seat;
  call = Store reg field from;
  place = place;
  entered = entered;
  at = at;
  word = word;
  item = item;
  claimer = claimer;
  offset = offset;
  number = 0;
  full = false;
  raised = false;
}

module _ (c : State) (seat reg field from : ℕ) where
  abbrev g' : Geometry
  g' = c.geometry

  abbrev entered' : ℕ
  entered' = register_word c seat reg

  abbrev item : ℕ
  item = register_word c seat from

  abbrev started' : Passing
  started' = begins c seat (Store reg field from)

  abbrev row2 : List ℕ
  row2 = seen_row g' (inside_row g' c.row entered') item

  abbrev word2 : ℕ
  word2 = seen_word g' (inside_row g' c.row entered') item

  abbrev at2 : ℕ
  at2 = (passed_by 1 g' (record { row = c.row; flight = store_at seat reg field from entered' item 1 0 0 false 0 })).flight.at

  abbrev after_two : Passing
  after_two = record { row = row2; flight = store_at seat reg field from entered' item 3 at2 word2 false 0 }

  abbrev after_five : Passing
  after_five = record {
    row = linked_row g' row2 item word2;
    flight = store_at seat reg field from entered' item 6 at2 word2 (after_claim g' row2 item word2).claimer (after_reserve g' row2 item word2).offset;
  }

  store_two : passed_by 2 g' started' ≡ after_two
  unfolding begins first_flight entered_word copied_word passed passed_by fired_if learnt event_of event_at store_event enter_object load_w0 took_of took_at store_took inside_row seen_row seen_word
  store_two = refl

  store_claims : passed_by 3 g' after_two ≡ after_five
  unfolding passed passed_by event_of event_at store_event took_of took_at store_took claim reserve link claimed_row reserved_row linked_row
  store_claims = refl

  store_five : passed_by 5 g' started' ≡ after_five
  unfolding passed_by
  store_five = ap (passed_by 3 g') store_two ∙ store_claims

  store_writes : (passed_by 2 g' after_five).row ≡ store_row g' c.row entered' field item
  unfolding passed passed_by fired_if learnt event_of event_at store_event enter_object write_cell leave_object took_of took_at store_took cell_inside stored_row store_row
  store_writes = refl

  pub whole_store_row : (passed_by 7 g' started').row ≡ store_row g' c.row entered' field item
  unfolding passed_by
  whole_store_row = ap (λ (p : Passing). (passed_by 2 g' p).row) store_five ∙ store_writes

  module _ (can : CanPassBy 7 g' started') where
    store_claim_fits : ClaimFits g' row2 item word2
    unfolding CanPassBy passed_by passed event_of event_at store_event claim reserve link took_of took_at store_took claimed_row reserved_row
    store_claim_fits =
        let three = subst (CanPass g') store_two can.0.0.0.0.1 in
        let four = subst (λ (p : Passing). CanPass g' (passed g' p)) store_two can.0.0.0.1 in
        let five = subst (λ (p : Passing). CanPass g' (passed g' (passed g' p))) store_two can.0.0.1 in
        record {
          number = three.flight.call.1 refl;
          claims = three.event;
          reserves = four.event;
          links = five.event;
        }

    pub store_fits : StoreFits g' c.row entered' field item
    unfolding CanPassBy passed_by passed begins first_flight entered_word copied_word fired_if learnt event_of event_at store_event enter_object load_w0 write_cell leave_object took_of took_at store_took inside_row cell_inside stored_row
    store_fits =
        let one = can.0.0.0.0.0.0.1 in
        let two = can.0.0.0.0.0.1 in
        let six = subst (CanPass g') store_five can.0.1 in
        let seven = subst (λ (p : Passing). CanPass g' (passed g' p)) store_five can.1 in
        record {
          number = one.flight.call.0;
          within = six.flight.call.2 refl;
          entry = one.event;
          cycle = two.event;
          claims = store_claim_fits;
          writes = six.event;
          exit = seven.event;
        }

-- AS THE CODE GOES

-- the first places of a Load, then the others: they can be done, and leave what all leave
module _ (c d : State) (seat dest reg field entered item word : ℕ) (is : entered ≡ register_word c seat reg)
    (read : d ≡ record c { row = item_row c.geometry c.row seat entered field }) (item_is : item ≡ item_read c.geometry c.row seat entered field)
    (word_is : word ≡ cycle_read c.geometry c.row seat entered) where
  pub load_number : CanPassBy 10 c.geometry (begins c seat (Load dest reg field)) → NamesNumber d.geometry entered
  load_number can = rw (read, is) (read_fits c seat dest reg field can).number

  pub load_can : CanPassBy 10 c.geometry (begins c seat (Load dest reg field)) → LoadFits d.geometry d.row seat dest entered item word
  load_can can = rw (read, item_is, word_is, is) (load_fits c seat dest reg field can)

  pub load_left : (e : State) → e ≡ record d { row = load_row d.geometry d.row seat dest entered item word }
      → e ≡ record c { row = (passed_by 10 c.geometry (begins c seat (Load dest reg field))).row }
  load_left e writes =
      writes ∙ ap (λ (x : State). record x { row = load_row x.geometry x.row seat dest entered item word }) read
      ∙ ap (λ (n : ℕ). record c { row = load_row c.geometry (item_row c.geometry c.row seat entered field) seat dest entered n word }) item_is
      ∙ ap (λ (n : ℕ). record c { row = load_row c.geometry (item_row c.geometry c.row seat entered field) seat dest entered (item_read c.geometry c.row seat entered field) n }) word_is
      ∙ ap (λ (n : ℕ). record c { row = load_row c.geometry (item_row c.geometry c.row seat n field) seat dest n (item_read c.geometry c.row seat n field) (cycle_read c.geometry c.row seat n) }) is
      ∙ ap (λ (l : List ℕ). record c { row = l }) (sym (whole_load_row c seat dest reg field))

module _ (c : State) (seat reg field from entered' item' : ℕ) (is : entered' ≡ register_word c seat reg) (copies : item' ≡ register_word c seat from) where
  pub store_can : CanPassBy 7 c.geometry (begins c seat (Store reg field from)) → StoreFits c.geometry c.row entered' field item'
  store_can can = rw (is, copies) (store_fits c seat reg field from can)

  pub store_left : (e : State) → e ≡ record c { row = store_row c.geometry c.row entered' field item' }
      → e ≡ record c { row = (passed_by 7 c.geometry (begins c seat (Store reg field from))).row }
  store_left e writes =
      writes ∙ ap (λ (n : ℕ). record c { row = store_row c.geometry c.row n field item' }) is
      ∙ ap (λ (n : ℕ). record c { row = store_row c.geometry c.row (register_word c seat reg) field n }) copies
      ∙ ap (λ (l : List ℕ). record c { row = l }) (sym (whole_store_row c seat reg field from))
