-- The places of a New: the row and the flight after them, as the code goes through them, and that it can.
use Rattle.std.proofs.Common.{◌≡◌, ℕ, List, Bool, true, false, refl, sym, ◌∙◌, ap, subst}
use Rattle.hk_words.specs.declared.geometry.Geometry.{Geometry}
use Rattle.hk_words.specs.declared.shape.Shape.{Shape}
use Rattle.hk_words.specs.declared.call.Call.TheVariants.{New}
use Rattle.hk_core.specs.declared.flight.Flight.{Flight}
use Rattle.hk_core.specs.Event.{CanFire, fired_if, learnt}
use Rattle.hk_words.specs.declared.call.Reply.TheVariants.{Unit as NoValue}
use Rattle.hk_words.specs.Row.{frame_at}
use Rattle.hk_words.specs.Layout.{leaving, w0_words}
use Rattle.hk_core.specs.declared.event.Event.TheVariants.{Sub}
use Rattle.hk_core.specs.declared.outcome.Outcome.TheVariants.{Done, Full}
use Rattle.hk_core.specs.State.{State}
use Rattle.hk_core.specs.Step.{event_of, event_at, new_event, load_w0, enter_frame, raise, load_entry, write_header, write_register, leave_frame, took_of, took_at, new_took, full_to, full_to_all, outcome_at}
use Rattle.hk_core.specs.Begin.{first_flight, entered_word, copied_word}
use Rattle.hk_core.specs.Passing.{Passing, passed, passed_by, CanPass, CanPassBy, begins}
use Rattle.hk_core.specs.NewRows.{asked_row, asked_word, opened_row, raised_row, raised_word, shut_row, given_row, given_number, headed_row, made_row, RaiseFits, MadeFits}

-- a New in flight at a place, with the W0 and the number that it has found
abbrev at : (seat dest : ℕ) → Shape → (place word number : ℕ) → (full raised : Bool) → Flight
at seat dest shape place word number full raised = record {
  seat = seat;
  call = New dest shape;
  place = place;
  entered = 0;
  at = 0;
  word = word;
  item = 0;
  claimer = false;
  offset = 0;
  number = number;
  full = full;
  raised = raised;
}

module _ (g : Geometry) (seat dest : ℕ) (shape : Shape) where
  -- its first place
  asks : (row : List ℕ) → passed g (record { row = row; flight = at seat dest shape 1 0 0 false false })
      ≡ record { row = asked_row g row; flight = at seat dest shape 2 (asked_word g row) 0 (full_to g seat shape (asked_word g row)) false }
  unfolding passed fired_if learnt event_of event_at new_event load_w0 took_of took_at new_took asked_row asked_word
  asks row = refl

  -- all others are rests where that one found too few words
  rests : (row : List ℕ) (word : ℕ) → passed_by 5 g (record { row = row; flight = at seat dest shape 2 word 0 true false })
      ≡ record { row = row; flight = at seat dest shape 7 word 0 true false }
  unfolding passed passed_by fired_if learnt event_of event_at new_event took_of took_at new_took
  rests row word = refl

  rests_last : (row : List ℕ) (word : ℕ) → (passed g (record { row = row; flight = at seat dest shape 7 word 0 true false })).row ≡ row
  unfolding passed fired_if event_of event_at new_event
  rests_last row word = refl

  -- the second and the third place
  raises : (row : List ℕ) (word : ℕ) → passed_by 2 g (record { row = row; flight = at seat dest shape 2 word 0 false false })
      ≡ record { row = raised_row g row seat shape; flight = at seat dest shape 4 (raised_word g row seat shape) 0 (full_to_all g shape (raised_word g row seat shape)) true }
  unfolding passed passed_by fired_if learnt event_of event_at new_event enter_frame raise took_of took_at new_took opened_row raised_row raised_word
  raises row word = refl

  -- where the raise found too few words, all others but the last are rests
  waits : (row : List ℕ) (word : ℕ) → passed_by 3 g (record { row = row; flight = at seat dest shape 4 word 0 true true })
      ≡ record { row = row; flight = at seat dest shape 7 word 0 true true }
  unfolding passed passed_by fired_if learnt event_of event_at new_event took_of took_at new_took
  waits row word = refl

  waits_last : (row : List ℕ) (word : ℕ) → (passed g (record { row = row; flight = at seat dest shape 7 word 0 true true })).row ≡ shut_row g row seat
  unfolding passed fired_if event_of event_at new_event leave_frame shut_row
  waits_last row word = refl

  -- else the object is made
  makes : (row : List ℕ) (word : ℕ) → passed_by 3 g (record { row = row; flight = at seat dest shape 4 word 0 false true })
      ≡ record { row = made_row g row seat dest shape word; flight = at seat dest shape 7 word (given_number g row word) false true }
  unfolding passed passed_by fired_if learnt event_of event_at new_event load_entry write_header write_register took_of took_at new_took given_row given_number headed_row made_row
  makes row word = refl

  makes_last : (row : List ℕ) (word number : ℕ) → (passed g (record { row = row; flight = at seat dest shape 7 word number false true })).row ≡ shut_row g row seat
  unfolding passed fired_if event_of event_at new_event leave_frame shut_row
  makes_last row word number = refl

-- A New of a state, by what its first and its third place find.
module _ (c : State) (seat dest : ℕ) (shape : Shape) where
  abbrev p0 : Passing
  p0 = begins c seat (New dest shape)

  abbrev first : Passing
  first = record { row = c.row; flight = at seat dest shape 1 0 0 false false }

  starts : p0 ≡ first
  unfolding begins first_flight entered_word copied_word
  starts = refl

  by_one : (full : Bool) → full_to c.geometry seat shape (asked_word c.geometry c.row) ≡ full
      → passed_by 1 c.geometry p0 ≡ record { row = asked_row c.geometry c.row; flight = at seat dest shape 2 (asked_word c.geometry c.row) 0 full false }
  unfolding passed_by
  by_one full e =
      ap (passed c.geometry) starts ∙ asks c.geometry seat dest shape c.row
      ∙ ap (λ (b : Bool). record { row = asked_row c.geometry c.row; flight = at seat dest shape 2 (asked_word c.geometry c.row) 0 b false }) e

  module _ (too_few : full_to c.geometry seat shape (asked_word c.geometry c.row) ≡ true) where
    by_six_full : passed_by 6 c.geometry p0 ≡ record { row = asked_row c.geometry c.row; flight = at seat dest shape 7 (asked_word c.geometry c.row) 0 true false }
    unfolding passed_by
    by_six_full = ap (passed_by 5 c.geometry) (by_one true too_few) ∙ rests c.geometry seat dest shape _ _

    pub full_row : (passed_by 7 c.geometry p0).row ≡ asked_row c.geometry c.row
    unfolding passed_by
    full_row = ap (λ (p : Passing). (passed c.geometry p).row) by_six_full ∙ rests_last c.geometry seat dest shape _ _

    pub full_outcome : outcome_at (passed_by 6 c.geometry p0).flight (New dest shape) ≡ Full (w0_words (asked_word c.geometry c.row))
    full_outcome = ap (λ (p : Passing). outcome_at p.flight (New dest shape)) by_six_full

  module _ (room : full_to c.geometry seat shape (asked_word c.geometry c.row) ≡ false) where
    abbrev row1 : List ℕ
    row1 = asked_row c.geometry c.row

    by_three : (full : Bool) → full_to_all c.geometry shape (raised_word c.geometry row1 seat shape) ≡ full
        → passed_by 3 c.geometry p0 ≡ record { row = raised_row c.geometry row1 seat shape; flight = at seat dest shape 4 (raised_word c.geometry row1 seat shape) 0 full true }
    unfolding passed_by
    by_three full e =
        ap (passed_by 2 c.geometry) (by_one false room) ∙ raises c.geometry seat dest shape _ _
        ∙ ap (λ (b : Bool). record { row = raised_row c.geometry row1 seat shape; flight = at seat dest shape 4 (raised_word c.geometry row1 seat shape) 0 b true }) e

    module _ (can : CanPassBy 7 c.geometry p0) where
      pub raise_fits : RaiseFits c.geometry row1 seat shape
      unfolding CanPassBy passed_by passed fired_if learnt event_of event_at new_event enter_frame raise took_of took_at new_took opened_row
      raise_fits =
          let second = subst (CanPass c.geometry) (by_one false room) can.0.0.0.0.0.1 in
          let third = subst (λ (p : Passing). CanPass c.geometry (passed c.geometry p)) (by_one false room) can.0.0.0.0.1 in
          record { frame = second.event; raise = third.event }

    module _ (too_few : full_to_all c.geometry shape (raised_word c.geometry row1 seat shape) ≡ true) where
      by_six_waits : passed_by 6 c.geometry p0 ≡ record { row = raised_row c.geometry row1 seat shape; flight = at seat dest shape 7 (raised_word c.geometry row1 seat shape) 0 true true }
      unfolding passed_by
      by_six_waits = ap (passed_by 3 c.geometry) (by_three true too_few) ∙ waits c.geometry seat dest shape _ _

      pub waits_row : (passed_by 7 c.geometry p0).row ≡ shut_row c.geometry (raised_row c.geometry row1 seat shape) seat
      unfolding passed_by
      waits_row = ap (λ (p : Passing). (passed c.geometry p).row) by_six_waits ∙ waits_last c.geometry seat dest shape _ _

      pub waits_outcome : outcome_at (passed_by 6 c.geometry p0).flight (New dest shape) ≡ Full (w0_words (raised_word c.geometry row1 seat shape))
      waits_outcome = ap (λ (p : Passing). outcome_at p.flight (New dest shape)) by_six_waits

      pub waits_fits : CanPassBy 7 c.geometry p0 → CanFire (raised_row c.geometry row1 seat shape) (Sub (frame_at c.geometry seat) leaving)
      unfolding CanPassBy event_of event_at new_event leave_frame
      waits_fits can = (subst (CanPass c.geometry) by_six_waits can.1).event

    module _ (enough : full_to_all c.geometry shape (raised_word c.geometry row1 seat shape) ≡ false) where
      abbrev row3 : List ℕ
      row3 = raised_row c.geometry row1 seat shape

      abbrev word3 : ℕ
      word3 = raised_word c.geometry row1 seat shape

      by_six_makes : passed_by 6 c.geometry p0 ≡ record { row = made_row c.geometry row3 seat dest shape word3; flight = at seat dest shape 7 word3 (given_number c.geometry row3 word3) false true }
      unfolding passed_by
      by_six_makes = ap (passed_by 3 c.geometry) (by_three false enough) ∙ makes c.geometry seat dest shape _ _

      pub makes_row : (passed_by 7 c.geometry p0).row ≡ shut_row c.geometry (made_row c.geometry row3 seat dest shape word3) seat
      unfolding passed_by
      makes_row = ap (λ (p : Passing). (passed c.geometry p).row) by_six_makes ∙ makes_last c.geometry seat dest shape _ _ _

      pub makes_outcome : outcome_at (passed_by 6 c.geometry p0).flight (New dest shape) ≡ Done NoValue
      makes_outcome = ap (λ (p : Passing). outcome_at p.flight (New dest shape)) by_six_makes

      pub makes_fits : CanPassBy 7 c.geometry p0 → CanFire (made_row c.geometry row3 seat dest shape word3) (Sub (frame_at c.geometry seat) leaving)
      unfolding CanPassBy event_of event_at new_event leave_frame
      makes_fits can = (subst (CanPass c.geometry) by_six_makes can.1).event

      pub made_fits : CanPassBy 7 c.geometry p0 → MadeFits c.geometry row3 seat dest shape word3
      unfolding CanPassBy passed_by passed fired_if learnt event_of event_at new_event load_entry write_header write_register took_of took_at new_took given_row given_number headed_row
      made_fits can =
          let fourth = subst (CanPass c.geometry) (by_three false enough) can.0.0.0.1 in
          let fifth = subst (λ (p : Passing). CanPass c.geometry (passed c.geometry p)) (by_three false enough) can.0.0.1 in
          let sixth = subst (λ (p : Passing). CanPass c.geometry (passed c.geometry (passed c.geometry p))) (by_three false enough) can.0.1 in
          record {
            entry = fourth.flight.call.1 refl refl;
            words = (fifth.flight.call.2 refl refl).1;
            number = (fifth.flight.call.2 refl refl).0;
            loads = fourth.event;
            heads = fifth.event;
            writes = sixth.event;
          }

-- as the code goes: after its first place, and where that found room after its third; its tests read the geometry of what it
-- has seen of the state
module _ (c seen d : State) (seat dest : ℕ) (shape : Shape) (found : ℕ) (is : seen ≡ c) (asked : d ≡ record c { row = asked_row c.geometry c.row }) (found_is : found ≡ asked_word c.geometry c.row) where
  abbrev goes : Passing
  goes = begins c seat (New dest shape)

  tells : (full : Bool) → full ≡ full_to seen.geometry seat shape found → full_to c.geometry seat shape (asked_word c.geometry c.row) ≡ full
  tells full test =
      ap (λ (w : ℕ). full_to c.geometry seat shape w) (sym found_is)
      ∙ ap (λ (x : State). full_to x.geometry seat shape found) (sym is) ∙ sym test

  pub full_left : true ≡ full_to seen.geometry seat shape found → d ≡ record c { row = (passed_by 7 c.geometry goes).row }
  full_left test = asked ∙ ap (λ (l : List ℕ). record c { row = l }) (sym (full_row c seat dest shape (tells true test)))

  pub full_answers : true ≡ full_to seen.geometry seat shape found → Full (w0_words found) ≡ outcome_at (passed_by 6 c.geometry goes).flight (New dest shape)
  full_answers test = ap (λ (w : ℕ). Full (w0_words w)) found_is ∙ sym (full_outcome c seat dest shape (tells true test))

  module _ (test : false ≡ full_to seen.geometry seat shape found) (can : CanPassBy 7 c.geometry goes) where
    room : full_to c.geometry seat shape (asked_word c.geometry c.row) ≡ false
    room = tells false test

    pub raise_can : RaiseFits d.geometry d.row seat shape
    raise_can = rw asked (raise_fits c seat dest shape room can)

    module _ (e : State) (raised : ℕ) (raises' : e ≡ record d { row = raised_row d.geometry d.row seat shape }) (raised_is : raised ≡ raised_word d.geometry d.row seat shape) where
      abbrev row_raised : List ℕ
      row_raised = raised_row c.geometry (asked_row c.geometry c.row) seat shape

      abbrev word_raised : ℕ
      word_raised = raised_word c.geometry (asked_row c.geometry c.row) seat shape

      e_is : e ≡ record c { row = row_raised }
      e_is = raises' ∙ ap (λ (x : State). record x { row = raised_row x.geometry x.row seat shape }) asked

      w_is : raised ≡ word_raised
      w_is = raised_is ∙ ap (λ (x : State). raised_word x.geometry x.row seat shape) asked

      tells_all : (full : Bool) → full ≡ full_to_all seen.geometry shape raised → full_to_all c.geometry shape word_raised ≡ full
      tells_all full test_all =
          ap (λ (w : ℕ). full_to_all c.geometry shape w) (sym w_is)
          ∙ ap (λ (x : State). full_to_all x.geometry shape raised) (sym is) ∙ sym test_all

      module _ (test_all : true ≡ full_to_all seen.geometry shape raised) where
        pub wait_can : CanFire e.row (Sub (frame_at e.geometry seat) leaving)
        wait_can = rw e_is (waits_fits c seat dest shape room (tells_all true test_all) can)

        pub wait_left : (f : State) → f ≡ record e { row = shut_row e.geometry e.row seat } → f ≡ record c { row = (passed_by 7 c.geometry goes).row }
        wait_left f shuts =
            shuts ∙ ap (λ (x : State). record x { row = shut_row x.geometry x.row seat }) e_is
            ∙ ap (λ (l : List ℕ). record c { row = l }) (sym (waits_row c seat dest shape room (tells_all true test_all)))

        pub wait_answers : Full (w0_words raised) ≡ outcome_at (passed_by 6 c.geometry goes).flight (New dest shape)
        wait_answers = ap (λ (w : ℕ). Full (w0_words w)) w_is ∙ sym (waits_outcome c seat dest shape room (tells_all true test_all))

      module _ (test_all : false ≡ full_to_all seen.geometry shape raised) where
        all_room : full_to_all c.geometry shape word_raised ≡ false
        all_room = tells_all false test_all

        pub make_can : MadeFits e.geometry e.row seat dest shape raised
        make_can = rw (e_is, w_is) (made_fits c seat dest shape room all_room can)

        pub make_answers : Done NoValue ≡ outcome_at (passed_by 6 c.geometry goes).flight (New dest shape)
        make_answers = sym (makes_outcome c seat dest shape room all_room)

        module _ (f : State) (made : f ≡ record e { row = made_row e.geometry e.row seat dest shape raised }) where
          f_is : f ≡ record c { row = made_row c.geometry row_raised seat dest shape word_raised }
          f_is = made ∙ ap (λ (x : State). record x { row = made_row x.geometry x.row seat dest shape raised }) e_is
              ∙ ap (λ (w : ℕ). record c { row = made_row c.geometry row_raised seat dest shape w }) w_is

          pub shut_can : CanFire f.row (Sub (frame_at f.geometry seat) leaving)
          shut_can = rw f_is (makes_fits c seat dest shape room all_room can)

          pub make_left : (h : State) → h ≡ record f { row = shut_row f.geometry f.row seat } → h ≡ record c { row = (passed_by 7 c.geometry goes).row }
          make_left h shuts =
              shuts ∙ ap (λ (x : State). record x { row = shut_row x.geometry x.row seat }) f_is
              ∙ ap (λ (l : List ℕ). record c { row = l }) (sym (makes_row c seat dest shape room all_room))
