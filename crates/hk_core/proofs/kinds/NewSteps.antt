-- What each place of a New does to a lawful state: its event, the flight and the entry by the tables, what the words say
-- after the event, that the history after it is legal, and that all facts hold.
use Rattle.std.proofs.Common.{◌≡◌, ℕ, ◌+◌, ◌<◌, ◌≤◌, Bool, true, false, ◌++◌, List, ◌≢◌, inl, inr, refl, ◌∙◌, ap, arith, Option, Some, None}
use Rattle.std.proofs.lemmas.Bool.{cases_Bool, cases_eq, and_parts, not-true}
use Rattle.std.specs.Prelude.{not, ◌&&◌, option_to_list}
use Rattle.hk_words.specs.declared.geometry.Geometry.{Geometry}
use Rattle.hk_words.specs.declared.shape.Shape.{Shape}
use Rattle.hk_words.specs.declared.call.Call.TheVariants as call
use Rattle.hk_words.specs.Geometry.{tasks, numbers, list_length}
use Rattle.hk_words.specs.Calls.{RegistersFit}
use Rattle.hk_words.specs.Shape.{size}
use Rattle.hk_words.specs.Layout as layout
use Rattle.hk_words.specs.Row.{word_of, w0_at, header_at, frame_at, register_at, entry_at}
use Rattle.hk_words.specs.Row.Slot.{W0}
use Rattle.hk_model.specs.View.{upd}
use Rattle.hk_model.proofs.Updates.{upd_other}
use Rattle.hk_model.specs.Heap.{opening_of}
use Rattle.hk_model.specs.History.{Entry, History, Legal}
use Rattle.hk_core.specs.declared.event.Event.{Event}
use Rattle.hk_core.specs.declared.event.Event.TheVariants as event
use Rattle.hk_core.specs.declared.flight.Flight.{Flight}
use Rattle.hk_core.specs.Event.{fired_if, learnt, old_of}
use Rattle.hk_core.specs.State.{State, idle}
use Rattle.hk_core.specs.Step.{event_of, took_of, effect_of, full_to, full_to_all, side_of, new_place, new_reference}
use Rattle.hk_core.specs.View.{Words, words_of, names_of, contents_of, flight_at, begun_at}
use Rattle.hk_core.specs.Flights as f
use Rattle.hk_core.specs.Facts as fact
use Rattle.hk_core.specs.Facts.{FoundRoom}
use Rattle.hk_core.specs.Lawful.{FactsOf, Lawful}
use Rattle.hk_core.proofs.kinds.Seats.{moved_on}
use Rattle.hk_core.proofs.kinds.Frame.{EntersFrame, EndsInFrame, entering_frame_words, leaving_frame_words, enter_frame, leave_frame, new_enters_frame, new_leaves_frame}
use Rattle.hk_core.proofs.kinds.Words.{words-load, words-enter_frame, words-leave_frame, words-write_register}
use Rattle.hk_core.proofs.kinds.WriteRegister.{writing_words}
use Rattle.hk_core.proofs.kinds.NewFlight.{new_in_frame, new_will_raise, new_has_size, new_has_number}
use Rattle.hk_core.proofs.kinds.NewLoads.{new_loaded, new_on, loads_w0, new_loads, new_rests, new_ends, names-full, contents-full, legal-full}
use Rattle.hk_core.proofs.kinds.NewEntry.{HasMade, made_room, made_is_making, loads_entry, new_loads_entry}
use Rattle.hk_core.proofs.kinds.NewRaise.{raised_words, new_raised, new_raises}
use Rattle.hk_core.proofs.kinds.NewWords.{headed_words, words-raise, words-new_header, used_fits, objects_fit, new_place_fits}
use Rattle.hk_core.proofs.kinds.NewHeader.{new_writes_header, inside_elsewhere}
use Rattle.hk_core.proofs.kinds.NewIsBorn.{new_is_born}
use Rattle.hk_core.proofs.kinds.NewHistory.{made, next_birth, is_next, names-born, contents-born, legal-born}
use Rattle.hk_core.proofs.kinds.NewTables.{NewSays, refused_if, new_says_1, new_says_2, new_says_3, new_says_4, new_says_5, new_says_6, new_says_7, new_rests_2, new_rests_3, new_rests_4, new_rests_5, new_rests_6, new_rests_7}
use Rattle.std.proofs.lemmas.List.{append-nil}
use Rattle.hk_core.proofs.Columns.{words_some, words_none}

-- what a place of a New does to a lawful state
pub record NewDoes (c : State) (history : History) (s : ℕ) (event' : Option Event) (flight' : Flight) (entry' : Option Entry) (words' : Words) (range : ℕ → Option ℕ) : Type 0 where
  pub event : event_of c.geometry (flight_at c s) ≡ event'
  pub flight : took_of c.geometry (flight_at c s) (learnt c.row event') ≡ flight'
  pub entry : effect_of c.geometry (flight_at c s) (learnt c.row event') ≡ entry'
  pub words : words_of c.geometry (fired_if c.row event') ≡ words'
  pub legal : Legal (opening_of c.geometry) (history ++ option_to_list entry')
  pub facts : FactsOf c.geometry words' (upd (flight_at c) s flight') (begun_at c) c.spot (names_of c.geometry (history ++ option_to_list entry')) (contents_of c.geometry (history ++ option_to_list entry')) range

module _ (g : Geometry) (history : History) (seat dest : ℕ) (shape : Shape) (word : ℕ) where
  -- an entry that says that there was no room, or none at all, leaves the plain heap as it is, and is legal
  names_refused_if : (full : Bool) → names_of g (history ++ option_to_list (refused_if seat dest shape full word)) ≡ names_of g history
  names_refused_if true = names-full g history seat dest shape (layout.w0_words word)
  names_refused_if false = ap (names_of g) (append-nil history)

  contents_refused_if : (full : Bool) → contents_of g (history ++ option_to_list (refused_if seat dest shape full word)) ≡ contents_of g history
  contents_refused_if true = contents-full g history seat dest shape (layout.w0_words word)
  contents_refused_if false = ap (contents_of g) (append-nil history)

  legal_refused_if : (full : Bool) → Legal (opening_of g) history → Legal (opening_of g) (history ++ option_to_list (refused_if seat dest shape full word))
  legal_refused_if true legal = legal-full g history seat dest shape (layout.w0_words word) legal
  legal_refused_if false legal = rw (append-nil history) legal

-- what a load of W0 and a raise of it learn is the packed W0
learnt_w0 : (g : Geometry) (row : List ℕ) → learnt row (Some (event.Load (w0_at g))) ≡ word_of g row W0
unfolding learnt old_of
learnt_w0 g row = refl

learnt_raise : (g : Geometry) (row : List ℕ) (amount : ℕ) → learnt row (Some (event.Add (w0_at g) amount)) ≡ word_of g row W0
unfolding learnt old_of
learnt_raise g row amount = refl

-- and what a load of an entry learns is what the words say of it
learnt_entry : (g : Geometry) (row : List ℕ) (list j : ℕ) → list < 2 → j < list_length g → learnt row (Some (event.Load (entry_at g list j))) ≡ (words_of g row).entry list j
unfolding learnt old_of
learnt_entry g row list j a b = loads_entry g row list j a b

module _ (c : State) (history : History) (h : Lawful c history) (s dest : ℕ) (shape : Shape) (below : s < tasks c.geometry) (is_new : (flight_at c s).call ≡ call.New dest shape) where
  abbrev w0 : ℕ
  w0 = word_of c.geometry c.row W0

  seated : (flight_at c s).seat ≡ s
  seated = (h.facts.flights_formed s below).seated

  -- the facts of a place that adds no entry
  silent : (w : Words) (y : Flight) → FactsOf c.geometry w (upd (flight_at c) s y) (begun_at c) c.spot (names_of c.geometry history) (contents_of c.geometry history) h.range
      → FactsOf c.geometry w (upd (flight_at c) s y) (begun_at c) c.spot (names_of c.geometry (history ++ option_to_list None)) (contents_of c.geometry (history ++ option_to_list None)) h.range
  silent w y facts = rw (append-nil history) facts

  legal_still : Legal (opening_of c.geometry) (history ++ option_to_list None)
  legal_still = rw (append-nil history) h.legal

  -- the first place
  pub new_does_1 : (flight_at c s).place ≡ 1
      → NewDoes c history s (Some (event.Load (w0_at c.geometry))) (new_loaded c.geometry (flight_at c s) shape w0)
      (refused_if (flight_at c s).seat dest shape (full_to c.geometry (flight_at c s).seat shape w0) w0) (words_of c.geometry c.row) h.range
  new_does_1 at =
      let g = c.geometry in
      let x = flight_at c s in
      let says = new_says_1 g x dest shape is_new at in
      let full = full_to g x.seat shape w0 in
      let facts = new_loads g (words_of g c.row) (flight_at c) (begun_at c) c.spot (names_of g history) (contents_of g history) h.range s dest shape w0 below is_new at (loads_w0 g c.row) h.facts in
      record {
        event = says.event;
        flight = rw (learnt_w0 g c.row) (says.flight w0);
        entry = rw (learnt_w0 g c.row) (says.entry w0);
        words = words_some g c.row (event.Load (w0_at g)) (words_of g c.row) (words-load g c.row (w0_at g));
        legal = legal_refused_if g history x.seat dest shape w0 full h.legal;
        facts = rw (names_refused_if g history x.seat dest shape w0 full, contents_refused_if g history x.seat dest shape w0 full) facts;
      }

  -- a rest that goes on
  rests : (q m : ℕ) → (flight_at c s).full ≡ true → 2 ≤ (flight_at c s).place → (flight_at c s).place ≤ 6 → q ≡ (flight_at c s).place + 1
      → NewSays c.geometry (flight_at c s) None (λ old. new_on (flight_at c s) q m) (λ old. None)
      → NewDoes c history s None (new_on (flight_at c s) q m) None (words_of c.geometry c.row) h.range
  rests q m full from within to says =
      let g = c.geometry in
      let w = words_of g c.row in
      let y = new_on (flight_at c s) q m in
      record {
        event = says.event;
        flight = says.flight (learnt c.row None);
        entry = says.entry (learnt c.row None);
        words = words_none g c.row;
        legal = legal_still;
        facts = silent w y (new_rests g w (flight_at c) (begun_at c) c.spot (names_of g history) (contents_of g history) h.range s q m dest shape below is_new full from within to h.facts);
      }

  pub new_rest_does_2 : (flight_at c s).place ≡ 2 → (flight_at c s).full ≡ true
      → NewDoes c history s None (new_on (flight_at c s) 3 (flight_at c s).number) None (words_of c.geometry c.row) h.range
  new_rest_does_2 at full = rests 3 (flight_at c s).number full (omega arith) (omega arith) (omega arith) (new_rests_2 c.geometry (flight_at c s) dest shape is_new at full)

  pub new_rest_does_3 : (flight_at c s).place ≡ 3 → (flight_at c s).full ≡ true
      → NewDoes c history s None (new_on (flight_at c s) 4 (flight_at c s).number) None (words_of c.geometry c.row) h.range
  new_rest_does_3 at full = rests 4 (flight_at c s).number full (omega arith) (omega arith) (omega arith) (new_rests_3 c.geometry (flight_at c s) dest shape is_new at full)

  pub new_rest_does_4 : (flight_at c s).place ≡ 4 → (flight_at c s).full ≡ true
      → NewDoes c history s None (new_on (flight_at c s) 5 (learnt c.row None)) None (words_of c.geometry c.row) h.range
  new_rest_does_4 at full =
      let says = new_rests_4 c.geometry (flight_at c s) dest shape is_new at full in
      let g = c.geometry in
      let w = words_of g c.row in
      let none = learnt c.row None in
      record {
        event = says.event;
        flight = says.flight none;
        entry = says.entry none;
        words = words_none g c.row;
        legal = legal_still;
        facts = silent w (new_on (flight_at c s) 5 none) (new_rests g w (flight_at c) (begun_at c) c.spot (names_of g history) (contents_of g history) h.range s 5 none dest shape below is_new full
            (omega arith) (omega arith) (omega arith) h.facts);
      }

  pub new_rest_does_5 : (flight_at c s).place ≡ 5 → (flight_at c s).full ≡ true
      → NewDoes c history s None (new_on (flight_at c s) 6 (flight_at c s).number) None (words_of c.geometry c.row) h.range
  new_rest_does_5 at full = rests 6 (flight_at c s).number full (omega arith) (omega arith) (omega arith) (new_rests_5 c.geometry (flight_at c s) dest shape is_new at full)

  pub new_rest_does_6 : (flight_at c s).place ≡ 6 → (flight_at c s).full ≡ true
      → NewDoes c history s None (new_on (flight_at c s) 7 (flight_at c s).number) None (words_of c.geometry c.row) h.range
  new_rest_does_6 at full = rests 7 (flight_at c s).number full (omega arith) (omega arith) (omega arith) (new_rests_6 c.geometry (flight_at c s) dest shape is_new at full)

  -- the last rest
  pub new_rest_does_7 : (flight_at c s).place ≡ 7 → (flight_at c s).full ≡ true → (flight_at c s).raised ≡ false
      → NewDoes c history s None (idle (flight_at c s).seat) None (words_of c.geometry c.row) h.range
  new_rest_does_7 at full raised =
      let g = c.geometry in
      let w = words_of g c.row in
      let says = new_rests_7 g (flight_at c s) dest shape is_new at full raised in
      record {
        event = says.event;
        flight = says.flight (learnt c.row None);
        entry = says.entry (learnt c.row None);
        words = words_none g c.row;
        legal = legal_still;
        facts = silent w (idle (flight_at c s).seat) (new_ends g w (flight_at c) (begun_at c) c.spot (names_of g history) (contents_of g history) h.range s dest shape below is_new at full raised h.facts);
      }

  -- a New that found room enters its frame
  pub new_does_2 : (flight_at c s).place ≡ 2 → (flight_at c s).full ≡ false
      → NewDoes c history s (Some (event.Add (frame_at c.geometry s) layout.entering)) (moved_on (flight_at c s) 3 (flight_at c s).at) None
      (entering_frame_words (words_of c.geometry c.row) s) h.range
  new_does_2 at room =
      let g = c.geometry in
      let x = flight_at c s in
      let w = words_of g c.row in
      let e = event.Add (frame_at g s) layout.entering in
      let y = moved_on x 3 x.at in
      let says = new_says_2 g x dest shape is_new at room in
      let enters : EntersFrame x.call x.place 3 = rw (is_new, at) (new_enters_frame dest shape) in
      let outside : f.in_frame x ≡ false = new_in_frame x dest shape is_new ∙ rw at refl in
      let none : w.frame_accessors s ≡ 0 = h.facts.frame_accessors_counted s below ∙ rw outside refl in
      record {
        event = says.event ∙ ap (λ (k : ℕ). Some (event.Add (frame_at g k) layout.entering)) seated;
        flight = says.flight (learnt c.row (Some e));
        entry = says.entry (learnt c.row (Some e));
        words = words_some g c.row e (entering_frame_words w s) (words-enter_frame g c.row h.sized.row s below (omega arith));
        legal = legal_still;
        facts = silent (entering_frame_words w s) y (enter_frame g w (flight_at c) (begun_at c) c.spot (names_of g history) (contents_of g history) h.range s 3 below enters (rw room refl) h.facts);
      }

  -- it raises W0
  pub new_does_3 : (flight_at c s).place ≡ 3 → (flight_at c s).full ≡ false
      → NewDoes c history s (Some (event.Add (w0_at c.geometry) (layout.raise_by (size shape)))) (new_raised c.geometry (flight_at c s) shape w0)
      (refused_if (flight_at c s).seat dest shape (full_to_all c.geometry shape w0) w0) (raised_words (words_of c.geometry c.row) (size shape)) h.range
  new_does_3 at room =
      let g = c.geometry in
      let x = flight_at c s in
      let w = words_of g c.row in
      let e = event.Add (w0_at g) (layout.raise_by (size shape)) in
      let says = new_says_3 g x dest shape is_new at room in
      let full = full_to_all g shape w0 in
      let will : f.will_raise x ≡ true = new_will_raise x dest shape is_new ∙ rw (at, room) refl in
      let facts = new_raises g w (flight_at c) (begun_at c) c.spot (names_of g history) (contents_of g history) h.range s dest shape w0 below is_new at room (loads_w0 g c.row) h.facts in
      record {
        event = says.event;
        flight = rw (learnt_raise g c.row (layout.raise_by (size shape))) (says.flight w0);
        entry = rw (learnt_raise g c.row (layout.raise_by (size shape))) (says.entry w0);
        words = words_some g c.row e (raised_words w (size shape)) (words-raise g c.row h.sized.row (size shape)
            (used_fits g w.used (flight_at c) s shape below will h.facts.used_stays_bounded) (objects_fit g w.objects (flight_at c) s below will h.facts.objects_stay_bounded));
        legal = legal_refused_if g history x.seat dest shape w0 full h.legal;
        facts = rw (names_refused_if g history x.seat dest shape w0 full, contents_refused_if g history x.seat dest shape w0 full) facts;
      }

  -- what a New knows that has raised W0 and found room
  made_by : 4 ≤ (flight_at c s).place → (flight_at c s).place ≤ 7 → (flight_at c s).full ≡ false → HasMade (flight_at c s) dest shape
  made_by from to room =
      let step : f.IsNewInStep (flight_at c s).place (flight_at c s).full (flight_at c s).raised = rw is_new at (h.facts.news_in_step s below) in
      record { is_new = is_new; not_full = room; raised = step.raised_by_then from room; from = from; to = to }

  room_there : 4 ≤ (flight_at c s).place → (flight_at c s).place ≤ 7 → (flight_at c s).full ≡ false → FoundRoom c.geometry (words_of c.geometry c.row).cycle (words_of c.geometry c.row).used (flight_at c s)
  room_there from to room = h.facts.news_found_room s below (made_room (flight_at c s) dest shape (made_by from to room))

  number_within : 5 ≤ (flight_at c s).place → (flight_at c s).place ≤ 6 → f.has_number (flight_at c s) ≡ true → (flight_at c s).full ≡ false → (flight_at c s).number < numbers c.geometry
  number_within from to numbered room =
      let number = h.facts.number_is_own s below numbered in
      let own = h.facts.own_entries s below (made_is_making (flight_at c s) dest shape (made_by (omega arith) (omega arith) room) to) in
      let within = own.within in
      omega arith

  -- it loads its entry
  pub new_does_4 : (flight_at c s).place ≡ 4 → (flight_at c s).full ≡ false
      → NewDoes c history s (Some (event.Load (entry_at c.geometry (side_of (flight_at c s)) (layout.w0_objects (flight_at c s).word))))
      (new_on (flight_at c s) 5 (fact.own_entry (words_of c.geometry c.row).entry (flight_at c s))) None (words_of c.geometry c.row) h.range
  new_does_4 at room =
      let g = c.geometry in
      let x = flight_at c s in
      let w = words_of g c.row in
      let list = side_of x in
      let j = layout.w0_objects x.word in
      let e = event.Load (entry_at g list j) in
      let n = fact.own_entry w.entry x in
      let says = new_says_4 g x dest shape is_new at room in
      let there : j < list_length g = (room_there (omega arith) (omega arith) room).entry in
      let found : learnt c.row (Some e) ≡ n = learnt_entry g c.row list j (omega arith) there in
      record {
        event = says.event;
        flight = says.flight (learnt c.row (Some e)) ∙ ap (new_on x 5) found;
        entry = says.entry (learnt c.row (Some e));
        words = words_some g c.row e w (words-load g c.row (entry_at g list j));
        legal = legal_still;
        facts = silent w (new_on x 5 n) (new_loads_entry g w (flight_at c) (begun_at c) c.spot (names_of g history) (contents_of g history) h.range s dest shape below is_new at room h.facts);
      }

  -- it writes the header of its number
  pub new_does_5 : (flight_at c s).place ≡ 5 → (flight_at c s).full ≡ false
      → NewDoes c history s (Some (event.Write (header_at c.geometry (flight_at c s).number) (layout.pack_header 0 (new_place c.geometry (flight_at c s)) 0)))
      (new_on (flight_at c s) 6 (flight_at c s).number) None (headed_words (words_of c.geometry c.row) (flight_at c s).number (new_place c.geometry (flight_at c s))) h.range
  new_does_5 at room =
      let g = c.geometry in
      let x = flight_at c s in
      let w = words_of g c.row in
      let n = x.number in
      let p = new_place g x in
      let e = event.Write (header_at g n) (layout.pack_header 0 p 0) in
      let says = new_says_5 g x dest shape is_new at room in
      let numbered : f.has_number x ≡ true = new_has_number x dest shape is_new ∙ rw (at, room) refl in
      let within : n < numbers g = number_within (omega arith) (omega arith) numbered room in
      let few : f.words_before x < g.alloc =
      let fits : f.words_before x + f.new_size x ≤ g.alloc = (room_there (omega arith) (omega arith) room).words in let some = new_has_size x dest shape is_new in omega arith in
      record {
        event = says.event;
        flight = says.flight (learnt c.row (Some e));
        entry = says.entry (learnt c.row (Some e));
        words = words_some g c.row e (headed_words w n p) (words-new_header g c.row h.sized.row n p within (new_place_fits g x few));
        legal = legal_still;
        facts = silent (headed_words w n p) (new_on x 6 n)
            (new_writes_header g w (flight_at c) (begun_at c) c.spot (names_of g history) (contents_of g history) h.range s dest shape below is_new at room h.facts);
      }

  -- it writes its register: the object is born
  pub new_does_6 : (flight_at c s).place ≡ 6 → (flight_at c s).full ≡ false
      → NewDoes c history s (Some (event.Write (register_at c.geometry s dest) (new_reference (flight_at c s) shape))) (new_on (flight_at c s) 7 (flight_at c s).number)
      (Some (made s dest shape (flight_at c s).number)) (writing_words (words_of c.geometry c.row) s dest (new_reference (flight_at c s) shape)) h.range
  new_does_6 at room =
      let g = c.geometry in
      let x = flight_at c s in
      let w = words_of g c.row in
      let n = x.number in
      let v = new_reference x shape in
      let e = event.Write (register_at g s dest) v in
      let says = new_says_6 g x dest shape is_new at room in
      let registers : RegistersFit g.registers (call.New dest shape) = rw is_new at ((h.facts.flights_formed s below).registers (rw at refl)) in
      let facts = new_is_born g w (flight_at c) (begun_at c) c.spot (names_of g history) (contents_of g history) h.range s dest shape (next_birth g history) below is_new at room
      (is_next g history h.legal) h.facts in
      record {
        event = says.event ∙ ap (λ (k : ℕ). Some (event.Write (register_at g k dest) v)) seated;
        flight = says.flight (learnt c.row (Some e));
        entry = says.entry (learnt c.row (Some e)) ∙ ap (λ (k : ℕ). Some (made k dest shape n)) seated;
        words = words_some g c.row e (writing_words w s dest v) (words-write_register g c.row h.sized.row s dest v below registers.1);
        legal = legal-born g history h.legal s dest shape n below registers.1;
        facts = rw (names-born g history h.legal s dest shape n below registers.1, contents-born g history h.legal s dest shape n below registers.1) facts;
      }

  -- it leaves its frame
  pub new_does_7 : (flight_at c s).place ≡ 7 → ((flight_at c s).full && not (flight_at c s).raised) ≡ false
      → NewDoes c history s (Some (event.Sub (frame_at c.geometry s) layout.leaving)) (idle (flight_at c s).seat) None
      (leaving_frame_words (words_of c.geometry c.row) s) h.range
  new_does_7 at busy =
      let g = c.geometry in
      let x = flight_at c s in
      let w = words_of g c.row in
      let e = event.Sub (frame_at g s) layout.leaving in
      let says = new_says_7 g x dest shape is_new at busy in
      let leaves : EndsInFrame x.call x.place = rw (is_new, at) (new_leaves_frame dest shape) in
      let inside : f.in_frame x ≡ true = new_in_frame x dest shape is_new ∙ rw (at, busy) refl in
      let one : w.frame_accessors s ≡ 1 = h.facts.frame_accessors_counted s below ∙ rw inside refl in
      record {
        event = says.event ∙ ap (λ (k : ℕ). Some (event.Sub (frame_at g k) layout.leaving)) seated;
        flight = says.flight (learnt c.row (Some e));
        entry = says.entry (learnt c.row (Some e));
        words = words_some g c.row e (leaving_frame_words w s) (words-leave_frame g c.row h.sized.row s below (omega arith));
        legal = legal_still;
        facts = silent (leaving_frame_words w s) (idle x.seat) (leave_frame g w (flight_at c) (begun_at c) c.spot (names_of g history) (contents_of g history) h.range s below leaves busy h.facts);
      }

  -- ANY PLACE

  -- what the step of a New is: what it does, with no word of the spaces changed, and no place of an object that a call is inside
  pub record NewStep : Type 0 where
    pub event : Option Event
    pub flight : Flight
    pub entry : Option Entry
    pub words : Words
    pub does : NewDoes c history s event flight entry words h.range
    pub cells : words.cell ≡ (words_of c.geometry c.row).cell
    pub places : (u : ℕ) → u < tasks c.geometry → f.in_object (flight_at c u) ≡ true
        → words.place (layout.reference_number (flight_at c u).entered) ≡ (words_of c.geometry c.row).place (layout.reference_number (flight_at c u).entered)

  steps_so : {e : Option Event} {x : Flight} {o : Option Entry} {w : Words} → NewDoes c history s e x o w h.range → w.cell ≡ (words_of c.geometry c.row).cell
      → ((u : ℕ) → u < tasks c.geometry → f.in_object (flight_at c u) ≡ true
      → w.place (layout.reference_number (flight_at c u).entered) ≡ (words_of c.geometry c.row).place (layout.reference_number (flight_at c u).entered))
      → NewStep
  steps_so {e} {x} {o} {w} does cells places = record { event = e; flight = x; entry = o; words = w; does = does; cells = cells; places = places }

  by_place_2 : (flight_at c s).place ≡ 2 → NewStep
  by_place_2 at = elim (cases_Bool (flight_at c s).full) [
    | inl full ↦ steps_so (new_rest_does_2 at full) refl (λ u b i. refl)
    | inr room ↦ steps_so (new_does_2 at room) refl (λ u b i. refl)
  ]

  by_place_3 : (flight_at c s).place ≡ 3 → NewStep
  by_place_3 at = elim (cases_Bool (flight_at c s).full) [
    | inl full ↦ steps_so (new_rest_does_3 at full) refl (λ u b i. refl)
    | inr room ↦ steps_so (new_does_3 at room) refl (λ u b i. refl)
  ]

  by_place_4 : (flight_at c s).place ≡ 4 → NewStep
  by_place_4 at = elim (cases_Bool (flight_at c s).full) [
    | inl full ↦ steps_so (new_rest_does_4 at full) refl (λ u b i. refl)
    | inr room ↦ steps_so (new_does_4 at room) refl (λ u b i. refl)
  ]

  by_place_5 : (flight_at c s).place ≡ 5 → NewStep
  by_place_5 at = elim (cases_Bool (flight_at c s).full) [
    | inl full ↦ steps_so (new_rest_does_5 at full) refl (λ u b i. refl)
    | inr room ↦
        let numbered : f.has_number (flight_at c s) ≡ true = new_has_number (flight_at c s) dest shape is_new ∙ rw (at, room) refl in
        steps_so (new_does_5 at room) refl
        (λ u b i. upd_other (words_of c.geometry c.row).place (flight_at c s).number (new_place c.geometry (flight_at c s)) (layout.reference_number (flight_at c u).entered)
        (inside_elsewhere c.geometry (words_of c.geometry c.row) (flight_at c) (begun_at c) c.spot (names_of c.geometry history) (contents_of c.geometry history) h.range s u below b numbered i h.facts))
  ]

  by_place_6 : (flight_at c s).place ≡ 6 → NewStep
  by_place_6 at = elim (cases_Bool (flight_at c s).full) [
    | inl full ↦ steps_so (new_rest_does_6 at full) refl (λ u b i. refl)
    | inr room ↦ steps_so (new_does_6 at room) refl (λ u b i. refl)
  ]

  by_place_7 : (flight_at c s).place ≡ 7 → NewStep
  by_place_7 at = elim (cases_Bool ((flight_at c s).full && not (flight_at c s).raised)) [
    | inl idle' ↦
        let p = and_parts (flight_at c s).full (not (flight_at c s).raised) idle' in
        steps_so (new_rest_does_7 at p.0 (not-true (flight_at c s).raised p.1)) refl (λ u b i. refl)
    | inr busy ↦ steps_so (new_does_7 at busy) refl (λ u b i. refl)
  ]

  -- a New in flight steps so, at any place
  pub new_step : 1 ≤ (flight_at c s).place → NewStep
  new_step some =
      let x = flight_at c s in
      let within : x.place ≤ 7 = rw is_new at ((h.facts.flights_formed s below).in_row) in
      elim (cases_eq x.place 1) [
        | inl at ↦ steps_so (new_does_1 at) refl (λ u b i. refl)
        | inr d1 ↦ elim (cases_eq x.place 2) [
          | inl at ↦ by_place_2 at
          | inr d2 ↦ elim (cases_eq x.place 3) [
            | inl at ↦ by_place_3 at
            | inr d3 ↦ elim (cases_eq x.place 4) [
              | inl at ↦ by_place_4 at
              | inr d4 ↦ elim (cases_eq x.place 5) [
                | inl at ↦ by_place_5 at
                | inr d5 ↦ elim (cases_eq x.place 6) [
                  | inl at ↦ by_place_6 at
                  | inr d6 ↦ by_place_7 (last x.place some within d1 d2 d3 d4 d5 d6)
                ]
              ]
            ]
          ]
        ]
      ]
    where
      last : (p : ℕ) → 1 ≤ p → p ≤ 7 → p ≢ 1 → p ≢ 2 → p ≢ 3 → p ≢ 4 → p ≢ 5 → p ≢ 6 → p ≡ 7
      last p a b c d e k l m = omega arith
