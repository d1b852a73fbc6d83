-- In a lawful state a seat in flight can step: its flight fits, its event may be fired, and a New finds a number in its
-- entry.
use Rattle.std.proofs.Common.{◌≡◌, ◌≢◌, ℕ, zero, suc, ◌+◌, ◌*◌, ◌^◌, ◌<◌, ◌≤◌, Bool, true, false, inl, inr, refl, sym, ◌∙◌, arith, List, Option, Some, None}
use Rattle.std.proofs.lemmas.Bool.{cases_Bool, eqb-true, ltb-true, leb-true, le-leb, and_parts}
use Rattle.std.proofs.lemmas.Bool.Decides.{nat_tests}
use Rattle.std.specs.Prelude.{nat_eq, nat_le, not, ◌&&◌, if◌then◌else◌}
use Rattle.hk_words.specs.declared.geometry.Geometry.{Geometry}
use Rattle.hk_words.specs.declared.call.Call.{Call}
use Rattle.hk_words.specs.declared.call.Call.TheVariants as call
use Rattle.hk_words.specs.declared.shape.Shape.{Shape}
use Rattle.hk_words.specs.Geometry.{tasks, numbers, list_length, space_words}
use Rattle.hk_words.specs.Calls.{RegistersFit}
use Rattle.hk_words.specs.Layout as layout
use Rattle.hk_words.specs.Row.{place_at, entry_at}
use Rattle.hk_words.specs.Shape.{size}
use Rattle.hk_model.specs.History.{History}
use Rattle.hk_core.specs.declared.event.Event.{Event}
use Rattle.hk_core.specs.declared.event.Event.TheVariants as event
use Rattle.hk_core.specs.Event.{CanFireIf, learnt, old_of}
use Rattle.hk_core.specs.State.{State}
use Rattle.hk_core.specs.Begin.{copied}
use Rattle.hk_core.specs.Collect.{last_cycle}
use Rattle.hk_core.specs.Counts.{count_below}
use Rattle.hk_core.specs.Facts as fact
use Rattle.hk_core.specs.Step as table
use Rattle.hk_core.specs.Step.{number_cell, reference_cell, reference_size, reserved_fits, side_of, event_by, found_by}
use Rattle.hk_core.specs.View.{words_of, decoded, names_of, contents_of, flight_at, begun_at}
use Rattle.hk_core.specs.Flights as f
use Rattle.hk_core.specs.Fits.{NamesNumber, CallFits, FindsNumber, CanStep}
use Rattle.hk_core.specs.Colours.{shades_of, IsGood, IsNullOrGood}
use Rattle.hk_core.specs.Lawful.{Lawful}
use Rattle.hk_core.proofs.Counts.{count_some}
use Rattle.hk_core.proofs.Columns.{raw_entry}
use Rattle.hk_core.proofs.Fires.{can_load_w0, can_load_entry, can_read_cell, can_write_cell, can_write_header, can_write_register, can_claim, can_enter_object, can_leave_object, can_enter_frame, can_leave_frame, can_reserve, can_raise}
use Rattle.hk_core.proofs.Inside.{LiesInSpaces, shapes_fit, good_sound, number_in_spaces, reference_in_spaces}
use Rattle.hk_core.proofs.Reserved.{reserved_small}
use Rattle.hk_core.proofs.kinds.Enter.{object_of}
use Rattle.hk_core.proofs.kinds.Words.{room_in_object, some_in_object, version_room, frame_version_room}
use Rattle.hk_core.proofs.Shared.{some_good}

-- an event that depends on a test may be fired where each branch's may
by_test : (row : List ℕ) (test : Bool) (a b : Option Event) → (test ≡ true → CanFireIf row a) → (test ≡ false → CanFireIf row b) → CanFireIf row (if test then a else b)
by_test row true a b yes' no' = yes' refl
by_test row false a b yes' no' = no' refl

-- a word whose test for null fails isn't null
not_null : (word : ℕ) → nat_eq word 0 ≡ false → word ≢ 0
not_null word e = grind (arith, nat_tests)

-- what is learnt from a rest, and from the load of a list entry
nothing_small : (row : List ℕ) → learnt row None < 2 ^ 32
unfolding learnt
nothing_small row = omega arith

found_entry : (g : Geometry) (row : List ℕ) (l j : ℕ) → l < 2 → j < list_length g → learnt row (Some (event.Load (entry_at g l j))) ≡ (words_of g row).entry l j
unfolding learnt old_of words_of decoded
found_entry g row l j list entry = sym (raw_entry g row l j list entry)

module _ (c : State) (history : History) (s : ℕ) (below : s < tasks c.geometry) (h : Lawful c history) where
  -- a good reference names a number
  names_number : (word : ℕ) → IsGood (shades_of c.geometry (words_of c.geometry c.row) (flight_at c) c.spot.line (names_of c.geometry history)).kept (names_of c.geometry history) word
      → NamesNumber c.geometry word
  names_number word good =
      let sound = good_sound c.geometry (words_of c.geometry c.row) (flight_at c) c.spot.line (names_of c.geometry history) word (shapes_fit c.geometry history) good in
      record { some = sound.some; within = sound.within }

  entered_names : f.is_through (flight_at c s).call ≡ true → f.is_flying (flight_at c s) ≡ true → NamesNumber c.geometry (flight_at c s).entered
  entered_names through flying = names_number (flight_at c s).entered (h.facts.entered_good s below through flying)

  -- the reference that a Load has read, and the one that a Store copies
  loaded_names : f.has_loaded (flight_at c s) ≡ true → (flight_at c s).item ≢ 0 → NamesNumber c.geometry (flight_at c s).item
  loaded_names loaded some = names_number (flight_at c s).item (some_good _ (flight_at c s).item some (h.facts.loaded_good s below loaded))

  copied_names : f.is_flying (flight_at c s) ≡ true → (from : ℕ) → from < c.geometry.registers → copied (flight_at c s).call ≡ Some from → (flight_at c s).item ≢ 0
      → NamesNumber c.geometry (flight_at c s).item
  copied_names flying from fits copies some =
      let g = c.geometry in
      let w = words_of g c.row in
      let names = names_of g history in
      let same : (flight_at c s).item ≡ w.register s from = h.facts.copied_stays s from below flying copies in
      let good : IsNullOrGood (shades_of g w (flight_at c) c.spot.line names).kept names (flight_at c s).item = rw same (h.facts.registers_good s from below fits) in
      names_number (flight_at c s).item (some_good _ (flight_at c s).item some good)

  -- entering and leaving
  enters : f.is_through (flight_at c s).call ≡ true → f.is_flying (flight_at c s) ≡ true → f.in_object (flight_at c s) ≡ false → f.before_object (flight_at c s) ≡ true
      → CanFireIf c.row (table.enter_object c.geometry (flight_at c s))
  unfolding table.enter_object f.is_inside
  enters through flying outside before =
      let g = c.geometry in
      let w = words_of g c.row in
      let x = flight_at c s in
      let n = object_of x in
      let fits : n < numbers g = (entered_names through flying).within in
      let few = room_in_object g w.accessors (flight_at c) s n below fits (rw outside refl) h.facts.accessors_counted in
      let room = version_room g w.version (flight_at c) (begun_at c) s n below fits before h.facts.begun_bounded h.facts.versions_bounded in
      can_enter_object g c.row h.sized.row n fits few room

  leaves : f.is_through (flight_at c s).call ≡ true → f.is_flying (flight_at c s) ≡ true → f.in_object (flight_at c s) ≡ true
      → CanFireIf c.row (table.leave_object c.geometry (flight_at c s))
  unfolding table.leave_object f.is_inside
  leaves through flying inside =
      let g = c.geometry in
      let w = words_of g c.row in
      let x = flight_at c s in
      let n = object_of x in
      let fits : n < numbers g = (entered_names through flying).within in
      let some = some_in_object g w.accessors (flight_at c) s n below fits (rw inside (same n)) h.facts.accessors_counted in
      can_leave_object g c.row h.sized.row n fits some
    where
      same : (n : ℕ) → nat_eq n n ≡ true
      same n = grind (arith, nat_tests)

  enters_frame : f.in_frame (flight_at c s) ≡ false → f.before_frame (flight_at c s) ≡ true → CanFireIf c.row (table.enter_frame c.geometry (flight_at c s))
  unfolding table.enter_frame
  enters_frame outside before =
      let g = c.geometry in
      let w = words_of g c.row in
      let seated : (flight_at c s).seat ≡ s = (h.facts.flights_formed s below).seated in
      let none : w.frame_accessors s ≡ 0 = h.facts.frame_accessors_counted s below ∙ rw outside refl in
      let room = frame_version_room g w.frame_version (flight_at c) (begun_at c) s below before h.facts.begun_bounded h.facts.frame_versions_bounded in
      rw seated (can_enter_frame g c.row h.sized.row s below (omega arith) room)

  leaves_frame : f.in_frame (flight_at c s) ≡ true → CanFireIf c.row (table.leave_frame c.geometry (flight_at c s))
  unfolding table.leave_frame
  leaves_frame inside =
      let g = c.geometry in
      let w = words_of g c.row in
      let seated : (flight_at c s).seat ≡ s = (h.facts.flights_formed s below).seated in
      let one : w.frame_accessors s ≡ 1 = h.facts.frame_accessors_counted s below ∙ rw inside refl in
      rw seated (can_leave_frame g c.row h.sized.row s below (omega arith))

  -- cells
  number_lies : f.in_object (flight_at c s) ≡ true → (field : ℕ) → field < layout.reference_nums (flight_at c s).entered → LiesInSpaces c.geometry (number_cell (flight_at c s) field)
  number_lies inside field there =
      number_in_spaces c.geometry (words_of c.geometry c.row) (flight_at c) (begun_at c) c.spot (names_of c.geometry history) (contents_of c.geometry history) h.range h.facts
      (shapes_fit c.geometry history) s below inside field there

  reference_lies : f.in_object (flight_at c s) ≡ true → (field : ℕ) → field < layout.reference_refs (flight_at c s).entered → LiesInSpaces c.geometry (reference_cell (flight_at c s) field)
  reference_lies inside field there =
      reference_in_spaces c.geometry (words_of c.geometry c.row) (flight_at c) (begun_at c) c.spot (names_of c.geometry history) (contents_of c.geometry history) h.range h.facts
      (shapes_fit c.geometry history) s below inside field there

  reads : (p : ℕ) → LiesInSpaces c.geometry p → CanFireIf c.row (table.read_cell c.geometry p)
  unfolding table.read_cell
  reads p lies = can_read_cell c.geometry c.row h.sized.row p lies.some lies.within

  writes : (p v : ℕ) → LiesInSpaces c.geometry p → CanFireIf c.row (table.write_cell c.geometry p v)
  unfolding table.write_cell
  writes p v lies = can_write_cell c.geometry c.row h.sized.row p v lies.some lies.within

  writes_register : (reg v : ℕ) → reg < c.geometry.registers → CanFireIf c.row (table.write_register c.geometry (flight_at c s) reg v)
  unfolding table.write_register
  writes_register reg v fits =
      let seated : (flight_at c s).seat ≡ s = (h.facts.flights_formed s below).seated in
      rw seated (can_write_register c.geometry c.row h.sized.row s reg v below fits)

  loads_w0 : CanFireIf c.row (table.load_w0 c.geometry)
  unfolding table.load_w0
  loads_w0 = can_load_w0 c.geometry c.row h.sized.row

  -- claims
  claims : ((flight_at c s).item ≢ 0 → NamesNumber c.geometry (flight_at c s).item) → CanFireIf c.row (table.claim c.geometry (flight_at c s))
  unfolding table.claim
  claims names = by_test c.row (nat_eq (flight_at c s).item 0) _ _ (λ null. tt)
      (λ some. can_claim c.geometry c.row h.sized.row (layout.reference_number (flight_at c s).item) _ (names (not_null (flight_at c s).item some)).within)

  reserves : CanFireIf c.row (table.reserve c.geometry (flight_at c s))
  unfolding table.reserve
  reserves =
      let x = flight_at c s in
      let few : reference_size x.item < 2 ^ 10 = omega arith in
      let small : (words_of c.geometry c.row).reserved < 2 ^ 60 = reserved_small c history h in
      by_test c.row x.claimer _ _ (λ claimer. can_reserve c.geometry c.row h.sized.row (reference_size x.item) (omega arith)) (λ other. tt)

  links : CanFireIf c.row (table.link c.geometry (flight_at c s))
  unfolding table.link
  links =
      let x = flight_at c s in
      let g = c.geometry in
      by_test c.row (x.claimer && reserved_fits g x.offset x.item) _ _
      (λ e.
      let fits : x.offset + reference_size x.item ≤ g.live = leb-true (x.offset + reference_size x.item) g.live (and_parts x.claimer (reserved_fits g x.offset x.item) e).1 in
      let side : side_of x < 2 = omega arith in
      can_write_cell g c.row h.sized.row (place_at g (side_of x) x.offset) x.item (omega arith) (in_space g (side_of x) x.offset side (omega arith)))
      (λ other. tt)
    where
      in_space : (g : Geometry) (side offset : ℕ) → side < 2 → offset < space_words g → place_at g side offset ≤ 2 * space_words g
      in_space g zero offset below there = omega arith
      in_space g (suc zero) offset below there = omega arith
      in_space g (suc (suc k)) offset below there = absurd (omega arith)

  -- THE EVENTS OF THE ROWS

  get_fires : (reg field : ℕ) → (flight_at c s).call ≡ call.Get reg field → CanFireIf c.row (table.get_event c.geometry (flight_at c s) field)
  unfolding table.get_event f.is_through f.in_object f.in_object_at f.before_object f.before_object_at
  get_fires reg field is_get =
      let x = flight_at c s in
      by_test c.row (nat_eq x.place 1) _ _ (λ e. let at = eqb-true x.place 1 e in enters (rw is_get refl) (rw at refl) (rw (is_get, at) refl) (rw (is_get, at) refl))
      (λ _. by_test c.row (nat_eq x.place 2) _ _ (λ e. let at = eqb-true x.place 2 e in
      reads (number_cell x field) (number_lies (rw (is_get, at) refl) field (ltb-true field (layout.reference_nums x.entered) (rw is_get at (h.facts.fields_there s below (rw at refl))))))
      (λ _. by_test c.row (nat_eq x.place 3) _ _ (λ e. let at = eqb-true x.place 3 e in leaves (rw is_get refl) (rw at refl) (rw (is_get, at) refl))
      (λ _. tt)))

  put_fires : (reg field value : ℕ) → (flight_at c s).call ≡ call.Put reg field value → CanFireIf c.row (table.put_event c.geometry (flight_at c s) field value)
  unfolding table.put_event f.is_through f.in_object f.in_object_at f.before_object f.before_object_at
  put_fires reg field value is_put =
      let x = flight_at c s in
      by_test c.row (nat_eq x.place 1) _ _ (λ e. let at = eqb-true x.place 1 e in enters (rw is_put refl) (rw at refl) (rw (is_put, at) refl) (rw (is_put, at) refl))
      (λ _. by_test c.row (nat_eq x.place 2) _ _ (λ e. let at = eqb-true x.place 2 e in
      writes (number_cell x field) value (number_lies (rw (is_put, at) refl) field (ltb-true field (layout.reference_nums x.entered) (rw is_put at (h.facts.fields_there s below (rw at refl))))))
      (λ _. by_test c.row (nat_eq x.place 3) _ _ (λ e. let at = eqb-true x.place 3 e in leaves (rw is_put refl) (rw at refl) (rw (is_put, at) refl))
      (λ _. tt)))

  -- a call that is no New never rests all the way
  never_rests : f.IsNoNew (flight_at c s).full (flight_at c s).raised → f.is_resting (flight_at c s) ≡ false
  never_rests o = rw o.not_full refl

  move_fires : (dest from : ℕ) → (flight_at c s).call ≡ call.Move dest from → CanFireIf c.row (table.move_event c.geometry (flight_at c s) dest)
  unfolding table.move_event f.in_frame f.in_frame_at f.before_frame f.before_frame_at
  move_fires dest from is_move =
      let x = flight_at c s in
      let busy : f.is_resting x ≡ false = never_rests (rw is_move at (h.facts.news_in_step s below)) in
      by_test c.row (nat_eq x.place 1) _ _ (λ e. let at = eqb-true x.place 1 e in enters_frame (rw (is_move, at) refl) (rw (is_move, at, busy) refl))
      (λ _. by_test c.row (nat_eq x.place 2) _ _ (λ e. let at = eqb-true x.place 2 e in
      let registers : RegistersFit c.geometry.registers (call.Move dest from) = rw is_move at ((h.facts.flights_formed s below).registers (rw at refl)) in
      writes_register dest x.item registers.0.1)
      (λ _. by_test c.row (nat_eq x.place 3) _ _ (λ e. let at = eqb-true x.place 3 e in leaves_frame (rw (is_move, at, busy) refl))
      (λ _. tt)))

  clear_fires : (dest : ℕ) → (flight_at c s).call ≡ call.Clear dest → CanFireIf c.row (table.clear_event c.geometry (flight_at c s) dest)
  unfolding table.clear_event
  clear_fires dest is_clear =
      let x = flight_at c s in
      by_test c.row (nat_eq x.place 1) _ _ (λ e. let at = eqb-true x.place 1 e in
      let registers : RegistersFit c.geometry.registers (call.Clear dest) = rw is_clear at ((h.facts.flights_formed s below).registers (rw at refl)) in
      writes_register dest 0 registers.1)
      (λ _. tt)

  load_fires : (dest reg field : ℕ) → (flight_at c s).call ≡ call.Load dest reg field → CanFireIf c.row (table.load_event c.geometry (flight_at c s) dest field)
  unfolding table.load_event f.is_through f.in_object f.in_object_at f.before_object f.before_object_at f.in_frame f.in_frame_at f.before_frame f.before_frame_at f.has_loaded f.is_load_at
  load_fires dest reg field is_load =
      let x = flight_at c s in
      let busy : f.is_resting x ≡ false = never_rests (rw is_load at (h.facts.news_in_step s below)) in
      by_test c.row (nat_eq x.place 1) _ _ (λ e. let at = eqb-true x.place 1 e in enters_frame (rw (is_load, at) refl) (rw (is_load, at, busy) refl))
      (λ _. by_test c.row (nat_eq x.place 2) _ _ (λ e. let at = eqb-true x.place 2 e in enters (rw is_load refl) (rw at refl) (rw (is_load, at) refl) (rw (is_load, at) refl))
      (λ _. by_test c.row (nat_eq x.place 3) _ _ (λ e. loads_w0)
      (λ _. by_test c.row (nat_eq x.place 4) _ _ (λ e. let at = eqb-true x.place 4 e in
      reads (reference_cell x field) (reference_lies (rw (is_load, at) refl) field (ltb-true field (layout.reference_refs x.entered) (rw is_load at (h.facts.fields_there s below (rw at refl))))))
      (λ _. by_test c.row (nat_eq x.place 5) _ _ (λ e. let at = eqb-true x.place 5 e in claims (loaded_names (rw (is_load, at) refl)))
      (λ _. by_test c.row (nat_eq x.place 6) _ _ (λ e. reserves)
      (λ _. by_test c.row (nat_eq x.place 7) _ _ (λ e. links)
      (λ _. by_test c.row (nat_eq x.place 8) _ _ (λ e. let at = eqb-true x.place 8 e in
      let registers : RegistersFit c.geometry.registers (call.Load dest reg field) = rw is_load at ((h.facts.flights_formed s below).registers (rw at refl)) in
      writes_register dest x.item registers.0.1)
      (λ _. by_test c.row (nat_eq x.place 9) _ _ (λ e. let at = eqb-true x.place 9 e in leaves (rw is_load refl) (rw at refl) (rw (is_load, at) refl))
      (λ _. by_test c.row (nat_eq x.place 10) _ _ (λ e. let at = eqb-true x.place 10 e in leaves_frame (rw (is_load, at, busy) refl))
      (λ _. tt))))))))))

  store_item : (reg field from : ℕ) → (flight_at c s).call ≡ call.Store reg field from → f.is_flying (flight_at c s) ≡ true → (flight_at c s).item ≢ 0 → NamesNumber c.geometry (flight_at c s).item
  store_item reg field from is_store flying some =
      let registers : RegistersFit c.geometry.registers (call.Store reg field from) = rw is_store at ((h.facts.flights_formed s below).registers flying) in
      copied_names flying from registers.1 (rw is_store refl) some

  store_fires : (reg field from : ℕ) → (flight_at c s).call ≡ call.Store reg field from → CanFireIf c.row (table.store_event c.geometry (flight_at c s) field)
  unfolding table.store_event f.is_through f.in_object f.in_object_at f.before_object f.before_object_at
  store_fires reg field from is_store =
      let x = flight_at c s in
      by_test c.row (nat_eq x.place 1) _ _ (λ e. let at = eqb-true x.place 1 e in enters (rw is_store refl) (rw at refl) (rw (is_store, at) refl) (rw (is_store, at) refl))
      (λ _. by_test c.row (nat_eq x.place 2) _ _ (λ e. by_test c.row (nat_eq x.item 0) _ _ (λ null. tt) (λ some. loads_w0))
      (λ _. by_test c.row (nat_eq x.place 3) _ _ (λ e. let at = eqb-true x.place 3 e in claims (store_item reg field from is_store (rw at refl)))
      (λ _. by_test c.row (nat_eq x.place 4) _ _ (λ e. reserves)
      (λ _. by_test c.row (nat_eq x.place 5) _ _ (λ e. links)
      (λ _. by_test c.row (nat_eq x.place 6) _ _ (λ e. let at = eqb-true x.place 6 e in
      writes (reference_cell x field) x.item (reference_lies (rw (is_store, at) refl) field (ltb-true field (layout.reference_refs x.entered) (rw is_store at (h.facts.fields_there s below (rw at refl))))))
      (λ _. by_test c.row (nat_eq x.place 7) _ _ (λ e. let at = eqb-true x.place 7 e in leaves (rw is_store refl) (rw at refl) (rw (is_store, at) refl))
      (λ _. tt)))))))

  -- a New that hasn't found too few words
  busy_new : (flight_at c s).full ≡ false → f.is_resting (flight_at c s) ≡ false
  busy_new found = rw found refl

  new_has_room : (dest : ℕ) (shape : Shape) → (flight_at c s).call ≡ call.New dest shape → (p : ℕ) → (flight_at c s).place ≡ p → (nat_le 4 p && nat_le p 7) ≡ true
      → (flight_at c s).full ≡ false → f.has_room (flight_at c s) ≡ true
  unfolding f.has_room f.has_raised f.is_new_at
  new_has_room dest shape is_new p at between found =
      let x = flight_at c s in
      let step : f.IsNewInStep x.place x.full x.raised = rw is_new at (h.facts.news_in_step s below) in
      let four : 4 ≤ x.place = rw at (leb-true 4 p (and_parts _ _ between).0) in
      let raised : x.raised ≡ true = step.raised_by_then four found in
      rw (is_new, at, between, raised, found) refl

  new_number : (dest : ℕ) (shape : Shape) → (flight_at c s).call ≡ call.New dest shape → (p : ℕ) → (flight_at c s).place ≡ p → (nat_le 5 p && nat_le p 6) ≡ true
      → (flight_at c s).full ≡ false → (flight_at c s).number < numbers c.geometry
  unfolding f.is_making f.has_number f.is_new_at
  new_number dest shape is_new p at between found =
      let x = flight_at c s in
      let wide : (nat_le 4 p && nat_le p 6) ≡ true = wider p between in
      let own = h.facts.own_entries s below (rw (is_new, at, wide, found) refl) in
      let number = h.facts.number_is_own s below (rw (is_new, at, between, found) refl) in
      rw number own.within
    where
      wider : (p : ℕ) → (nat_le 5 p && nat_le p 6) ≡ true → (nat_le 4 p && nat_le p 6) ≡ true
      wider p e = grind (arith, nat_tests)

  new_raises : (dest : ℕ) (shape : Shape) → (flight_at c s).call ≡ call.New dest shape → (flight_at c s).place ≡ 3 → (flight_at c s).full ≡ false
      → CanFireIf c.row (table.raise c.geometry shape)
  unfolding table.raise f.will_raise f.is_new_at
  new_raises dest shape is_new at found =
      let x = flight_at c s in
      let g = c.geometry in
      let w = words_of g c.row in
      let will : f.will_raise x ≡ true = rw (is_new, at, found) refl in
      let some : 0 < count_below (tasks g) (λ t. f.will_raise (flight_at c t)) = count_some (λ t. f.will_raise (flight_at c t)) s (tasks g) below will in
      let used : w.used + 255 * count_below (tasks g) (λ t. f.will_raise (flight_at c t)) ≤ g.alloc + 255 * tasks g = h.facts.used_stays_bounded in
      let objects : w.objects + count_below (tasks g) (λ t. f.will_raise (flight_at c t)) ≤ list_length g + tasks g = h.facts.objects_stay_bounded in
      let cycle : w.cycle ≤ last_cycle = h.facts.cycle_fits in
      let few : size shape ≤ 255 = let fields = shape.few in omega arith in
      can_raise g c.row h.sized.row (size shape) (omega arith) (omega arith) (omega arith)

  new_fires : (dest : ℕ) (shape : Shape) → (flight_at c s).call ≡ call.New dest shape → CanFireIf c.row (table.new_event c.geometry (flight_at c s) dest shape)
  unfolding table.new_event table.load_entry table.write_header f.in_frame f.in_frame_at f.before_frame f.before_frame_at
  new_fires dest shape is_new =
      let x = flight_at c s in
      let g = c.geometry in
      by_test c.row (nat_eq x.place 1) _ _ (λ e. loads_w0)
      (λ _. by_test c.row (nat_eq x.place 2) _ _ (λ e. let at = eqb-true x.place 2 e in
      by_test c.row x.full _ _ (λ full. tt) (λ found. enters_frame (rw (is_new, at) refl) (rw (is_new, at, busy_new found) refl)))
      (λ _. by_test c.row (nat_eq x.place 3) _ _ (λ e. let at = eqb-true x.place 3 e in
      by_test c.row x.full _ _ (λ full. tt) (λ found. new_raises dest shape is_new at found))
      (λ _. by_test c.row (nat_eq x.place 4) _ _ (λ e. let at = eqb-true x.place 4 e in
      by_test c.row x.full _ _ (λ full. tt)
      (λ found. can_load_entry g c.row h.sized.row (side_of x) (f.objects_before x) (omega arith) (h.facts.news_found_room s below (new_has_room dest shape is_new 4 at refl found)).entry))
      (λ _. by_test c.row (nat_eq x.place 5) _ _ (λ e. let at = eqb-true x.place 5 e in
      by_test c.row x.full _ _ (λ full. tt)
      (λ found. can_write_header g c.row h.sized.row x.number _ (new_number dest shape is_new 5 at refl found)))
      (λ _. by_test c.row (nat_eq x.place 6) _ _ (λ e. let at = eqb-true x.place 6 e in
      let registers : RegistersFit g.registers (call.New dest shape) = rw is_new at ((h.facts.flights_formed s below).registers (rw at refl)) in
      by_test c.row x.full _ _ (λ full. tt) (λ found. writes_register dest (table.new_reference x shape) registers.1))
      (λ _. by_test c.row (nat_eq x.place 7) _ _ (λ e. let at = eqb-true x.place 7 e in
      by_test c.row (x.full && not x.raised) _ _ (λ full. tt) (λ busy. leaves_frame (rw (is_new, at, busy) refl)))
      (λ _. tt)))))))

  new_sized : (dest : ℕ) (shape : Shape) → (flight_at c s).call ≡ call.New dest shape → f.new_size (flight_at c s) ≡ size shape
  unfolding f.new_size f.new_size_of
  new_sized dest shape is_new = rw is_new refl

  -- what a New finds in its entry is a number of the geometry
  new_finds : (dest : ℕ) (shape : Shape) → (flight_at c s).call ≡ call.New dest shape → (flight_at c s).place ≡ 4
      → learnt c.row (table.new_event c.geometry (flight_at c s) dest shape) < 2 ^ 32
  unfolding table.new_event table.load_entry f.is_making f.is_new_at
  new_finds dest shape is_new at = rw at (elim (cases_Bool (flight_at c s).full) [ inl full ↦ rw full (found_nothing c.row) | inr found ↦ rw found (found_number found) ])
    where
      found_nothing : (row : List ℕ) → learnt row None < 2 ^ 32
      found_nothing row = nothing_small row

      found_number : (flight_at c s).full ≡ false → learnt c.row (Some (event.Load (entry_at c.geometry (side_of (flight_at c s)) (f.objects_before (flight_at c s))))) < 2 ^ 32
      found_number found =
          let x = flight_at c s in
          let g = c.geometry in
          let own = h.facts.own_entries s below (rw (is_new, at, found) refl) in
          let entry = (h.facts.news_found_room s below (new_has_room dest shape is_new 4 at refl found)).entry in
          let same = found_entry g c.row (side_of x) (f.objects_before x) (omega arith) entry in
          let within : fact.own_entry (words_of g c.row).entry x < numbers g = own.within in
          rw same (omega arith)

  -- THE SEAT CAN STEP

  event_fires : CanFireIf c.row (event_by c s)
  unfolding event_by table.event_of table.event_at flight_at
  event_fires = each (flight_at c s).call refl
    where
      each : (call : Call) → (flight_at c s).call ≡ call → CanFireIf c.row (table.event_at c.geometry (flight_at c s) call)
      each (call.Get reg field) e = get_fires reg field e
      each (call.Put reg field value) e = put_fires reg field value e
      each (call.Load dest reg field) e = load_fires dest reg field e
      each (call.Store reg field from) e = store_fires reg field from e
      each (call.Move dest from) e = move_fires dest from e
      each (call.Clear dest) e = clear_fires dest e
      each (call.New dest shape) e = new_fires dest shape e
      each (call.Same a b) e = tt
      each (call.IsNull reg) e = tt

  call_fits : 1 ≤ (flight_at c s).place → CallFits c.geometry (flight_at c s) (flight_at c s).call
  unfolding f.is_through f.in_object f.in_object_at f.has_loaded f.is_load_at
  call_fits some = each (flight_at c s).call refl
    where
      each : (call : Call) → (flight_at c s).call ≡ call → CallFits c.geometry (flight_at c s) call
      each (call.Get reg field) e = (
        entered_names (rw e refl) (le-leb 1 _ some),
        (λ at. (number_lies (rw (e, at) refl) field (ltb-true field _ (rw e at (h.facts.fields_there s below (rw at refl))))).within),
      )
      each (call.Put reg field value) e = (
        entered_names (rw e refl) (le-leb 1 _ some),
        (λ at. (number_lies (rw (e, at) refl) field (ltb-true field _ (rw e at (h.facts.fields_there s below (rw at refl))))).within),
      )
      each (call.Load dest reg field) e =
          let registers : RegistersFit c.geometry.registers (call.Load dest reg field) = rw e at ((h.facts.flights_formed s below).registers (le-leb 1 _ some)) in (
            registers.0.1,
            entered_names (rw e refl) (le-leb 1 _ some),
            (λ at. (reference_lies (rw (e, at) refl) field (ltb-true field _ (rw e at (h.facts.fields_there s below (rw at refl))))).within),
            (λ at. loaded_names (rw (e, at) refl)),
          )
      each (call.Store reg field from) e = (
        entered_names (rw e refl) (le-leb 1 _ some),
        (λ at. store_item reg field from e (le-leb 1 _ some)),
        (λ at. (reference_lies (rw (e, at) refl) field (ltb-true field _ (rw e at (h.facts.fields_there s below (rw at refl))))).within),
      )
      each (call.Move dest from) e =
          let registers : RegistersFit c.geometry.registers (call.Move dest from) = rw e at ((h.facts.flights_formed s below).registers (le-leb 1 _ some)) in registers.0.1
      each (call.Clear dest) e =
          let registers : RegistersFit c.geometry.registers (call.Clear dest) = rw e at ((h.facts.flights_formed s below).registers (le-leb 1 _ some)) in registers.1
      each (call.New dest shape) e =
          let registers : RegistersFit c.geometry.registers (call.New dest shape) = rw e at ((h.facts.flights_formed s below).registers (le-leb 1 _ some)) in
          let size' : 0 < size shape = omega arith in (
            registers.1,
            (λ at found. (h.facts.news_found_room s below (new_has_room dest shape e 4 at refl found)).entry),
            (λ at found. (
              new_number dest shape e 5 at refl found,
              (let room = (h.facts.news_found_room s below (new_has_room dest shape e 5 at refl found)).words in let same : f.new_size (flight_at c s) ≡ size shape = new_sized dest shape e in omega arith),
            )),
            (λ at found. new_number dest shape e 6 at refl found),
          )
      each (call.Same a b) e = tt
      each (call.IsNull reg) e = tt

  finds_number : FindsNumber (flight_at c s) (flight_at c s).call (found_by c s)
  unfolding found_by event_by table.event_of table.event_at flight_at
  finds_number = each (flight_at c s).call refl
    where
      each : (call : Call) → (flight_at c s).call ≡ call → FindsNumber (flight_at c s) call (learnt c.row (table.event_at c.geometry (flight_at c s) call))
      each (call.Get reg field) e = tt
      each (call.Put reg field value) e = tt
      each (call.Load dest reg field) e = tt
      each (call.Store reg field from) e = tt
      each (call.Move dest from) e = tt
      each (call.Clear dest) e = tt
      each (call.New dest shape) e = λ at. new_finds dest shape e at
      each (call.Same a b) e = tt
      each (call.IsNull reg) e = tt

  pub can_step : 1 ≤ (flight_at c s).place → CanStep c s
  unfolding flight_at
  can_step some = record {
    flight = record {
      seat = let seated : (flight_at c s).seat ≡ s = (h.facts.flights_formed s below).seated in rw seated below;
      call = call_fits some;
    };
    event = event_fires;
    finds = finds_number;
  }
