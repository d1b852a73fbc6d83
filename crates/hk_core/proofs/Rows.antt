-- The places that several calls have: a call enters its object or its frame, leaves it, or loads W0. At each of them a
-- step leads to a lawful state.
use Rattle.std.proofs.Common.{◌≡◌, ℕ, ◌*◌, ◌<◌, ◌≤◌, false, List, refl, sym, ◌∙◌, ap, arith, Option, Some, None}
use Rattle.std.proofs.lemmas.Bool.{eq-eqb}
use Rattle.hk_words.specs.declared.geometry.Geometry.{Geometry}
use Rattle.hk_words.specs.Geometry.{tasks, numbers, space_words}
use Rattle.hk_words.specs.Layout as layout
use Rattle.hk_words.specs.Row.{w0_at, header_at, frame_at, space_at}
use Rattle.hk_model.specs.History.{Entry, History}
use Rattle.hk_core.specs.declared.event.Event.{Event}
use Rattle.hk_core.specs.declared.event.Event.TheVariants as event
use Rattle.hk_core.specs.declared.flight.Flight.{Flight}
use Rattle.hk_core.specs.declared.spot.Spot.{Spot}
use Rattle.hk_core.specs.Event.{learnt, old_of}
use Rattle.hk_core.specs.State.{State, idle}
use Rattle.hk_core.specs.Step as table
use Rattle.hk_core.specs.Step.{event_of, took_of, effect_of}
use Rattle.hk_core.specs.View.{Words, Names, Contents, decoded, words_of, names_of, contents_of, flight_at, begun_at}
use Rattle.hk_core.specs.Flights as f
use Rattle.hk_core.specs.Colours.{shades_of}
use Rattle.hk_core.specs.Lawful.{FactsOf, Lawful}
use Rattle.hk_core.proofs.Columns.{raw_w0, raw_header, raw_space, words_some}
use Rattle.hk_core.proofs.Next.{DoesPlace, StepsTo, steps_to_silent}
use Rattle.hk_core.proofs.kinds.Seats.{FlightsFacts, moved_on, kept_means}
use Rattle.hk_core.proofs.kinds.Enter as enter
use Rattle.hk_core.proofs.kinds.Enter.{EntersObject, entering_words, object_of}
use Rattle.hk_core.proofs.kinds.Leave as leave
use Rattle.hk_core.proofs.kinds.Leave.{EndsInObject, LeavesAndGoesOn, leaving_words}
use Rattle.hk_core.proofs.kinds.LoadCycle.{LoadsCycle, loaded_on, load_cycle}
use Rattle.hk_core.proofs.kinds.Frame as frame
use Rattle.hk_core.proofs.kinds.Frame.{EntersFrame, EndsInFrame, entering_frame_words, leaving_frame_words}
use Rattle.hk_core.proofs.kinds.Words.{words-load, words-enter_object, words-leave_object, words-enter_frame, words-leave_frame, room_in_object, some_in_object}

-- WHAT A PLACE SHOWS

-- what the tables say of a flight's place, whatever its event finds
pub record TablesSay (g : Geometry) (x : Flight) (event' : Option Event) (flight' : ℕ → Flight) (entry' : ℕ → Option Entry) : Type 0 where
  pub event : event_of g x ≡ event'
  pub flight : (old : ℕ) → took_of g x old ≡ flight' old
  pub entry : (old : ℕ) → effect_of g x old ≡ entry' old

-- the same in other words
pub says_so : (g : Geometry) (x : Flight) (e e' : Option Event) (flight : ℕ → Flight) (entry entry' : ℕ → Option Entry)
    → TablesSay g x e flight entry → e ≡ e' → ((old : ℕ) → entry old ≡ entry' old) → TablesSay g x e' flight entry'
says_so g x e e' flight entry entry' t events entries = record { event = t.event ∙ events; flight = t.flight; entry = λ old. t.entry old ∙ entries old }

-- so for what the event finds in a state
pub does_place : (c : State) (s : ℕ) (e : Option Event) (flight : ℕ → Flight) (entry : ℕ → Option Entry) (y : Flight) (o : Option Entry)
    → TablesSay c.geometry (flight_at c s) e flight entry → flight (learnt c.row e) ≡ y → entry (learnt c.row e) ≡ o → DoesPlace c s e y o
does_place c s e flight entry y o t is_flight is_entry = record {
  event = t.event;
  flight = t.flight (learnt c.row e) ∙ is_flight;
  entry = t.entry (learnt c.row e) ∙ is_entry;
}

-- the facts of the flights among all facts
pub flights_facts : (g : Geometry) (w : Words) (flight : ℕ → Flight) (begun : ℕ → ℕ) (t : Spot) (names : Names) (contents : Contents) (range : ℕ → Option ℕ)
    → FactsOf g w flight begun t names contents range → FlightsFacts g w (shades_of g w flight t.line names) names contents.register flight
flights_facts g w flight begun t names contents range h = assumption

-- what a call finds in the header of an object and at a place of the spaces
pub found_place : (g : Geometry) (row : List ℕ) (n amount : ℕ) → n < numbers g
    → layout.header_place (learnt row (Some (event.Add (header_at g n) amount))) ≡ (words_of g row).place n
unfolding learnt old_of words_of decoded
found_place g row n amount fits = ap layout.header_place (sym (raw_header g row n fits))

pub found_cell : (g : Geometry) (row : List ℕ) (p : ℕ) → 0 < p → p ≤ 2 * space_words g
    → learnt row (Some (event.Load (space_at g p))) ≡ (words_of g row).cell p
unfolding learnt old_of words_of decoded
found_cell g row p some within = sym (raw_space g row p some within)

pub found_w0 : (g : Geometry) (row : List ℕ) → layout.w0_cycle (learnt row (Some (event.Load (w0_at g)))) ≡ (words_of g row).cycle
unfolding learnt old_of words_of decoded
found_w0 g row = ap layout.w0_cycle (sym (raw_w0 g row))

-- THE PLACES OF EACH KIND

module _ (c : State) (history : History) (s : ℕ) (below : s < tasks c.geometry) (h : Lawful c history) where
  -- a call enters its object
  pub enters_object : (q : ℕ) → EntersObject (flight_at c s).call (flight_at c s).place q
      → TablesSay c.geometry (flight_at c s) (table.enter_object c.geometry (flight_at c s)) (λ old. moved_on (flight_at c s) q (layout.header_place old)) (λ old. None)
      → StepsTo c history s (entering_words (words_of c.geometry c.row) (object_of (flight_at c s)))
  unfolding table.enter_object f.is_inside f.in_object
  enters_object q e tables =
      let g = c.geometry in
      let w = words_of g c.row in
      let x = flight_at c s in
      let n = object_of x in
      let names = names_of g history in
      let good = h.facts.entered_good s below e.through e.goes.flying in
      let fits : n < numbers g = (kept_means g w (flight_at c) c.spot.line names n good.is_kept).within in
      let few = room_in_object g w.accessors (flight_at c) s n below fits (rw e.outside refl) h.facts.accessors_counted in
      let enters = event.Add (header_at g n) layout.entering in
      steps_to_silent c history s (Some enters) (moved_on x q (w.place n)) (entering_words w n) h.range h below
      (does_place c s (Some enters) _ _ (moved_on x q (w.place n)) None tables (ap (moved_on x q) (found_place g c.row n layout.entering fits)) refl)
      (words_some g c.row enters (entering_words w n) (words-enter_object g c.row h.sized.row n fits few))
      (enter.enter_object g w (flight_at c) (begun_at c) c.spot names (contents_of g history) h.range s q below e h.facts)

  -- a call leaves its object, and ends
  pub ends_in_object : EndsInObject (flight_at c s).call (flight_at c s).place
      → TablesSay c.geometry (flight_at c s) (table.leave_object c.geometry (flight_at c s)) (λ old. idle (flight_at c s).seat) (λ old. None)
      → StepsTo c history s (leaving_words (words_of c.geometry c.row) (object_of (flight_at c s)))
  unfolding table.leave_object f.is_inside f.in_object
  ends_in_object e tables =
      let g = c.geometry in
      let w = words_of g c.row in
      let x = flight_at c s in
      let n = object_of x in
      let names = names_of g history in
      let good = h.facts.entered_good s below e.through e.flying in
      let fits : n < numbers g = (kept_means g w (flight_at c) c.spot.line names n good.is_kept).within in
      let some = some_in_object g w.accessors (flight_at c) s n below fits (rw e.inside (eq-eqb n n refl)) h.facts.accessors_counted in
      let leaves = event.Sub (header_at g n) layout.leaving in
      steps_to_silent c history s (Some leaves) (idle x.seat) (leaving_words w n) h.range h below
      (does_place c s (Some leaves) _ _ (idle x.seat) None tables refl refl)
      (words_some g c.row leaves (leaving_words w n) (words-leave_object g c.row h.sized.row n fits some))
      (leave.leave_object_last g w (flight_at c) (begun_at c) c.spot names (contents_of g history) h.range s below e h.facts)

  -- a call leaves its object, and goes on
  pub leaves_object : (q : ℕ) → LeavesAndGoesOn (flight_at c s).call (flight_at c s).place q
      → TablesSay c.geometry (flight_at c s) (table.leave_object c.geometry (flight_at c s)) (λ old. moved_on (flight_at c s) q (flight_at c s).at) (λ old. None)
      → StepsTo c history s (leaving_words (words_of c.geometry c.row) (object_of (flight_at c s)))
  unfolding table.leave_object f.is_inside f.in_object
  leaves_object q e tables =
      let g = c.geometry in
      let w = words_of g c.row in
      let x = flight_at c s in
      let n = object_of x in
      let names = names_of g history in
      let good = h.facts.entered_good s below e.through e.goes.flying in
      let fits : n < numbers g = (kept_means g w (flight_at c) c.spot.line names n good.is_kept).within in
      let some = some_in_object g w.accessors (flight_at c) s n below fits (rw e.inside (eq-eqb n n refl)) h.facts.accessors_counted in
      let leaves = event.Sub (header_at g n) layout.leaving in
      steps_to_silent c history s (Some leaves) (moved_on x q x.at) (leaving_words w n) h.range h below
      (does_place c s (Some leaves) _ _ (moved_on x q x.at) None tables refl refl)
      (words_some g c.row leaves (leaving_words w n) (words-leave_object g c.row h.sized.row n fits some))
      (leave.leave_object g w (flight_at c) (begun_at c) c.spot names (contents_of g history) h.range s q below e h.facts)

  -- a call inside its object loads W0
  pub loads_cycle : (q : ℕ) → LoadsCycle (flight_at c s).call (flight_at c s).place q
      → TablesSay c.geometry (flight_at c s) (table.load_w0 c.geometry) (λ old. loaded_on (flight_at c s) q old) (λ old. None)
      → StepsTo c history s (words_of c.geometry c.row)
  unfolding table.load_w0
  loads_cycle q e tables =
      let g = c.geometry in
      let w = words_of g c.row in
      let x = flight_at c s in
      let loads = event.Load (w0_at g) in
      let found = learnt c.row (Some loads) in
      steps_to_silent c history s (Some loads) (loaded_on x q found) w h.range h below
      (does_place c s (Some loads) _ _ (loaded_on x q found) None tables refl refl)
      (words_some g c.row loads w (words-load g c.row (w0_at g)))
      (load_cycle g w (flight_at c) (begun_at c) c.spot (names_of g history) (contents_of g history) h.range s q found below e (found_w0 g c.row) h.facts)

  -- a call enters its frame
  pub enters_frame : (q : ℕ) → EntersFrame (flight_at c s).call (flight_at c s).place q → f.is_resting (flight_at c s) ≡ false
      → TablesSay c.geometry (flight_at c s) (Some (event.Add (frame_at c.geometry s) layout.entering)) (λ old. moved_on (flight_at c s) q (flight_at c s).at) (λ old. None)
      → StepsTo c history s (entering_frame_words (words_of c.geometry c.row) s)
  unfolding f.in_frame
  enters_frame q e busy tables =
      let g = c.geometry in
      let w = words_of g c.row in
      let x = flight_at c s in
      let none : w.frame_accessors s ≡ 0 = h.facts.frame_accessors_counted s below ∙ rw e.outside refl in
      let enters = event.Add (frame_at g s) layout.entering in
      steps_to_silent c history s (Some enters) (moved_on x q x.at) (entering_frame_words w s) h.range h below
      (does_place c s (Some enters) _ _ (moved_on x q x.at) None tables refl refl)
      (words_some g c.row enters (entering_frame_words w s) (words-enter_frame g c.row h.sized.row s below (omega arith)))
      (frame.enter_frame g w (flight_at c) (begun_at c) c.spot (names_of g history) (contents_of g history) h.range s q below e busy h.facts)

  -- a call leaves its frame, and ends
  pub ends_in_frame : EndsInFrame (flight_at c s).call (flight_at c s).place → f.is_resting (flight_at c s) ≡ false
      → TablesSay c.geometry (flight_at c s) (Some (event.Sub (frame_at c.geometry s) layout.leaving)) (λ old. idle (flight_at c s).seat) (λ old. None)
      → StepsTo c history s (leaving_frame_words (words_of c.geometry c.row) s)
  unfolding f.in_frame
  ends_in_frame e busy tables =
      let g = c.geometry in
      let w = words_of g c.row in
      let x = flight_at c s in
      let one : w.frame_accessors s ≡ 1 = h.facts.frame_accessors_counted s below ∙ rw (e.inside, busy) refl in
      let leaves = event.Sub (frame_at g s) layout.leaving in
      steps_to_silent c history s (Some leaves) (idle x.seat) (leaving_frame_words w s) h.range h below
      (does_place c s (Some leaves) _ _ (idle x.seat) None tables refl refl)
      (words_some g c.row leaves (leaving_frame_words w s) (words-leave_frame g c.row h.sized.row s below (omega arith)))
      (frame.leave_frame g w (flight_at c) (begun_at c) c.spot (names_of g history) (contents_of g history) h.range s below e busy h.facts)
