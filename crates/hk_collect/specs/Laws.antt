-- Laws of runs: what holds after any list of begins, steps of seats and events of the collector, in any order.
use Rattle.std.specs.Prelude.{◌≡◌, ◌≢◌, ◌↔◌, ℕ, ◌+◌, ◌<◌, true, false, Some, None, List, ◌++◌, ◌∷◌}
use Rattle.hk_words.specs.declared.call.Call.{Call}
use Rattle.hk_words.specs.declared.call.Call.TheVariants.{New}
use Rattle.hk_words.specs.declared.geometry.Geometry.{Geometry}
use Rattle.hk_words.specs.declared.shape.Shape.{Shape}
use Rattle.hk_words.specs.Geometry.{tasks}
use Rattle.hk_model.specs.Heap.{opening_of}
use Rattle.hk_model.specs.History.{History, Legal}
use Rattle.hk_core.specs.declared.spot.Spot.{Spot}
use Rattle.hk_core.specs.declared.spot.Line.TheVariants.{Pass, PassHead}
use Rattle.hk_core.specs.Event.{CanFireIf}
use Rattle.hk_core.specs.State.{State, flight_of}
use Rattle.hk_words.specs.Bounds.{places_of}
use Rattle.hk_core.specs.Step.{next}
use Rattle.hk_core.specs.Begin.{refusal}
use Rattle.hk_core.specs.Collect.{event_by_collector, next_collected, spot_took}
use Rattle.hk_core.specs.Run.{Action, Running, begin, collect, act, run_from_opening, may_begin}
use Rattle.hk_core.specs.View.{words_of}
use Rattle.hk_core.specs.Flights.{in_object}
use Rattle.hk_core.specs.Colours.{Covers}
use Rattle.hk_core.specs.Facts.{SpotFormed}
use Rattle.hk_core.specs.Lawful.{Lawful}
use Rattle.hk_core.specs.Turns.{steps_of}
use Rattle.hk_core.specs.Inside.{IsLeftAlone, size_in, StandsApart}
use Rattle.hk_core.specs.Fresh.{IsFresh}
use Rattle.hk_collect.specs.SpotFits.{SpotFits}
use Rattle.hk_collect.specs.Works.{IsWorn}
use Rattle.hk_collect.specs.Runs.{StandsAt, entered_number, written_by, IsStepInside, in_attempt}

-- LAWFUL STATES

-- the collector keeps a lawful state lawful, for the same history
abbrev pub CollectorKeepsLawful : Type 0
CollectorKeepsLawful = (c : State) (history : History) → Lawful c history → Lawful (next_collected c) history

-- every run is lawful for its history
abbrev pub RunsAreLawful : Type 0
RunsAreLawful = (g : Geometry) (actions : List Action) → Lawful (run_from_opening g actions).core (run_from_opening g actions).history

-- so each reply in it is the one that the heap which never collects gives at that point
abbrev pub RunsAreLegal : Type 0
RunsAreLegal = (g : Geometry) (actions : List Action) → Legal (opening_of g) (run_from_opening g actions).history

-- no action changes the geometry
abbrev pub RunsKeepGeometry : Type 0
RunsKeepGeometry = (g : Geometry) (actions : List Action) → (run_from_opening g actions).core.geometry ≡ g

-- an event of the collector leaves the history as it is, and the calls in flight
abbrev pub CollectorKeepsHistory : Type 0
CollectorKeepsHistory = (r : Running) → (act r collect).history ≡ r.history

abbrev pub CollectorKeepsFlights : Type 0
CollectorKeepsFlights = (r : Running) → (act r collect).core.flights ≡ r.core.flights

-- THE COLLECTOR'S EVENT

-- in a lawful state the collector's spot fits, and its event may be fired
abbrev pub LawfulSpotFits : Type 0
LawfulSpotFits = (c : State) (history : History) → Lawful c history → SpotFits c.geometry c.spot

abbrev pub LawfulCanCollect : Type 0
LawfulCanCollect = (c : State) (history : History) → Lawful c history → CanFireIf c.row (event_by_collector c)

-- there is an event but where a flip is due in the last cycle
abbrev pub EventUnlessWorn : Type 0
EventUnlessWorn = (c : State) (history : History) → Lawful c history → (event_by_collector c ≡ None) ↔ IsWorn c

-- OPERATIONS

-- After a begin that is accepted, and any further actions of which fewer are steps of its seat than its call has places,
-- the seat stands at the place after so many; its next step goes on, or ends the call at the last place. So each operation
-- ends at exactly the last place of its row, and does no place twice.
abbrev pub OperationsEnd : Type 0
OperationsEnd = (g : Geometry) (before later : List Action) (seat : ℕ) (call : Call)
    → may_begin (run_from_opening g before).core seat call ≡ true → refusal (run_from_opening g before).core seat call ≡ None
    → steps_of seat later < places_of call
    → StandsAt (run_from_opening g (before ++ begin seat call ∷ later)).core seat call (steps_of seat later + 1)

-- OBJECTS THAT CALLS ARE INSIDE

-- while a call is inside an object, no action changes the place in its header, nor a word of it but for the cell that the
-- action writes
abbrev pub InsideStays : Type 0
InsideStays = (g : Geometry) (actions : List Action) (action : Action) (inside : ℕ) → inside < tasks g
    → let r = run_from_opening g actions in in_object (flight_of r.core.flights inside) ≡ true
    → IsLeftAlone (words_of g r.core.row) (words_of g (act r action).core.row) (size_in r.core r.history (entered_number r.core inside))
    (written_by r.core action) (entered_number r.core inside)

-- a cell of it is written only by a step of a call that is inside it
abbrev pub WritesAreInside : Type 0
WritesAreInside = (g : Geometry) (actions : List Action) (action : Action) (inside p : ℕ) → inside < tasks g
    → let r = run_from_opening g actions in in_object (flight_of r.core.flights inside) ≡ true
    → written_by r.core action ≡ Some p → Covers ((words_of g r.core.row).place (entered_number r.core inside)) (size_in r.core r.history (entered_number r.core inside)) p
    → IsStepInside r.core action (entered_number r.core inside)

-- no action gives its place to another number, be it one that is in use, one that a New in flight holds, or one that nobody
-- uses: a number that has this place after the action had it before
abbrev pub PlaceIsGivenToNone : Type 0
PlaceIsGivenToNone = (g : Geometry) (actions : List Action) (action : Action) (inside other : ℕ) → inside < tasks g
    → let r = run_from_opening g actions in in_object (flight_of r.core.flights inside) ≡ true → other ≢ entered_number r.core inside
    → (words_of g (act r action).core.row).place other ≡ (words_of g r.core.row).place (entered_number r.core inside)
    → (words_of g r.core.row).place other ≡ (words_of g r.core.row).place (entered_number r.core inside)

-- at every moment of a run, no other kept number has one of its words, no New in flight was given one, and no number to
-- which a New in flight has given a header has its place
abbrev pub InsideIsApart : Type 0
InsideIsApart = (g : Geometry) (actions : List Action) (inside : ℕ) → inside < tasks g
    → let r = run_from_opening g actions in in_object (flight_of r.core.flights inside) ≡ true
    → StandsApart r.core r.history (entered_number r.core inside)

-- NUMBERS

-- the number that a New loads from its entry is in use nowhere
abbrev pub RunsGiveFreshNumbers : Type 0
RunsGiveFreshNumbers = (g : Geometry) (actions : List Action) (seat dest : ℕ) (shape : Shape) → seat < tasks g
    → let r = run_from_opening g actions in
    (flight_of r.core.flights seat).call ≡ New dest shape → (flight_of r.core.flights seat).place ≡ 4 → (flight_of r.core.flights seat).full ≡ false
    → IsFresh r.core r.history seat (flight_of (next r.core seat).flights seat).number

-- THE COLLECTOR'S TABLES

-- the event that begins an attempt is the first that counts, and each further one of the attempt counts one more
abbrev pub AttemptsBegin : Type 0
AttemptsBegin = (g : Geometry) (t : Spot) (old : ℕ) → in_attempt t.line ≡ false → in_attempt (spot_took g t old).line ≡ true → (spot_took g t old).spent ≡ 1

abbrev pub AttemptsGoOn : Type 0
AttemptsGoOn = (g : Geometry) (t : Spot) (old : ℕ) → SpotFormed g t → in_attempt t.line ≡ true → in_attempt (spot_took g t old).line ≡ true
    → (spot_took g t old).spent ≡ t.spent + 1

-- the pass comes to the header of a number exactly where it has found the mark of that number equal to the cycle
abbrev pub HeadersAfterMarks : Type 0
HeadersAfterMarks = (g : Geometry) (t : Spot) (old number : ℕ)
    → ((spot_took g t old).line ≡ PassHead number) ↔ ((t.line ≡ Pass number) × (old ≡ t.cycle))
