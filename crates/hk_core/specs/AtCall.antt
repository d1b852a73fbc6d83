-- The event of a seat's place, what it leaves and what it answers: the tables of the calls, at a call that is named. At the
-- call of the seat's flight they are the step of the seat.
use Rattle.std.specs.Prelude.{ℕ, ◌==◌, slice_set, Option, if◌then◌else◌}
use Rattle.hk_words.specs.declared.geometry.Geometry.{Geometry}
use Rattle.hk_words.specs.declared.call.Call.{Call}
use Rattle.hk_words.specs.Layout.{header_place}
use Rattle.hk_words.specs.Bounds.{places_of}
use Rattle.hk_core.specs.declared.event.Event.{Event}
use Rattle.hk_core.specs.declared.flight.Flight.{Flight}
use Rattle.hk_core.specs.declared.outcome.Step.{Step}
use Rattle.hk_core.specs.declared.outcome.Step.TheVariants.{Going, Ended}
use Rattle.hk_core.specs.Event.{CanFireIf, fired_if, learnt}
use Rattle.hk_core.specs.State.{State, idle, flight_of}
use Rattle.hk_core.specs.Step.{event_at, took_at, outcome_at, claims, unless, write_register, load_entry}
use Rattle.hk_core.specs.Fits.{CallFits, FindsNumber}

-- the event, and the word that it finds
abbrev pub event_in : State → (seat : ℕ) → Call → Option Event
event_in c seat call = event_at c.geometry (flight_of c.flights seat) call

abbrev pub found_in : State → (seat : ℕ) → Call → ℕ
found_in c seat call = learnt c.row (event_in c seat call)

-- the state after it: it is fired, and the flight goes on
abbrev pub next_in : State → (seat : ℕ) → Call → State
next_in c seat call = record c {
  row = fired_if c.row (event_in c seat call);
  flights = slice_set c.flights seat (took_at c.geometry (flight_of c.flights seat) (found_in c seat call) call);
}

-- what the step answers
abbrev pub answer_in : State → (seat : ℕ) → Call → Step
answer_in c seat call =
    if (flight_of c.flights seat).place == places_of call then Ended (outcome_at (flight_of c.flights seat) call) else Going

-- what the places of a call ask of a seat's flight
abbrev pub FitsIn : State → (seat : ℕ) → Call → Type 0
FitsIn c seat call = CallFits c.geometry (flight_of c.flights seat) call

-- the event may be fired
abbrev pub FiresIn : State → (seat : ℕ) → Call → Type 0
FiresIn c seat call = CanFireIf c.row (event_in c seat call)

-- it finds a number where it looks for one
abbrev pub FindsIn : State → (seat : ℕ) → Call → Type 0
FindsIn c seat call = FindsNumber (flight_of c.flights seat) call (found_in c seat call)

-- A kind of place, which several calls share: the event that it does, from the geometry and the flight, and what the flight
-- takes from the word that the event found.

-- the state after such a place
abbrev pub passed : State → (seat : ℕ) → (event : Geometry → Flight → Option Event) → (took : Flight → ℕ → Flight) → State
passed c seat event took = record c {
  row = fired_if c.row (event c.geometry (flight_of c.flights seat));
  flights = slice_set c.flights seat (took (flight_of c.flights seat) (learnt c.row (event c.geometry (flight_of c.flights seat))));
}

-- its event may be fired
abbrev pub Passes : State → (seat : ℕ) → (event : Geometry → Flight → Option Event) → Type 0
Passes c seat event = CanFireIf c.row (event c.geometry (flight_of c.flights seat))

-- what the flight takes: its next place alone, or that it is idle
abbrev pub to_place : (place : ℕ) → Flight → ℕ → Flight
to_place place f old = record f { place = place }

abbrev pub to_idle : Flight → ℕ → Flight
to_idle f old = idle f.seat

-- beside its next place, where the entered object is, whether it claimed its object first, and the offset reserved for that
abbrev pub inside : (place : ℕ) → Flight → ℕ → Flight
inside place f old = record f { place = place; at = header_place old }

abbrev pub claiming : (place : ℕ) → Flight → ℕ → Flight
claiming place f old = record f { place = place; claimer = claims f old }

abbrev pub reserving : (place : ℕ) → Flight → ℕ → Flight
reserving place f old = record f { place = place; offset = old }

-- the event that writes what the flight holds to a register, and the load of a list entry, which a full call leaves out
abbrev pub writes_item : (dest : ℕ) → Geometry → Flight → Option Event
writes_item dest g f = write_register g f dest f.item

abbrev pub loads_entry : Geometry → Flight → Option Event
loads_entry g f = unless f.full (load_entry g f)

-- a seat's flight goes on to a place with no event, and is idle with no event
abbrev pub moved_on : State → (seat place : ℕ) → State
moved_on c seat place = record c { flights = slice_set c.flights seat (record (flight_of c.flights seat) { place = place }) }

abbrev pub ended : State → (seat : ℕ) → State
ended c seat = record c { flights = slice_set c.flights seat (idle (flight_of c.flights seat).seat) }
