-- The places of a call one after another, on the row and the call's flight alone.
use Rattle.std.specs.Prelude.{ℕ, zero, suc, ◌+◌, List, slice_set, slice_index}
use Rattle.hk_words.specs.declared.geometry.Geometry.{Geometry}
use Rattle.hk_words.specs.declared.call.Call.{Call}
use Rattle.hk_core.specs.declared.flight.Flight.{Flight}
use Rattle.hk_core.specs.Event.{CanFireIf, fired_if, learnt}
use Rattle.hk_core.specs.State.{State, idle}
use Rattle.hk_core.specs.Step.{event_of, took_of}
use Rattle.hk_core.specs.Begin.{first_flight}
use Rattle.hk_core.specs.Fits.{Fits, FindsNumber}

-- a row of words, and the flight of a call on it
pub record Passing : Type 0 where
  pub row : List ℕ
  pub flight : Flight

-- the place of the flight was done: its event is fired, and the flight goes on
unfoldable pub passed : Geometry → Passing → Passing
passed g p = record {
  row = fired_if p.row (event_of g p.flight);
  flight = took_of g p.flight (learnt p.row (event_of g p.flight));
}

-- so many places were done
unfoldable pub passed_by : ℕ → Geometry → Passing → Passing
passed_by zero g p = p
passed_by (suc places) g p = passed g (passed_by places g p)

-- the place of the flight can be done
pub record CanPass (g : Geometry) (p : Passing) : Type 0 where
  pub flight : Fits g p.flight
  pub event : CanFireIf p.row (event_of g p.flight)
  pub finds : FindsNumber p.flight p.flight.call (learnt p.row (event_of g p.flight))

-- so many places can be done, one after another
unfoldable pub CanPassBy : ℕ → Geometry → Passing → Type 0
CanPassBy zero g p = Unit {0}
CanPassBy (suc places) g p = CanPassBy places g p × CanPass g (passed_by places g p)

-- a call that begins, on the row of a state
unfoldable pub begins : State → ℕ → Call → Passing
begins c seat call = record { row = c.row; flight = first_flight c seat call }

-- the state of whose row it is, with the seat idle after one more begun call
unfoldable pub closed : State → ℕ → State
closed c seat = record c {
  flights = slice_set c.flights seat (idle seat);
  begun = slice_set c.begun seat (slice_index c.begun seat + 1);
}
