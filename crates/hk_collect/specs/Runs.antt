-- What is said of runs: where an operation stands, which cell an action writes, which numbers are grey, and whether an
-- attempt of the collector is open.
use Rattle.std.specs.Prelude.{◌≡◌, ℕ, ◌<◌, Bool, true, false, Option, None, if◌then◌else◌}
use Rattle.hk_words.specs.declared.call.Call.{Call}
use Rattle.hk_words.specs.declared.geometry.Geometry.{Geometry}
use Rattle.hk_words.specs.Geometry.{tasks}
use Rattle.hk_words.specs.Layout.{reference_number}
use Rattle.hk_core.specs.declared.spot.Line.{Line}
use Rattle.hk_core.specs.declared.spot.Line.TheVariants as line
use Rattle.hk_core.specs.State.{State, flight_of}
use Rattle.hk_words.specs.Bounds.{places_of}
use Rattle.hk_core.specs.Step.{next, answer_by}
use Rattle.hk_core.specs.Run.{Action, begin, step, collect, is_busy}
use Rattle.hk_core.specs.View.{Words, words_of}
use Rattle.hk_core.specs.Flights.{in_object}
use Rattle.hk_core.specs.Colours.{spaces_of, grey_by}
use Rattle.hk_core.specs.Inside.{cell_written}
use Rattle.hk_core.specs.Places.{GoesOn, Ends}

-- a seat stands at a place of a call; its next step leads to the next place and answers that it goes on, and at the last
-- place of the row it ends the call, answers how it ended, and leaves the seat idle
pub record StandsAt (c : State) (seat : ℕ) (its_call : Call) (its_place : ℕ) : Type 0 where
  pub call : (flight_of c.flights seat).call ≡ its_call
  pub place : (flight_of c.flights seat).place ≡ its_place
  pub goes_on : its_place < places_of its_call → GoesOn (flight_of c.flights seat) (flight_of (next c seat).flights seat) (answer_by c seat)
  pub ends : its_place ≡ places_of its_call → Ends (flight_of c.flights seat) (flight_of (next c seat).flights seat) (answer_by c seat)

-- the number of the object that the call of a seat goes through
abbrev pub entered_number : State → ℕ → ℕ
entered_number c seat = reference_number (flight_of c.flights seat).entered

-- the place of the cell that an action writes, if it writes one: only a step of a call inside its object does
abbrev pub written_by : State → Action → Option ℕ
written_by c (begin seat call) = None
written_by c (step seat) = if is_busy c seat then cell_written (flight_of c.flights seat) else None
written_by c collect = None

-- an action is a step of a call that is inside the object of a number
pub record IsStepInside (c : State) (action : Action) (n : ℕ) : Type 0 where
  pub seat : ℕ
  pub below : seat < tasks c.geometry
  pub steps : action ≡ step seat
  pub inside : in_object (flight_of c.flights seat) ≡ true
  pub same : entered_number c seat ≡ n

-- a number is grey, by the words of a state: it was claimed in this cycle, and isn't moved yet
abbrev pub is_grey_by : Geometry → Words → ℕ → Bool
is_grey_by g w = grey_by (spaces_of g w.cycle) w.cycle w.place w.mark

abbrev pub is_grey : State → ℕ → Bool
is_grey c = is_grey_by c.geometry (words_of c.geometry c.row)

-- the lines of an attempt, from the load that begins it to its exchange
unfoldable pub in_attempt : Line → Bool
in_attempt line.Rest = false
in_attempt (line.Frame seat) = false
in_attempt (line.Register seat reg stage) = true
in_attempt (line.FrameTrade seat) = true
in_attempt line.Scan = false
in_attempt line.Link = false
in_attempt line.Look = false
in_attempt (line.Cell index stage) = true
in_attempt line.ObjectTrade = true
in_attempt (line.Pass number) = false
in_attempt (line.PassHead number) = false
in_attempt (line.Sweep number stage) = false
in_attempt (line.Clear word) = false
in_attempt line.Reset = false
