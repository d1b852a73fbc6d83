-- Laws of the machine, over its definitions alone.
use Rattle.std.specs.Prelude.{◌≡◌, ◌↔◌, ℕ, ◌<◌, ◌≤◌, true, false, Some, None, List, ◌+◌}
use Rattle.hk_words.specs.declared.call.Call.{Call}
use Rattle.hk_words.specs.declared.call.Call.TheVariants.{New}
use Rattle.hk_words.specs.declared.shape.Shape.{Shape}
use Rattle.hk_words.specs.Geometry.{tasks}
use Rattle.hk_words.specs.Layout.{reference_number}
use Rattle.hk_words.specs.Calls.{RegistersFit}
use Rattle.hk_model.specs.Heap.{opening_of}
use Rattle.hk_model.specs.History.{History, Legal, after, of_seat, is_question}
use Rattle.hk_model.specs.Replies.{reply_of}
use Rattle.hk_core.specs.declared.outcome.Fault.{Fault}
use Rattle.hk_core.specs.declared.outcome.Step.TheVariants.{Ended}
use Rattle.hk_core.specs.declared.outcome.Outcome.TheVariants.{Full}
use Rattle.hk_core.specs.State.{State, IsSized, flight_of}
use Rattle.hk_words.specs.Bounds.{places_of}
use Rattle.hk_core.specs.Step.{next, answer_by, history_after}
use Rattle.hk_core.specs.Begin.{refusal, first_flight, after_begin}
use Rattle.hk_core.specs.Run.{Action, Running, run, registers_fit}
use Rattle.hk_core.specs.Fits.{CanStep}
use Rattle.hk_core.specs.View.{words_of, names_of}
use Rattle.hk_core.specs.Flights.{in_object}
use Rattle.hk_core.specs.Colours.{Covers, IsKeptBirth}
use Rattle.hk_core.specs.Lawful.{Lawful}
use Rattle.hk_core.specs.Places.{GoesOn, Ends, KeepsOthers, RowLengths}
use Rattle.hk_core.specs.Turns.{steps_of, StandsLater}
use Rattle.hk_core.specs.Replied.{AnswersEntry}
use Rattle.hk_core.specs.Refused.{TellsRoom, EndsFull}
use Rattle.hk_core.specs.Fresh.{IsFresh}
use Rattle.hk_core.specs.Faults.{TellsPlain}
use Rattle.hk_core.specs.Reach.{Reached}
use Rattle.hk_core.specs.Inside.{cell_written, IsLeftAlone, kept_in, size_in, StandsApart}

-- LAWFUL STATES

-- a begin keeps a lawful state lawful, for the same history
abbrev pub BeginKeepsLawful : Type 0
BeginKeepsLawful = (c : State) (history : History) (seat : ℕ) (call : Call) → seat < tasks c.geometry → (flight_of c.flights seat).place ≡ 0
    → is_question call ≡ false → RegistersFit c.geometry.registers call → Lawful c history → Lawful (after_begin c seat call) history

-- a step keeps it lawful, for the history with the entry of its place
abbrev pub StepKeepsLawful : Type 0
StepKeepsLawful = (c : State) (history : History) (seat : ℕ) → seat < tasks c.geometry → 1 ≤ (flight_of c.flights seat).place
    → Lawful c history → Lawful (next c seat) (history_after c seat history)

-- each reply in the history of a lawful state is the one that the plain heap gives at that point
abbrev pub LawfulIsLegal : Type 0
LawfulIsLegal = (c : State) (history : History) → Lawful c history → Legal (opening_of c.geometry) history

-- in a lawful state each seat in flight can step, whatever its call
abbrev pub LawfulCanStep : Type 0
LawfulCanStep = (c : State) (history : History) (seat : ℕ) → seat < tasks c.geometry → 1 ≤ (flight_of c.flights seat).place → Lawful c history
    → CanStep c seat

-- a begin of an idle seat is refused for what the plain heap answers, and one that isn't finds its object and field there
abbrev pub BeginTellsPlain : Type 0
BeginTellsPlain = (c : State) (history : History) (seat : ℕ) (call : Call) → seat < tasks c.geometry → (flight_of c.flights seat).place ≡ 0
    → is_question call ≡ false → RegistersFit c.geometry.registers call → Lawful c history
    → TellsPlain (refusal c seat call) (reply_of (after (opening_of c.geometry) history) seat call)

-- PLACES

-- a begin that is refused changes nothing
abbrev pub RefusedChangesNothing : Type 0
RefusedChangesNothing = (c : State) (seat : ℕ) (call : Call) (fault : Fault) → refusal c seat call ≡ Some fault → after_begin c seat call ≡ c

-- after one that isn't, the seat has the call's first flight, which stands at place 1; no other flight is changed
abbrev pub BeginsAtFirst : Type 0
BeginsAtFirst = (c : State) (seat : ℕ) (call : Call) → IsSized c → seat < tasks c.geometry → refusal c seat call ≡ None
    → flight_of (after_begin c seat call).flights seat ≡ first_flight c seat call

abbrev pub BeginsAlone : Type 0
BeginsAlone = (c : State) (seat : ℕ) (call : Call) → IsSized c → seat < tasks c.geometry → KeepsOthers c (after_begin c seat call) seat

-- no flight of a lawful state is past the last place of its row
abbrev pub StaysInRow : Type 0
StaysInRow = (c : State) (history : History) (seat : ℕ) → seat < tasks c.geometry → Lawful c history
    → (flight_of c.flights seat).place ≤ places_of (flight_of c.flights seat).call

-- a step before the last place of the row leads to the next place, and one at the last place ends the call; no other
-- flight is changed
abbrev pub StepGoesOn : Type 0
StepGoesOn = (c : State) (seat : ℕ) → IsSized c → seat < tasks c.geometry → 1 ≤ (flight_of c.flights seat).place
    → (flight_of c.flights seat).place < places_of (flight_of c.flights seat).call
    → GoesOn (flight_of c.flights seat) (flight_of (next c seat).flights seat) (answer_by c seat)

abbrev pub StepEnds : Type 0
StepEnds = (c : State) (seat : ℕ) → IsSized c → seat < tasks c.geometry → 1 ≤ (flight_of c.flights seat).place
    → (flight_of c.flights seat).place ≡ places_of (flight_of c.flights seat).call
    → Ends (flight_of c.flights seat) (flight_of (next c seat).flights seat) (answer_by c seat)

-- so a call ends at its tenth step where it is a Load, and at its seventh where it is a Store or a New
abbrev pub RowsAreSoLong : Type 0
RowsAreSoLong = RowLengths

abbrev pub StepsAlone : Type 0
StepsAlone = (c : State) (seat : ℕ) → IsSized c → seat < tasks c.geometry → KeepsOthers c (next c seat) seat

-- a test of the registers of a call says that they fit
abbrev pub RegistersTested : Type 0
RegistersTested = (registers : ℕ) (call : Call) → (registers_fit registers call ≡ true) ↔ RegistersFit registers call

-- Whatever begins, steps of other seats and events of the collector come between, a call in flight stands one place later
-- for each step of its own seat.
abbrev pub TakesItsSteps : Type 0
TakesItsSteps = (r : Running) (seat : ℕ) (actions : List Action) → IsSized r.core → seat < tasks r.core.geometry
    → 1 ≤ (flight_of r.core.flights seat).place
    → (flight_of r.core.flights seat).place + steps_of seat actions ≤ places_of (flight_of r.core.flights seat).call
    → StandsLater (flight_of r.core.flights seat) (flight_of (run r actions).core.flights seat) (steps_of seat actions)

-- So it ends at exactly the step that its row says: a Load at its tenth, a Store or a New at its seventh.
abbrev pub EndsAtItsLastStep : Type 0
EndsAtItsLastStep = (r : Running) (seat : ℕ) (actions : List Action) → IsSized r.core → seat < tasks r.core.geometry
    → 1 ≤ (flight_of r.core.flights seat).place
    → (flight_of r.core.flights seat).place + steps_of seat actions ≡ places_of (flight_of r.core.flights seat).call
    → let c = (run r actions).core in
    Ends (flight_of c.flights seat) (flight_of (next c seat).flights seat) (answer_by c seat)

-- From its begin to its last step, whatever comes between, a call adds one entry of its seat to the history, and the last
-- step answers what the entry says. Where the history is legal, this is what the plain heap answers at that point.
abbrev pub AnswersItsEntry : Type 0
AnswersItsEntry = (r : Running) (seat : ℕ) (call : Call) (actions : List Action) → Lawful r.core r.history → seat < tasks r.core.geometry
    → refusal r.core seat call ≡ None → 1 + steps_of seat actions ≡ places_of call
    → let later = run (record r { core = after_begin r.core seat call }) actions in
    AnswersEntry later.core later.history (of_seat r.history seat) seat call

-- NEWS

-- a step of a New tells whether there was room
abbrev pub NewTellsRoom : Type 0
NewTellsRoom = (c : State) (history : History) (seat dest : ℕ) (shape : Shape) → seat < tasks c.geometry → 1 ≤ (flight_of c.flights seat).place
    → (flight_of c.flights seat).call ≡ New dest shape → Lawful c history → TellsRoom c history seat dest shape

-- and a step answers that there was none exactly at the last place of a New that is full
abbrev pub AnswersFull : Type 0
AnswersFull = (c : State) (seat words : ℕ) → (answer_by c seat ≡ Ended (Full words)) ↔ EndsFull (flight_of c.flights seat) words

-- every birth of the plain heap that can be reached is kept: it is the last that bears its number, which is the number of
-- an object of the machine
abbrev pub ReachedIsKept : Type 0
ReachedIsKept = (c : State) (history : History) (birth : ℕ) → Lawful c history → Reached c.geometry (after (opening_of c.geometry) history) birth
    → IsKeptBirth (kept_in c history) (names_of c.geometry history) birth

-- the number that a New loads from its entry is in use nowhere
abbrev pub NumbersAreFresh : Type 0
NumbersAreFresh = (c : State) (history : History) (seat dest : ℕ) (shape : Shape) → seat < tasks c.geometry
    → (flight_of c.flights seat).call ≡ New dest shape → (flight_of c.flights seat).place ≡ 4 → (flight_of c.flights seat).full ≡ false → Lawful c history
    → IsFresh c history seat (flight_of (next c seat).flights seat).number

-- OBJECTS THAT CALLS ARE INSIDE

-- no step changes the place in the header of an object that a call is inside, or a word of it, but for the cell that the
-- step writes
abbrev pub StepsLeaveAlone : Type 0
StepsLeaveAlone = (c : State) (history : History) (seat inside : ℕ) → seat < tasks c.geometry → inside < tasks c.geometry
    → 1 ≤ (flight_of c.flights seat).place → in_object (flight_of c.flights inside) ≡ true → Lawful c history
    → let n = reference_number (flight_of c.flights inside).entered in
    IsLeftAlone (words_of c.geometry c.row) (words_of c.geometry (next c seat).row) (size_in c history n) (cell_written (flight_of c.flights seat)) n

-- such an object stands apart from those of all other kept numbers, and from what News in flight were given, so none of
-- these has its place
abbrev pub InsideStandsApart : Type 0
InsideStandsApart = (c : State) (history : History) (inside : ℕ) → inside < tasks c.geometry → in_object (flight_of c.flights inside) ≡ true → Lawful c history
    → StandsApart c history (reference_number (flight_of c.flights inside).entered)

-- the call knows its place
abbrev pub InsideKnowsPlace : Type 0
InsideKnowsPlace = (c : State) (history : History) (inside : ℕ) → inside < tasks c.geometry → in_object (flight_of c.flights inside) ≡ true → Lawful c history
    → (flight_of c.flights inside).at ≡ (words_of c.geometry c.row).place (reference_number (flight_of c.flights inside).entered)

-- and a cell of it is written only by a call that is inside it too
abbrev pub WritesOwn : Type 0
WritesOwn = (c : State) (history : History) (seat inside p : ℕ) → seat < tasks c.geometry → inside < tasks c.geometry
    → in_object (flight_of c.flights inside) ≡ true → Lawful c history
    → let n = reference_number (flight_of c.flights inside).entered in
    cell_written (flight_of c.flights seat) ≡ Some p → Covers ((words_of c.geometry c.row).place n) (size_in c history n) p
    → (in_object (flight_of c.flights seat) ≡ true) × (reference_number (flight_of c.flights seat).entered ≡ n)
