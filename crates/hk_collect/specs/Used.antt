-- Which objects the collector and the calls reserve places for: only those that could be reached when the cycle began, or that
-- were made since by a New which had raised W0 before. A run is traced for that: beside the state and its history goes the
-- history at the last flip; the seats that had raised W0 by then for an object that isn't made yet; and the births of such
-- objects.
use Rattle.std.specs.Prelude.{◌≡◌, ◌⊎◌, ℕ, ◌+◌, ◌<◌, ◌≤◌, nat_eq, nat_le, nat_lt, Bool, true, false, ◌&&◌, ◌||◌, List, [], ◌∷◌, ◌++◌, fold, Contains, Option, Some, if◌then◌else◌}
use Rattle.hk_words.specs.declared.geometry.Geometry.{Geometry}
use Rattle.hk_words.specs.Geometry.{tasks, numbers}
use Rattle.hk_words.specs.Layout.{reference_number}
use Rattle.hk_words.specs.Row.{w1_at}
use Rattle.hk_model.specs.Heap.{Heap, born, register, refs, link, opening_of}
use Rattle.hk_model.specs.History.{History, after, bearer}
use Rattle.hk_model.specs.View.{upd}
use Rattle.hk_words.specs.declared.call.Call.{Call}
use Rattle.hk_core.specs.declared.spot.Work.{Work}
use Rattle.hk_core.specs.declared.spot.Work.TheVariants.{Useful, Flipped, Lost, BusyFrame, BusyObject, Unlinked, Grey, LiveOver, Worn}
use Rattle.hk_core.specs.declared.event.Event.TheVariants.{Add}
use Rattle.hk_core.specs.declared.spot.Line.{Line}
use Rattle.hk_core.specs.State.{State, opening, flight_of}
use Rattle.hk_core.specs.Collect.{event_by_collector, work_by_collector}
use Rattle.hk_core.specs.Step.{reference_size, event_by}
use Rattle.hk_core.specs.Run.{Action, Running, begin, step, collect, act, is_busy, run_from_opening}
use Rattle.hk_core.specs.View.{words_of, flight_at}
use Rattle.hk_core.specs.Flights.{to_reserve, is_making, has_header, cycle_of}
use Rattle.hk_core.specs.Lines as l
use Rattle.hk_core.specs.Colours.{Spaces, spaces_of, is_within}
use Rattle.hk_core.specs.Lawful.{hands_of}
use Rattle.hk_core.specs.Reach.{Reached}
use Rattle.hk_collect.specs.Runs.{is_grey}
use Rattle.hk_collect.specs.Measure.{NoneInFlight}

-- TRACED RUNS

-- A run, with the history at the last flip, the seats with a New in flight that had raised W0 before that flip and hasn't had its
-- effect yet, and the births since the flip whose New was such a one. Before the first flip there are none of all three
pub record Trace : Type 0 where
  pub running : Running
  pub at_flip : History
  pub raised : ℕ → Bool
  pub late : List ℕ

-- what the collector did was the flip
abbrev pub is_flip : Work → Bool
is_flip Useful = false
is_flip Flipped = true
is_flip (Lost events) = false
is_flip (BusyFrame seat) = false
is_flip (BusyObject number) = false
is_flip (Unlinked place) = false
is_flip (Grey number) = false
is_flip (LiveOver words) = false
is_flip Worn = false

-- the birth that comes next after a history: the number of the births before it
abbrev pub next_birth : Geometry → History → ℕ
next_birth g history = born (after (opening_of g) history)

-- the seat has a New in flight that has raised W0 and found room, and that hasn't had its effect yet
abbrev pub is_raising : State → ℕ → Bool
is_raising c seat = nat_lt seat (tasks c.geometry) && is_making (flight_of c.flights seat)

-- the next step of a seat is the effect of such a New: its object is born
abbrev pub bears_next : State → ℕ → Bool
bears_next c seat = is_busy c seat && has_header (flight_of c.flights seat)

-- a traced run after an action: the flip begins anew with the seats that have raised W0, and the birth of an object of one of
-- these is late
unfoldable pub trace_act : Trace → Action → Trace
trace_act r (begin seat call) = record r { running = act r.running (begin seat call) }
trace_act r (step seat) = if bears_next r.running.core seat
    then record {
      running = act r.running (step seat);
      at_flip = r.at_flip;
      raised = upd r.raised seat false;
      late = if r.raised seat then r.late ++ next_birth r.running.core.geometry r.running.history ∷ [] else r.late;
    }
    else record r { running = act r.running (step seat) }
trace_act r collect = if is_flip (work_by_collector r.running.core)
    then record { running = act r.running collect; at_flip = r.running.history; raised = is_raising r.running.core; late = [] }
    else record r { running = act r.running collect }

unfoldable pub trace_opening : Geometry → Trace
trace_opening g = record { running = record { core = opening g; history = [] }; at_flip = []; raised = λ seat. false; late = [] }

-- the traced run of a list of actions from the opening state of a geometry
unfoldable pub traced : Geometry → List Action → Trace
traced g actions = fold trace_act (trace_opening g) actions

-- WHAT WAS IN USE

-- a birth could be reached in the plain heap at the last flip, or is late: it is that of a New that had raised W0 before that flip
-- and had its effect after it
abbrev pub WasUsed : Trace → ℕ → Type 0
WasUsed r birth = Reached r.running.core.geometry (after (opening_of r.running.core.geometry) r.at_flip) birth ⊎ Contains r.late birth

-- a number is borne by a birth that was in use
abbrev pub BearsUsed : Trace → ℕ → Type 0
BearsUsed r n = (birth : ℕ) × (bearer r.running.history n ≡ Some birth) × WasUsed r birth

-- THE FACTS OF A TRACED RUN, beside those of a lawful state. Each takes the columns that it reads; `used` says which births
-- are in use, and `young` lists those of a New that raised W0 since the flip.

-- a birth is in use since a history: it was reachable in the plain heap then, or was born later
abbrev pub UsedSince : Geometry → (at_flip : History) → ℕ → Type 0
UsedSince g at_flip birth = Reached g (after (opening_of g) at_flip) birth ⊎ (next_birth g at_flip ≤ birth)

-- the next step of a seat is the effect of a New that found room, and that raised W0 in the present cycle
abbrev pub gives_young : State → ℕ → Bool
gives_young c seat = has_header (flight_of c.flights seat) && nat_eq (cycle_of (flight_of c.flights seat)) (words_of c.geometry c.row).cycle

-- The registers of the plain heap hold births in use, and so do the reference cells of these. Without it a call could read
-- and claim what wasn't in use.
pub record Closed (h : Heap) (used : ℕ → Type 0) : Type 0 where
  pub registers : (s r birth : ℕ) → register h s r ≡ Some birth → used birth
  pub links : (birth i child : ℕ) → used birth → i < refs h birth → link h birth i ≡ Some child → used child

-- a word is null, or the reference of a number that a birth in use bears
abbrev pub IsUsedWord : (bearer : ℕ → Option ℕ) (used : ℕ → Type 0) → ℕ → Type 0
IsUsedWord bearer used word = (word ≡ 0) ⊎ ((birth : ℕ) × (bearer (reference_number word) ≡ Some birth) × used birth)

-- During an attempt on a frame its register words name births in use: a register word that a Load has still to write over
-- may show what wasn't, but the attempt began where no call was inside the frame. Without it the collector could claim what
-- a register held before the flip.
abbrev pub AttemptUsed : Geometry → (bearer : ℕ → Option ℕ) (used : ℕ → Type 0) (register : ℕ → ℕ → ℕ) → Line → Type 0
AttemptUsed g bearer used register line = (s passed r : ℕ) → l.frame_attempt g line ≡ Some (s, passed) → s < tasks g → r < g.registers
    → IsUsedWord bearer used (register s r)

-- The reference that the collector deals with names a birth in use. Without it the collector could claim another.
abbrev pub CellUsed : (bearer : ℕ → Option ℕ) (used : ℕ → Type 0) → Line → (cell : ℕ) → Type 0
CellUsed bearer used line cell = l.has_reference line ≡ true → IsUsedWord bearer used cell

-- A number that was claimed in this cycle: it stands in the old space still, or was moved, and stands among the words for
-- evacuation of the current one. A new object stands behind these
abbrev pub stands_claimed : Spaces → ℕ → Bool
stands_claimed z p = is_within z z.old p || (nat_le z.current p && nat_lt p (z.current + z.live))

abbrev pub claimed_by : Spaces → (cycle : ℕ) → (place mark : ℕ → ℕ) → ℕ → Bool
claimed_by z cycle place mark n = nat_eq (mark n) cycle && stands_claimed z (place n)

-- Such a number is borne by a birth in use that isn't young. Without it the collector could come from it to others.
abbrev pub GreyUsed : Geometry → (bearer : ℕ → Option ℕ) (used : ℕ → Type 0) (young : List ℕ) (grey : ℕ → Bool) → Type 0
GreyUsed g bearer used young grey = (n : ℕ) → n < numbers g → grey n ≡ true → (birth : ℕ) × (bearer n ≡ Some birth) × used birth × ¬ Contains young birth

-- The number that a young birth bears is marked for the cycle. Without it a claim could make it grey.
abbrev pub YoungMarked : (bearer : ℕ → Option ℕ) (young : List ℕ) (cycle : ℕ) (mark : ℕ → ℕ) → Type 0
YoungMarked bearer young cycle mark = (n birth : ℕ) → bearer n ≡ Some birth → Contains young birth → mark n ≡ cycle

-- A young birth is one that there was. Without it the birth of a New from before the flip could seem to be young.
abbrev pub YoungBorn : (young : List ℕ) (next : ℕ) → Type 0
YoungBorn young next = (birth : ℕ) → Contains young birth → birth < next

-- THE LAWS

-- a traced run is the run, and its geometry is the one it began with
abbrev pub TracedIsRun : Type 0
TracedIsRun = (g : Geometry) (actions : List Action) → (traced g actions).running ≡ run_from_opening g actions

abbrev pub TracedKeepsGeometry : Type 0
TracedKeepsGeometry = (g : Geometry) (actions : List Action) → (traced g actions).running.core.geometry ≡ g

-- a late birth is one since the last flip
abbrev pub LateIsLater : Type 0
LateIsLater = (g : Geometry) (actions : List Action) (birth : ℕ) → let r = traced g actions in
    Contains r.late birth → (next_birth g r.at_flip ≤ birth) × (birth < next_birth g r.running.history)

-- No birth is late, and none will be in this cycle. That is so from a flip on at which no call is in flight.
pub record NoneLate (r : Trace) : Type 0 where
  pub none_raised : (seat : ℕ) → r.raised seat ≡ false
  pub none_late : r.late ≡ []

pub record KeepsNoneLate : Type 0 where
  pub opening : (g : Geometry) → NoneLate (trace_opening g)
  pub begin : (r : Trace) (seat : ℕ) (call : Call) → NoneLate r → NoneLate (trace_act r (begin seat call))
  pub step : (r : Trace) (seat : ℕ) → NoneLate r → NoneLate (trace_act r (step seat))
  pub collect : (r : Trace) → (is_flip (work_by_collector r.running.core) ≡ true → NoneInFlight r.running.core) → NoneLate r → NoneLate (trace_act r collect)

-- Each number that was claimed in this cycle and isn't moved yet is borne by a birth that was in use. Who reserves holds a
-- claim of such a number.
abbrev pub ReservedWasUsed : Type 0
ReservedWasUsed = (g : Geometry) (actions : List Action) → let c = (traced g actions).running.core in
    (n : ℕ) → n < numbers c.geometry → is_grey c n ≡ true → BearsUsed (traced g actions) n

-- So is each that was claimed in this cycle and was moved, or isn't yet.
unfoldable pub is_claimed : State → ℕ → Bool
is_claimed c n = let w = words_of c.geometry c.row in claimed_by (spaces_of c.geometry w.cycle) w.cycle w.place w.mark n

abbrev pub ClaimedWasUsed : Type 0
ClaimedWasUsed = (g : Geometry) (actions : List Action) → let c = (traced g actions).running.core in
    (n : ℕ) → n < numbers c.geometry → is_claimed c n ≡ true → BearsUsed (traced g actions) n

-- so is each that a claim in hand is for, of a seat or of the collector, which stands behind the seats
abbrev pub HeldWasUsed : Type 0
HeldWasUsed = (g : Geometry) (actions : List Action) → let c = (traced g actions).running.core in
    (k item cycle : ℕ) → k ≤ tasks c.geometry → hands_of c.geometry (flight_at c) c.spot k ≡ to_reserve item cycle
    → BearsUsed (traced g actions) (reference_number item)

-- Who reserves adds to W1. Each event by which a call or the collector does so is for an object that was in use: its number
-- is borne by such a birth.
abbrev pub CallsReserveUsed : Type 0
CallsReserveUsed = (g : Geometry) (actions : List Action) → let c = (traced g actions).running.core in
    (seat words : ℕ) → seat < tasks c.geometry → event_by c seat ≡ Some (Add (w1_at c.geometry) words)
    → (words ≡ reference_size (flight_of c.flights seat).item) × BearsUsed (traced g actions) (reference_number (flight_of c.flights seat).item)

abbrev pub CollectorReservesUsed : Type 0
CollectorReservesUsed = (g : Geometry) (actions : List Action) → let c = (traced g actions).running.core in
    (words : ℕ) → event_by_collector c ≡ Some (Add (w1_at c.geometry) words)
    → (words ≡ reference_size c.spot.cell) × BearsUsed (traced g actions) (reference_number c.spot.cell)
