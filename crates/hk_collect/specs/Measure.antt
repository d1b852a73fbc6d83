-- The measure of a cycle, and the attempts of the collector. Tasks may take steps between any two events of the collector;
-- the laws of the measure are about events at which no call is in mid-course. Then no event waits for anybody, and the
-- useful events of a cycle are at most a bound that depends on the spot alone, and is largest at the end of the cycle.
use Rattle.std.specs.Prelude.{◌≡◌, ◌≢◌, ℕ, ◌+◌, ◌-◌, ◌*◌, ◌<◌, ◌≤◌, max, true, false, ⊤, Some, if◌then◌else◌}
use Rattle.hk_words.specs.declared.geometry.Geometry.{Geometry}
use Rattle.hk_words.specs.declared.call.Call.{Call}
use Rattle.hk_words.specs.Bounds.{frame_events, object_events, cycle_events}
use Rattle.hk_words.specs.Geometry.{tasks, numbers, list_length}
use Rattle.hk_words.specs.Row.{word_of}
use Rattle.hk_words.specs.Row.Slot.{Header, Frame}
use Rattle.hk_model.specs.History.{History}
use Rattle.hk_core.specs.declared.spot.Spot.{Spot}
use Rattle.hk_core.specs.declared.spot.Line.{Line}
use Rattle.hk_core.specs.declared.spot.Line.TheVariants as line
use Rattle.hk_core.specs.declared.spot.Stage.{Stage}
use Rattle.hk_core.specs.declared.spot.Stage.TheVariants as stage
use Rattle.hk_core.specs.declared.spot.Work.{Work}
use Rattle.hk_core.specs.declared.spot.Work.TheVariants.{Useful, Flipped, Lost, BusyFrame, BusyObject, Unlinked, Grey, LiveOver, Worn}
use Rattle.hk_core.specs.State.{State, flight_of, opening}
use Rattle.hk_core.specs.Step.{reference_size, next}
use Rattle.hk_core.specs.Begin.{after_begin}
use Rattle.hk_core.specs.Collect.{moved_number, next_collected, work_by_collector}
use Rattle.hk_core.specs.View.{words_of, names_of}
use Rattle.hk_core.specs.Lines.{passing, has_item}
use Rattle.hk_core.specs.Lawful.{Lawful}
use Rattle.hk_collect.specs.Runs.{in_attempt, is_grey}

-- ATTEMPTS

-- The word of an open attempt is untouched: the frame word, or the header of the object that is moved, still is the one
-- that the attempt loaded. Nothing is said where no attempt is open.
abbrev pub FrameUntouched : State → ℕ → Type 0
FrameUntouched c seat = word_of c.geometry c.row (Frame seat) ≡ c.spot.first

abbrev pub ObjectUntouched : State → Type 0
ObjectUntouched c = word_of c.geometry c.row (Header (moved_number c.spot)) ≡ c.spot.first

unfoldable pub UntouchedAt : State → Line → Type 0
UntouchedAt c line.Rest = ⊤
UntouchedAt c (line.Frame s) = ⊤
UntouchedAt c (line.Register s r stage) = FrameUntouched c s
UntouchedAt c (line.FrameTrade s) = FrameUntouched c s
UntouchedAt c line.Scan = ⊤
UntouchedAt c line.Link = ⊤
UntouchedAt c line.Look = ⊤
UntouchedAt c (line.Cell i stage) = ObjectUntouched c
UntouchedAt c line.ObjectTrade = ObjectUntouched c
UntouchedAt c (line.Pass n) = ⊤
UntouchedAt c (line.PassHead n) = ⊤
UntouchedAt c (line.Sweep n stage) = ⊤
UntouchedAt c (line.Clear i) = ⊤
UntouchedAt c line.Reset = ⊤

abbrev pub IsUntouched : State → Type 0
IsUntouched c = UntouchedAt c c.spot.line

-- THE MEASURE

-- so many frames are done; then so many words are scanned; then so many numbers are gone past by the pass, and by the
-- sweep, which has written so many entries; then so many words are cleared
abbrev pub most_for_frames : Geometry → (frames : ℕ) → ℕ
most_for_frames g frames = 1 + frame_events g.registers * frames

abbrev pub most_for_scan : Geometry → (words : ℕ) → ℕ
most_for_scan g words = most_for_frames g (tasks g) + 5 * words

abbrev pub most_for_pass : Geometry → (passed : ℕ) → ℕ
most_for_pass g passed = 1 + most_for_scan g g.live + 2 * passed

abbrev pub most_for_sweep : Geometry → (swept entries : ℕ) → ℕ
most_for_sweep g swept entries = most_for_pass g (numbers g) + swept + 3 * entries

abbrev pub most_for_clearing : Geometry → (cleared : ℕ) → ℕ
most_for_clearing g cleared = most_for_sweep g (numbers g) (list_length g) + cleared

-- in the sweep, an entry counts as written from its write on, though its mark and its header are still to be written
unfoldable pub most_in_sweep : Geometry → Spot → ℕ → Stage → ℕ
most_in_sweep g t n stage.Read = most_for_sweep g n t.entries
most_in_sweep g t n stage.Claim = most_for_sweep g n t.entries
most_in_sweep g t n stage.Reserve = most_for_sweep g n t.entries
most_in_sweep g t n stage.Tie = most_for_sweep g n t.entries
most_in_sweep g t n stage.Write = most_for_sweep g n t.entries + 1
most_in_sweep g t n stage.Mark = most_for_sweep g n t.entries - 1
most_in_sweep g t n stage.Empty = most_for_sweep g n t.entries

-- the most useful events of a cycle up to a spot, by its line: an open attempt adds the events that it has spent
unfoldable pub most_useful_at : Geometry → Spot → Line → ℕ
most_useful_at g t line.Rest = most_for_clearing g (g.live + g.alloc) + 1
most_useful_at g t (line.Frame s) = most_for_frames g s
most_useful_at g t (line.Register s r stage) = most_for_frames g s + t.spent
most_useful_at g t (line.FrameTrade s) = most_for_frames g s + t.spent
most_useful_at g t line.Scan = most_for_scan g t.scan
most_useful_at g t line.Link = most_for_scan g t.scan + 1
most_useful_at g t line.Look = most_for_scan g t.scan + 2
most_useful_at g t (line.Cell i stage) = most_for_scan g t.scan + 2 + t.spent
most_useful_at g t line.ObjectTrade = most_for_scan g t.scan + 2 + t.spent
most_useful_at g t (line.Pass n) = most_for_pass g n
most_useful_at g t (line.PassHead n) = most_for_pass g n + 1
most_useful_at g t (line.Sweep n stage) = most_in_sweep g t n stage
most_useful_at g t (line.Clear i) = most_for_clearing g i
most_useful_at g t line.Reset = most_for_clearing g (g.live + g.alloc)

unfoldable pub most_useful : Geometry → Spot → ℕ
most_useful g t = most_useful_at g t t.line

-- the most useful events of a whole cycle
abbrev pub cycle_bound : Geometry → ℕ
cycle_bound g = cycle_events g.registers (tasks g) g.live g.alloc

-- the useful events of the cycle after an event, from what they were before it: a flip begins to count anew, and the
-- events of a lost attempt are taken away again, with the exchange that lost it
abbrev pub useful_after : Work → ℕ → ℕ
useful_after Useful useful = useful + 1
useful_after Flipped useful = 1
useful_after (Lost events) useful = useful + 1 - events
useful_after (BusyFrame seat) useful = useful
useful_after (BusyObject number) useful = useful
useful_after (Unlinked place) useful = useful
useful_after (Grey number) useful = useful
useful_after (LiveOver words) useful = useful
useful_after Worn useful = useful

-- CALM STATES

-- no call is in mid-course
abbrev pub NoneInFlight : State → Type 0
NoneInFlight c = (seat : ℕ) → seat < tasks c.geometry → (flight_of c.flights seat).place ≡ 0

-- A state is calm where no number is grey while the pass goes on, and the number whose header the pass is about to load was
-- claimed in this cycle. Without the second part the pass could take a number that wasn't claimed for a grey one.
pub record IsCalm (c : State) : Type 0 where
  pub none_grey : (passed number : ℕ) → passing c.spot.line ≡ Some passed → number < numbers c.geometry → is_grey c number ≡ false
  pub head_claimed : (number : ℕ) → c.spot.line ≡ line.PassHead number
      → (words_of c.geometry c.row).mark number ≡ (words_of c.geometry c.row).cycle

-- an event waits for nobody: it finds no call inside the frame or the object that it looks at, no link word missing, and
-- in the pass no grey number
abbrev pub WaitsForNobody : Work → Type 0
WaitsForNobody Useful = ⊤
WaitsForNobody Flipped = ⊤
WaitsForNobody (Lost events) = ⊤
WaitsForNobody (BusyFrame seat) = ⊥
WaitsForNobody (BusyObject number) = ⊥
WaitsForNobody (Unlinked place) = ⊥
WaitsForNobody (Grey number) = ⊥
WaitsForNobody (LiveOver words) = ⊤
WaitsForNobody Worn = ⊤

-- THE LAWS OF THE MEASURE

-- an event with so many useful ones before it keeps to the measure
pub record KeepsMeasure (c : State) (useful : ℕ) : Type 0 where
  pub measured : useful_after (work_by_collector c) useful ≤ most_useful c.geometry (next_collected c).spot
  pub calm : IsCalm (next_collected c)
  pub waits_for_nobody : WaitsForNobody (work_by_collector c)

-- with no call in mid-course each event of the collector keeps to the measure, and keeps a calm state calm
abbrev pub CollectorIsMeasured : Type 0
CollectorIsMeasured = (c : State) (history : History) (useful : ℕ) → Lawful c history → IsCalm c → NoneInFlight c
    → useful ≤ most_useful c.geometry c.spot → KeepsMeasure c useful

-- a begin and a step of a seat leave the spot as it is, and so the bound, and keep a calm state calm
pub record KeepsCalm (c after : State) : Type 0 where
  pub spot : after.spot ≡ c.spot
  pub calm : IsCalm c → IsCalm after

pub record SeatsKeepCalm : Type 0 where
  pub begin : (c : State) (seat : ℕ) (call : Call) → KeepsCalm c (after_begin c seat call)
  pub step : (c : State) (history : History) (seat : ℕ) → seat < tasks c.geometry → 1 ≤ (flight_of c.flights seat).place
      → Lawful c history → KeepsCalm c (next c seat)

-- the opening state is calm
abbrev pub OpeningIsCalm : Type 0
OpeningIsCalm = (g : Geometry) → IsCalm (opening g)

-- the bound of a spot is at most that of a whole cycle
abbrev pub BoundIsCycle : Type 0
BoundIsCycle = (c : State) (history : History) → Lawful c history → most_useful c.geometry c.spot ≤ cycle_bound c.geometry

-- THE LAWS OF ATTEMPTS

-- where no attempt is open nothing is touched
abbrev pub UntouchedOutside : Type 0
UntouchedOutside = (c : State) → in_attempt c.spot.line ≡ false → IsUntouched c

-- an event of the collector leaves the word of an open attempt untouched, also the event that opens the attempt
abbrev pub EventKeepsUntouched : Type 0
EventKeepsUntouched = (c : State) (history : History) → Lawful c history → IsUntouched c → IsUntouched (next_collected c)

-- an attempt whose word nobody touched isn't lost
abbrev pub AttemptSucceeds : Type 0
AttemptSucceeds = (c : State) (lost : ℕ) → IsUntouched c → work_by_collector c ≢ Lost lost

-- an attempt is lost while it is open, and isn't open afterwards
pub record ClosesAttempt (c : State) : Type 0 where
  pub was_open : in_attempt c.spot.line ≡ true
  pub is_closed : in_attempt (next_collected c).spot.line ≡ false

abbrev pub LostClosesAttempt : Type 0
LostClosesAttempt = (c : State) (lost : ℕ) → work_by_collector c ≡ Lost lost → ClosesAttempt c

-- the events of an open attempt are among the useful ones of the cycle, and are taken away from them where it is lost
abbrev pub least_useful : Spot → ℕ
least_useful t = if in_attempt t.line then t.spent else 0

pub record CountsAttempt (c : State) (useful : ℕ) : Type 0 where
  pub least : least_useful (next_collected c).spot ≤ useful_after (work_by_collector c) useful
  pub taken_away : (lost : ℕ) → work_by_collector c ≡ Lost lost → useful_after (work_by_collector c) useful + lost ≡ useful + 1

abbrev pub AttemptsAreCounted : Type 0
AttemptsAreCounted = (c : State) (useful : ℕ) → least_useful c.spot ≤ useful → CountsAttempt c useful

-- the events of a lost attempt are at most those of an attempt on a frame, or on the object that is moved
abbrev pub LostIsBounded : Type 0
LostIsBounded = (c : State) (history : History) (lost : ℕ) → Lawful c history → work_by_collector c ≡ Lost lost
    → lost ≤ max (frame_events c.geometry.registers) (object_events (reference_size c.spot.item))

-- and that object is one of the plain heap: a birth bears its number, and has its words
pub record MovesBirth (c : State) (history : History) (birth : ℕ) : Type 0 where
  pub bears : (names_of c.geometry history).bearer (moved_number c.spot) ≡ Some birth
  pub words : reference_size c.spot.item ≡ 1 + (names_of c.geometry history).refs birth + (names_of c.geometry history).nums birth

abbrev pub ObjectsAreBirths : Type 0
ObjectsAreBirths = (c : State) (history : History) → Lawful c history → has_item c.spot.line ≡ true → (birth : ℕ) × MovesBirth c history birth
