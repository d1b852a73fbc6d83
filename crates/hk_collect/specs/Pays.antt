-- What a machine keeps whose collector owes so many events: for each word taken a fixed number of events is owed, each event of
-- the collector pays for one, and the events of an attempt that it loses are owed again. The collector has its events only
-- while it owes some, and while no call is in mid-course.
use Rattle.std.specs.Prelude.{◌≡◌, ◌≢◌, ℕ, ◌+◌, ◌-◌, ◌*◌, ◌<◌, ◌≤◌, Bool, true, false, ◌&&◌, [], if◌then◌else◌}
use Rattle.hk_words.specs.declared.geometry.Geometry.{Geometry}
use Rattle.hk_words.specs.declared.call.Call.{Call}
use Rattle.hk_words.specs.Bounds.{frame_events, object_events}
use Rattle.hk_words.specs.Geometry.{tasks}
use Rattle.hk_model.specs.History.{History}
use Rattle.hk_core.specs.declared.spot.Work.{Work}
use Rattle.hk_core.specs.declared.spot.Work.TheVariants.{Useful, Flipped, Lost, BusyFrame, BusyObject, Unlinked, Grey, LiveOver, Worn}
use Rattle.hk_core.specs.State.{State, flight_of, opening}
use Rattle.hk_core.specs.Step.{next, history_after}
use Rattle.hk_core.specs.Begin.{after_begin}
use Rattle.hk_core.specs.Run.{may_begin}
use Rattle.hk_core.specs.Collect.{next_collected, work_by_collector}
use Rattle.hk_core.specs.View.{names_of}
use Rattle.hk_core.specs.Lawful.{Lawful}
use Rattle.hk_collect.specs.Runs.{in_attempt}
use Rattle.hk_collect.specs.Measure.{IsUntouched, IsCalm, NoneInFlight, WaitsForNobody, most_useful, least_useful, useful_after}
use Rattle.hk_collect.specs.Taken.{used_in, taken_by}

-- WHAT IS KEPT

-- The machine is lawful for the history, and calm; the useful events of the cycle are at most those of the spot, and those of an
-- open attempt are among them; an attempt that no task has met, by a tick since it began, is untouched; and the words used are
-- paid for, at so many events for each, by the useful events and by those that are owed.
pub record HeapKept (rate : ℕ) (c : State) (history : History) (useful debt used : ℕ) (met_now : Bool) : Type 0 where
  pub lawful : Lawful c history
  pub calm : IsCalm c
  pub useful_few : useful ≤ most_useful c.geometry c.spot
  pub counted : least_useful c.spot ≤ useful
  pub untouched : met_now ≡ false → IsUntouched c
  pub balance : rate * used ≤ useful + debt

-- the events of the attempt that an event of the collector loses
abbrev pub lost_in : Work → ℕ
lost_in (Lost events) = events
lost_in Useful = 0
lost_in Flipped = 0
lost_in (BusyFrame seat) = 0
lost_in (BusyObject number) = 0
lost_in (Unlinked place) = 0
lost_in (Grey number) = 0
lost_in (LiveOver words) = 0
lost_in Worn = 0

-- what is owed after it: one less, and the lost ones again
abbrev pub debt_after : Work → (debt : ℕ) → ℕ
debt_after work debt = debt - 1 + lost_in work

-- an attempt that was met stays so while it is open
abbrev pub met_still : State → (met_now : Bool) → Bool
met_still c met_now = met_now && in_attempt (next_collected c).spot.line

-- the events that an attempt which was met may bring back
abbrev pub liable : (attempt : ℕ) → (met_now : Bool) → ℕ
liable attempt met_now = if met_now then attempt else 0

-- BOUNDS

-- no object is larger than so many words
abbrev pub ObjectsWithin : Geometry → History → (words : ℕ) → Type 0
ObjectsWithin g history words = (b : ℕ) → 1 + (names_of g history).refs b + (names_of g history).nums b ≤ words

-- an attempt on a frame, or on an object of at most so many words, has at most so many events
pub record IsAttemptBound (g : Geometry) (words attempt : ℕ) : Type 0 where
  pub frames : frame_events g.registers ≤ attempt
  pub objects : object_events words ≤ attempt

-- THE LAWS

-- a lost attempt has at most so many events
abbrev pub LostIsFew : Type 0
LostIsFew = (c : State) (history : History) (words attempt lost : ℕ) → Lawful c history → ObjectsWithin c.geometry history words
    → IsAttemptBound c.geometry words attempt → work_by_collector c ≡ Lost lost → lost ≤ attempt

-- An event of the collector keeps all that is kept, and waits for nobody. It pays: what is owed, together with what an attempt
-- that was met may bring back, falls by one at least. And only an attempt that was met is lost.
pub record Pays (rate attempt : ℕ) (c : State) (history : History) (useful debt : ℕ) (met_now : Bool) : Type 0 where
  pub kept : HeapKept rate (next_collected c) history (useful_after (work_by_collector c) useful) (debt_after (work_by_collector c) debt)
      (used_in (next_collected c)) (met_still c met_now)
  pub waits_for_nobody : WaitsForNobody (work_by_collector c)
  pub falls : debt_after (work_by_collector c) debt + liable attempt (met_still c met_now) + 1 ≤ debt + liable attempt met_now
  pub lost_few : (lost : ℕ) → work_by_collector c ≡ Lost lost → lost ≤ attempt
  pub lost_met : (lost : ℕ) → work_by_collector c ≡ Lost lost → met_now ≡ true

-- so each event does that is owed, while no call is in mid-course, but for one that finds too many words reserved or no further
-- cycle
abbrev pub CollectorPays : Type 0
CollectorPays = (rate words attempt : ℕ) (c : State) (history : History) (useful debt : ℕ) (met_now : Bool)
    → HeapKept rate c history useful debt (used_in c) met_now → IsAttemptBound c.geometry words attempt → ObjectsWithin c.geometry history words
    → NoneInFlight c → 1 ≤ debt → ((found : ℕ) → work_by_collector c ≢ LiveOver found) → work_by_collector c ≢ Worn
    → Pays rate attempt c history useful debt met_now

-- After a tick of a task an open attempt was met, whatever the tick did. A begin keeps all that is kept, and so does a step of a
-- call, where so many events more are owed for each word that it takes.
abbrev pub MetKeepsHeap : Type 0
MetKeepsHeap = (rate : ℕ) (c : State) (history : History) (useful debt used : ℕ) (met_now : Bool)
    → HeapKept rate c history useful debt used met_now → HeapKept rate c history useful debt used (in_attempt c.spot.line)

abbrev pub BeginsKeepHeap : Type 0
BeginsKeepHeap = (rate : ℕ) (c : State) (history : History) (useful debt : ℕ) (met_now : Bool) (seat : ℕ) (call : Call)
    → may_begin c seat call ≡ true → HeapKept rate c history useful debt (used_in c) met_now
    → HeapKept rate (after_begin c seat call) history useful debt (used_in (after_begin c seat call)) (in_attempt (after_begin c seat call).spot.line)

abbrev pub StepsKeepHeap : Type 0
StepsKeepHeap = (rate : ℕ) (c : State) (history : History) (useful debt : ℕ) (met_now : Bool) (seat : ℕ)
    → seat < tasks c.geometry → 1 ≤ (flight_of c.flights seat).place → HeapKept rate c history useful debt (used_in c) met_now
    → HeapKept rate (next c seat) (history_after c seat history) useful (debt + rate * taken_by c seat) (used_in (next c seat)) (in_attempt (next c seat).spot.line)

-- at the start all of it holds, with no events and nothing owed
abbrev pub OpeningKeepsHeap : Type 0
OpeningKeepsHeap = (rate : ℕ) (g : Geometry) → HeapKept rate (opening g) [] 0 0 (used_in (opening g)) false
