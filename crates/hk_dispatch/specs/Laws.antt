-- The promises of sessions. Each is said of every sheet whose heap was checked, of every choice among the ready high jobs, and
-- of every moment of the run: up to the horizon, and before the collector found too many words reserved.
use Rattle.std.specs.Prelude.{◌≡◌, ◌≢◌, ◌⊎◌, ℕ, suc, ◌+◌, ◌-◌, ◌*◌, ◌<◌, ◌≤◌, ◌↔◌, true, false, List, length, slice_index_or, Some}
use Rattle.hk_words.specs.declared.geometry.Geometry.{Geometry}
use Rattle.hk_words.specs.declared.call.Call.{Call}
use Rattle.hk_words.specs.declared.call.Call.TheVariants.{New}
use Rattle.hk_words.specs.declared.call.Reply.TheVariants.{Full}
use Rattle.hk_words.specs.declared.shape.Shape.{Shape}
use Rattle.hk_words.specs.Shape.{size}
use Rattle.hk_model.specs.Heap.{opening_of}
use Rattle.hk_model.specs.History.{Legal}
use Rattle.hk_model.specs.Replies.{reply_of, said}
use Rattle.hk_core.specs.declared.outcome.Fault.TheVariants.{Spent}
use Rattle.hk_core.specs.declared.spot.Work.TheVariants.{Flipped, Worn}
use Rattle.hk_core.specs.Begin.{refusal}
use Rattle.hk_core.specs.Collect.{work_by_collector}
use Rattle.hk_core.specs.Run.{Action}
use Rattle.hk_collect.specs.Measure.{WaitsForNobody}
use Rattle.hk_collect.specs.Used.{traced}
use Rattle.hk_plan.specs.declared.Ready.{Ready}
use Rattle.hk_plan.specs.AloneBy.{IsJob, AloneEnds, least_task}
use Rattle.hk_script.specs.declared.walk.Need.TheVariants.{Heap, Ask}
use Rattle.hk_sheet.specs.declared.sheet.Sheet.{Sheet}
use Rattle.hk_sheet.specs.Arrivals.{arrival_of}
use Rattle.hk_admit.specs.Analysis.{largest_low, timings_of}
use Rattle.hk_admit.specs.Conditions.{AreResponses}
use Rattle.hk_dispatch.specs.Tasks.{tasks_of, task_at, high_at, is_high}
use Rattle.hk_dispatch.specs.Moment.{Moment, core_of, history_of, used_at, plain_heap, flip_heap, course_at, need_at}
use Rattle.hk_dispatch.specs.Turns.{to_task, to_collector, to_nobody, is_ready, turn}
use Rattle.hk_dispatch.specs.declared.operation.Left.TheVariants.{Passes}
use Rattle.hk_dispatch.specs.Ticks.{asked, left_by}
use Rattle.hk_dispatch.specs.Session.{state, who_gets, IsMoment, IsTick, IsSession, JobEndsAt}
use Rattle.hk_dispatch.specs.Told.{told, out_in, end_in}
use Rattle.hk_dispatch.specs.Replay.{replayed_out, replayed_end}
use Rattle.hk_dispatch.specs.Quiet.{IsQuiet, QuietWithin}
use Rattle.hk_collect.specs.Live.{LiveExceeds}
use Rattle.hk_dispatch.specs.Kept.{OneLow}
use Rattle.hk_dispatch.specs.Jobs.{JobsKept}
use Rattle.hk_dispatch.specs.HighJobs.{high_arrivals_before, jobs_by}

-- A statement on the moments, or on the ticks, of each session. Its moment is the session's own at that time.
abbrev pub OfMoments : ((g : Geometry) (choice : List Ready → ℕ) (sheet : Sheet) (work attempt busy debt : ℕ) (t : ℕ) → Moment → Type 0) → Type 0
OfMoments P = (g : Geometry) (choice : List Ready → ℕ) (sheet : Sheet) (work attempt busy debt : ℕ)
    → IsSession g choice sheet work attempt busy debt → (t : ℕ) → IsMoment g choice sheet t
    → P g choice sheet work attempt busy debt t (state g choice sheet t)

abbrev pub OfTicks : ((g : Geometry) (choice : List Ready → ℕ) (sheet : Sheet) (work attempt busy debt : ℕ) (t : ℕ) → Moment → Type 0) → Type 0
OfTicks P = (g : Geometry) (choice : List Ready → ℕ) (sheet : Sheet) (work attempt busy debt : ℕ)
    → IsSession g choice sheet work attempt busy debt → (t : ℕ) → IsTick g choice sheet t
    → P g choice sheet work attempt busy debt t (state g choice sheet t)

-- THE JOBS

-- each job is in its script, and has had no more ticks and words than its script leaves it; the calls in flight are in step with
-- the jobs
abbrev pub JobsAreKept : Type 0
JobsAreKept = OfMoments (λ g choice sheet work attempt busy debt t m. JobsKept sheet m t)

-- one low operation at most is in mid-course
abbrev pub OneLowOperation : Type 0
OneLowOperation = OfMoments (λ g choice sheet work attempt busy debt t m. OneLow sheet m)

-- THE HEAP

-- the run of the heap is one of the interleavings of begins, steps of seats and events of the collector
abbrev pub RunIsInterleaving : Type 0
RunIsInterleaving = OfMoments (λ g choice sheet work attempt busy debt t m. (actions : List Action) × (m.trace ≡ traced g actions))

-- whatever their order, begins, steps of seats and events of the collector give a legal history
abbrev pub LegalInAnyOrder : Geometry → Type 0
LegalInAnyOrder g = (actions : List Action) → Legal (opening_of g) (traced g actions).running.history

-- the history of a session's heap is legal: every reply in it is that of the heap that never collects
abbrev pub HistoryIsLegal : Type 0
HistoryIsLegal = OfMoments (λ g choice sheet work attempt busy debt t m. Legal (opening_of g) (history_of m))

-- so is the answer to each question, at its tick
abbrev pub QuestionsAreAnswered : Type 0
QuestionsAreAnswered = OfTicks (λ g choice sheet work attempt busy debt t m.
    (seat : ℕ) (c : Call) → turn choice sheet m t ≡ to_task seat → need_at sheet m seat ≡ Some (Ask c)
    → said (asked (core_of m) seat c) ≡ reply_of (plain_heap g m) seat c)

-- the outputs, the faults and the ends of all jobs are those of the replay on the heap that never collects, by who got each
-- tick
abbrev pub SessionIsReplay : Type 0
SessionIsReplay = OfTicks (λ g choice sheet work attempt busy debt t m.
    (out_in (told g choice sheet t) ≡ replayed_out (opening_of g) sheet (who_gets g choice sheet) t)
    × (end_in (told g choice sheet t) ≡ replayed_end (opening_of g) sheet (who_gets g choice sheet) t))

-- WHO GETS A TICK

-- a tick goes to nobody exactly where no job is ready and the collector owes nothing
abbrev pub IdleExactly : Type 0
IdleExactly = OfTicks (λ g choice sheet work attempt busy debt t m.
    (turn choice sheet m t ≡ to_nobody)
    ↔ (((seat : ℕ) → seat < length (tasks_of sheet) → is_ready (task_at sheet seat) (course_at m seat) t ≡ false) × (m.debt ≡ 0)))

-- each high job ends exactly when the schedule of the high jobs alone ends it, by the same choice. That schedule knows of
-- each job when it arrives and becomes ready, and how long it is: an ended one as long as it was, another as long as its
-- task declares
abbrev pub EndsAreAlone : Type 0
EndsAreAlone = OfMoments (λ g choice sheet work attempt busy debt t m.
    (seat job e : ℕ) → IsJob (jobs_by g choice sheet t) seat job → e ≤ t
    → JobEndsAt g choice sheet seat job e ↔ AloneEnds choice (jobs_by g choice sheet t) seat job e)

-- THE DEBT

-- the events of the collector and those that it still owes are the rate for each word that was taken, and the events of the
-- attempts that it lost
abbrev pub DebtIsAccounted : Type 0
DebtIsAccounted = OfMoments (λ g choice sheet work attempt busy debt t m. m.events + m.debt ≡ sheet.heap.rate * m.taken + m.lost)

-- these are at most an attempt for each high job that has arrived and for each object for which a low task took words
abbrev pub LossesAreFew : Type 0
LossesAreFew = OfMoments (λ g choice sheet work attempt busy debt t m. m.lost ≤ attempt * (high_arrivals_before sheet t + m.low_objects))

-- the rate for each word used since the last flip is at most the useful events of the cycle and what is owed
abbrev pub UsedIsPaid : Type 0
UsedIsPaid = OfMoments (λ g choice sheet work attempt busy debt t m. sheet.heap.rate * used_at m ≤ m.useful + m.debt)

-- a cycle's useful events are counted from its flip on, which is the first of them
abbrev pub FlipIsUseful : Type 0
FlipIsUseful = OfTicks (λ g choice sheet work attempt busy debt t m.
    turn choice sheet m t ≡ to_collector → work_by_collector (core_of m) ≡ Flipped → (state g choice sheet (suc t)).useful ≡ 1)

-- the useful events of a cycle, and the debt, are at most the numbers of the analysis
abbrev pub UsefulWithin : Type 0
UsefulWithin = OfMoments (λ g choice sheet work attempt busy debt t m. m.useful ≤ work)

abbrev pub DebtWithin : Type 0
DebtWithin = OfMoments (λ g choice sheet work attempt busy debt t m. m.debt ≤ debt)

-- from each quiet moment another follows within a busy period, as far as the run goes
abbrev pub QuietAgain : Type 0
QuietAgain = OfMoments (λ g choice sheet work attempt busy debt t m.
    IsQuiet sheet m t → IsMoment g choice sheet (t + busy) → QuietWithin g choice sheet t busy)

-- ROOM

-- each collection cycle ends before the reserve is spent: the words used leave room for an object of any low task
abbrev pub UsedWithin : Type 0
UsedWithin = OfMoments (λ g choice sheet work attempt busy debt t m. used_at m ≤ sheet.heap.alloc - largest_low sheet)

-- a New that has had so many ticks gets this one
pub record NewAt (choice : List Ready → ℕ) (sheet : Sheet) (m : Moment) (t seat spent : ℕ) (shape : Shape) : Type 0 where
  pub gets : turn choice sheet m t ≡ to_task seat
  pub dest : ℕ
  pub wants : need_at sheet m seat ≡ Some (Heap (New dest shape))
  pub spent_is : (course_at m seat).spent ≡ spent

-- each high New finds room beside the words used, at its first place, which looks at them, and at its third, which takes its own
abbrev pub HighNewsFindRoom : Type 0
HighNewsFindRoom = OfTicks (λ g choice sheet work attempt busy debt t m.
    (seat spent : ℕ) (shape : Shape) → is_high sheet seat ≡ true → (spent ≡ 0) ⊎ (spent ≡ 2) → NewAt choice sheet m t seat spent shape
    → used_at m + size shape ≤ sheet.heap.alloc)

-- each low New begins with nothing owed and finds room beside the reserve, and at its third place beside the words used
abbrev pub LowNewsBeginQuiet : Type 0
LowNewsBeginQuiet = OfTicks (λ g choice sheet work attempt busy debt t m.
    (seat : ℕ) (shape : Shape) → is_high sheet seat ≡ false → NewAt choice sheet m t seat 0 shape
    → (m.debt ≡ 0) × (used_at m + size shape + sheet.heap.reserve ≤ sheet.heap.alloc))

abbrev pub LowNewsFindRoom : Type 0
LowNewsFindRoom = OfTicks (λ g choice sheet work attempt busy debt t m.
    (seat : ℕ) (shape : Shape) → is_high sheet seat ≡ false → NewAt choice sheet m t seat 2 shape
    → used_at m + size shape ≤ sheet.heap.alloc)

-- WHAT NEVER COMES

-- no New is refused: no operation passes with the reply that there was no room
abbrev pub NoNewIsRefused : Type 0
NoNewIsRefused = OfTicks (λ g choice sheet work attempt busy debt t m.
    (seat : ℕ) → turn choice sheet m t ≡ to_task seat
    → left_by (core_of m) seat (course_at m seat).spent (need_at sheet m seat) ≢ Passes Full)

-- no task has begun all the calls that it can
abbrev pub NoTaskIsSpent : Type 0
NoTaskIsSpent = OfTicks (λ g choice sheet work attempt busy debt t m.
    (seat : ℕ) (c : Call) → turn choice sheet m t ≡ to_task seat → refusal (core_of m) seat c ≢ Some Spent)

-- the collector waits for no call: it finds none inside a frame or an object, misses no link word, and finds no grey number in
-- the pass; and it has cycles enough
abbrev pub CollectorNeverWaits : Type 0
CollectorNeverWaits = OfTicks (λ g choice sheet work attempt busy debt t m.
    turn choice sheet m t ≡ to_collector → WaitsForNobody (work_by_collector (core_of m)) × (work_by_collector (core_of m) ≢ Worn))

-- LIVE MEMORY

-- the collector finds too many words reserved only where more words were live at the last flip than the sheet declares
abbrev pub LiveOverHasCause : Type 0
LiveOverHasCause = (g : Geometry) (choice : List Ready → ℕ) (sheet : Sheet) (work attempt busy debt : ℕ)
    → IsSession g choice sheet work attempt busy debt → (t words : ℕ) → t ≤ sheet.ticks → (state g choice sheet t).over ≡ Some words
    → (sheet.heap.live < words) × LiveExceeds g (flip_heap g (state g choice sheet t)) sheet.heap.live

-- THE RESPONSE TIMES, where the first row is chosen

-- each job of an admitted sheet whose arrival and response time lie within the run, and are reached before the collector finds too
-- many words reserved, ends within its response time, which is at most its deadline
pub record EndsInTime (g : Geometry) (sheet : Sheet) (seat job arrival response : ℕ) : Type 0 where
  pub moment : ℕ
  pub ends : JobEndsAt g least_task sheet seat job moment
  pub in_time : moment ≤ arrival + response
  pub by_deadline : response ≤ (high_at sheet seat).timing.deadline

abbrev pub JobsEndInTime : Type 0
JobsEndInTime = (g : Geometry) (sheet : Sheet) (work attempt busy debt : ℕ) (responses : List ℕ)
    → IsSession g least_task sheet work attempt busy debt → AreResponses (timings_of sheet.high) responses
    → (seat job arrival : ℕ) → seat < length sheet.high → arrival_of (high_at sheet seat).arrivals job ≡ Some arrival
    → IsMoment g least_task sheet (arrival + slice_index_or responses seat 0)
    → EndsInTime g sheet seat job arrival (slice_index_or responses seat 0)
