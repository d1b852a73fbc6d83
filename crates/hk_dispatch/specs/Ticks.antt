-- What a tick does: that of a task, of the collector, and of nobody.
use Rattle.std.specs.Prelude.{ℕ, zero, suc, ◌+◌, ◌-◌, ◌*◌, max, Bool, false, not, ◌&&◌, nat_lt, nat_eq, ◌==◌, length, slice_set, Option, Some, None, if◌then◌else◌}
use Rattle.hk_words.specs.declared.call.Call.{Call}
use Rattle.hk_words.specs.declared.call.Call.TheVariants as call
use Rattle.hk_words.specs.declared.call.Reply.{Reply}
use Rattle.hk_words.specs.declared.call.Reply.TheVariants as reply
use Rattle.hk_words.specs.Shape.{size}
use Rattle.hk_model.specs.Replies.{said}
use Rattle.hk_core.specs.declared.outcome.Fault.{Fault}
use Rattle.hk_core.specs.declared.outcome.Outcome.{Outcome}
use Rattle.hk_core.specs.declared.outcome.Outcome.TheVariants as outcome
use Rattle.hk_core.specs.declared.outcome.Step.{Step}
use Rattle.hk_core.specs.declared.outcome.Step.TheVariants.{Going, Ended}
use Rattle.hk_core.specs.declared.spot.Work.{Work}
use Rattle.hk_core.specs.declared.spot.Work.TheVariants.{Useful, Flipped, Lost, BusyFrame, BusyObject, Unlinked, Grey, LiveOver, Worn}
use Rattle.hk_core.specs.State.{State, flight_of}
use Rattle.hk_core.specs.Step.{next, answer_by}
use Rattle.hk_core.specs.Begin.{refusal, register_word, after_begin}
use Rattle.hk_core.specs.Collect.{work_by_collector}
use Rattle.hk_core.specs.Run.{begin, step, collect}
use Rattle.hk_collect.specs.Measure.{useful_after}
use Rattle.hk_collect.specs.Pays.{lost_in, debt_after}
use Rattle.hk_collect.specs.Used.{Trace, trace_act, is_flip}
use Rattle.hk_script.specs.declared.walk.Need.{Need}
use Rattle.hk_script.specs.declared.walk.Need.TheVariants as need
use Rattle.hk_script.specs.declared.walk.Walk.{Walk}
use Rattle.hk_script.specs.Walks.{started, walk_after}
use Rattle.hk_sheet.specs.declared.sheet.Sheet.{Sheet}
use Rattle.hk_dispatch.specs.declared.operation.Left.{Left}
use Rattle.hk_dispatch.specs.declared.operation.Left.TheVariants as left
use Rattle.hk_dispatch.specs.Tasks.{Task, task_at, is_high}
use Rattle.hk_dispatch.specs.Moment.{Course, Moment, core_of, course_at, need_at}
use Rattle.hk_dispatch.specs.Turns.{Turn, to_task, to_collector, to_nobody}

-- THE TICK OF A TASK: its job goes on by one tick of the statement at which its walk is. It stays there, or passes it with
-- a reply, or ends with a fault, which is what `Left` says.

-- An operation on the heap, of which the job has had so many ticks. Its first tick is its begin and its first place; each
-- later one is the next place. A begin that is refused takes the tick all the same, and does nothing.
abbrev pub run_first : Trace → (seat : ℕ) → Call → Option Fault → Trace
run_first r seat c (Some fault) = r
run_first r seat c None = trace_act (trace_act r (begin seat c)) (step seat)

abbrev pub run_on : Trace → (seat : ℕ) → Call → (spent : ℕ) → Trace
run_on r seat c zero = run_first r seat c (refusal r.running.core seat c)
run_on r seat c (suc spent) = trace_act r (step seat)

-- the machine after that tick
abbrev pub core_first : State → (seat : ℕ) → Call → Option Fault → State
core_first core seat c (Some fault) = core
core_first core seat c None = next (after_begin core seat c) seat

abbrev pub core_on : State → (seat : ℕ) → Call → (spent : ℕ) → State
core_on core seat c zero = core_first core seat c (refusal core seat c)
core_on core seat c (suc spent) = next core seat

-- what a step of the operation says of the job: it stays while the operation goes on, and passes with its reply
abbrev pub reply_in : Outcome → Reply
reply_in (outcome.Done r) = r
reply_in (outcome.Full words) = reply.Full

abbrev pub left_in : Step → Left
left_in Going = left.Stays
left_in (Ended o) = left.Passes (reply_in o)

abbrev pub leaves_first : State → (seat : ℕ) → Call → Option Fault → Left
leaves_first core seat c (Some fault) = left.Faults fault
leaves_first core seat c None = left_in (answer_by (after_begin core seat c) seat)

abbrev pub leaves_on : State → (seat : ℕ) → Call → (spent : ℕ) → Left
leaves_on core seat c zero = leaves_first core seat c (refusal core seat c)
leaves_on core seat c (suc spent) = left_in (answer_by core seat)

-- the words that the operation takes in that tick: those of a New at its third place, but where its first place found too few
abbrev pub takes_on : State → (seat : ℕ) → Call → (spent : ℕ) → ℕ
takes_on core seat (call.New dest shape) spent = if spent == 2 && not (flight_of core.flights seat).full then size shape else 0
takes_on core seat (call.Get reg field) spent = 0
takes_on core seat (call.Put reg field value) spent = 0
takes_on core seat (call.Load dest reg field) spent = 0
takes_on core seat (call.Store reg field from) spent = 0
takes_on core seat (call.Move dest from) spent = 0
takes_on core seat (call.Clear dest) spent = 0
takes_on core seat (call.Same a b) spent = 0
takes_on core seat (call.IsNull reg) spent = 0

-- what a question answers, by the registers of the seat
abbrev pub asked : State → (seat : ℕ) → Call → Bool
asked core seat (call.Same a b) = register_word core seat a == register_word core seat b
asked core seat (call.IsNull reg) = register_word core seat reg == 0
asked core seat (call.Get reg field) = false
asked core seat (call.Put reg field value) = false
asked core seat (call.Load dest reg field) = false
asked core seat (call.Store reg field from) = false
asked core seat (call.Move dest from) = false
asked core seat (call.Clear dest) = false
asked core seat (call.New dest shape) = false

-- the run of the heap after a tick of a job that wants something, of which it has had so many ticks; how the tick leaves the
-- job; and the words that it takes
abbrev pub run_by : Trace → (seat spent : ℕ) → Option Need → Trace
run_by r seat spent (Some (need.Heap c)) = run_on r seat c spent
run_by r seat spent (Some (need.Work n)) = r
run_by r seat spent (Some need.Local) = r
run_by r seat spent (Some (need.Out value)) = r
run_by r seat spent (Some (need.Ask c)) = r
run_by r seat spent None = r

abbrev pub left_by : State → (seat spent : ℕ) → Option Need → Left
left_by core seat spent (Some (need.Work n)) = if nat_lt (spent + 1) n then left.Stays else left.Passes reply.Unit
left_by core seat spent (Some need.Local) = left.Passes reply.Unit
left_by core seat spent (Some (need.Out value)) = left.Passes reply.Unit
left_by core seat spent (Some (need.Heap c)) = leaves_on core seat c spent
left_by core seat spent (Some (need.Ask c)) = left.Passes (said (asked core seat c))
left_by core seat spent None = left.Stays

abbrev pub words_by : State → (seat spent : ℕ) → Option Need → ℕ
words_by core seat spent (Some (need.Heap c)) = takes_on core seat c spent
words_by core seat spent (Some (need.Work n)) = 0
words_by core seat spent (Some need.Local) = 0
words_by core seat spent (Some (need.Out value)) = 0
words_by core seat spent (Some (need.Ask c)) = 0
words_by core seat spent None = 0

-- the ticks from an arrival to the end of a tick
abbrev pub stay : (arrival : Option ℕ) → (tick : ℕ) → ℕ
stay None tick = 0
stay (Some arrival) tick = tick + 1 - arrival

-- the task goes on to its next job
abbrev pub next_job : Task → Course → (tick : ℕ) → Course
next_job task course tick = record {
  job = course.job + 1;
  walk = started (course.job + 1);
  spent = 0;
  had = 0;
  took = 0;
  latest = max course.latest (stay (task.arrival course.job) tick);
}

-- past a statement: the job is over at the end of its script, or goes on at the next one
abbrev pub is_over : Task → Walk → Bool
is_over task walk = nat_eq walk.place (length task.script)

abbrev pub passed : Task → Course → (tick words : ℕ) → Walk → Course
passed task course tick words walk = if is_over task walk then next_job task course tick
    else record course { walk = walk; spent = 0; had = course.had + 1; took = course.took + words }

abbrev pub course_after : Task → Course → (tick words : ℕ) → Left → Course
course_after task course tick words left.Stays = record course { spent = course.spent + 1; had = course.had + 1; took = course.took + words }
course_after task course tick words (left.Passes r) = passed task course tick words (walk_after task.script course.walk r)
course_after task course tick words (left.Faults fault) = next_job task course tick

-- the words that are taken are owed for, at the sheet's rate
unfoldable pub after_task : Sheet → Moment → (tick seat : ℕ) → Moment
after_task sheet m tick seat =
    let course = course_at m seat in
    let wants = need_at sheet m seat in
    let words = words_by (core_of m) seat course.spent wants in
    record m {
      trace = run_by m.trace seat course.spent wants;
      courses = slice_set m.courses seat (course_after (task_at sheet seat) course tick words (left_by (core_of m) seat course.spent wants));
      debt = m.debt + sheet.heap.rate * words;
      taken = m.taken + words;
      low_objects = m.low_objects + (if nat_lt 0 words && not (is_high sheet seat) then 1 else 0);
    }

-- THE TICK OF THE COLLECTOR: one event. It pays for one that is owed; the events of an attempt that it loses are owed again.

abbrev pub over_in : Work → Option ℕ
over_in (LiveOver words) = Some words
over_in (Lost events) = None
over_in Useful = None
over_in Flipped = None
over_in (BusyFrame seat) = None
over_in (BusyObject number) = None
over_in (Unlinked place) = None
over_in (Grey number) = None
over_in Worn = None

unfoldable pub after_event : Moment → Moment
after_event m =
    let work = work_by_collector (core_of m) in
    record m {
      trace = trace_act m.trace collect;
      debt = debt_after work m.debt;
      useful = useful_after work m.useful;
      flips = if is_flip work then m.flips + 1 else m.flips;
      events = m.events + 1;
      lost = m.lost + lost_in work;
      over = over_in work;
    }

-- THE TICK, by who gets it

abbrev pub after_turn : Sheet → Moment → (tick : ℕ) → Turn → Moment
after_turn sheet m tick (to_task seat) = after_task sheet m tick seat
after_turn sheet m tick to_collector = after_event m
after_turn sheet m tick to_nobody = record m { idle = m.idle + 1 }
