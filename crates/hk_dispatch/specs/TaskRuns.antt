-- The run of one task, as the code keeps it: what its tick needs, and how it shows the task's course.
use Rattle.std.specs.Prelude.{◌≡◌, ℕ, ◌⊎◌, Bool, true, false, Option, Some, None}
use Rattle.hk_words.specs.declared.geometry.Geometry.{Geometry}
use Rattle.hk_words.specs.Calls.{RegistersFit}
use Rattle.hk_words.specs.declared.call.Call.{Call}
use Rattle.hk_words.specs.declared.call.Call.TheVariants as call
use Rattle.hk_words.specs.declared.call.Reply.{Reply}
use Rattle.hk_words.specs.declared.call.Reply.TheVariants as reply
use Rattle.hk_model.specs.History.{is_question}
use Rattle.hk_core.specs.State.{State}
use Rattle.hk_script.specs.declared.walk.Need.{Need}
use Rattle.hk_script.specs.declared.walk.Need.TheVariants as need
use Rattle.hk_script.specs.Walks.{need_of, IsAnswer}
use Rattle.hk_dispatch.specs.declared.operation.Left.{Left}
use Rattle.hk_dispatch.specs.declared.operation.Left.TheVariants as left
use Rattle.hk_dispatch.specs.declared.run.Task as run
use Rattle.hk_dispatch.specs.declared.run.Task.TheVariants as named
use Rattle.hk_dispatch.specs.declared.run.TaskRun.{TaskRun}
use Rattle.hk_dispatch.specs.Tasks.{Task, high_task, low_task}
use Rattle.hk_dispatch.specs.Moment.{Course}
use Rattle.hk_dispatch.specs.InStep.{MayBegin}
use Rattle.hk_dispatch.specs.Ticks.{core_on}

-- the task of a sheet, high or low, as the dispatcher sees it
abbrev pub task_of : run.Task → Task
task_of (named.High task) = high_task task.now
task_of (named.Low task) = low_task task.now

-- THE COURSE. The run of a task shows its course, with the moments of the job that is under way or comes next
pub record ShowsCourse (task : Task) (course : Course) (run : TaskRun) : Type 0 where
  pub job : run.job ≡ course.job
  pub arrival : run.arrival ≡ task.arrival course.job
  pub ready : run.ready ≡ task.ready course.job
  pub walk : run.walk ≡ course.walk
  pub spent : run.spent ≡ course.spent
  pub had : run.had ≡ course.had
  pub latest : run.latest ≡ course.latest

-- the course that a run shows, which has taken so many words
abbrev pub shown : TaskRun → (took : ℕ) → Course
shown run took = record { job = run.job; walk = run.walk; spent = run.spent; had = run.had; took = took; latest = run.latest }

-- what the statement at which a run is wants
abbrev pub wanted : Task → TaskRun → Option Need
wanted task run = need_of task.script run.walk

-- THE TICK. What a job wants may be done by a seat of a heap: an operation may be begun, and a question names registers
abbrev pub MayWant : Geometry → Need → Type 0
MayWant g (need.Heap c) = MayBegin g c
MayWant g (need.Ask c) = (is_question c ≡ true) × RegistersFit g.registers c
MayWant g (need.Work n) = Unit {0}
MayWant g need.Local = Unit {0}
MayWant g (need.Out value) = Unit {0}

-- the machine after a tick of a job that wants something, of which it has had so many
abbrev pub core_by : State → (seat spent : ℕ) → Option Need → State
core_by core seat spent (Some (need.Heap c)) = core_on core seat c spent
core_by core seat spent (Some (need.Work n)) = core
core_by core seat spent (Some need.Local) = core
core_by core seat spent (Some (need.Out value)) = core
core_by core seat spent (Some (need.Ask c)) = core
core_by core seat spent None = core

-- the replies to a call: a number to a get, that there was no room to a new, and else no value
abbrev pub RepliesCall : Call → Reply → Type 0
RepliesCall (call.Get reg field) r = (n : ℕ) × (r ≡ reply.Num n)
RepliesCall (call.New dest shape) r = (r ≡ reply.Unit) ⊎ (r ≡ reply.Full)
RepliesCall c r = r ≡ reply.Unit

abbrev pub Replies : Need → Reply → Type 0
Replies (need.Heap c) r = RepliesCall c r
Replies (need.Ask c) r = IsAnswer r
Replies (need.Work n) r = r ≡ reply.Unit
Replies need.Local r = r ≡ reply.Unit
Replies (need.Out value) r = r ≡ reply.Unit

-- a tick leaves a job in one of these ways
abbrev pub LeavesBy : Need → Left → Type 0
LeavesBy n left.Stays = Unit {0}
LeavesBy n (left.Passes r) = Replies n r
LeavesBy n (left.Faults fault) = Unit {0}

-- what a walk is told of a reply: that there was no room it takes for no value
abbrev pub heard_of : Reply → Reply
heard_of reply.Full = reply.Unit
heard_of r = r

-- a tick left the job at the same statement
abbrev pub stays : Left → Bool
stays left.Stays = true
stays (left.Passes r) = false
stays (left.Faults fault) = false
