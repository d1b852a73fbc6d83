-- What goes into the threads, and what comes back.
use Rattle.std.specs.Prelude.{◌≡◌, ◌⊎◌, ℕ, ◌<◌, true, List, [], length, slice_index_or, IfSome, Some, is_some}
use Rattle.hk_words.specs.declared.geometry.Geometry.{Geometry}
use Rattle.hk_model.specs.Heap.{Heap, opening_of}
use Rattle.hk_model.specs.History.{History}
use Rattle.hk_sheet.specs.declared.sheet.Sheet.{Sheet}
use Rattle.hk_table.specs.declared.heap.Heap.{Heap as Table}
use Rattle.hk_table.specs.declared.pass.Pass.{Pass}
use Rattle.hk_table.specs.Passes.{IsPassOf, known}
use Rattle.hk_race.specs.declared.competing.Job.{Job}
use Rattle.hk_race.specs.declared.competing.Ended.{Ended}
use Rattle.hk_race.specs.declared.progress.Progress.{Progress}
use Rattle.hk_race.specs.Course.{course}
use Rattle.hk_race.specs.Goes.{course_of, TellsCourse}
use Rattle.hk_race.specs.Shown.{shown, IsHeld}
use Rattle.hk_race.specs.Tasks.{Task, task_at}

-- the pass has done and seen nothing, and the task's jobs don't use it up
pub record MayWork (h : Table) (job : Job) : Type 0 where
  pub pass : IsPassOf h job.pass
  pub fresh : (known job.pass).seen ≡ []
  pub unused : (known job.pass).begun ≡ 0
  pub held : IsHeld h.geometry.registers job.task

-- the job is that of a seat
pub record IsJobOf (h : Table) (sheet : Sheet) (seat : ℕ) (job : Job) : Type 0 where
  pub may : MayWork h job
  pub seat_is : (known job.pass).seat ≡ seat
  pub task : shown job.task ≡ task_at sheet seat

-- what is told is the course of the task of a seat over whatever its pass has seen and sees later
abbrev pub TellsTask : Geometry → Task → (seat : ℕ) → (seen : History) → Progress → Type 0
TellsTask g task seat seen own = TellsCourse g seat task.jobs task.script seen own

-- each of so many jobs has ended, unless the task has stopped at a New without room
abbrev pub DidAll : (jobs : ℕ) → Progress → Type 0
DidAll jobs own = (own.jobs ≡ jobs) ⊎ (is_some own.full ≡ true)

-- the pass of a job comes back, and what its worker tells, where it found memory
pub record ComesBack (h : Table) (job : Job) (ended : Ended) : Type 0 where
  pub pass : IsPassOf h ended.pass
  pub seat : (known ended.pass).seat ≡ (known job.pass).seat
  pub told : IfSome ended.told (TellsTask h.geometry (shown job.task) (known job.pass).seat (known ended.pass).seen)
  pub all : IfSome ended.told (DidAll job.task.jobs)

-- the pass of a seat, and what its worker tells
pub record IsBack (h : Table) (sheet : Sheet) (seat : ℕ) (pass : Pass) (own : Progress) : Type 0 where
  pub is : IsPassOf h pass
  pub seat_is : (known pass).seat ≡ seat
  pub told : TellsTask h.geometry (task_at sheet seat) seat (known pass).seen own
  pub all : DidAll (task_at sheet seat).jobs own

-- what came back, by seats: the passes, and what was told of their tasks
pub record Parts (ended : List Ended) (passes : List Pass) (told : List Progress) : Type 0 where
  pub passes_are : length passes ≡ length ended
  pub told_are : length told ≡ length ended
  pub each : (seat : ℕ) (d : Ended) (p : Pass) (own : Progress) → seat < length ended
      → ((slice_index_or ended seat d).pass ≡ slice_index_or passes seat p) × ((slice_index_or ended seat d).told ≡ Some (slice_index_or told seat own))

-- what is told of each task is its course over the history
abbrev pub Agree : Sheet → Geometry → History → List Progress → Type 0
Agree sheet g history told = (seat : ℕ) (d : Progress) → seat < length told
    → (heap : Heap) × (course (task_at sheet seat).script (task_at sheet seat).jobs (opening_of g) seat history ≡ course_of (slice_index_or told seat d) heap [])
