-- What holds of a session at every moment of its run, beside what it promises. Each fact takes the columns that it reads.
use Rattle.std.specs.Prelude.{◌≡◌, ℕ, zero, suc, ◌+◌, ◌*◌, ◌<◌, ◌≤◌, Bool, true, false, ◌&&◌, nat_lt, List, length, slice_index, Option, Some, None, if◌then◌else◌}
use Rattle.hk_words.specs.declared.geometry.Geometry.{Geometry}
use Rattle.hk_core.specs.State.{flight_of}
use Rattle.hk_core.specs.Run.{Action}
use Rattle.hk_collect.specs.Runs.{in_attempt}
use Rattle.hk_collect.specs.Pays.{HeapKept, ObjectsWithin}
use Rattle.hk_collect.specs.Cycles.{IsWorked}
use Rattle.hk_collect.specs.Used.{NoneLate, traced}
use Rattle.hk_plan.specs.declared.Ready.{Ready}
use Rattle.hk_script.specs.declared.statement.Statement.{Statement}
use Rattle.hk_script.specs.declared.walk.Need.{Need}
use Rattle.hk_script.specs.Walks.{need_of, Fits}
use Rattle.hk_script.specs.Runs.{need_ticks, need_words, taken_by}
use Rattle.hk_script.specs.Left.{ticks_left, words_left}
use Rattle.hk_sheet.specs.declared.sheet.Sheet.{Sheet}
use Rattle.hk_admit.specs.Analysis.{largest_object, some_makes}
use Rattle.hk_dispatch.specs.Tasks.{Task, IsLowSeat, tasks_of, task_at, high_at}
use Rattle.hk_dispatch.specs.Moment.{Course, Moment, core_of, history_of, used_at, course_at, need_at}
use Rattle.hk_dispatch.specs.Turns.{Turn, to_task, to_collector, to_nobody, in_mid_course, first_low, turn}
use Rattle.hk_dispatch.specs.Session.{state}
use Rattle.hk_dispatch.specs.Quiet.{NoHighWaits}
use Rattle.hk_dispatch.specs.InStep.{SeatInStep}

-- A task had a tick since the open attempt began. After a tick of a task that is so where an attempt is open; a tick of the
-- collector leaves it while the attempt goes on.
abbrev pub met_after : (before : Bool) → (attempt_open : Bool) → Turn → Bool
met_after before attempt_open (to_task seat) = attempt_open
met_after before attempt_open to_collector = before && attempt_open
met_after before attempt_open to_nobody = before

unfoldable pub met : Geometry → (List Ready → ℕ) → Sheet → (t : ℕ) → Bool
met g choice sheet zero = false
met g choice sheet (suc t) =
    met_after (met g choice sheet t) (in_attempt (core_of (state g choice sheet (suc t))).spot.line) (turn choice sheet (state g choice sheet t) t)

-- THE TASKS

-- The walk of a task's job fits the script and isn't at its end; the job has had fewer ticks of the present statement than that
-- takes; one that has had a tick has become ready; and fewer jobs ended than ticks were given.
pub record CourseKept (task : Task) (course : Course) (t : ℕ) : Type 0 where
  pub fits : Fits task.script course.walk
  pub within : course.walk.place < length task.script
  pub turns : length course.walk.turns ≡ 16
  pub spent_few : course.spent < taken_by need_ticks (need_of task.script course.walk)
  pub spent_had : course.spent ≤ course.had
  pub began : 0 < course.had → (ready : ℕ) × (task.ready course.job ≡ Some ready) × (ready < t)
  pub jobs_few : course.job + course.had ≤ t

-- The words of the present statement that were taken: those of a New after its third place.
abbrev pub taken_already : Option Need → (spent : ℕ) → ℕ
taken_already wants spent = if nat_lt 2 spent then taken_by need_words wants else 0

-- A high job takes at most so many ticks and words: those that it has had and those that its walk may still take, of which the
-- present statement's may have been had already. Without it nothing bounds a job.
pub record KeepsDeclared (script : List Statement) (course : Course) (ticks words : ℕ) : Type 0 where
  pub ticks_few : course.had + ticks_left script course.walk ≤ ticks + course.spent
  pub words_few : course.took + words_left script course.walk ≤ words + taken_already (need_of script course.walk) course.spent

-- At most one low operation is in mid-course. Without it two could wait in a busy interval.
abbrev pub OneLow : Sheet → Moment → Type 0
OneLow sheet m = (a b : ℕ) → IsLowSeat sheet a → IsLowSeat sheet b → in_mid_course sheet m a ≡ true → in_mid_course sheet m b ≡ true → a ≡ b

-- An open attempt that wasn't met began where no high job waited and no low operation was in mid-course, and it is so still.
-- Without it an attempt could be charged twice in a busy interval.
pub record AttemptFresh (sheet : Sheet) (m : Moment) (met_now : Bool) (t : ℕ) : Type 0 where
  pub high : in_attempt (core_of m).spot.line ≡ true → met_now ≡ false → NoHighWaits sheet m t
  pub low : in_attempt (core_of m).spot.line ≡ true → met_now ≡ false → first_low sheet (in_mid_course sheet m) ≡ None

-- THE WHOLE
