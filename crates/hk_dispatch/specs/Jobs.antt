-- What holds of all jobs between two ticks.
use Rattle.std.specs.Prelude.{◌≡◌, ℕ, ◌<◌, length}
use Rattle.hk_core.specs.State.{flight_of}
use Rattle.hk_sheet.specs.declared.sheet.Sheet.{Sheet}
use Rattle.hk_dispatch.specs.Tasks.{tasks_of, task_at, high_at}
use Rattle.hk_dispatch.specs.Moment.{Moment, core_of, course_at, need_at}
use Rattle.hk_dispatch.specs.InStep.{SeatInStep}
use Rattle.hk_dispatch.specs.Kept.{CourseKept, KeepsDeclared}

-- the seats of a moment are in step
abbrev pub AreInStep : Sheet → Moment → Type 0
AreInStep sheet m = (seat : ℕ) → seat < length (tasks_of sheet) → SeatInStep (flight_of (core_of m).flights seat) (need_at sheet m seat) (course_at m seat).spent

-- each task's job is in its script, and has had no more ticks and words than are left beside those that it may still take; and
-- the calls in flight are in step with the jobs
pub record JobsKept (sheet : Sheet) (m : Moment) (t : ℕ) : Type 0 where
  pub courses : length m.courses ≡ length (tasks_of sheet)
  pub course : (seat : ℕ) → seat < length (tasks_of sheet) → CourseKept (task_at sheet seat) (course_at m seat) t
  pub declared : (seat : ℕ) → seat < length sheet.high
      → KeepsDeclared (high_at sheet seat).script (course_at m seat) (high_at sheet seat).timing.cost (high_at sheet seat).words
  pub in_step : AreInStep sheet m
