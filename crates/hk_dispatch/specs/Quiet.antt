-- Quiet moments: nothing is owed, no high job waits, and no low operation is in mid-course.
use Rattle.std.specs.Prelude.{◌≡◌, ℕ, ◌+◌, ◌<◌, ◌≤◌, List, length, Some, None}
use Rattle.hk_words.specs.declared.geometry.Geometry.{Geometry}
use Rattle.hk_plan.specs.declared.Ready.{Ready}
use Rattle.hk_sheet.specs.declared.sheet.Sheet.{Sheet}
use Rattle.hk_sheet.specs.Arrivals.{ready_of}
use Rattle.hk_dispatch.specs.Tasks.{high_at}
use Rattle.hk_dispatch.specs.Moment.{Moment, course_at}
use Rattle.hk_dispatch.specs.Turns.{first_low, in_mid_course}
use Rattle.hk_dispatch.specs.Session.{state}

-- each high job that became ready before a moment is ended
abbrev pub NoHighWaits : Sheet → Moment → (t : ℕ) → Type 0
NoHighWaits sheet m t = (seat job ready : ℕ) → seat < length sheet.high
    → ready_of (high_at sheet seat) job ≡ Some ready → ready < t → job < (course_at m seat).job

pub record IsQuiet (sheet : Sheet) (m : Moment) (t : ℕ) : Type 0 where
  pub nothing_owed : m.debt ≡ 0
  pub no_high_waits : NoHighWaits sheet m t
  pub no_low_in_mid_course : first_low sheet (in_mid_course sheet m) ≡ None

-- a moment is followed by a quiet one within so many ticks
pub record QuietWithin (g : Geometry) (choice : List Ready → ℕ) (sheet : Sheet) (t ticks : ℕ) : Type 0 where
  pub next : ℕ
  pub later : t < next
  pub soon : next ≤ t + ticks
  pub quiet : IsQuiet sheet (state g choice sheet next) next
