-- The session of a sheet: where it stands after so many ticks, as a function of the sheet and of the choice among the ready
-- high jobs.
use Rattle.std.specs.Prelude.{◌≡◌, ℕ, zero, suc, ◌<◌, ◌≤◌, List, Option, Some, None}
use Rattle.hk_words.specs.declared.geometry.Geometry.{Geometry}
use Rattle.hk_words.specs.Geometry.{HasSizes}
use Rattle.hk_sheet.specs.declared.sheet.Sheet.{Sheet}
use Rattle.hk_sheet.specs.Faults.{sizes_of}
use Rattle.hk_admit.specs.Facts.{IsChecked}
use Rattle.hk_plan.specs.declared.Ready.{Ready}
use Rattle.hk_dispatch.specs.Moment.{Moment, opening, course_at}
use Rattle.hk_dispatch.specs.Rows.{IsChoice}
use Rattle.hk_dispatch.specs.Turns.{Turn, turn}
use Rattle.hk_dispatch.specs.Ticks.{after_turn}

-- a tick of a session; it stands still once the collector found more words reserved than the space has for evacuation
abbrev pub after_tick : (List Ready → ℕ) → Sheet → Moment → (tick : ℕ) → Option ℕ → Moment
after_tick choice sheet m tick None = after_turn sheet m tick (turn choice sheet m tick)
after_tick choice sheet m tick (Some words) = m

-- where a session stands after so many ticks
unfoldable pub state : Geometry → (List Ready → ℕ) → Sheet → (ticks : ℕ) → Moment
state g choice sheet zero = opening g sheet
state g choice sheet (suc tick) = let m = state g choice sheet tick in after_tick choice sheet m tick m.over

-- who gets a tick
unfoldable pub who_gets : Geometry → (List Ready → ℕ) → Sheet → (tick : ℕ) → Turn
who_gets g choice sheet tick = turn choice sheet (state g choice sheet tick) tick

-- a moment of the run: up to the horizon, and before the collector found too many words reserved
pub record IsMoment (g : Geometry) (choice : List Ready → ℕ) (sheet : Sheet) (moment : ℕ) : Type 0 where
  pub within : moment ≤ sheet.ticks
  pub before_over : (state g choice sheet moment).over ≡ None

-- a tick of the run
pub record IsTick (g : Geometry) (choice : List Ready → ℕ) (sheet : Sheet) (tick : ℕ) : Type 0 where
  pub within : tick < sheet.ticks
  pub before_over : (state g choice sheet tick).over ≡ None

-- a sheet whose heap was checked, with its numbers and its geometry, and a choice among the ready high jobs
pub record IsSession (g : Geometry) (choice : List Ready → ℕ) (sheet : Sheet) (work attempt busy debt : ℕ) : Type 0 where
  pub sizes : HasSizes g (sizes_of sheet)
  pub checked : IsChecked sheet work attempt busy debt
  pub choice_is : IsChoice choice

-- a job of the task at a seat ends at a moment: the tick before it is the job's last
pub record JobEndsAt (g : Geometry) (choice : List Ready → ℕ) (sheet : Sheet) (seat job moment : ℕ) : Type 0 where
  pub tick : ℕ
  pub before : moment ≡ suc tick
  pub under_way : (course_at (state g choice sheet tick) seat).job ≡ job
  pub ended : (course_at (state g choice sheet moment) seat).job ≡ suc job
