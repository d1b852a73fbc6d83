-- The high jobs of a session's run, and what it means that the run keeps to a schedule of them alone.
use Rattle.std.specs.Prelude.{ℕ, zero, suc, ◌+◌, ◌-◌, Bool, false, ◌&&◌, nat_lt, nat_eq, is_none, List, filter, length, sum_by, if◌then◌else◌}
use Rattle.hk_words.specs.declared.geometry.Geometry.{Geometry}
use Rattle.hk_rta.specs.Demand.{starts_in}
use Rattle.hk_plan.specs.declared.Ready.{Ready}
use Rattle.hk_plan.specs.AloneBy.{Jobs}
use Rattle.hk_sheet.specs.declared.arrivals.Arrivals.{Arrivals}
use Rattle.hk_sheet.specs.declared.arrivals.Arrivals.TheVariants.{Every}
use Rattle.hk_sheet.specs.declared.arrivals.Arrivals.TheVariants as arrivals
use Rattle.hk_sheet.specs.declared.sheet.High.{High}
use Rattle.hk_sheet.specs.declared.sheet.Sheet.{Sheet}
use Rattle.hk_sheet.specs.Arrivals.{arrival_of, ready_of}
use Rattle.hk_dispatch.specs.Tasks.{high_at}
use Rattle.hk_dispatch.specs.Moment.{Moment, course_at}
use Rattle.hk_dispatch.specs.Turns.{Turn, to_task, to_collector, to_nobody, arrived, turn}
use Rattle.hk_dispatch.specs.Session.{state}

-- how many jobs arrive before a moment
abbrev pub arrivals_before : (moment : ℕ) → Arrivals → ℕ
arrivals_before moment (Every first step) = starts_in (moment - first) step
arrivals_before moment (arrivals.List ticks) = length (filter (λ tick. nat_lt tick moment) ticks)

-- and of all high tasks
abbrev pub high_arrivals_before : Sheet → (moment : ℕ) → ℕ
high_arrivals_before sheet moment = sum_by (λ (task : High). arrivals_before moment task.arrivals) sheet.high

-- a tick goes to a job of the task of a seat
abbrev pub is_to : Turn → (seat : ℕ) → Bool
is_to (to_task s) seat = nat_eq s seat
is_to to_collector seat = false
is_to to_nobody seat = false

abbrev pub goes_to : (List Ready → ℕ) → Sheet → Moment → (tick seat job : ℕ) → Bool
goes_to choice sheet m tick seat job = is_none m.over && is_to (turn choice sheet m tick) seat && nat_eq (course_at m seat).job job

-- how many of the first ticks a job was given
unfoldable pub given : Geometry → (List Ready → ℕ) → Sheet → (ticks seat job : ℕ) → ℕ
given g choice sheet zero seat job = 0
given g choice sheet (suc tick) seat job =
    given g choice sheet tick seat job + (if goes_to choice sheet (state g choice sheet tick) tick seat job then 1 else 0)

-- The length of a high job, as a run up to a moment shows it: of an ended job the ticks that it was given, of another those
-- that its task declares.
abbrev pub length_by : Geometry → (List Ready → ℕ) → Sheet → (moment seat job : ℕ) → ℕ
length_by g choice sheet moment seat job = if nat_lt job (course_at (state g choice sheet moment) seat).job
    then given g choice sheet moment seat job else (high_at sheet seat).timing.cost

-- the high jobs of the run up to a moment: those that arrive before the horizon
abbrev pub jobs_by : Geometry → (List Ready → ℕ) → Sheet → (moment : ℕ) → Jobs
jobs_by g choice sheet moment = record {
  tasks = length sheet.high;
  count = λ seat. arrivals_before sheet.ticks (high_at sheet seat).arrivals;
  deadline = λ seat. (high_at sheet seat).timing.deadline;
  arrival = λ seat job. arrived (arrival_of (high_at sheet seat).arrivals job);
  ready = λ seat job. arrived (ready_of (high_at sheet seat) job);
  ticks = λ seat job. length_by g choice sheet moment seat job;
}
