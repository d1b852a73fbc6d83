-- The sessions whose high jobs go by earliest deadlines.
use Rattle.std.specs.Prelude.{◌≡◌, ℕ, ◌+◌, ◌<◌, ◌≤◌, length, Some}
use Rattle.hk_words.specs.declared.geometry.Geometry.{Geometry}
use Rattle.hk_plan.specs.AloneBy.{AloneEnds}
use Rattle.hk_sheet.specs.declared.sheet.Sheet.{Sheet}
use Rattle.hk_sheet.specs.Arrivals.{arrival_of}
use Rattle.hk_dispatch.specs.Rows.{IsChoice}
use Rattle.hk_dispatch.specs.Tasks.{high_at}
use Rattle.hk_dispatch.specs.Session.{IsMoment, IsSession, JobEndsAt}
use Rattle.hk_dispatch.specs.HighJobs.{jobs_by}
use Rattle.hk_edf.specs.Earliest.{earliest_row}
use Rattle.hk_edf.specs.Refusals.{MeetsDemand}

-- the row with the least deadline is one of the rows
abbrev pub EarliestIsChoice : Type 0
EarliestIsChoice = IsChoice earliest_row

-- a job ends by its deadline, when the schedule of the high jobs alone ends it
pub record EndsByDeadline (g : Geometry) (sheet : Sheet) (seat job deadline : ℕ) : Type 0 where
  pub moment : ℕ
  pub ends : JobEndsAt g earliest_row sheet seat job moment
  pub alone : AloneEnds earliest_row (jobs_by g earliest_row sheet deadline) seat job moment
  pub in_time : moment ≤ deadline

-- each high job of an admitted sheet whose deadline lies within the run, and is reached before the collector finds too many
-- words reserved, ends by its deadline
abbrev pub JobsEndByDeadlines : Type 0
JobsEndByDeadlines = (g : Geometry) (sheet : Sheet) (work attempt busy debt : ℕ)
    → IsSession g earliest_row sheet work attempt busy debt → MeetsDemand sheet busy
    → (seat job arrival : ℕ) → seat < length sheet.high → arrival_of (high_at sheet seat).arrivals job ≡ Some arrival
    → IsMoment g earliest_row sheet (arrival + (high_at sheet seat).timing.deadline)
    → EndsByDeadline g sheet seat job (arrival + (high_at sheet seat).timing.deadline)
