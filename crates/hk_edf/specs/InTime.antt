-- That by earliest deadlines each job ends by its deadline.
use Rattle.std.specs.Prelude.{◌≡◌, ℕ, ◌<◌, ◌≤◌, List, length}
use Rattle.hk_rta.specs.declared.Timing.{Timing}
use Rattle.hk_rta.specs.Demand.{timing_at, deadline_at, jitter_at, demand}
use Rattle.hk_plan.specs.AloneBy.{Jobs, IsJob, alone_had, AloneEnds}
use Rattle.hk_plan.specs.JobBounds.{JobsKeepTiming}
use Rattle.hk_edf.specs.Due.{FitsUpTo}
use Rattle.hk_edf.specs.Earliest.{earliest_row}
use Rattle.hk_edf.specs.ByDeadlines.{due_at, ByDeadlines}

-- the jobs keep to the timings of their tasks, which have no jitter: each is ready as it arrives, and is to end its task's
-- deadline after that
pub record KeepTimings (jobs : Jobs) (timings : List Timing) : Type 0 where
  pub all_tasks : jobs.tasks ≡ length timings
  pub each : (i : ℕ) → i < jobs.tasks → JobsKeepTiming jobs i (timing_at timings i)
  pub no_jitter : (i : ℕ) → i < jobs.tasks → jitter_at timings i ≡ 0
  pub deadline_some : (i : ℕ) → i < jobs.tasks → 0 < deadline_at timings i
  pub deadline_is : (i : ℕ) → i < jobs.tasks → jobs.deadline i ≡ deadline_at timings i

-- a job ends, and by its deadline: from that on it has had all its ticks
pub record MeetsDeadline (jobs : Jobs) (i j : ℕ) : Type 0 where
  pub whole : (t : ℕ) → due_at jobs i j ≤ t → alone_had earliest_row jobs t i j ≡ jobs.ticks i j
  pub ends : (e : ℕ) × AloneEnds earliest_row jobs i j e
  pub in_time : (e : ℕ) → AloneEnds earliest_row jobs i j e → e ≤ due_at jobs i j

-- x is a length in which all work that arrives there is done, and what is due fits up to it
pub record FitsIn (timings : List Timing) (x : ℕ) : Type 0 where
  pub some : 1 ≤ x
  pub covers : demand timings x ≤ x
  pub fits : FitsUpTo timings x

-- the schedule by the choice of the least deadline goes by deadlines
abbrev pub ChoiceGoesByDeadlines : Type 0
ChoiceGoesByDeadlines = (jobs : Jobs) (timings : List Timing) → KeepTimings jobs timings → ByDeadlines jobs (alone_had earliest_row jobs)

-- in each schedule that goes by deadlines a job has had all its ticks at its deadline, where there is such a length
abbrev pub WholeWhenDue : Type 0
WholeWhenDue =
    (jobs : Jobs) (timings : List Timing) (x : ℕ) (had : ℕ → ℕ → ℕ → ℕ)
    → KeepTimings jobs timings → FitsIn timings x → ByDeadlines jobs had
    → (i j : ℕ) → IsJob jobs i j → had (due_at jobs i j) i j ≡ jobs.ticks i j

-- so each job ends by its deadline in the schedule by the choice of the least
abbrev pub DeadlinesAreMet : Type 0
DeadlinesAreMet =
    (jobs : Jobs) (timings : List Timing) (x : ℕ)
    → KeepTimings jobs timings → FitsIn timings x
    → (i j : ℕ) → IsJob jobs i j → MeetsDeadline jobs i j
