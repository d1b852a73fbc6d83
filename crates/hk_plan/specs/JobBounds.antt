-- That each job ends within its task's response time, in the schedule by the choice of the least task.
use Rattle.std.specs.Prelude.{◌≡◌, ℕ, ◌+◌, ◌<◌, ◌≤◌, List, length}
use Rattle.hk_rta.specs.declared.Timing.{Timing}
use Rattle.hk_rta.specs.Demand.{timing_at, period_at, deadline_at}
use Rattle.hk_rta.specs.Response.{Response}
use Rattle.hk_plan.specs.AloneBy.{Jobs, IsJob, alone_had, AloneEnds, least_task}

-- the jobs of a task keep to its timing: each takes from 1 tick to the cost, it becomes ready at its arrival or at most
-- the jitter after it, and the arrivals stand in the order of the jobs and at least a period apart
pub record JobsKeepTiming (jobs : Jobs) (i : ℕ) (timing : Timing) : Type 0 where
  pub period_some : 0 < timing.period
  pub ticks_some : (j : ℕ) → j < jobs.count i → 1 ≤ jobs.ticks i j
  pub ticks_few : (j : ℕ) → j < jobs.count i → jobs.ticks i j ≤ timing.cost
  pub from_arrival : (j : ℕ) → j < jobs.count i → jobs.arrival i j ≤ jobs.ready i j
  pub in_jitter : (j : ℕ) → j < jobs.count i → jobs.ready i j ≤ jobs.arrival i j + timing.jitter
  pub apart : (j k : ℕ) → j < k → k < jobs.count i → jobs.arrival i j + timing.period ≤ jobs.arrival i k

-- a job ends at most so many ticks after its arrival: from then on it has had all its ticks, it ends once, and no later
pub record JobEndsWithin (jobs : Jobs) (i j bound : ℕ) : Type 0 where
  pub whole : (t : ℕ) → jobs.arrival i j + bound ≤ t → alone_had least_task jobs t i j ≡ jobs.ticks i j
  pub ends : (e : ℕ) × AloneEnds least_task jobs i j e
  pub bounded : (e : ℕ) → AloneEnds least_task jobs i j e → e ≤ jobs.arrival i j + bound

-- where the jobs of each task up to i keep to its timing and the deadline of i is at most its period, each job of i
-- ends within the response time of i, if that is at most the deadline
abbrev pub ResponseBoundsJobs : Type 0
ResponseBoundsJobs =
    (jobs : Jobs) (timings : List Timing) (i r : ℕ)
    → i < length timings
    → ((j : ℕ) → j ≤ i → JobsKeepTiming jobs j (timing_at timings j))
    → deadline_at timings i ≤ period_at timings i
    → Response timings i r
    → r ≤ deadline_at timings i
    → (j : ℕ) → IsJob jobs i j → JobEndsWithin jobs i j r
