-- That each row of a task ends within the task's response time. A row stands for a job, and its arrival is the moment
-- at which the job becomes ready. The job itself may have arrived before, at the row's origin.
use Rattle.std.specs.Prelude.{◌≡◌, ℕ, ◌+◌, ◌<◌, ◌≤◌, List, length}
use Rattle.hk_rta.specs.declared.Timing.{Timing}
use Rattle.hk_rta.specs.Demand.{timing_at, period_at, deadline_at}
use Rattle.hk_rta.specs.Response.{Response}
use Rattle.hk_plan.specs.declared.Row.{Row}
use Rattle.hk_plan.specs.Alone.{task_of, arrival_of, ticks_of, had_after, EndsAt}

-- the rows of a task keep to its timing: each takes from 1 tick to the cost, it becomes ready at its origin or at most
-- the jitter after it, and the origins stand in the order of the places and at least a period apart
pub record KeepsTiming (rows : List Row) (origin : ℕ → ℕ) (task : ℕ) (timing : Timing) : Type 0 where
  pub period_some : 0 < timing.period
  pub ticks_some : (k : ℕ) → k < length rows → task_of rows k ≡ task → 1 ≤ ticks_of rows k
  pub ticks_few : (k : ℕ) → k < length rows → task_of rows k ≡ task → ticks_of rows k ≤ timing.cost
  pub from_origin : (k : ℕ) → k < length rows → task_of rows k ≡ task → origin k ≤ arrival_of rows k
  pub in_jitter : (k : ℕ) → k < length rows → task_of rows k ≡ task → arrival_of rows k ≤ origin k + timing.jitter
  pub apart : (j k : ℕ) → j < k → k < length rows → task_of rows j ≡ task → task_of rows k ≡ task → origin j + timing.period ≤ origin k

-- the row at the place k ends at most so many ticks after a moment: from then on it has had all its ticks, it ends
-- once, and no later
pub record EndsWithin (rows : List Row) (k moment bound : ℕ) : Type 0 where
  pub whole : (t : ℕ) → moment + bound ≤ t → had_after rows t k ≡ ticks_of rows k
  pub ends : (e : ℕ) × EndsAt rows k e
  pub bounded : (e : ℕ) → EndsAt rows k e → e ≤ moment + bound

-- where the rows of each task up to i keep to its timing and the deadline of i is at most its period, each row of
-- i ends within the response time of i after its origin, if that is at most the deadline
abbrev pub ResponseBounds : Type 0
ResponseBounds =
    (rows : List Row) (origin : ℕ → ℕ) (timings : List Timing) (i r : ℕ)
    → i < length timings
    → ((j : ℕ) → j ≤ i → KeepsTiming rows origin j (timing_at timings j))
    → deadline_at timings i ≤ period_at timings i
    → Response timings i r
    → r ≤ deadline_at timings i
    → (k : ℕ) → k < length rows → task_of rows k ≡ i → EndsWithin rows k (origin k) r
