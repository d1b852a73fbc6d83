-- That the schedule by the choice of the least task is the plain schedule of rows.
use Rattle.std.specs.Prelude.{◌≡◌, ℕ, ◌<◌, ◌↔◌, List, Some, None, length}
use Rattle.hk_plan.specs.declared.Row.{Row}
use Rattle.hk_plan.specs.Alone.{task_of, arrival_of, ticks_of, had_after, row_at, EndsAt}
use Rattle.hk_plan.specs.AloneBy.{Jobs, IsJob, alone_had, AloneGives, AloneRests, AloneEnds, least_task}

-- the row at the place k is that of a job
pub record IsRowOf (rows : List Row) (jobs : Jobs) (i j k : ℕ) : Type 0 where
  pub within : k < length rows
  pub task : task_of rows k ≡ i
  pub ready : arrival_of rows k ≡ jobs.ready i j
  pub ticks : ticks_of rows k ≡ jobs.ticks i j

-- some job has its row at the place k
pub record HasJob (jobs : Jobs) (place : ℕ → ℕ → ℕ) (k : ℕ) : Type 0 where
  pub task : ℕ
  pub job : ℕ
  pub is_job : IsJob jobs task job
  pub there : place task job ≡ k

-- the rows list the jobs: each job has its row at its place, each row is some job's, and the rows of a task stand in the
-- order of its jobs
pub record ListsJobs (rows : List Row) (jobs : Jobs) (place : ℕ → ℕ → ℕ) : Type 0 where
  pub row : (i j : ℕ) → IsJob jobs i j → IsRowOf rows jobs i j (place i j)
  pub job : (k : ℕ) → k < length rows → HasJob jobs place k
  pub order : (i j k : ℕ) → j < k → IsJob jobs i k → place i j < place i k

-- the two schedules are one: the same job gets each tick, has had as many ticks, and ends at the same moment
pub record IsPlainSchedule (rows : List Row) (jobs : Jobs) (place : ℕ → ℕ → ℕ) : Type 0 where
  pub gives : (t i j : ℕ) → IsJob jobs i j → AloneGives least_task jobs t i j ↔ (row_at rows t ≡ Some (place i j))
  pub rests : (t : ℕ) → AloneRests least_task jobs t ↔ (row_at rows t ≡ None)
  pub had : (t i j : ℕ) → IsJob jobs i j → alone_had least_task jobs t i j ≡ had_after rows t (place i j)
  pub ends : (i j e : ℕ) → IsJob jobs i j → AloneEnds least_task jobs i j e ↔ EndsAt rows (place i j) e

-- so it is for all rows that list some jobs
abbrev pub LeastTaskIsPlain : Type 0
LeastTaskIsPlain = (rows : List Row) (jobs : Jobs) (place : ℕ → ℕ → ℕ) → ListsJobs rows jobs place → IsPlainSchedule rows jobs place
