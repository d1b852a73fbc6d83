-- What it means that a schedule of jobs goes by deadlines.
use Rattle.std.specs.Prelude.{◌≡◌, ℕ, suc, ◌+◌, ◌<◌, ◌≤◌, ◌⊎◌}
use Rattle.hk_plan.specs.AloneBy.{Jobs, IsJob}

-- the moment by which a job is to end
abbrev pub due_at : Jobs → (i j : ℕ) → ℕ
due_at jobs i j = jobs.arrival i j + jobs.deadline i

-- a job is ready at a moment, where each has had so many ticks
pub record IsReadyJob (jobs : Jobs) (had : ℕ → ℕ → ℕ) (t i j : ℕ) : Type 0 where
  pub is_job : IsJob jobs i j
  pub by_now : jobs.ready i j ≤ t
  pub unended : had i j < jobs.ticks i j

-- a tick goes to nobody, and no job is ready
pub record ToNobody (jobs : Jobs) (had : ℕ → ℕ → ℕ → ℕ) (t : ℕ) : Type 0 where
  pub none_ready : (i j : ℕ) → ¬ (IsReadyJob jobs (had t) t i j)
  pub as_before : (i j : ℕ) → had (suc t) i j ≡ had t i j

-- a tick goes to a ready job of the least deadline
pub record ToEarliest (jobs : Jobs) (had : ℕ → ℕ → ℕ → ℕ) (t : ℕ) : Type 0 where
  pub task : ℕ
  pub job : ℕ
  pub ready : IsReadyJob jobs (had t) t task job
  pub least : (i j : ℕ) → IsReadyJob jobs (had t) t i j → due_at jobs task job ≤ due_at jobs i j
  pub one_more : had (suc t) task job ≡ had t task job + 1
  pub others : (i j : ℕ) → ¬ ((i ≡ task) × (j ≡ job)) → had (suc t) i j ≡ had t i j

-- each tick goes to a ready job of the least deadline, and to nobody only where no job is ready; which one it is among
-- equal deadlines is left open
pub record ByDeadlines (jobs : Jobs) (had : ℕ → ℕ → ℕ → ℕ) : Type 0 where
  pub at_start : (i j : ℕ) → had 0 i j ≡ 0
  pub each_tick : (t : ℕ) → ToNobody jobs had t ⊎ ToEarliest jobs had t
