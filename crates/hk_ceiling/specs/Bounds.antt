-- The response time of a task, with room for one section of a later task that holds it up.
use Rattle.std.specs.Prelude.{◌≡◌, ℕ, ◌+◌, ◌*◌, ◌<◌, ◌≤◌, List, length, take}
use Rattle.std.specs.List.{sum_by}
use Rattle.hk_rta.specs.declared.Timing.{Timing}
use Rattle.hk_rta.specs.Demand.{starts_in, cost_at, deadline_at, jitter_at}
use Rattle.hk_rta.specs.Least.{IsLeast}
use Rattle.hk_ceiling.specs.declared.ceilings.TaskSection.{TaskSection}
use Rattle.hk_ceiling.specs.Ceilings.{block}

-- the jobs of no task become ready after they arrive
abbrev pub AreStill : List Timing → Type 0
AreStill tasks = (i : ℕ) → i < length tasks → jitter_at tasks i ≡ 0

-- the most work that the jobs of these tasks which arrive in a window bring
abbrev pub brought : List Timing → ℕ → ℕ
brought tasks window = sum_by (λ (task : Timing). starts_in window task.period * task.cost) tasks

-- a positive length that is exactly the task's own cost, what may hold it up, and what the tasks before it bring
pub record Solves (tasks : List Timing) (sections : List TaskSection) (i r : ℕ) : Type 0 where
  pub positive : 0 < r
  pub balanced : r ≡ cost_at tasks i + block sections i + brought (take i tasks) r

-- the response time of a task is the least such length
abbrev pub Response : List Timing → List TaskSection → ℕ → ℕ → Type 0
Response tasks sections i r = IsLeast (Solves tasks sections i) r

-- no such length is at most the task's deadline
abbrev pub IsLate : List Timing → List TaskSection → ℕ → Type 0
IsLate tasks sections i = (r : ℕ) → r ≤ deadline_at tasks i → ¬ (Solves tasks sections i r)
