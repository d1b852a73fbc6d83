-- The response time of a task under fixed priorities, preemption, release jitter and deadlines not above periods
-- (Joseph and Pandya 1986; the jitter by Audsley, Burns, Richardson, Tindell and Wellings 1993). Of two tasks the one
-- that stands earlier in the list goes first.
use Rattle.std.specs.Prelude.{◌≡◌, ℕ, ◌+◌, ◌-◌, ◌<◌, ◌≤◌, List, take}
use Rattle.hk_rta.specs.declared.Timing.{Timing}
use Rattle.hk_rta.specs.Demand.{demand, cost_at, deadline_at, jitter_at}
use Rattle.hk_rta.specs.Least.{IsLeast}

-- a positive length that is exactly the task's own cost and what the tasks before it bring in such a window
pub record Solves (tasks : List Timing) (i r : ℕ) : Type 0 where
  pub positive : 0 < r
  pub balanced : r ≡ cost_at tasks i + demand (take i tasks) r

-- the response time of a task, from the arrival: its own jitter, and after it the least such length
pub record Response (tasks : List Timing) (i r : ℕ) : Type 0 where
  pub after_jitter : jitter_at tasks i ≤ r
  pub least : IsLeast (Solves tasks i) (r - jitter_at tasks i)

-- no such length ends by the task's deadline, where it begins after the task's jitter
abbrev pub IsLate : List Timing → ℕ → Type 0
IsLate tasks i = (r : ℕ) → r + jitter_at tasks i ≤ deadline_at tasks i → ¬ (Solves tasks i r)
