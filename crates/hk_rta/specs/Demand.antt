-- The work that periodic tasks and loads bring into a window of time.
use Rattle.std.specs.Prelude.{ℕ, ◌+◌, ◌*◌, ◌≤◌, ◌^◌, List, slice_index_or}
use Rattle.std.specs.List.{sum_by}
use Rattle.std.specs.Int.{div_ceil}
use Rattle.hk_rta.specs.declared.Timing.{Timing}
use Rattle.hk_rta.specs.declared.Load.{Load}

-- how often a period can begin in a window: the periods that the window holds, rounded up
abbrev pub starts_in : ℕ → ℕ → ℕ
starts_in window period = div_ceil window period

-- the most work that a task's jobs which become ready in a window bring: they arrived in it, or in the jitter before
abbrev pub demand_of : ℕ → Timing → ℕ
demand_of window task = starts_in (window + task.jitter) task.period * task.cost

-- the most work that the jobs of these tasks which become ready in a window bring
abbrev pub demand : List Timing → ℕ → ℕ
demand tasks window = sum_by (demand_of window) tasks

-- the most work that a load brings in a window: that of the arrivals in it, and in the jitter before
abbrev pub work_of : ℕ → Load → ℕ
work_of window load = starts_in (window + load.jitter) load.period * load.work

-- the most work that these loads bring in a window
abbrev pub work_in : List Load → ℕ → ℕ
work_in loads window = sum_by (work_of window) loads

-- a time of at least a tick and at most 2^24
abbrev pub IsTime : ℕ → Type 0
IsTime n = (1 ≤ n) × (n ≤ 2 ^ 24)

-- each of a task's times is in range
pub record IsTimed (task : Timing) : Type 0 where
  pub cost : IsTime task.cost
  pub period : IsTime task.period
  pub deadline : IsTime task.deadline
  pub jitter : task.jitter ≤ 2 ^ 24

-- a load's times and work are in range
pub record IsLoad (load : Load) : Type 0 where
  pub period : IsTime load.period
  pub jitter : load.jitter ≤ 2 ^ 24
  pub work : load.work ≤ 2 ^ 37

-- a task without times, which stands for a place where there is none
abbrev pub no_timing : Timing
no_timing = record { cost = 0; period = 0; deadline = 0; jitter = 0 }

-- the task at a place
abbrev pub timing_at : List Timing → ℕ → Timing
timing_at tasks i = slice_index_or tasks i no_timing

-- the most that a job of the task at a place takes
abbrev pub cost_at : List Timing → ℕ → ℕ
cost_at tasks i = (timing_at tasks i).cost

-- the least time between two arrivals of the task at a place
abbrev pub period_at : List Timing → ℕ → ℕ
period_at tasks i = (timing_at tasks i).period

-- the time from an arrival by which a job of the task at a place is to end
abbrev pub deadline_at : List Timing → ℕ → ℕ
deadline_at tasks i = (timing_at tasks i).deadline

-- how long after an arrival a job of the task at a place may become ready
abbrev pub jitter_at : List Timing → ℕ → ℕ
jitter_at tasks i = (timing_at tasks i).jitter
