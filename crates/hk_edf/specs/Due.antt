-- The work that is due within a time.
use Rattle.std.specs.Prelude.{ℕ, ◌+◌, ◌-◌, ◌*◌, ◌/◌, ◌≤◌, nat_le, if◌then◌else◌, List}
use Rattle.std.specs.List.{sum_by}
use Rattle.hk_rta.specs.declared.Timing.{Timing}

-- the work of a task's jobs that are due within t ticks, where one arrives at 0 and at every period from then on, and
-- each takes the whole cost
abbrev pub due_of : (t : ℕ) → Timing → ℕ
due_of t task = if nat_le task.deadline t then ((t - task.deadline) / task.period + 1) * task.cost else 0

-- the same of all tasks
abbrev pub due : List Timing → (t : ℕ) → ℕ
due tasks t = sum_by (due_of t) tasks

-- the tasks ask for no more than there is, at each time from 1 to a last one
abbrev pub FitsUpTo : List Timing → (last : ℕ) → Type 0
FitsUpTo tasks last = (t : ℕ) → 1 ≤ t → t ≤ last → due tasks t ≤ t
