-- When the jobs of a task arrive, and when they become ready.
use Rattle.std.specs.Prelude.{ℕ, ◌+◌, ◌*◌, ◌%◌, ◌^◌, nat_lt, if◌then◌else◌, Option, Some, None, slice_get}
use Rattle.hk_sheet.specs.declared.arrivals.Arrivals.{Arrivals}
use Rattle.hk_sheet.specs.declared.arrivals.Arrivals.TheVariants.{Every}
use Rattle.hk_sheet.specs.declared.arrivals.Arrivals.TheVariants as arrivals
use Rattle.hk_sheet.specs.declared.sheet.High.{High}

-- a tick, where it fits 64 bits
abbrev pub in_word : ℕ → Option ℕ
in_word tick = if nat_lt tick (2 ^ 64) then Some tick else None

-- the tick at which a job arrives, where there is such a job and the tick fits 64 bits; jobs count from 0
abbrev pub arrival_of : Arrivals → ℕ → Option ℕ
arrival_of (Every first step) job = in_word (first + job * step)
arrival_of (arrivals.List ticks) job = slice_get ticks job

-- How long after its arrival a job becomes ready: each job waits `lag` ticks longer than the one before, and after at most
-- `jitter` ticks begins again from 0
abbrev pub delay_of : High → ℕ → ℕ
delay_of task job = (job * task.lag) % (task.timing.jitter + 1)

-- the tick at which a job becomes ready, where there is such a job and the tick fits 64 bits
abbrev pub ready_after : (delay : ℕ) → Option ℕ → Option ℕ
ready_after delay None = None
ready_after delay (Some arrival) = in_word (arrival + delay)

abbrev pub ready_of : High → ℕ → Option ℕ
ready_of task job = ready_after (delay_of task job) (arrival_of task.arrivals job)
