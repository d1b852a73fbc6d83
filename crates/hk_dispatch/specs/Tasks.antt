-- The tasks of a sheet, each with a seat: the high tasks first, in the order of the sheet, and then the low ones.
use Rattle.std.specs.Prelude.{ℕ, ◌+◌, ◌<◌, ◌≤◌, nat_lt, nat_le, Bool, false, List, [], ◌++◌, map, length, slice_index_or, Option, Some, None}
use Rattle.hk_rta.specs.Demand.{no_timing}
use Rattle.hk_script.specs.declared.statement.Statement.{Statement}
use Rattle.hk_sheet.specs.declared.arrivals.Arrivals.TheVariants as arrivals
use Rattle.hk_sheet.specs.declared.sheet.High.{High}
use Rattle.hk_sheet.specs.declared.sheet.Low.{Low}
use Rattle.hk_sheet.specs.declared.sheet.Sheet.{Sheet}
use Rattle.hk_sheet.specs.Arrivals.{arrival_of, ready_of}

-- What the dispatcher needs of a task: the moment at which each of its jobs arrives, the one at which it becomes ready, and
-- the script of all its jobs. There is no such moment where there is no such job.
pub record Task : Type 0 where
  pub arrival : ℕ → Option ℕ
  pub ready : ℕ → Option ℕ
  pub script : List Statement

abbrev pub high_task : High → Task
high_task task = record { arrival = λ job. arrival_of task.arrivals job; ready = λ job. ready_of task job; script = task.script }

-- a job of a low task is ready when it arrives
abbrev pub low_task : Low → Task
low_task task = record { arrival = λ job. arrival_of task.arrivals job; ready = λ job. arrival_of task.arrivals job; script = task.script }

abbrev pub tasks_of : Sheet → List Task
tasks_of sheet = map high_task sheet.high ++ map low_task sheet.low

-- a task that has no job, which stands for a seat where there is none
abbrev pub no_task : Task
no_task = record { arrival = λ job. None; ready = λ job. None; script = [] }

abbrev pub task_at : Sheet → (seat : ℕ) → Task
task_at sheet seat = slice_index_or (tasks_of sheet) seat no_task

-- the seat is that of a high task
abbrev pub is_high : Sheet → (seat : ℕ) → Bool
is_high sheet seat = nat_lt seat (length sheet.high)

-- the seat is that of a low task
pub record IsLowSeat (sheet : Sheet) (seat : ℕ) : Type 0 where
  pub from : length sheet.high ≤ seat
  pub below : seat < length sheet.high + length sheet.low

abbrev pub no_high : High
no_high = record { name = []; timing = no_timing; lag = 0; words = 0; arrivals = arrivals.List []; script = [] }

abbrev pub high_at : Sheet → (seat : ℕ) → High
high_at sheet seat = slice_index_or sheet.high seat no_high

-- a moment, where there is one, is not after another
abbrev pub is_by : Option ℕ → (moment : ℕ) → Bool
is_by None moment = false
is_by (Some m) moment = nat_le m moment
