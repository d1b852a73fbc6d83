-- The tasks of a sheet, as their workers see them.
use Rattle.std.specs.Prelude.{◌≡◌, ℕ, ◌*◌, ◌-◌, ◌^◌, ◌<◌, nat_lt, Bool, true, false, List, [], ◌++◌, map, filter, length, slice_index_or, Option, Some, None}
use Rattle.hk_rta.specs.Demand.{starts_in}
use Rattle.hk_script.specs.declared.statement.Statement.{Statement}
use Rattle.hk_script.specs.Cost.{greatest_ticks}
use Rattle.hk_script.specs.Cost as script
use Rattle.hk_sheet.specs.declared.arrivals.Arrivals.{Arrivals}
use Rattle.hk_sheet.specs.declared.arrivals.Arrivals.TheVariants.{Every}
use Rattle.hk_sheet.specs.declared.arrivals.Arrivals.TheVariants as arrivals
use Rattle.hk_sheet.specs.declared.sheet.High.{High}
use Rattle.hk_sheet.specs.declared.sheet.Low.{Low}
use Rattle.hk_sheet.specs.declared.sheet.Sheet.{Sheet}

-- how many jobs arrive before the horizon
unfoldable pub jobs_before : (horizon : ℕ) → Arrivals → ℕ
jobs_before horizon (Every first step) = starts_in (horizon - first) step
jobs_before horizon (arrivals.List ticks) = length (filter (λ tick. nat_lt tick horizon) ticks)

-- a task: its name, its script, and how many jobs it has
pub record Task : Type 0 where
  pub name : List ℕ
  pub script : List Statement
  pub jobs : ℕ

abbrev pub of_high : (horizon : ℕ) → High → Task
of_high horizon task = record { name = task.name; script = task.script; jobs = jobs_before horizon task.arrivals }

abbrev pub of_low : (horizon : ℕ) → Low → Task
of_low horizon task = record { name = task.name; script = task.script; jobs = jobs_before horizon task.arrivals }

-- what stands in a list where no task does
abbrev pub no_task : Task
no_task = record { name = []; script = []; jobs = 0 }

-- the tasks, the high ones first, and that of a seat
abbrev pub tasks_of : Sheet → List Task
tasks_of sheet = map (of_high sheet.ticks) sheet.high ++ map (of_low sheet.ticks) sheet.low

abbrev pub task_at : Sheet → (seat : ℕ) → Task
task_at sheet seat = slice_index_or (tasks_of sheet) seat no_task

-- A task is long where the cost of its script can't be told, or where its jobs cost more ticks together than a pass may begin calls.
-- No task that isn't long comes to the end of its calls.
abbrev pub long_by : (jobs : ℕ) → Option ℕ → Bool
long_by jobs None = true
long_by jobs (Some cost) = nat_lt (2 ^ 30) (jobs * cost)

abbrev pub is_long : Task → Bool
is_long task = long_by task.jobs (script.told (greatest_ticks task.script))

-- no task is long
abbrev pub HasNoLong : Sheet → Type 0
HasNoLong sheet = (seat : ℕ) → seat < length (tasks_of sheet) → is_long (task_at sheet seat) ≡ false

-- the task of this seat is the first that is long
pub record IsFirstLong (sheet : Sheet) (seat : ℕ) : Type 0 where
  pub below : seat < length (tasks_of sheet)
  pub long : is_long (task_at sheet seat) ≡ true
  pub first : (earlier : ℕ) → earlier < seat → is_long (task_at sheet earlier) ≡ false
