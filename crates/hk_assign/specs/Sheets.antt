-- Sheets with their high tasks in another order.
use Rattle.std.specs.Prelude.{ℕ, List, [], map, slice_index_or}
use Rattle.hk_rta.specs.Demand.{no_timing}
use Rattle.hk_sheet.specs.declared.arrivals.Arrivals.TheVariants as arrivals
use Rattle.hk_sheet.specs.declared.sheet.High.{High}
use Rattle.hk_sheet.specs.declared.sheet.Sheet.{Sheet}
use Rattle.hk_admit.specs.Analysis.{timings_of}
use Rattle.hk_assign.specs.Orders.{KeepsDeadlines}
use Rattle.hk_assign.specs.Assignment.{TakesGreatest}

-- a task that stands for a place where there is none
abbrev pub no_high : High
no_high = record { name = []; timing = no_timing; words = 0; lag = 0; arrivals = arrivals.List []; script = [] }

-- the task at a place
abbrev pub high_at : List High → ℕ → High
high_at tasks place = slice_index_or tasks place no_high

-- the tasks at these places, and their names
abbrev pub highs_at : List High → List ℕ → List High
highs_at tasks places = map (high_at tasks) places

abbrev pub name_at : List High → ℕ → List ℕ
name_at tasks place = (high_at tasks place).name

abbrev pub names_at : List High → List ℕ → List (List ℕ)
names_at tasks places = map (name_at tasks) places

-- a sheet with its high tasks in an order, and all else as it is
abbrev pub in_sheet_order : Sheet → List ℕ → Sheet
in_sheet_order sheet order = record { ticks = sheet.ticks; heap = sheet.heap; high = highs_at sheet.high order; low = sheet.low }

-- the order of some tasks that Audsley's rule gives: each has a response time that is at most its deadline
pub record IsAssigned (tasks : List High) (order : List ℕ) : Type 0 where
  pub keeps : KeepsDeadlines (timings_of tasks) order
  pub greatest : TakesGreatest (timings_of tasks) order
