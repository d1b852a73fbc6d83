-- The rows that a choice among the ready high jobs is told.
use Rattle.std.specs.Prelude.{ℕ, ◌<◌, List, length}
use Rattle.hk_plan.specs.declared.Ready.{Ready}
use Rattle.hk_plan.specs.AloneBy.{ready_at}

-- the tasks of the rows rise: each task has one row at most
abbrev pub TasksRise : List Ready → Type 0
TasksRise rows = (i j : ℕ) → i < j → j < length rows → (ready_at rows i).task < (ready_at rows j).task

-- a choice is one of the rows, where there is a row and their tasks rise
abbrev pub IsChoice : (List Ready → ℕ) → Type 0
IsChoice choice = (rows : List Ready) → 0 < length rows → TasksRise rows → choice rows < length rows
