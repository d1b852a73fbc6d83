-- The tasks of a sheet that can be read: their scripts, and how many seats there are.
use Rattle.std.proofs.Common.{◌≡◌, ℕ, suc, zero, ◌+◌, ◌<◌, ◌≤◌, List, [], ◌∷◌, ◌++◌, length, ◌∙◌, arith, inl, inr, get_or}
use Rattle.std.proofs.lemmas.Bool.{cases_lt}
use Rattle.std.proofs.lemmas.List.{length-map, length-append}
use Rattle.std.specs.Prelude.{map, min, length}
use Rattle.std.specs.List.{AllByRecursion}
use Rattle.hk_words.specs.declared.geometry.Geometry.{Geometry}
use Rattle.hk_words.specs.Geometry.{HasSizes, tasks}
use Rattle.hk_script.specs.Limits.{limits_of}
use Rattle.hk_script.specs.Blocks.{IsScript}
use Rattle.hk_sheet.specs.declared.sheet.High.{High}
use Rattle.hk_sheet.specs.declared.sheet.Low.{Low}
use Rattle.hk_sheet.specs.declared.sheet.Sheet.{Sheet}
use Rattle.hk_sheet.specs.Faults.{sizes_of}
use Rattle.hk_sheet.specs.Valid.{IsSheet, IsHigh, IsLow}
use Rattle.hk_dispatch.specs.Tasks.{Task, high_task, low_task, tasks_of, no_task, task_at}

-- an element of a list of which something holds of all
all_at : (P : Task → Type 0) (xs : List Task) (i : ℕ) (d : Task) → AllByRecursion P xs → i < length xs → P (get_or xs i d)
all_at P [] i d all lt = absurd (omega arith)
all_at P (x ∷ xs) zero d all lt = all.0
all_at P (x ∷ xs) (suc i) d all lt = all_at P xs i d all.1 (omega arith)

-- the script of a task is one by the limits of the sheet
abbrev pub HasScript : Sheet → Task → Type 0
HasScript sheet task = IsScript (limits_of sheet.heap.fields sheet.heap.registers) task.script

module _ (sheet : Sheet) (h : IsSheet sheet) where
  lows : (xs : List Low) → AllByRecursion (IsLow sheet.ticks sheet.heap) xs → AllByRecursion (HasScript sheet) (map low_task xs)
  lows [] all = tt
  lows (x ∷ xs) all = (all.0.script, lows xs all.1)

  highs : (xs : List High) (rest : List Task) → AllByRecursion (IsHigh sheet.ticks sheet.heap) xs → AllByRecursion (HasScript sheet) rest → AllByRecursion (HasScript sheet) (map high_task xs ++ rest)
  highs [] rest all more = more
  highs (x ∷ xs) rest all more = (all.0.script, highs xs rest all.1 more)

  pub scripts : (seat : ℕ) → seat < length (tasks_of sheet) → HasScript sheet (task_at sheet seat)
  scripts seat below = all_at (HasScript sheet) (tasks_of sheet) seat no_task (highs sheet.high (map low_task sheet.low) h.high (lows sheet.low h.low)) below

-- as many tasks as high and low ones together
pub count_tasks : (sheet : Sheet) → length (tasks_of sheet) ≡ length sheet.high + length sheet.low
count_tasks sheet = length-append (map high_task sheet.high) (map low_task sheet.low) ∙ omega (arith, length-map sheet.high high_task, length-map sheet.low low_task)

-- the seats of the geometry are those of the tasks
module _ (g : Geometry) (sheet : Sheet) (s : HasSizes g (sizes_of sheet)) where
  capped : (n k : ℕ) → k ≡ min n 255 → k ≤ 31 → k ≡ n
  capped n k e few = elim (cases_lt n 255) [ inl small ↦ grind (arith, e, few, small) | inr large ↦ grind (arith, e, few, large) ]

  pub high_seats : g.high ≡ length sheet.high
  high_seats = capped (length sheet.high) g.high s.high (let few = g.tasks_few in omega (arith, few))

  pub low_seats : g.low ≡ length sheet.low
  low_seats = capped (length sheet.low) g.low s.low (let few = g.tasks_few in omega (arith, few))

  pub seats : tasks g ≡ length (tasks_of sheet)
  seats = omega (arith, high_seats, low_seats, count_tasks sheet)
