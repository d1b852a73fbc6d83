-- The numbers of the tasks, and their ranges.
use Rattle.std.proofs.Common.{ℕ, ◌≤◌, List, [], ◌∷◌}
use Rattle.hk_rta.specs.declared.Timing.{Timing}
use Rattle.hk_sheet.specs.declared.sheet.Sheet.{Sheet}
use Rattle.hk_gen.specs.Made.{high_task, low_task, sheet_of}

-- a task whose deadline is its period, and whose jobs are ready as they arrive
abbrev pub prompt : (cost period : ℕ) → Timing
prompt cost period = record { cost = cost; period = period; deadline = period; jitter = 0 }

abbrev pub three : (c0 c1 c2 p0 p1 p2 : ℕ) → List Timing
three c0 c1 c2 p0 p1 p2 = prompt c0 p0 ∷ prompt c1 p1 ∷ prompt c2 p2 ∷ []

-- a number from low to high
pub record IsIn (low high n : ℕ) : Type 0 where
  pub some : low ≤ n
  pub few : n ≤ high

-- three tasks whose costs are 51 to 70 ticks, and whose periods are 400, 800 and 1600 ticks at least
pub record AreTimes (c0 c1 c2 p0 p1 p2 : ℕ) : Type 0 where
  pub first : IsIn 51 70 c0
  pub second : IsIn 51 70 c1
  pub third : IsIn 51 70 c2
  pub once : IsIn 400 1999 p0
  pub twice : IsIn 800 1999 p1
  pub fourth : IsIn 1600 1999 p2

-- the other numbers that are drawn
pub record AreArrived (f0 f1 f2 e0 e1 g0 g1 : ℕ) : Type 0 where
  pub first : f0 ≤ 99
  pub second : f1 ≤ 99
  pub third : f2 ≤ 99
  pub fourth : IsIn 900 1199 e0
  pub fifth : IsIn 900 1199 e1
  pub low_first : g0 ≤ 99
  pub low_second : g1 ≤ 99

-- a sheet by the numbers of its tasks
abbrev pub sheet_by : (w0 w1 w2 p0 p1 p2 f0 f1 f2 e0 e1 g0 g1 : ℕ) → Sheet
sheet_by w0 w1 w2 p0 p1 p2 f0 f1 f2 e0 e1 g0 g1 =
    sheet_of
    (high_task 0 w0 p0 f0 ∷ high_task 1 w1 p1 f1 ∷ high_task 2 w2 p2 f2 ∷ [])
    (low_task 0 e0 g0 ∷ low_task 1 e1 g1 ∷ [])
