-- The sheets that can be read. What this says of a sheet is what a caller may rely on.
use Rattle.std.specs.Prelude.{◌≡◌, ℕ, ◌+◌, ◌<◌, ◌≤◌, Bool, true, ◌&&◌, ◌||◌, ◌==◌, nat_le, List, [], ◌∷◌, ◌++◌, length, map, None}
use Rattle.std.specs.List.{AllByRecursion}
use Rattle.hk_words.specs.Geometry.{first_error}
use Rattle.hk_rta.specs.declared.Timing.{Timing}
use Rattle.hk_script.specs.Limits.{limits_of}
use Rattle.hk_script.specs.Blocks.{IsScript}
use Rattle.hk_sheet.specs.declared.arrivals.Arrivals.{Arrivals}
use Rattle.hk_sheet.specs.declared.arrivals.Arrivals.TheVariants.{Every}
use Rattle.hk_sheet.specs.declared.arrivals.Arrivals.TheVariants as arrivals
use Rattle.hk_sheet.specs.declared.sheet.HeapKeys.{HeapKeys}
use Rattle.hk_sheet.specs.declared.sheet.High.{High}
use Rattle.hk_sheet.specs.declared.sheet.Low.{Low}
use Rattle.hk_sheet.specs.declared.sheet.Sheet.{Sheet}
use Rattle.hk_sheet.specs.Faults.{is_name, is_among, sizes_of}

-- a number from low to high
pub record IsFrom (low high value : ℕ) : Type 0 where
  pub at_least : low ≤ value
  pub at_most : value ≤ high

-- the most fields of an object go with so many registers of a task: 62 with 8, in version 1, and 254 with 2 to 32, in
-- version 2
abbrev pub is_breadth : (fields registers : ℕ) → Bool
is_breadth fields registers = fields == 62 && registers == 8 || fields == 254 && nat_le 2 registers && nat_le registers 32

-- the numbers of the heap are in their ranges
pub record IsHeap (heap : HeapKeys) : Type 0 where
  pub live : heap.live ≤ 1000000
  pub alloc : heap.alloc ≤ 1000000
  pub reserve : heap.reserve ≤ 1000000
  pub rate : IsFrom 1 4096 heap.rate
  pub refs : heap.refs ≤ 255
  pub nums : heap.nums ≤ 255
  pub breadth : is_breadth heap.fields heap.registers ≡ true

-- each tick comes at least a gap after the one before
abbrev pub AreSpaced : (gap : ℕ) → List ℕ → Type 0
AreSpaced gap (earlier ∷ later ∷ rest) = (earlier + gap ≤ later) × AreSpaced gap (later ∷ rest)
AreSpaced gap ticks = Unit {0}

-- the arrivals of a task in a run of so many ticks, which are a gap apart
abbrev pub AreArrivals : (ticks gap : ℕ) → Arrivals → Type 0
AreArrivals ticks gap (Every first step) = (first ≤ 16777216) × IsFrom 1 16777216 step × (gap ≤ step)
AreArrivals ticks gap (arrivals.List list) = AllByRecursion (λ tick. tick < ticks) list × (length list ≤ 4096) × AreSpaced gap list

-- the times of a high task: its deadline is at most its period, and its jitter is below its deadline
pub record IsTiming (timing : Timing) : Type 0 where
  pub period : IsFrom 1 16777216 timing.period
  pub deadline : IsFrom 1 timing.period timing.deadline
  pub cost : IsFrom 1 16777216 timing.cost
  pub jitter : timing.jitter < timing.deadline

-- a high task, and a low one, of a run of so many ticks beside this heap
pub record IsHigh (ticks : ℕ) (heap : HeapKeys) (task : High) : Type 0 where
  pub name : is_name task.name ≡ true
  pub timing : IsTiming task.timing
  pub words : task.words ≤ 16777216
  pub lag : task.lag ≤ 16777216
  pub arrivals : AreArrivals ticks task.timing.period task.arrivals
  pub script : IsScript (limits_of heap.fields heap.registers) task.script

pub record IsLow (ticks : ℕ) (heap : HeapKeys) (task : Low) : Type 0 where
  pub name : is_name task.name ≡ true
  pub arrivals : AreArrivals ticks 1 task.arrivals
  pub script : IsScript (limits_of heap.fields heap.registers) task.script

-- no name stands twice
abbrev pub AreDistinct : List (List ℕ) → Type 0
AreDistinct [] = Unit {0}
AreDistinct (name ∷ rest) = (¬ (is_among rest name ≡ true)) × AreDistinct rest

-- the names of all tasks, the high ones first
abbrev pub names_in : Sheet → List (List ℕ)
names_in sheet = map (λ (task : High). task.name) sheet.high ++ map (λ (task : Low). task.name) sheet.low

-- a sheet that can be read
pub record IsSheet (sheet : Sheet) : Type 0 where
  pub ticks : IsFrom 1 16777216 sheet.ticks
  pub heap : IsHeap sheet.heap
  pub high : AllByRecursion (IsHigh sheet.ticks sheet.heap) sheet.high
  pub low : AllByRecursion (IsLow sheet.ticks sheet.heap) sheet.low
  pub names : AreDistinct (names_in sheet)
  pub geometry : first_error sheet.heap.fields (sizes_of sheet) ≡ None
