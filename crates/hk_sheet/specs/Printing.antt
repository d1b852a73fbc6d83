-- The document of a sheet. A table keeps its keys in the order of their bytes, and a sheet without high or low tasks has an
-- empty array of them.
use Rattle.std.specs.Prelude.{ℕ, Bool, true, false, if◌then◌else◌, ◌==◌, ◌^◌, ◌<◌, ◌≤◌, pos, List, [], ◌∷◌, map, codes}
use Rattle.std.specs.Cmp.Lexicographic.{slice_cmp}
use Rattle.std.specs.List.{AllByRecursion}
use Rattle.std.specs.Ordering.{nat_cmp, match_ordering}
use Rattle.toml.specs.Data.{Data, integer, string, array, table, Members, no_members, member}
use Rattle.toml.specs.View.{items_of}
use Rattle.hk_script.specs.Blocks.{IsScript}
use Rattle.hk_script.specs.Limits.{widest}
use Rattle.hk_script.specs.Printing.{text_of}
use Rattle.hk_sheet.specs.declared.arrivals.Arrivals.{Arrivals}
use Rattle.hk_sheet.specs.declared.arrivals.Arrivals.TheVariants.{Every}
use Rattle.hk_sheet.specs.declared.arrivals.Arrivals.TheVariants as arrivals
use Rattle.hk_sheet.specs.declared.sheet.HeapKeys.{HeapKeys}
use Rattle.hk_sheet.specs.declared.sheet.High.{High}
use Rattle.hk_sheet.specs.declared.sheet.Low.{Low}
use Rattle.hk_sheet.specs.declared.sheet.Sheet.{Sheet}
use Rattle.hk_sheet.specs.Valid.{IsHigh, IsLow}

-- a number, and an array of numbers
abbrev pub number_data : ℕ → Data
number_data n = integer (pos n)

abbrev pub numbers_data : List ℕ → Data
numbers_data numbers = array (items_of (map number_data numbers))

-- a table with the value of a key put into its place
abbrev pub with_entry : List ℕ → Data → Members → Members
with_entry key d no_members = member key d no_members
with_entry key d (member other e rest) =
    match_ordering (slice_cmp nat_cmp key other) (member key d (member other e rest)) (member other d rest) (member other e (with_entry key d rest))

-- a table with a task's arrivals put into their places
abbrev pub with_arrivals : Arrivals → Members → Members
with_arrivals (arrivals.List ticks) entries = with_entry (codes "arrivals") (numbers_data ticks) entries
with_arrivals (Every first step) entries = with_entry (codes "every") (number_data step) (with_entry (codes "first") (number_data first) entries)

-- a heap is one of version 2
abbrev pub is_wide : HeapKeys → Bool
is_wide heap = heap.fields == 254

-- the version of a sheet with this heap
abbrev pub version_of : HeapKeys → ℕ
version_of heap = if is_wide heap then 2 else 1

-- the registers of a task, in version 2, before the other entries
abbrev pub with_registers : (second : Bool) → (registers : ℕ) → Members → Members
with_registers true registers rest = member (codes "registers") (number_data registers) rest
with_registers false registers rest = rest

-- the table of the heap, in a sheet of version 2 or of version 1
abbrev pub heap_table : (second : Bool) → HeapKeys → Members
heap_table second heap =
    member (codes "alloc") (number_data heap.alloc)
    (member (codes "board") (numbers_data (heap.refs ∷ heap.nums ∷ []))
    (member (codes "live") (number_data heap.live)
    (member (codes "rate") (number_data heap.rate)
    (with_registers second heap.registers
    (member (codes "reserve") (number_data heap.reserve)
    no_members)))))

abbrev pub heap_entries : HeapKeys → Members
heap_entries heap = heap_table (is_wide heap) heap

-- the list of a task's arrivals, where they are listed, before the other entries
abbrev pub listed : Arrivals → Members → Members
listed (arrivals.List ticks) rest = member (codes "arrivals") (numbers_data ticks) rest
listed (Every first step) rest = rest

-- the step and the first of a task's arrivals, where they aren't listed, before the other entries
abbrev pub stepped : Arrivals → Members → Members
stepped (arrivals.List ticks) rest = rest
stepped (Every first step) rest = member (codes "every") (number_data step) (member (codes "first") (number_data first) rest)

-- the table of a high task
abbrev pub high_entries : High → Members
high_entries task =
    listed task.arrivals
    (member (codes "cost") (number_data task.timing.cost)
    (member (codes "deadline") (number_data task.timing.deadline)
    (stepped task.arrivals
    (member (codes "jitter") (number_data task.timing.jitter)
    (member (codes "lag") (number_data task.lag)
    (member (codes "name") (string task.name)
    (member (codes "period") (number_data task.timing.period)
    (member (codes "script") (string (text_of task.script))
    (member (codes "words") (number_data task.words)
    no_members)))))))))

-- the table of a low task
abbrev pub low_entries : Low → Members
low_entries task =
    listed task.arrivals
    (stepped task.arrivals
    (member (codes "name") (string task.name)
    (member (codes "script") (string (text_of task.script))
    no_members)))

-- the table of a task as a value of the document
abbrev pub high_data : High → Data
high_data task = table (high_entries task)

abbrev pub low_data : Low → Data
low_data task = table (low_entries task)

-- the document of a sheet
unfoldable pub document_of : Sheet → Members
document_of sheet =
    member (codes "heap") (table (heap_entries sheet.heap))
    (member (codes "high") (array (items_of (map high_data sheet.high)))
    (member (codes "low") (array (items_of (map low_data sheet.low)))
    (member (codes "ticks") (number_data sheet.ticks)
    (member (codes "version") (number_data (version_of sheet.heap))
    no_members))))

-- WHAT CAN BE WRITTEN

-- a number, and the arrivals of a task, fit the integers of a document
abbrev pub FitsInteger : ℕ → Type 0
FitsInteger n = n < 2 ^ 63

abbrev pub ArrivalsFit : Arrivals → Type 0
ArrivalsFit (arrivals.List ticks) = AllByRecursion FitsInteger ticks
ArrivalsFit (Every first step) = FitsInteger first × FitsInteger step

-- a task of a run of some length, beside some heap
abbrev pub IsHighOfRun : High → Type 0
IsHighOfRun task = (ticks : ℕ) × (heap : HeapKeys) × (ticks ≤ 16777216) × IsHigh ticks heap task × IsScript widest task.script

abbrev pub IsLowOfRun : Low → Type 0
IsLowOfRun task = (ticks : ℕ) × (heap : HeapKeys) × (ticks ≤ 16777216) × IsLow ticks heap task × IsScript widest task.script
