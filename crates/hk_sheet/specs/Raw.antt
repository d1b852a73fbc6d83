-- A sheet as its tables say it, before the names, the arrivals, the scripts and the geometry are judged.
use Rattle.std.specs.Prelude.{◌≡◌, ℕ, ◌+◌, ◌<◌, ◌^◌, All, Bool, true, false, List, [], ◌∷◌, ◌++◌, map, flat_map, codes, Option, Some, None}
use Rattle.toml.specs.Data.{Members}
use Rattle.toml.specs.View.{table_view}
use Rattle.hk_script.specs.Limits.{limits_of}
use Rattle.hk_script.specs.Texts.{script_of}
use Rattle.hk_sheet.specs.declared.arrivals.Arrivals.{Arrivals}
use Rattle.hk_sheet.specs.declared.arrivals.Arrivals.TheVariants.{Every}
use Rattle.hk_sheet.specs.declared.arrivals.Arrivals.TheVariants as arrivals
use Rattle.hk_sheet.specs.declared.error.SheetError.{SheetError}
use Rattle.hk_sheet.specs.declared.raw.RawSheet.{RawSheet}
use Rattle.hk_sheet.specs.declared.raw.RawTask.{RawTask}
use Rattle.hk_sheet.specs.declared.raw.Times.{Times}
use Rattle.hk_sheet.specs.declared.raw.Top.{Top}
use Rattle.hk_sheet.specs.declared.sheet.HeapKeys.{HeapKeys}
use Rattle.hk_sheet.specs.declared.sheet.High.{High}
use Rattle.hk_sheet.specs.declared.sheet.Low.{Low}
use Rattle.hk_sheet.specs.declared.sheet.Sheet.{Sheet}
use Rattle.hk_sheet.specs.Rules.{number_at, is_second}
use Rattle.hk_sheet.specs.Reading.{text_at, table_at, highs_of, lows_of, heap_of, arrivals_in, timing_in, read_script}
use Rattle.hk_sheet.specs.Faults.{first_of, faults_of_names, fault_of_arrivals, fault_of_text, fault_of_geometry}
use Rattle.hk_sheet.specs.Valid.{IsHeap}
use Rattle.hk_sheet.specs.Code.{seen}

-- WHAT THE TABLES SAY

-- the times of a task, which only a high one has
unfoldable pub times_in : (high : Bool) → Members → Option Times
times_in true entries = Some (record { timing = timing_in entries; words = number_at (codes "words") entries; lag = number_at (codes "lag") entries })
times_in false entries = None

-- a task, high or low, beside this heap
unfoldable pub raw_task : (high : Bool) → HeapKeys → Members → RawTask
raw_task high heap entries = record {
  name = text_at (codes "name") entries;
  times = times_in high entries;
  arrivals = arrivals_in entries;
  script = script_of (limits_of heap.fields heap.registers) (text_at (codes "script") entries);
}

-- the tasks of a document, the high ones first
abbrev pub raw_tasks : Members → List RawTask
raw_tasks document = map (raw_task true (heap_of document)) (highs_of document) ++ map (raw_task false (heap_of document)) (lows_of document)

-- the own keys of a document say this
pub record IsTop (document : Members) (top : Top) : Type 0 where
  pub second : top.second ≡ is_second document
  pub ticks : top.ticks ≡ number_at (codes "ticks") document
  pub heap : table_view top.heap.now ≡ table_at (codes "heap") document
  pub highs : seen top.highs.items ≡ highs_of document
  pub lows : seen top.lows.items ≡ lows_of document

-- the first two of the arrivals fit 64 bits
abbrev pub Fits64 : Arrivals → Type 0
Fits64 (Every first step) = first + step < 2 ^ 64
Fits64 (arrivals.List ticks) = Unit {0}

abbrev pub IsFit : RawTask → Type 0
IsFit raw = Fits64 raw.arrivals

-- the tables of a document say this
pub record IsRaw (document : Members) (raw : RawSheet) : Type 0 where
  pub ticks : raw.ticks ≡ number_at (codes "ticks") document
  pub heap : raw.heap ≡ heap_of document
  pub right : IsHeap raw.heap
  pub tasks : raw.tasks.items ≡ raw_tasks document
  pub fit : All IsFit raw.tasks.items

-- WHAT IS JUDGED OF THEM

-- a task with these times as a high one, and one without as a low one
abbrev pub high_with : RawTask → Option Times → List High
high_with raw None = []
high_with raw (Some times) = record {
  name = raw.name;
  timing = times.timing;
  words = times.words;
  lag = times.lag;
  arrivals = raw.arrivals;
  script = read_script raw.script;
} ∷ []

abbrev pub low_with : RawTask → Option Times → List Low
low_with raw None = record { name = raw.name; arrivals = raw.arrivals; script = read_script raw.script } ∷ []
low_with raw (Some times) = []

-- the high tasks among some, and the low ones
abbrev pub highs_among : List RawTask → List High
highs_among raws = flat_map (λ (raw : RawTask). high_with raw raw.times) raws

abbrev pub lows_among : List RawTask → List Low
lows_among raws = flat_map (λ (raw : RawTask). low_with raw raw.times) raws

abbrev pub sheet_of_raw : RawSheet → Sheet
sheet_of_raw raw = record { ticks = raw.ticks; heap = raw.heap; high = highs_among raw.tasks.items; low = lows_among raw.tasks.items }

-- the names of some tasks
abbrev pub raw_names : List RawTask → List (List ℕ)
raw_names raws = map (λ (raw : RawTask). raw.name) raws

-- how far apart the arrivals of a task with these times are at least
abbrev pub gap_with : Option Times → ℕ
gap_with None = 1
gap_with (Some times) = times.timing.period

-- the fault of the arrivals of a task, and of its script
abbrev pub gap_fault : RawTask → Option SheetError
gap_fault raw = fault_of_arrivals raw.name (gap_with raw.times) raw.arrivals

abbrev pub script_fault : RawTask → Option SheetError
script_fault raw = fault_of_text raw.name raw.script

-- the first fault of what is judged: the names, the arrivals and the scripts of all tasks, and the geometry
unfoldable pub judged_fault : RawSheet → Option SheetError
judged_fault raw = first_of (
    first_of (faults_of_names [] 0 (raw_names raw.tasks.items))
    ∷ first_of (map gap_fault raw.tasks.items)
    ∷ first_of (map script_fault raw.tasks.items)
    ∷ fault_of_geometry (sheet_of_raw raw)
    ∷ [])
