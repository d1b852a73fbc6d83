-- The sheet that a document declares, where it has no fault. Where it has one, these words say something without a meaning.
use Rattle.std.specs.Prelude.{ℕ, List, [], ◌∷◌, map, Bool, true, false, filter_map, codes, unwrap_or, Option, Some, None, Result, Ok, Err, if◌then◌else◌}
use Rattle.toml.specs.Data.{Data, array, no_items, Members, no_members, get_member, as_table, as_str}
use Rattle.hk_rta.specs.declared.Timing.{Timing}
use Rattle.hk_script.specs.declared.statement.Statement.{Statement}
use Rattle.hk_script.specs.declared.error.ScriptError.{ScriptError}
use Rattle.hk_script.specs.Limits.{limits_of}
use Rattle.hk_script.specs.Texts.{script_of}
use Rattle.hk_sheet.specs.declared.arrivals.Arrivals.{Arrivals}
use Rattle.hk_sheet.specs.declared.arrivals.Arrivals.TheVariants.{Every}
use Rattle.hk_sheet.specs.declared.arrivals.Arrivals.TheVariants as arrivals
use Rattle.hk_sheet.specs.declared.sheet.HeapKeys.{HeapKeys}
use Rattle.hk_sheet.specs.declared.sheet.High.{High}
use Rattle.hk_sheet.specs.declared.sheet.Low.{Low}
use Rattle.hk_sheet.specs.declared.sheet.Sheet.{Sheet}
use Rattle.hk_sheet.specs.Rules.{elements_of, number_of, number_at, is_second, has_list}

-- the value at a key, and an empty array where there is none
abbrev pub held : Option Data → Data
held None = array no_items
held (Some d) = d

abbrev pub value_at : List ℕ → Members → Data
value_at key entries = held (get_member key entries)

-- the text at a key, the table at a key, the tables of the array at a key, and the numbers of the array at a key
abbrev pub text_at : List ℕ → Members → List ℕ
text_at key entries = unwrap_or (as_str (value_at key entries)) []

abbrev pub table_at : List ℕ → Members → Members
table_at key entries = unwrap_or (as_table (value_at key entries)) no_members

abbrev pub tables_at : List ℕ → Members → List Members
tables_at key entries = filter_map as_table (elements_of (value_at key entries))

abbrev pub numbers_at : List ℕ → Members → List ℕ
numbers_at key entries = map number_of (elements_of (value_at key entries))

-- the two numbers of a pair
abbrev pub first_of_pair : List ℕ → ℕ
first_of_pair (first ∷ rest) = first
first_of_pair [] = 0

abbrev pub second_of_pair : List ℕ → ℕ
second_of_pair (first ∷ second ∷ rest) = second
second_of_pair numbers = 0

-- the registers of a task: in version 2 as many as the key says, and else 8
abbrev pub registers_in : (second : Bool) → Members → ℕ
registers_in true entries = number_at (codes "registers") entries
registers_in false entries = 8

-- the most fields of an object, in version 2 and in version 1
abbrev pub fields_in : (second : Bool) → ℕ
fields_in true = 254
fields_in false = 62

-- the heap that a table declares, in a sheet of version 2 or of another
unfoldable pub heap_in : (second : Bool) → Members → HeapKeys
heap_in second entries = record {
  live = number_at (codes "live") entries;
  alloc = number_at (codes "alloc") entries;
  reserve = number_at (codes "reserve") entries;
  rate = number_at (codes "rate") entries;
  refs = first_of_pair (numbers_at (codes "board") entries);
  nums = second_of_pair (numbers_at (codes "board") entries);
  registers = registers_in second entries;
  fields = fields_in second;
}

-- the arrivals that the table of a task declares
unfoldable pub arrivals_in : Members → Arrivals
arrivals_in entries = if has_list entries
    then arrivals.List (numbers_at (codes "arrivals") entries)
    else Every (number_at (codes "first") entries) (number_at (codes "every") entries)

-- the script of a text that spells one
abbrev pub read_script : Result (List Statement) ScriptError → List Statement
read_script (Ok script) = script
read_script (Err error) = []

unfoldable pub script_in : HeapKeys → Members → List Statement
script_in heap entries = read_script (script_of (limits_of heap.fields heap.registers) (text_at (codes "script") entries))

-- the times of a high task
unfoldable pub timing_in : Members → Timing
timing_in entries = record {
  cost = number_at (codes "cost") entries;
  period = number_at (codes "period") entries;
  deadline = number_at (codes "deadline") entries;
  jitter = number_at (codes "jitter") entries;
}

-- the high task, and the low one, that a table declares beside this heap
unfoldable pub high_in : HeapKeys → Members → High
high_in heap entries = record {
  name = text_at (codes "name") entries;
  timing = timing_in entries;
  words = number_at (codes "words") entries;
  lag = number_at (codes "lag") entries;
  arrivals = arrivals_in entries;
  script = script_in heap entries;
}

unfoldable pub low_in : HeapKeys → Members → Low
low_in heap entries = record { name = text_at (codes "name") entries; arrivals = arrivals_in entries; script = script_in heap entries }

-- the tables of the high tasks, and of the low ones
abbrev pub highs_of : Members → List Members
highs_of document = tables_at (codes "high") document

abbrev pub lows_of : Members → List Members
lows_of document = tables_at (codes "low") document

-- the heap of a document
unfoldable pub heap_of : Members → HeapKeys
heap_of document = heap_in (is_second document) (table_at (codes "heap") document)

-- the sheet that a document declares
unfoldable pub sheet_in : Members → Sheet
sheet_in document = record {
  ticks = number_at (codes "ticks") document;
  heap = heap_of document;
  high = map (high_in (heap_of document)) (highs_of document);
  low = map (low_in (heap_of document)) (lows_of document);
}
