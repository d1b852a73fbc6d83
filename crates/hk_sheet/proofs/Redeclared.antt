-- The document of a sheet declares that sheet.
use Rattle.std.proofs.Common.{◌≡◌, ℕ, Bool, true, false, ◌==◌, codes, if◌then◌else◌, sym, arith, List, [], ◌∷◌, map, filter_map, Ok, refl, ap, ◌∙◌}
use Rattle.std.specs.List.{AllByRecursion}
use Rattle.std.proofs.lemmas.Bool.Decides.{nat_tests}
use Rattle.toml.specs.Data.{Data, table, Members, as_table}
use Rattle.toml.specs.View.{items_of}
use Rattle.hk_rta.specs.declared.Timing.{Timing}
use Rattle.hk_script.specs.Limits.{limits_of}
use Rattle.hk_script.proofs.Printed.{script_spelled}
use Rattle.hk_script.proofs.Texts.{text_again}
use Rattle.hk_script.specs.Blocks.{IsScript}
use Rattle.hk_script.specs.Printing.{text_of}
use Rattle.hk_script.specs.Texts.{script_of}
use Rattle.hk_script.specs.declared.statement.Statement.{Statement}
use Rattle.hk_sheet.specs.declared.arrivals.Arrivals.{Arrivals}
use Rattle.hk_sheet.specs.declared.arrivals.Arrivals.TheVariants.{Every}
use Rattle.hk_sheet.specs.declared.arrivals.Arrivals.TheVariants as arrivals
use Rattle.hk_sheet.specs.declared.sheet.HeapKeys.{HeapKeys}
use Rattle.hk_sheet.specs.declared.sheet.High.{High}
use Rattle.hk_sheet.specs.declared.sheet.Low.{Low}
use Rattle.hk_sheet.specs.declared.sheet.Sheet.{Sheet}
use Rattle.hk_sheet.specs.Rules.{elements, number_of, number_at, is_second}
use Rattle.hk_sheet.specs.Reading.{read_script, heap_in, arrivals_in, script_in, timing_in, high_in, low_in, highs_of, lows_of, heap_of, sheet_in}
use Rattle.hk_sheet.specs.Printing.{is_wide, heap_table, number_data, heap_entries, high_entries, low_entries, document_of}
use Rattle.hk_sheet.proofs.Plain.{limits_are}
use Rattle.hk_sheet.specs.Valid.{is_breadth, IsHigh, IsLow, IsSheet}

-- an array has the elements that it was made of
pub elements_again : (ds : List Data) → elements (items_of ds) ≡ ds
elements_again [] = refl
elements_again (d ∷ ds) = ap (λ rest. d ∷ rest) (elements_again ds)

-- numbers are read again
pub numbers_again : (numbers : List ℕ) → map number_of (elements (items_of (map number_data numbers))) ≡ numbers
numbers_again [] = refl
numbers_again (n ∷ numbers) = ap (λ rest. n ∷ rest) (numbers_again numbers)

-- tables are found again
pub tables_again : {A : Type 0} (entries : A → Members) (tasks : List A)
    → filter_map as_table (elements (items_of (map (λ task. table (entries task)) tasks))) ≡ map entries tasks
tables_again entries [] = refl
tables_again entries (t ∷ tasks) = ap (λ rest. entries t ∷ rest) (tables_again entries tasks)

-- a script is read of its text
pub script_again : (heap : HeapKeys) (script : List Statement) → is_breadth heap.fields heap.registers ≡ true → IsScript (limits_of heap.fields heap.registers) script → script_of (limits_of heap.fields heap.registers) (text_of script) ≡ Ok script
script_again heap script broad is =
    let are = limits_are heap.fields heap.registers broad in
    text_again (limits_of heap.fields heap.registers) are (text_of script) script (script_spelled (limits_of heap.fields heap.registers) are script is)

-- the heap, which is one of version 2 or not
pub version_again : (second : Bool) → (if second then 2 else 1) == 2 ≡ second
version_again true = refl
version_again false = refl

-- the fields and the registers of a breadth
second_breadth : (fields registers : ℕ) → is_breadth fields registers ≡ true → fields == 254 ≡ true → fields ≡ 254
second_breadth fields registers is wide = grind (arith, nat_tests)

pub first_breadth : (fields registers : ℕ) → is_breadth fields registers ≡ true → fields == 254 ≡ false → (fields ≡ 62) × (registers ≡ 8)
first_breadth fields registers is narrow = (grind (arith, nat_tests), grind (arith, nat_tests))

heap_by_version : (second : Bool) (heap : HeapKeys) → is_wide heap ≡ second → is_breadth heap.fields heap.registers ≡ true → heap_in second (heap_table second heap) ≡ heap
unfolding heap_in
heap_by_version true heap wide is =
    let most = sym (second_breadth heap.fields heap.registers is wide) in
    λ i. record { live = heap.live; alloc = heap.alloc; reserve = heap.reserve; rate = heap.rate; refs = heap.refs; nums = heap.nums; registers = heap.registers; fields = most i }
heap_by_version false heap narrow is =
    let few = first_breadth heap.fields heap.registers is narrow in
    λ i. record { live = heap.live; alloc = heap.alloc; reserve = heap.reserve; rate = heap.rate; refs = heap.refs; nums = heap.nums; registers = sym few.1 i; fields = sym few.0 i }

heap_again : (heap : HeapKeys) → is_breadth heap.fields heap.registers ≡ true → heap_in (is_wide heap) (heap_entries heap) ≡ heap
heap_again heap is = heap_by_version (is_wide heap) heap refl is

-- a high task
high_by_fields : (heap : HeapKeys) (name : List ℕ) (timing : Timing) (words lag : ℕ) (arrives : Arrivals) (script : List Statement) → is_breadth heap.fields heap.registers ≡ true → IsScript (limits_of heap.fields heap.registers) script
    → high_in heap (high_entries (record { name = name; timing = timing; words = words; lag = lag; arrivals = arrives; script = script })) ≡ record { name = name; timing = timing; words = words; lag = lag; arrivals = arrives; script = script }
unfolding high_in timing_in arrivals_in script_in
high_by_fields heap name timing words lag (Every first step) script broad is =
    λ i. record { name = name; timing = timing; words = words; lag = lag; arrivals = Every first step; script = read_script (script_again heap script broad is i) }
high_by_fields heap name timing words lag (arrivals.List ticks) script broad is =
    λ i. record { name = name; timing = timing; words = words; lag = lag; arrivals = arrivals.List (numbers_again ticks i); script = read_script (script_again heap script broad is i) }

pub high_again : (heap : HeapKeys) (task : High) → is_breadth heap.fields heap.registers ≡ true → IsScript (limits_of heap.fields heap.registers) task.script → high_in heap (high_entries task) ≡ task
high_again heap task broad is = high_by_fields heap task.name task.timing task.words task.lag task.arrivals task.script broad is

-- a low task
low_by_fields : (heap : HeapKeys) (name : List ℕ) (arrives : Arrivals) (script : List Statement) → is_breadth heap.fields heap.registers ≡ true → IsScript (limits_of heap.fields heap.registers) script
    → low_in heap (low_entries (record { name = name; arrivals = arrives; script = script })) ≡ record { name = name; arrivals = arrives; script = script }
unfolding low_in arrivals_in script_in
low_by_fields heap name (Every first step) script broad is =
    λ i. record { name = name; arrivals = Every first step; script = read_script (script_again heap script broad is i) }
low_by_fields heap name (arrivals.List ticks) script broad is =
    λ i. record { name = name; arrivals = arrivals.List (numbers_again ticks i); script = read_script (script_again heap script broad is i) }

pub low_again : (heap : HeapKeys) (task : Low) → is_breadth heap.fields heap.registers ≡ true → IsScript (limits_of heap.fields heap.registers) task.script → low_in heap (low_entries task) ≡ task
low_again heap task broad is = low_by_fields heap task.name task.arrivals task.script broad is

-- the tasks
highs_again : (ticks : ℕ) (heap : HeapKeys) (tasks : List High) → is_breadth heap.fields heap.registers ≡ true → AllByRecursion (IsHigh ticks heap) tasks → map (high_in heap) (map high_entries tasks) ≡ tasks
highs_again ticks heap [] broad are = refl
highs_again ticks heap (t ∷ tasks) broad are = λ i. high_again heap t broad are.0.script i ∷ highs_again ticks heap tasks broad are.1 i

lows_again : (ticks : ℕ) (heap : HeapKeys) (tasks : List Low) → is_breadth heap.fields heap.registers ≡ true → AllByRecursion (IsLow ticks heap) tasks → map (low_in heap) (map low_entries tasks) ≡ tasks
lows_again ticks heap [] broad are = refl
lows_again ticks heap (t ∷ tasks) broad are = λ i. low_again heap t broad are.0.script i ∷ lows_again ticks heap tasks broad are.1 i

-- the ticks
ticks_again : (sheet : Sheet) → number_at (codes "ticks") (document_of sheet) ≡ sheet.ticks
unfolding document_of
ticks_again sheet = refl

-- the tables of the tasks
pub highs_of-document : (sheet : Sheet) → highs_of (document_of sheet) ≡ map high_entries sheet.high
unfolding document_of
highs_of-document sheet = tables_again high_entries sheet.high

pub lows_of-document : (sheet : Sheet) → lows_of (document_of sheet) ≡ map low_entries sheet.low
unfolding document_of
lows_of-document sheet = tables_again low_entries sheet.low

-- the version, and the heap
pub second_again : (sheet : Sheet) → is_second (document_of sheet) ≡ is_wide sheet.heap
unfolding document_of
second_again sheet = version_again (is_wide sheet.heap)

pub heap_of-document : (sheet : Sheet) → is_breadth sheet.heap.fields sheet.heap.registers ≡ true → heap_of (document_of sheet) ≡ sheet.heap
unfolding heap_of document_of
heap_of-document sheet is = ap (λ second. heap_in second (heap_entries sheet.heap)) (version_again (is_wide sheet.heap)) ∙ heap_again sheet.heap is

-- the sheet
pub sheet_again : (sheet : Sheet) → IsSheet sheet → sheet_in (document_of sheet) ≡ sheet
unfolding sheet_in
sheet_again sheet is =
    let document = document_of sheet in
    let heap = heap_of-document sheet is.heap.breadth in
    let high : map (high_in (heap_of document)) (highs_of document) ≡ sheet.high = (λ i. map (high_in (heap i)) (highs_of-document sheet i)) ∙ highs_again sheet.ticks sheet.heap sheet.high is.heap.breadth is.high in
    let low : map (low_in (heap_of document)) (lows_of document) ≡ sheet.low = (λ i. map (low_in (heap i)) (lows_of-document sheet i)) ∙ lows_again sheet.ticks sheet.heap sheet.low is.heap.breadth is.low in
    let ticks : number_at (codes "ticks") document ≡ sheet.ticks = ticks_again sheet in
    λ i. record { ticks = ticks i; heap = heap i; high = high i; low = low i }
