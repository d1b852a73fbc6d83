-- The document of a sheet is shallow, and has no dates: it can be printed and is read again.
use Rattle.std.proofs.Common.{◌≡◌, ℕ, ◌≤◌, Bool, true, false, codes, List, [], ◌∷◌, map, arith, refl}
use Rattle.toml.specs.Data.{table, member, no_members, items_depth, members_depth, items_have_valid_dates, members_have_valid_dates, Members}
use Rattle.toml.specs.View.{items_of}
use Rattle.hk_rta.specs.declared.Timing.{Timing}
use Rattle.hk_script.specs.declared.statement.Statement.{Statement}
use Rattle.hk_sheet.specs.declared.arrivals.Arrivals.{Arrivals}
use Rattle.hk_sheet.specs.declared.arrivals.Arrivals.TheVariants.{Every}
use Rattle.hk_sheet.specs.declared.arrivals.Arrivals.TheVariants as arrivals
use Rattle.hk_sheet.specs.declared.sheet.HeapKeys.{HeapKeys}
use Rattle.hk_sheet.specs.declared.sheet.High.{High}
use Rattle.hk_sheet.specs.declared.sheet.Low.{Low}
use Rattle.hk_sheet.specs.declared.sheet.Sheet.{Sheet}
use Rattle.hk_sheet.specs.Printing.{is_wide, with_registers, number_data, heap_entries, high_entries, low_entries, document_of}

-- DEPTH

numbers_flat : (numbers : List ℕ) → items_depth (items_of (map number_data numbers)) ≡ 0
numbers_flat [] = refl
numbers_flat (n ∷ numbers) = let rest = numbers_flat numbers in omega arith

registers_depth : (second : Bool) (registers : ℕ) (rest : Members) → members_depth rest ≤ 0 → members_depth (with_registers second registers rest) ≤ 0
registers_depth true registers rest flat = omega (arith, flat)
registers_depth false registers rest flat = flat

heap_depth : (heap : HeapKeys) → members_depth (heap_entries heap) ≤ 1
heap_depth heap =
    let last = registers_depth (is_wide heap) heap.registers (member (codes "reserve") (number_data heap.reserve) no_members) (omega arith) in
    omega (arith, last)

high_fields_depth : (name : List ℕ) (timing : Timing) (words lag : ℕ) (arrives : Arrivals) (script : List Statement)
    → members_depth (high_entries (record { name = name; timing = timing; words = words; lag = lag; arrivals = arrives; script = script })) ≤ 1
high_fields_depth name timing words lag (Every first step) script = omega arith
high_fields_depth name timing words lag (arrivals.List ticks) script = let flat = numbers_flat ticks in omega arith

high_depth : (task : High) → members_depth (high_entries task) ≤ 1
high_depth task = high_fields_depth task.name task.timing task.words task.lag task.arrivals task.script

low_fields_depth : (name : List ℕ) (arrives : Arrivals) (script : List Statement)
    → members_depth (low_entries (record { name = name; arrivals = arrives; script = script })) ≤ 1
low_fields_depth name (Every first step) script = omega arith
low_fields_depth name (arrivals.List ticks) script = let flat = numbers_flat ticks in omega arith

low_depth : (task : Low) → members_depth (low_entries task) ≤ 1
low_depth task = low_fields_depth task.name task.arrivals task.script

tables_depth : {A : Type 0} (entries : A → Members) (tasks : List A) → ((task : A) → members_depth (entries task) ≤ 1) → items_depth (items_of (map (λ task. table (entries task)) tasks)) ≤ 2
tables_depth entries [] shallow = omega arith
tables_depth entries (t ∷ tasks) shallow =
    let here = shallow t in
    let rest = tables_depth entries tasks shallow in
    omega arith

pub document_depth : (sheet : Sheet) → members_depth (document_of sheet) ≤ 3
unfolding document_of
document_depth sheet =
    let heap = heap_depth sheet.heap in
    let high = tables_depth high_entries sheet.high high_depth in
    let low = tables_depth low_entries sheet.low low_depth in
    omega arith

-- DATES

numbers_dated : (numbers : List ℕ) → items_have_valid_dates (items_of (map number_data numbers)) ≡ true
numbers_dated [] = refl
numbers_dated (n ∷ numbers) = numbers_dated numbers

high_fields_dated : (name : List ℕ) (timing : Timing) (words lag : ℕ) (arrives : Arrivals) (script : List Statement)
    → members_have_valid_dates (high_entries (record { name = name; timing = timing; words = words; lag = lag; arrivals = arrives; script = script })) ≡ true
high_fields_dated name timing words lag (Every first step) script = refl
high_fields_dated name timing words lag (arrivals.List ticks) script = rw (numbers_dated ticks)

high_dated : (task : High) → members_have_valid_dates (high_entries task) ≡ true
high_dated task = high_fields_dated task.name task.timing task.words task.lag task.arrivals task.script

low_fields_dated : (name : List ℕ) (arrives : Arrivals) (script : List Statement)
    → members_have_valid_dates (low_entries (record { name = name; arrivals = arrives; script = script })) ≡ true
low_fields_dated name (Every first step) script = refl
low_fields_dated name (arrivals.List ticks) script = rw (numbers_dated ticks)

low_dated : (task : Low) → members_have_valid_dates (low_entries task) ≡ true
low_dated task = low_fields_dated task.name task.arrivals task.script

tables_dated : {A : Type 0} (entries : A → Members) (tasks : List A) → ((task : A) → members_have_valid_dates (entries task) ≡ true)
    → items_have_valid_dates (items_of (map (λ task. table (entries task)) tasks)) ≡ true
tables_dated entries [] dated = refl
tables_dated entries (t ∷ tasks) dated = rw (dated t, tables_dated entries tasks dated)

registers_dated : (second : Bool) (registers : ℕ) (reserve : ℕ) → members_have_valid_dates (with_registers second registers (member (codes "reserve") (number_data reserve) no_members)) ≡ true
registers_dated true registers reserve = refl
registers_dated false registers reserve = refl

pub document_dated : (sheet : Sheet) → members_have_valid_dates (document_of sheet) ≡ true
unfolding document_of
document_dated sheet = rw (registers_dated (is_wide sheet.heap) sheet.heap.registers sheet.heap.reserve, tables_dated high_entries sheet.high high_dated, tables_dated low_entries sheet.low low_dated)
