-- The document of a sheet has no fault.
use Rattle.std.proofs.Common.{◌≡◌, ℕ, ◌+◌, ◌-◌, ◌<◌, ◌≤◌, ◌==◌, if◌then◌else◌, Bool, true, false, List, [], ◌∷◌, length, map, codes, Option, Some, None, is_some, Ok, refl, ap, sym, arith}
use Rattle.std.specs.List.{AllByRecursion, list_all}
use Rattle.std.specs.Str.{bytes_eq}
use Rattle.std.proofs.lemmas.Bool.{both_ways, false_from_ne_true, le-leb, le-ltb, or_from, or_parts}
use Rattle.std.proofs.lemmas.Bool.Decides.{nat_tests}
use Rattle.std.proofs.lemmas.List.{length-map, map-append}
use Rattle.std.proofs.lemmas.Slice.Eq.{bytes_eq-Decides}
use Rattle.toml.specs.Data.{Data, string, array, table, Members, get_member, as_table}
use Rattle.toml.specs.View.{items_of}
use Rattle.hk_rta.specs.declared.Timing.{Timing}
use Rattle.hk_script.specs.Limits.{limits_of}
use Rattle.hk_script.specs.Blocks.{IsScript}
use Rattle.hk_script.specs.Printing.{text_of}
use Rattle.hk_script.specs.declared.statement.Statement.{Statement}
use Rattle.hk_sheet.specs.declared.arrivals.Arrivals.{Arrivals}
use Rattle.hk_sheet.specs.declared.arrivals.Arrivals.TheVariants.{Every}
use Rattle.hk_sheet.specs.declared.arrivals.Arrivals.TheVariants as arrivals
use Rattle.hk_sheet.specs.declared.error.SheetError.{SheetError}
use Rattle.hk_sheet.specs.declared.sheet.HeapKeys.{HeapKeys}
use Rattle.hk_sheet.specs.declared.sheet.High.{High}
use Rattle.hk_sheet.specs.declared.sheet.Low.{Low}
use Rattle.hk_sheet.specs.declared.sheet.Sheet.{Sheet}
use Rattle.hk_sheet.specs.Rules.{Kind, number, pair, ticks_of_run, text, one_table, tables, Rule, needs, may_have, wrong_in, is_in, is_integer, number_at, is_second, top_rules, keys_in, register_rules, heap_rules, arrival_rules, time_rules, task_rules}
use Rattle.hk_sheet.specs.Reading.{text_at, timing_in, arrivals_in, high_in, low_in, highs_of, lows_of, heap_of, sheet_in}
use Rattle.hk_sheet.specs.Faults.{first_of, is_known, unknown_keys, unknown_fault, fault_of_key, fault_of_table, faults_of_tasks, task_path, is_name, is_among, faults_of_names, faults_of_ticks, fault_of_arrivals, fault_of_high_arrivals, fault_of_low_arrivals, fault_of_script, fault_of_geometry, tasks_of, names_of, fault_of_tables, fault_of_contents, fault_of, sheet_of}
use Rattle.hk_sheet.specs.Printing.{is_wide, version_of, heap_table, number_data, numbers_data, heap_entries, high_entries, low_entries, high_data, low_data, document_of}
use Rattle.hk_sheet.specs.Valid.{is_breadth, IsFrom, IsHeap, AreSpaced, AreArrivals, IsTiming, IsHigh, IsLow, AreDistinct, names_in, IsSheet}
use Rattle.hk_sheet.proofs.FaultOrder.{AreNone, all_append}
use Rattle.hk_sheet.proofs.Redeclared.{elements_again, script_again, high_again, low_again, second_again, heap_of-document, highs_of-document, lows_of-document, sheet_again}

-- FAULTS

pub first_of_none : (faults : List (Option SheetError)) → AreNone faults → first_of faults ≡ None
first_of_none [] none = refl
first_of_none (fault ∷ faults) none = rw none.0 (first_of_none faults none.1)

pub none_map : {A : Type 0} (fault : A → Option SheetError) (xs : List A) → AllByRecursion (λ x. fault x ≡ None) xs → AreNone (map fault xs)
none_map fault [] none = tt
none_map fault (x ∷ xs) none = (none.0, none_map fault xs none.1)

-- KEYS

number_fits : (low high n : ℕ) → low ≤ n → n ≤ high → wrong_in (number low high) (number_data n) ≡ None
number_fits low high n least most = rw (le-leb low n least, le-leb n high most)

pair_fits : (high a b : ℕ) → a ≤ high → b ≤ high → wrong_in (pair high) (numbers_data (a ∷ b ∷ [])) ≡ None
pair_fits high a b first second =
    let none : 0 ≤ a = omega arith in
    let also : 0 ≤ b = omega arith in
    rw (le-leb 0 a none, le-leb 0 b also, le-leb a high first, le-leb b high second)

are_integers_again : (numbers : List ℕ) → list_all is_integer (map number_data numbers) ≡ true
are_integers_again [] = refl
are_integers_again (n ∷ numbers) = are_integers_again numbers

are_in_run : (ticks : ℕ) (numbers : List ℕ) → AllByRecursion (λ tick. tick < ticks) numbers → list_all (is_in 0 (ticks - 1)) (map number_data numbers) ≡ true
are_in_run ticks [] before = refl
are_in_run ticks (n ∷ numbers) before =
    let here : n < ticks = before.0 in
    let least : 0 ≤ n = omega arith in
    let most : n ≤ ticks - 1 = omega arith in
    rw (le-leb 0 n least, le-leb n (ticks - 1) most, are_in_run ticks numbers before.1)

ticks_fit : (ticks : ℕ) (numbers : List ℕ) → AllByRecursion (λ tick. tick < ticks) numbers → length numbers ≤ 4096 → wrong_in (ticks_of_run ticks) (numbers_data numbers) ≡ None
ticks_fit ticks numbers before few =
    rw (elements_again (map number_data numbers), are_integers_again numbers, length-map numbers number_data, le-leb (length numbers) 4096 few, are_in_run ticks numbers before)

are_tables : {A : Type 0} (entries : A → Members) (tasks : List A) → list_all (λ d. is_some (as_table d)) (map (λ task. table (entries task)) tasks) ≡ true
are_tables entries [] = refl
are_tables entries (t ∷ tasks) = are_tables entries tasks

tables_fit : {A : Type 0} (entries : A → Members) (tasks : List A) → wrong_in tables (array (items_of (map (λ task. table (entries task)) tasks))) ≡ None
tables_fit entries tasks = rw (elements_again (map (λ task. table (entries task)) tasks), are_tables entries tasks)

-- a key whose value fits has no fault
key_fits : (path key : List ℕ) (entries : Members) (kind : Kind) (d : Data) → get_member key entries ≡ Some d → wrong_in kind d ≡ None → fault_of_key path entries (needs key kind) ≡ None
key_fits path key entries kind d holds fits = rw (holds, fits)

key_may_fit : (path key : List ℕ) (entries : Members) (kind : Kind) (d : Data) → get_member key entries ≡ Some d → wrong_in kind d ≡ None → fault_of_key path entries (may_have key kind) ≡ None
key_may_fit path key entries kind d holds fits = rw (holds, fits)

key_number : (path key : List ℕ) (entries : Members) (low high n : ℕ) → get_member key entries ≡ Some (number_data n) → low ≤ n → n ≤ high → fault_of_key path entries (needs key (number low high)) ≡ None
key_number path key entries low high n holds least most = key_fits path key entries (number low high) (number_data n) holds (number_fits low high n least most)

key_may_number : (path key : List ℕ) (entries : Members) (high n : ℕ) → get_member key entries ≡ Some (number_data n) → n ≤ high → fault_of_key path entries (may_have key (number 0 high)) ≡ None
key_may_number path key entries high n holds most = key_may_fit path key entries (number 0 high) (number_data n) holds (number_fits 0 high n (omega arith) most)

-- a jitter below a deadline
before_last : (jitter deadline : ℕ) → jitter < deadline → jitter ≤ deadline - 1
before_last jitter deadline below = omega arith

key_text : (path key : List ℕ) (entries : Members) (s : List ℕ) → get_member key entries ≡ Some (string s) → fault_of_key path entries (needs key text) ≡ None
key_text path key entries s holds = key_fits path key entries text (string s) holds refl

-- two facts
also : {A B : Type 0} → A → B → A × B
also first rest = (first, rest)

-- a table with no unknown key and no fault of a key
table_unfaulted : (path : List ℕ) (rules : List Rule) (entries : Members) → unknown_keys (keys_in rules) entries ≡ [] → AllByRecursion (λ rule. fault_of_key path entries rule ≡ None) rules → fault_of_table path rules entries ≡ None
unfolding fault_of_table unknown_fault
table_unfaulted path rules entries known none = rw known (first_of_none _ (none_map (fault_of_key path entries) rules none))

-- the registers of a heap of version 2
wide_registers : (fields registers : ℕ) → is_breadth fields registers ≡ true → fields == 254 ≡ true → IsFrom 2 32 registers
wide_registers fields registers is wide = record { at_least = grind (arith, nat_tests); at_most = grind (arith, nat_tests) }

-- the heap, in version 2 and in version 1
module _ (path : List ℕ) (heap : HeapKeys) (is : IsHeap heap) where
  heap_by_version : (second : Bool) → is_wide heap ≡ second → fault_of_table path (heap_rules second) (heap_table second heap) ≡ None
  unfolding heap_rules register_rules is_known
  heap_by_version true wide =
      let entries = heap_table true heap in
      let many = wide_registers heap.fields heap.registers is.breadth wide in
      table_unfaulted path (heap_rules true) entries refl
      (also (key_number path (codes "live") entries 0 1000000 heap.live refl (omega arith) is.live)
      (also (key_number path (codes "alloc") entries 0 1000000 heap.alloc refl (omega arith) is.alloc)
      (also (key_number path (codes "reserve") entries 0 1000000 heap.reserve refl (omega arith) is.reserve)
      (also (key_number path (codes "rate") entries 1 4096 heap.rate refl is.rate.at_least is.rate.at_most)
      (also (key_fits path (codes "board") entries (pair 255) (numbers_data (heap.refs ∷ heap.nums ∷ [])) refl (pair_fits 255 heap.refs heap.nums is.refs is.nums))
      (also (key_number path (codes "registers") entries 2 32 heap.registers refl many.at_least many.at_most)
      tt))))))
  heap_by_version false narrow =
      let entries = heap_table false heap in
      table_unfaulted path (heap_rules false) entries refl
      (also (key_number path (codes "live") entries 0 1000000 heap.live refl (omega arith) is.live)
      (also (key_number path (codes "alloc") entries 0 1000000 heap.alloc refl (omega arith) is.alloc)
      (also (key_number path (codes "reserve") entries 0 1000000 heap.reserve refl (omega arith) is.reserve)
      (also (key_number path (codes "rate") entries 1 4096 heap.rate refl is.rate.at_least is.rate.at_most)
      (also (key_fits path (codes "board") entries (pair 255) (numbers_data (heap.refs ∷ heap.nums ∷ [])) refl (pair_fits 255 heap.refs heap.nums is.refs is.nums))
      tt)))))

  heap_unfaulted : fault_of_table path (heap_rules (is_wide heap)) (heap_entries heap) ≡ None
  heap_unfaulted = heap_by_version (is_wide heap) refl

-- a high task
high_fields : (path name : List ℕ) (timing : Timing) (words lag : ℕ) (arrives : Arrivals) (script : List Statement) (ticks : ℕ)
    → IsTiming timing → words ≤ 16777216 → lag ≤ 16777216 → AreArrivals ticks timing.period arrives
    → let entries = high_entries (record { name = name; timing = timing; words = words; lag = lag; arrivals = arrives; script = script }) in fault_of_table path (task_rules true ticks entries) entries ≡ None
unfolding task_rules time_rules arrival_rules is_known
high_fields path name timing words lag (Every first step) script ticks times few small arrive =
    let entries = high_entries (record { name = name; timing = timing; words = words; lag = lag; arrivals = Every first step; script = script }) in
    table_unfaulted path (task_rules true ticks entries) entries refl
    (also (key_text path (codes "name") entries name refl)
    (also (key_number path (codes "period") entries 1 16777216 timing.period refl times.period.at_least times.period.at_most)
    (also (key_number path (codes "deadline") entries 1 timing.period timing.deadline refl times.deadline.at_least times.deadline.at_most)
    (also (key_number path (codes "cost") entries 1 16777216 timing.cost refl times.cost.at_least times.cost.at_most)
    (also (key_number path (codes "words") entries 0 16777216 words refl (omega arith) few)
    (also (key_may_number path (codes "jitter") entries (timing.deadline - 1) timing.jitter refl (before_last timing.jitter timing.deadline times.jitter))
    (also (key_may_number path (codes "lag") entries 16777216 lag refl small)
    (also (key_number path (codes "first") entries 0 16777216 first refl (omega arith) arrive.0)
    (also (key_number path (codes "every") entries 1 16777216 step refl arrive.1.at_least arrive.1.at_most)
    (also (key_text path (codes "script") entries (text_of script) refl)
    tt))))))))))
high_fields path name timing words lag (arrivals.List numbers) script ticks times few small arrive =
    let entries = high_entries (record { name = name; timing = timing; words = words; lag = lag; arrivals = arrivals.List numbers; script = script }) in
    table_unfaulted path (task_rules true ticks entries) entries refl
    (also (key_text path (codes "name") entries name refl)
    (also (key_number path (codes "period") entries 1 16777216 timing.period refl times.period.at_least times.period.at_most)
    (also (key_number path (codes "deadline") entries 1 timing.period timing.deadline refl times.deadline.at_least times.deadline.at_most)
    (also (key_number path (codes "cost") entries 1 16777216 timing.cost refl times.cost.at_least times.cost.at_most)
    (also (key_number path (codes "words") entries 0 16777216 words refl (omega arith) few)
    (also (key_may_number path (codes "jitter") entries (timing.deadline - 1) timing.jitter refl (before_last timing.jitter timing.deadline times.jitter))
    (also (key_may_number path (codes "lag") entries 16777216 lag refl small)
    (also (key_fits path (codes "arrivals") entries (ticks_of_run ticks) (numbers_data numbers) refl (ticks_fit ticks numbers arrive.0 arrive.1))
    (also (key_text path (codes "script") entries (text_of script) refl)
    tt)))))))))

high_unfaulted : (path : List ℕ) (ticks : ℕ) (heap : HeapKeys) (task : High) → IsHigh ticks heap task → fault_of_table path (task_rules true ticks (high_entries task)) (high_entries task) ≡ None
high_unfaulted path ticks heap task is = high_fields path task.name task.timing task.words task.lag task.arrivals task.script ticks is.timing is.words is.lag is.arrivals

-- a low task
low_fields : (path name : List ℕ) (arrives : Arrivals) (script : List Statement) (ticks : ℕ) → AreArrivals ticks 1 arrives
    → let entries = low_entries (record { name = name; arrivals = arrives; script = script }) in fault_of_table path (task_rules false ticks entries) entries ≡ None
unfolding task_rules time_rules arrival_rules is_known
low_fields path name (Every first step) script ticks arrive =
    let entries = low_entries (record { name = name; arrivals = Every first step; script = script }) in
    table_unfaulted path (task_rules false ticks entries) entries refl
    (also (key_text path (codes "name") entries name refl)
    (also (key_number path (codes "first") entries 0 16777216 first refl (omega arith) arrive.0)
    (also (key_number path (codes "every") entries 1 16777216 step refl arrive.1.at_least arrive.1.at_most)
    (also (key_text path (codes "script") entries (text_of script) refl)
    tt))))
low_fields path name (arrivals.List numbers) script ticks arrive =
    let entries = low_entries (record { name = name; arrivals = arrivals.List numbers; script = script }) in
    table_unfaulted path (task_rules false ticks entries) entries refl
    (also (key_text path (codes "name") entries name refl)
    (also (key_fits path (codes "arrivals") entries (ticks_of_run ticks) (numbers_data numbers) refl (ticks_fit ticks numbers arrive.0 arrive.1))
    (also (key_text path (codes "script") entries (text_of script) refl)
    tt)))

low_unfaulted : (path : List ℕ) (ticks : ℕ) (heap : HeapKeys) (task : Low) → IsLow ticks heap task → fault_of_table path (task_rules false ticks (low_entries task)) (low_entries task) ≡ None
low_unfaulted path ticks heap task is = low_fields path task.name task.arrivals task.script ticks is.arrivals

-- the version is 1 or 2
version_from : (second : Bool) → IsFrom 1 2 (if second then 2 else 1)
version_from true = record { at_least = omega arith; at_most = omega arith }
version_from false = record { at_least = omega arith; at_most = omega arith }

-- the document's own table
top_unfaulted : (sheet : Sheet) → IsSheet sheet → fault_of_table [] top_rules (document_of sheet) ≡ None
unfolding top_rules document_of is_known
top_unfaulted sheet is =
    table_unfaulted [] top_rules (document_of sheet) refl
    (also (key_number [] (codes "version") (document_of sheet) 1 2 (version_of sheet.heap) refl (version_from (is_wide sheet.heap)).at_least (version_from (is_wide sheet.heap)).at_most)
    (also (key_number [] (codes "ticks") (document_of sheet) 1 16777216 sheet.ticks refl is.ticks.at_least is.ticks.at_most)
    (also (key_fits [] (codes "heap") (document_of sheet) one_table (table (heap_entries sheet.heap)) refl refl)
    (also (key_may_fit [] (codes "high") (document_of sheet) tables (array (items_of (map high_data sheet.high))) refl (tables_fit high_entries sheet.high))
    (also (key_may_fit [] (codes "low") (document_of sheet) tables (array (items_of (map low_data sheet.low))) refl (tables_fit low_entries sheet.low))
    tt)))))

-- the tables of the tasks
tasks_unfaulted : {T : Type 0} (is : T → Type 0) (entries : T → Members) (kind : List ℕ) (rules : Members → List Rule) → ((path : List ℕ) (task : T) → is task → fault_of_table path (rules (entries task)) (entries task) ≡ None)
    → (index : ℕ) (tasks : List T) → AllByRecursion is tasks → AreNone (faults_of_tasks kind rules index (map entries tasks))
tasks_unfaulted is entries kind rules none index [] are = tt
tasks_unfaulted is entries kind rules none index (t ∷ tasks) are = (none (task_path kind index) t are.0, tasks_unfaulted is entries kind rules none (index + 1) tasks are.1)

tables_unfaulted : (sheet : Sheet) → IsSheet sheet → fault_of_tables (document_of sheet) ≡ None
unfolding fault_of_tables document_of
tables_unfaulted sheet is =
    let highs : AreNone (faults_of_tasks (codes "high") (task_rules true sheet.ticks) 0 (highs_of (document_of sheet))) =
    rw (highs_of-document sheet) (tasks_unfaulted (IsHigh sheet.ticks sheet.heap) high_entries (codes "high") (task_rules true sheet.ticks) (λ path task keeps. high_unfaulted path sheet.ticks sheet.heap task keeps) 0 sheet.high is.high) in
    let lows : AreNone (faults_of_tasks (codes "low") (task_rules false sheet.ticks) 0 (lows_of (document_of sheet))) =
    rw (lows_of-document sheet) (tasks_unfaulted (IsLow sheet.ticks sheet.heap) low_entries (codes "low") (task_rules false sheet.ticks) (λ path task keeps. low_unfaulted path sheet.ticks sheet.heap task keeps) 0 sheet.low is.low) in
    let heap : fault_of_table (codes "heap.") (heap_rules (is_second (document_of sheet))) (heap_entries sheet.heap) ≡ None =
    rw (second_again sheet) (heap_unfaulted (codes "heap.") sheet.heap is.heap) in
    first_of_none (_ ∷ _ ∷ _ ∷ _ ∷ []) (top_unfaulted sheet is, (heap, (first_of_none _ highs, (first_of_none _ lows, tt))))

-- FIELDS

-- the fields of a task stand in its table
high_named : (heap : HeapKeys) (task : High) → is_breadth heap.fields heap.registers ≡ true → IsScript (limits_of heap.fields heap.registers) task.script → text_at (codes "name") (high_entries task) ≡ task.name
unfolding high_in
high_named heap task broad is = ap (λ (t : High). t.name) (high_again heap task broad is)

high_spaced : (heap : HeapKeys) (task : High) → is_breadth heap.fields heap.registers ≡ true → IsScript (limits_of heap.fields heap.registers) task.script → number_at (codes "period") (high_entries task) ≡ task.timing.period
unfolding high_in timing_in
high_spaced heap task broad is = ap (λ (t : High). t.timing.period) (high_again heap task broad is)

high_listed : (heap : HeapKeys) (task : High) → is_breadth heap.fields heap.registers ≡ true → IsScript (limits_of heap.fields heap.registers) task.script → arrivals_in (high_entries task) ≡ task.arrivals
unfolding high_in
high_listed heap task broad is = ap (λ (t : High). t.arrivals) (high_again heap task broad is)

low_named : (heap : HeapKeys) (task : Low) → is_breadth heap.fields heap.registers ≡ true → IsScript (limits_of heap.fields heap.registers) task.script → text_at (codes "name") (low_entries task) ≡ task.name
unfolding low_in
low_named heap task broad is = ap (λ (t : Low). t.name) (low_again heap task broad is)

low_listed : (heap : HeapKeys) (task : Low) → is_breadth heap.fields heap.registers ≡ true → IsScript (limits_of heap.fields heap.registers) task.script → arrivals_in (low_entries task) ≡ task.arrivals
unfolding low_in
low_listed heap task broad is = ap (λ (t : Low). t.arrivals) (low_again heap task broad is)

high_text_by : (name : List ℕ) (timing : Timing) (words lag : ℕ) (arrives : Arrivals) (script : List Statement)
    → text_at (codes "script") (high_entries (record { name = name; timing = timing; words = words; lag = lag; arrivals = arrives; script = script })) ≡ text_of script
high_text_by name timing words lag (Every first step) script = refl
high_text_by name timing words lag (arrivals.List ticks) script = refl

high_text : (task : High) → text_at (codes "script") (high_entries task) ≡ text_of task.script
high_text task = high_text_by task.name task.timing task.words task.lag task.arrivals task.script

low_text_by : (name : List ℕ) (arrives : Arrivals) (script : List Statement) → text_at (codes "script") (low_entries (record { name = name; arrivals = arrives; script = script })) ≡ text_of script
low_text_by name (Every first step) script = refl
low_text_by name (arrivals.List ticks) script = refl

low_text : (task : Low) → text_at (codes "script") (low_entries task) ≡ text_of task.script
low_text task = low_text_by task.name task.arrivals task.script

-- NAMES

pub bytes_differ : (a b : List ℕ) → bytes_eq a b ≡ false → bytes_eq b a ≡ false
bytes_differ a b apart = false_from_ne_true (bytes_eq b a) (λ same. both_ways (bytes_eq a b) apart ((bytes_eq-Decides a b).1 (sym ((bytes_eq-Decides b a).0 same))))

-- none of the names is among the earlier ones
abbrev pub AreNew : (earlier names : List (List ℕ)) → Type 0
AreNew earlier names = AllByRecursion (λ name. is_among earlier name ≡ false) names

new_to_none : (names : List (List ℕ)) → AreNew [] names
new_to_none [] = tt
new_to_none (name ∷ names) = (refl, new_to_none names)

new_to_more : (name : List ℕ) (earlier names : List (List ℕ)) → is_among names name ≡ false → AreNew earlier names → AreNew (name ∷ earlier) names
new_to_more name earlier [] apart new = tt
new_to_more name earlier (other ∷ names) apart new =
    let (here, later) = or_parts (bytes_eq name other) (is_among names name) apart in
    (or_from (bytes_eq other name) (is_among earlier other) (bytes_differ name other here) new.0, new_to_more name earlier names later new.1)

names_unfaulted : (earlier : List (List ℕ)) (index : ℕ) (names : List (List ℕ)) → AllByRecursion (λ name. is_name name ≡ true) names → AreNew earlier names → AreDistinct names
    → AreNone (faults_of_names earlier index names)
names_unfaulted earlier index [] are new distinct = tt
names_unfaulted earlier index (name ∷ names) are new distinct =
    let apart : is_among names name ≡ false = false_from_ne_true (is_among names name) distinct.0 in
    (rw (are.0, new.0), names_unfaulted (name ∷ earlier) (index + 1) names are.1 (new_to_more name earlier names apart new.1) distinct.1)

-- the names of a document of a sheet are those of its tasks
tasks_named : {T : Type 0} (is : T → Type 0) (entries : T → Members) (name : T → List ℕ) → ((task : T) → is task → text_at (codes "name") (entries task) ≡ name task)
    → (tasks : List T) → AllByRecursion is tasks → map (text_at (codes "name")) (map entries tasks) ≡ map name tasks
tasks_named is entries name named [] are = refl
tasks_named is entries name named (t ∷ tasks) are = λ i. named t are.0 i ∷ tasks_named is entries name named tasks are.1 i

names_again : (sheet : Sheet) → IsSheet sheet → names_of (document_of sheet) ≡ names_in sheet
names_again sheet is =
    rw (highs_of-document sheet, lows_of-document sheet, map-append (text_at (codes "name")) (map high_entries sheet.high) (map low_entries sheet.low), tasks_named (IsHigh sheet.ticks sheet.heap) high_entries (λ (task : High). task.name) (λ task keeps. high_named sheet.heap task is.heap.breadth keeps.script) sheet.high is.high, tasks_named (IsLow sheet.ticks sheet.heap) low_entries (λ (task : Low). task.name) (λ task keeps. low_named sheet.heap task is.heap.breadth keeps.script) sheet.low is.low)

tasks_have_names : {T : Type 0} (is : T → Type 0) (name : T → List ℕ) → ((task : T) → is task → is_name (name task) ≡ true) → (tasks : List T) → AllByRecursion is tasks → AllByRecursion (λ name. is_name name ≡ true) (map name tasks)
tasks_have_names is name right [] are = tt
tasks_have_names is name right (t ∷ tasks) are = (right t are.0, tasks_have_names is name right tasks are.1)

sheet_named : (sheet : Sheet) → IsSheet sheet → AreNone (faults_of_names [] 0 (names_of (document_of sheet)))
sheet_named sheet is =
    rw (names_again sheet is)
    (names_unfaulted [] 0 (names_in sheet) (all_append (λ name. is_name name ≡ true) _ _ (tasks_have_names (IsHigh sheet.ticks sheet.heap) (λ (task : High). task.name) (λ task keeps. keeps.name) sheet.high is.high) (tasks_have_names (IsLow sheet.ticks sheet.heap) (λ (task : Low). task.name) (λ task keeps. keeps.name) sheet.low is.low)) (new_to_none (names_in sheet)) is.names)

-- ARRIVALS

ticks_unfaulted : (task : List ℕ) (gap place : ℕ) (ticks : List ℕ) → AreSpaced gap ticks → AreNone (faults_of_ticks task gap place ticks)
ticks_unfaulted task gap place [] spaced = tt
ticks_unfaulted task gap place (tick ∷ []) spaced = tt
ticks_unfaulted task gap place (earlier ∷ later ∷ ticks) spaced = (rw (le-ltb later (earlier + gap) spaced.0), ticks_unfaulted task gap (place + 1) (later ∷ ticks) spaced.1)

arrivals_unfaulted : (task : List ℕ) (ticks gap : ℕ) (arrives : Arrivals) → AreArrivals ticks gap arrives → fault_of_arrivals task gap arrives ≡ None
unfolding fault_of_arrivals
arrivals_unfaulted task ticks gap (Every first step) arrive = rw (le-ltb step gap arrive.2)
arrivals_unfaulted task ticks gap (arrivals.List list) arrive = first_of_none _ (ticks_unfaulted task gap 1 list arrive.2)

high_arrives : (ticks : ℕ) (heap : HeapKeys) → is_breadth heap.fields heap.registers ≡ true → (task : High) → IsHigh ticks heap task → fault_of_high_arrivals (high_entries task) ≡ None
high_arrives ticks heap broad task is = rw (high_named heap task broad is.script, high_spaced heap task broad is.script, high_listed heap task broad is.script) (arrivals_unfaulted task.name ticks task.timing.period task.arrivals is.arrivals)

low_arrives : (ticks : ℕ) (heap : HeapKeys) → is_breadth heap.fields heap.registers ≡ true → (task : Low) → IsLow ticks heap task → fault_of_low_arrivals (low_entries task) ≡ None
low_arrives ticks heap broad task is = rw (low_named heap task broad is.script, low_listed heap task broad is.script) (arrivals_unfaulted task.name ticks 1 task.arrivals is.arrivals)

-- SCRIPTS

high_scripted : (heap : HeapKeys) (task : High) → is_breadth heap.fields heap.registers ≡ true → IsScript (limits_of heap.fields heap.registers) task.script → fault_of_script heap (high_entries task) ≡ None
unfolding fault_of_script
high_scripted heap task broad is = rw (high_text task, script_again heap task.script broad is)

low_scripted : (heap : HeapKeys) (task : Low) → is_breadth heap.fields heap.registers ≡ true → IsScript (limits_of heap.fields heap.registers) task.script → fault_of_script heap (low_entries task) ≡ None
unfolding fault_of_script
low_scripted heap task broad is = rw (low_text task, script_again heap task.script broad is)

-- no task has a fault of its arrivals or of its script
none_at : {T : Type 0} (is : T → Type 0) (entries : T → Members) (fault : Members → Option SheetError) → ((task : T) → is task → fault (entries task) ≡ None) → (tasks : List T) → AllByRecursion is tasks
    → AreNone (map fault (map entries tasks))
none_at is entries fault none [] are = tt
none_at is entries fault none (t ∷ tasks) are = (none t are.0, none_at is entries fault none tasks are.1)

-- THE DOCUMENT

geometry_fits : (sheet : Sheet) → IsSheet sheet → fault_of_geometry (sheet_in (document_of sheet)) ≡ None
unfolding fault_of_geometry
geometry_fits sheet is = rw (sheet_again sheet is, is.geometry)

contents_unfaulted : (sheet : Sheet) → IsSheet sheet → fault_of_contents (document_of sheet) ≡ None
unfolding fault_of_contents
contents_unfaulted sheet is =
    let document = document_of sheet in
    let scripts : AreNone (map (fault_of_script (heap_of document)) (tasks_of document)) =
    rw (highs_of-document sheet, lows_of-document sheet, heap_of-document sheet is.heap.breadth, map-append (fault_of_script sheet.heap) (map high_entries sheet.high) (map low_entries sheet.low))
    (all_append _ _ _
    (none_at (IsHigh sheet.ticks sheet.heap) high_entries (fault_of_script sheet.heap) (λ task keeps. high_scripted sheet.heap task is.heap.breadth keeps.script) sheet.high is.high)
    (none_at (IsLow sheet.ticks sheet.heap) low_entries (fault_of_script sheet.heap) (λ task keeps. low_scripted sheet.heap task is.heap.breadth keeps.script) sheet.low is.low)) in
    let highs : AreNone (map fault_of_high_arrivals (highs_of document)) = rw (highs_of-document sheet) (none_at (IsHigh sheet.ticks sheet.heap) high_entries fault_of_high_arrivals (high_arrives sheet.ticks sheet.heap is.heap.breadth) sheet.high is.high) in
    let lows : AreNone (map fault_of_low_arrivals (lows_of document)) = rw (lows_of-document sheet) (none_at (IsLow sheet.ticks sheet.heap) low_entries fault_of_low_arrivals (low_arrives sheet.ticks sheet.heap is.heap.breadth) sheet.low is.low) in
    first_of_none (_ ∷ _ ∷ _ ∷ _ ∷ []) (first_of_none _ (sheet_named sheet is), (first_of_none _ (all_append _ _ _ highs lows), (first_of_none _ scripts, (geometry_fits sheet is, tt))))

document_unfaulted : (sheet : Sheet) → IsSheet sheet → fault_of (document_of sheet) ≡ None
unfolding fault_of
document_unfaulted sheet is = rw (tables_unfaulted sheet is, contents_unfaulted sheet is)

-- the document of a sheet that can be read is read as that sheet
pub document_again : (sheet : Sheet) → IsSheet sheet → sheet_of (document_of sheet) ≡ Ok sheet
unfolding sheet_of
document_again sheet is = rw (document_unfaulted sheet is, sheet_again sheet is)
