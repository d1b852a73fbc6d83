-- The sheet of a document without a fault is one that the other calls take.
use Rattle.std.proofs.Common.{◌≡◌, ℕ, ◌+◌, ◌-◌, ◌<◌, ◌≤◌, nat_lt, Bool, true, false, not, ◌&&◌, ◌||◌, bytes_eq, List, [], ◌∷◌, ◌++◌, map, codes, Option, Some, None, Result, Ok, Err, option_map, if◌then◌else◌, refl, ap, subst, sym, ◌∙◌, inl, inr, arith}
use Rattle.std.proofs.lemmas.Bool.{cases_Bool, and_parts, false≢true}
use Rattle.std.proofs.lemmas.Bool.Decides.{nat_tests}
use Rattle.std.proofs.lemmas.List.{map-append}
use Rattle.std.specs.List.{AllByRecursion}
use Rattle.toml.specs.Data.{Members}
use Rattle.hk_words.specs.declared.geometry.GeoError.{GeoError}
use Rattle.hk_words.specs.Geometry.{first_error}
use Rattle.hk_script.specs.Limits.{limits_of}
use Rattle.hk_script.specs.Blocks.{IsScript}
use Rattle.hk_script.specs.Texts.{script_of}
use Rattle.hk_script.specs.declared.error.ScriptError.{ScriptError}
use Rattle.hk_script.specs.declared.statement.Statement.{Statement}
use Rattle.hk_script.proofs.Texts.{text_takes}
use Rattle.hk_sheet.specs.declared.error.SheetError.{SheetError}
use Rattle.hk_sheet.specs.declared.error.SheetError.TheVariants as error
use Rattle.hk_sheet.specs.declared.sheet.HeapKeys.{HeapKeys}
use Rattle.hk_sheet.specs.declared.sheet.High.{High}
use Rattle.hk_sheet.specs.declared.sheet.Low.{Low}
use Rattle.hk_sheet.specs.declared.sheet.Sheet.{Sheet}
use Rattle.hk_sheet.specs.Rules.{Rule, needs, text, number_at, is_second, has_list, register_rules, arrival_rules, top_rules, heap_rules, time_rules, task_rules}
use Rattle.hk_sheet.specs.Reading.{text_at, table_at, numbers_at, highs_of, lows_of, registers_in, fields_in, heap_in, heap_of, arrivals_in, timing_in, script_in, read_script, high_in, low_in, sheet_in}
use Rattle.hk_sheet.specs.Faults.{first_of, counted, fault_of_key, fault_of_table, faults_of_tasks, task_path, is_name, is_among, faults_of_names, names_of, faults_of_ticks, fault_of_arrivals, fault_of_high_arrivals, fault_of_low_arrivals, fault_of_text, fault_of_script, sizes_of, fault_of_geometry, tasks_of, fault_of_tables, fault_of_contents, fault_of}
use Rattle.hk_sheet.specs.Valid.{is_breadth, IsFrom, IsHeap, AreSpaced, AreArrivals, IsHigh, IsLow, AreDistinct, names_in, IsSheet}
use Rattle.hk_sheet.proofs.NameOrder.{bytes_eq-flip}
use Rattle.hk_sheet.proofs.FaultOrder.{first_of-append, neither, none_of}
use Rattle.hk_sheet.proofs.Ranges.{no_key_fault, number_key, optional_key, pair_key, ticks_key}

-- THE HEAP

breadth_of : (registers : ℕ) → IsFrom 2 32 registers → is_breadth 254 registers ≡ true
breadth_of registers are = grind (arith, nat_tests, are.at_least, are.at_most)

breadth_right : (path : List ℕ) (second : Bool) (entries : Members) → AllByRecursion (λ rule. fault_of_key path entries rule ≡ None) (register_rules second)
    → is_breadth (fields_in second) (registers_in second entries) ≡ true
unfolding register_rules
breadth_right path true entries keys = breadth_of (number_at (codes "registers") entries) (number_key path (codes "registers") 2 32 entries keys.0)
breadth_right path false entries keys = refl

pub heap_right : (second : Bool) (entries : Members) → fault_of_table (codes "heap.") (heap_rules second) entries ≡ None → IsHeap (heap_in second entries)
unfolding heap_rules heap_in
heap_right second entries none =
    let path = codes "heap." in
    let keys = no_key_fault path (heap_rules second) entries none in
    let pair = pair_key path (codes "board") 255 entries keys.1.1.1.1.0 in
    record {
      live = (number_key path (codes "live") 0 1000000 entries keys.0).at_most;
      alloc = (number_key path (codes "alloc") 0 1000000 entries keys.1.0).at_most;
      reserve = (number_key path (codes "reserve") 0 1000000 entries keys.1.1.0).at_most;
      rate = number_key path (codes "rate") 1 4096 entries keys.1.1.1.0;
      refs = pair.0;
      nums = pair.1;
      breadth = breadth_right path second entries keys.1.1.1.1.1;
    }

-- NAMES

-- a name that is right, after earlier ones
name_right : (index : ℕ) (right : Bool) → (if right then None else Some (error.Name (counted index))) ≡ None → right ≡ true
name_right index true none = refl
name_right index false none = cc

or_false : (a b : Bool) → (a || b) ≡ false → (a ≡ false) × (b ≡ false)
or_false true b is = cc
or_false false b is = (refl, is)

not_true : (a : Bool) → not a ≡ true → a ≡ false
not_true true is = cc
not_true false is = refl

-- names without a fault are each right
names_right : (earlier : List (List ℕ)) (index : ℕ) (names : List (List ℕ)) → first_of (faults_of_names earlier index names) ≡ None → AllByRecursion (λ name. is_name name ≡ true) names
names_right earlier index [] none = tt
names_right earlier index (name ∷ rest) none =
    let fault = if is_name name && not (is_among earlier name) then None else Some (error.Name (counted index)) in
    let parts = neither fault (first_of (faults_of_names (name ∷ earlier) (index + 1) rest)) none in
    ((and_parts (is_name name) (not (is_among earlier name)) (name_right index _ parts.0)).0, names_right (name ∷ earlier) (index + 1) rest parts.1)

-- a name that stands before them isn't among them
apart : (name : List ℕ) (earlier : List (List ℕ)) (index : ℕ) (names : List (List ℕ)) → ((other : List ℕ) → is_among earlier other ≡ false → bytes_eq other name ≡ false)
    → first_of (faults_of_names earlier index names) ≡ None → is_among names name ≡ false
apart name earlier index [] tells none = refl
apart name earlier index (other ∷ rest) tells none =
    let fault = if is_name other && not (is_among earlier other) then None else Some (error.Name (counted index)) in
    let parts = neither fault (first_of (faults_of_names (other ∷ earlier) (index + 1) rest)) none in
    let new = not_true _ (and_parts (is_name other) (not (is_among earlier other)) (name_right index _ parts.0)).1 in
    rw (bytes_eq-flip name other, tells other new)
    (apart name (other ∷ earlier) (index + 1) rest (λ another is. tells another (or_false (bytes_eq another other) (is_among earlier another) is).1) parts.1)

names_distinct : (earlier : List (List ℕ)) (index : ℕ) (names : List (List ℕ)) → first_of (faults_of_names earlier index names) ≡ None → AreDistinct names
names_distinct earlier index [] none = tt
names_distinct earlier index (name ∷ rest) none =
    let fault = if is_name name && not (is_among earlier name) then None else Some (error.Name (counted index)) in
    let parts = neither fault (first_of (faults_of_names (name ∷ earlier) (index + 1) rest)) none in
    let free = apart name (name ∷ earlier) (index + 1) rest (λ other is. (or_false (bytes_eq other name) (is_among earlier other) is).0) parts.1 in
    (λ among. false≢true (sym free ∙ among), names_distinct (name ∷ earlier) (index + 1) rest parts.1)

-- ARRIVALS

apart_enough : (task : List ℕ) (place earlier later gap : ℕ) → (if nat_lt later (earlier + gap) then Some (error.Arrivals task (counted place) earlier later) else None) ≡ None → earlier + gap ≤ later
apart_enough task place earlier later gap none =
    elim (cases_Bool (nat_lt later (earlier + gap))) [
      | inl close ↦ (let some = rw close at none in cc)
      | inr wide ↦ grind (arith, nat_tests)
    ]

spaced : (task : List ℕ) (gap place : ℕ) (ticks : List ℕ) → first_of (faults_of_ticks task gap place ticks) ≡ None → AreSpaced gap ticks
spaced task gap place [] none = tt
spaced task gap place (tick ∷ []) none = tt
spaced task gap place (earlier ∷ later ∷ rest) none =
    let fault = if nat_lt later (earlier + gap) then Some (error.Arrivals task (counted place) earlier later) else None in
    let parts = neither fault (first_of (faults_of_ticks task gap (place + 1) (later ∷ rest))) none in
    (apart_enough task place earlier later gap parts.0, spaced task gap (place + 1) (later ∷ rest) parts.1)

step_enough : (task : List ℕ) (gap first step : ℕ) → (if nat_lt step gap then Some (error.Arrivals task 1 first (first + step)) else None) ≡ None → gap ≤ step
step_enough task gap first step none =
    elim (cases_Bool (nat_lt step gap)) [
      | inl close ↦ (let some = rw close at none in cc)
      | inr wide ↦ grind (arith, nat_tests)
    ]

-- SCRIPTS

script_right : (fields registers : ℕ) (task source : List ℕ) (read : Result (List Statement) ScriptError) → script_of (limits_of fields registers) source ≡ read → fault_of_text task read ≡ None → IsScript (limits_of fields registers) (read_script read)
script_right fields registers task source (Ok script) is none = (text_takes (limits_of fields registers) source script is).script
script_right fields registers task source (Err fault) is none = cc

pub script_of_table : (heap : HeapKeys) (entries : Members) → fault_of_script heap entries ≡ None → IsScript (limits_of heap.fields heap.registers) (script_in heap entries)
unfolding fault_of_script script_in
script_of_table heap entries none = script_right heap.fields heap.registers (text_at (codes "name") entries) (text_at (codes "script") entries) (script_of (limits_of heap.fields heap.registers) (text_at (codes "script") entries)) refl none

-- THE GEOMETRY

no_geometry_fault : (o : Option GeoError) → option_map error.Geometry o ≡ None → o ≡ None
no_geometry_fault None none = refl
no_geometry_fault (Some fault) none = cc

geometry_right : (sheet : Sheet) → fault_of_geometry sheet ≡ None → first_error sheet.heap.fields (sizes_of sheet) ≡ None
unfolding fault_of_geometry
geometry_right sheet none = no_geometry_fault (first_error sheet.heap.fields (sizes_of sheet)) none

-- THE TASKS

module _ (path : List ℕ) (ticks gap : ℕ) (some : 1 ≤ ticks) (entries : Members) where
  -- when the jobs arrive, by the rules on them
  arrivals_right : (listed : Bool) (behind : List Rule) → has_list entries ≡ listed → AllByRecursion (λ rule. fault_of_key path entries rule ≡ None) (arrival_rules ticks listed ++ behind)
      → fault_of_arrivals (text_at (codes "name") entries) gap (arrivals_in entries) ≡ None → AreArrivals ticks gap (arrivals_in entries)
  unfolding arrival_rules arrivals_in fault_of_arrivals
  arrivals_right true behind is keys none =
      let list = ticks_key path (codes "arrivals") ticks entries some keys.0 in
      rw is (list.0, list.1, spaced (text_at (codes "name") entries) gap 1 (numbers_at (codes "arrivals") entries) (rw is at none))
  arrivals_right false behind is keys none =
      let first = number_key path (codes "first") 0 16777216 entries keys.0 in
      let step = number_key path (codes "every") 1 16777216 entries keys.1.0 in
      rw is (first.at_most, step, step_enough (text_at (codes "name") entries) gap (number_at (codes "first") entries) (number_at (codes "every") entries) (rw is at none))

-- a jitter below the deadline
below_deadline : (deadline jitter : ℕ) → 1 ≤ deadline → jitter ≤ deadline - 1 → jitter < deadline
below_deadline deadline jitter some within = omega arith

high_right : (heap : HeapKeys) (path : List ℕ) (ticks : ℕ) (entries : Members) → 1 ≤ ticks → fault_of_table path (task_rules true ticks entries) entries ≡ None → is_name (text_at (codes "name") entries) ≡ true
    → fault_of_high_arrivals entries ≡ None → fault_of_script heap entries ≡ None → IsHigh ticks heap (high_in heap entries)
unfolding task_rules time_rules high_in timing_in
high_right heap path ticks entries some keys_none name arrivals_none script_none =
    let keys = no_key_fault path (task_rules true ticks entries) entries keys_none in
    record {
      name = name;
      timing = record {
        period = number_key path (codes "period") 1 16777216 entries keys.1.0;
        deadline = number_key path (codes "deadline") 1 (number_at (codes "period") entries) entries keys.1.1.0;
        cost = number_key path (codes "cost") 1 16777216 entries keys.1.1.1.0;
        jitter = below_deadline (number_at (codes "deadline") entries) (number_at (codes "jitter") entries) (number_key path (codes "deadline") 1 (number_at (codes "period") entries) entries keys.1.1.0).at_least
            (optional_key path (codes "jitter") (number_at (codes "deadline") entries - 1) entries keys.1.1.1.1.1.0);
      };
      words = (number_key path (codes "words") 0 16777216 entries keys.1.1.1.1.0).at_most;
      lag = optional_key path (codes "lag") 16777216 entries keys.1.1.1.1.1.1.0;
      arrivals = arrivals_right path ticks (number_at (codes "period") entries) some entries (has_list entries) (needs (codes "script") text ∷ []) refl keys.1.1.1.1.1.1.1 arrivals_none;
      script = script_of_table heap entries script_none;
    }

low_right : (heap : HeapKeys) (path : List ℕ) (ticks : ℕ) (entries : Members) → 1 ≤ ticks → fault_of_table path (task_rules false ticks entries) entries ≡ None → is_name (text_at (codes "name") entries) ≡ true
    → fault_of_low_arrivals entries ≡ None → fault_of_script heap entries ≡ None → IsLow ticks heap (low_in heap entries)
unfolding task_rules time_rules low_in
low_right heap path ticks entries some keys_none name arrivals_none script_none =
    let keys = no_key_fault path (task_rules false ticks entries) entries keys_none in
    record {
      name = name;
      arrivals = arrivals_right path ticks 1 some entries (has_list entries) (needs (codes "script") text ∷ []) refl keys.1 arrivals_none;
      script = script_of_table heap entries script_none;
    }

-- all tasks of a kind
tasks_right : {T : Type 0} (is : T → Type 0) (say : Members → T) (kind : List ℕ) (rules : Members → List Rule) (gaps scripts : Members → Option SheetError)
    → ((path : List ℕ) (entries : Members) → fault_of_table path (rules entries) entries ≡ None → is_name (text_at (codes "name") entries) ≡ true → gaps entries ≡ None → scripts entries ≡ None → is (say entries))
    → (index : ℕ) (tasks : List Members) → first_of (faults_of_tasks kind rules index tasks) ≡ None → AllByRecursion (λ entries. is_name (text_at (codes "name") entries) ≡ true) tasks
    → AllByRecursion (λ entries. gaps entries ≡ None) tasks → AllByRecursion (λ entries. scripts entries ≡ None) tasks → AllByRecursion is (map say tasks)
tasks_right is say kind rules gaps scripts right index [] keys names spaced_none scripts_none = tt
tasks_right is say kind rules gaps scripts right index (entries ∷ rest) keys names spaced_none scripts_none =
    let parts = neither (fault_of_table (task_path kind index) (rules entries) entries) (first_of (faults_of_tasks kind rules (index + 1) rest)) keys in
    (right (task_path kind index) entries parts.0 names.0 spaced_none.0 scripts_none.0, tasks_right is say kind rules gaps scripts right (index + 1) rest parts.1 names.1 spaced_none.1 scripts_none.1)

-- what holds of all of two lists holds of each
split_all : (P : List ℕ → Type 0) (xs ys : List Members) → AllByRecursion P (map (text_at (codes "name")) (xs ++ ys))
    → AllByRecursion (λ entries. P (text_at (codes "name") entries)) xs × AllByRecursion (λ entries. P (text_at (codes "name") entries)) ys
split_all P [] [] all = (tt, tt)
split_all P [] (y ∷ ys) all = (tt, (all.0, (split_all P [] ys all.1).1))
split_all P (x ∷ xs) ys all = let rest = split_all P xs ys all.1 in ((all.0, rest.0), rest.1)

high_names : (heap : HeapKeys) (tasks : List Members) → map (λ (task : High). task.name) (map (high_in heap) tasks) ≡ map (text_at (codes "name")) tasks
unfolding high_in
high_names heap [] = refl
high_names heap (entries ∷ rest) = ap (λ names. text_at (codes "name") entries ∷ names) (high_names heap rest)

low_names : (heap : HeapKeys) (tasks : List Members) → map (λ (task : Low). task.name) (map (low_in heap) tasks) ≡ map (text_at (codes "name")) tasks
unfolding low_in
low_names heap [] = refl
low_names heap (entries ∷ rest) = ap (λ names. text_at (codes "name") entries ∷ names) (low_names heap rest)

names_read : (document : Members) → names_in (sheet_in document) ≡ names_of document
unfolding sheet_in
names_read document = rw (high_names (heap_of document) (highs_of document), low_names (heap_of document) (lows_of document)) (sym (map-append (text_at (codes "name")) (highs_of document) (lows_of document)))

-- THE SHEET

pub sheet_right : (document : Members) → fault_of document ≡ None → IsSheet (sheet_in document)
unfolding fault_of fault_of_tables fault_of_contents top_rules sheet_in heap_of
sheet_right document none =
    let of_high = highs_of document in
    let of_low = lows_of document in
    let run = number_at (codes "ticks") document in
    let script = fault_of_script (heap_of document) in
    let parts = neither (fault_of_tables document) (fault_of_contents document) none in
    let (top, rest) = neither (fault_of_table [] top_rules document) _ parts.0 in
    let (heap, tasks) = neither (fault_of_table (codes "heap.") (heap_rules (is_second document)) (table_at (codes "heap") document)) _ rest in
    let (highs, last) = neither (first_of (faults_of_tasks (codes "high") (task_rules true run) 0 of_high)) _ tasks in
    let lows = (neither (first_of (faults_of_tasks (codes "low") (task_rules false run) 0 of_low)) None last).0 in
    let (names, behind) = neither (first_of (faults_of_names [] 0 (names_of document))) _ parts.1 in
    let (gaps, others) = neither (first_of (map fault_of_high_arrivals of_high ++ map fault_of_low_arrivals of_low)) _ behind in
    let (texts, geometry) = neither (first_of (map script (tasks_of document))) _ others in
    let arrivals = neither _ _ (sym (first_of-append (map fault_of_high_arrivals of_high) (map fault_of_low_arrivals of_low)) ∙ gaps) in
    let scripts = neither _ _ (sym (ap first_of (map-append script of_high of_low) ∙ first_of-append (map script of_high) (map script of_low)) ∙ texts) in
    let ticks = number_key [] (codes "ticks") 1 16777216 document (no_key_fault [] top_rules document top).1.0 in
    let right = split_all (λ name. is_name name ≡ true) (highs_of document) (lows_of document) (names_right [] 0 (names_of document) names) in
    record {
      ticks = ticks;
      heap = heap_right (is_second document) (table_at (codes "heap") document) heap;
      high = tasks_right (IsHigh run (heap_of document)) (high_in (heap_of document)) (codes "high") (task_rules true run) fault_of_high_arrivals script (λ path entries. high_right (heap_of document) path run entries ticks.at_least)
          0 of_high highs right.0 (none_of fault_of_high_arrivals of_high arrivals.0) (none_of script of_high scripts.0);
      low = tasks_right (IsLow run (heap_of document)) (low_in (heap_of document)) (codes "low") (task_rules false run) fault_of_low_arrivals script (λ path entries. low_right (heap_of document) path run entries ticks.at_least)
          0 of_low lows right.1 (none_of fault_of_low_arrivals of_low arrivals.1) (none_of script of_low scripts.1);
      names = subst AreDistinct (sym (names_read document)) (names_distinct [] 0 (names_of document) names);
      geometry = geometry_right (sheet_in document) (neither (fault_of_geometry (sheet_in document)) None geometry).0;
    }
