-- What is answered about the bytes, from what is known of the document.
use Rattle.std.proofs.Common.{◌≡◌, ℕ, ◌+◌, nat_lt, Bool, true, false, not, ◌&&◌, List, [], ◌∷◌, ◌++◌, map, codes, Option, Some, None, Result, Ok, Err, IfOk, option_map, if◌then◌else◌, refl}
use Rattle.std.specs.List.{AllByRecursion}
use Rattle.toml.specs.Data.{Data, Members, get_member}
use Rattle.hk_words.specs.declared.geometry.GeoError.{GeoError}
use Rattle.hk_words.specs.Geometry.{first_error}
use Rattle.hk_script.specs.Limits.{limits_of}
use Rattle.hk_script.specs.declared.error.ScriptError.{ScriptError}
use Rattle.hk_script.specs.declared.statement.Statement.{Statement}
use Rattle.hk_script.specs.Texts.{script_of}
use Rattle.hk_sheet.specs.declared.arrivals.Arrivals.{Arrivals}
use Rattle.hk_sheet.specs.declared.arrivals.Arrivals.TheVariants.{Every}
use Rattle.hk_sheet.specs.declared.arrivals.Arrivals.TheVariants as arrivals
use Rattle.hk_sheet.specs.declared.error.SheetError.{SheetError}
use Rattle.hk_sheet.specs.declared.error.SheetError.TheVariants as error
use Rattle.hk_sheet.specs.declared.sheet.HeapKeys.{HeapKeys}
use Rattle.hk_sheet.specs.declared.sheet.Sheet.{Sheet}
use Rattle.hk_sheet.specs.Answers.{IsDocument, IsRead, Answers}
use Rattle.hk_sheet.specs.Code.{Gives}
use Rattle.hk_sheet.specs.Rules.{Wrong, no_such_kind, out_of_range, Rule, wrong_in, number_at, is_second, keys_in, top_rules, heap_rules, task_rules}
use Rattle.hk_sheet.specs.Reading.{text_at, table_at, highs_of, lows_of, arrivals_in, heap_of, sheet_in}
use Rattle.hk_sheet.specs.Faults.{or_else, first_of, counted, unknown_keys, least, shown, unknown_fault, error_of, fault_of_value, fault_of_key, fault_of_keys, fault_of_table, faults_of_tasks, task_path, is_name, is_among, faults_of_names, names_of, faults_of_ticks, fault_of_arrivals, fault_of_high_arrivals, fault_of_low_arrivals, fault_of_text, fault_of_script, sizes_of, fault_of_geometry, tasks_of, fault_of_tables, fault_of_contents, fault_of, sheet_of}
use Rattle.hk_sheet.specs.Valid.{IsSheet}
use Rattle.hk_sheet.proofs.FaultOrder.{all_append}
use Rattle.hk_sheet.proofs.Validity.{sheet_right}

-- a fault of a document isn't `Text`
abbrev NotText : Option SheetError → Type 0
NotText o = o ≡ Some error.Text → ⊥

neither_text : (a b : Option SheetError) → NotText a → NotText b → NotText (or_else a b)
neither_text None b here there = there
neither_text (Some fault) b here there = here

none_not : NotText None
none_not is = cc

first_not : (faults : List (Option SheetError)) → AllByRecursion NotText faults → NotText (first_of faults)
first_not [] all = none_not
first_not (fault ∷ rest) all = neither_text fault (first_of rest) all.0 (first_not rest all.1)

each_not : {X : Type 0} (h : X → Option SheetError) → ((x : X) → NotText (h x)) → (xs : List X) → AllByRecursion NotText (map h xs)
each_not h never [] = tt
each_not h never (x ∷ xs) = (never x, each_not h never xs)

unknown_not : (path : List ℕ) (key : Option (List ℕ)) → NotText (option_map (λ key. error.Unknown (shown (path ++ key))) key)
unknown_not path None = λ is. cc
unknown_not path (Some key) = λ is. cc

missing_not : (path : List ℕ) (needed : Bool) → NotText (if needed then Some (error.Missing path) else None)
missing_not path true = λ is. cc
missing_not path false = λ is. cc

wrong_not : (path : List ℕ) (wrong : Option Wrong) → NotText (option_map (error_of path) wrong)
wrong_not path None = λ is. cc
wrong_not path (Some no_such_kind) = λ is. cc
wrong_not path (Some out_of_range) = λ is. cc

value_not : (path : List ℕ) (rule : Rule) (value : Option Data) → NotText (fault_of_value path rule value)
value_not path rule None = missing_not path rule.needed
value_not path rule (Some value) = wrong_not path (wrong_in rule.kind value)

table_not : (path : List ℕ) (rules : List Rule) (entries : Members) → NotText (fault_of_table path rules entries)
unfolding fault_of_table unknown_fault
table_not path rules entries =
    neither_text (unknown_fault path (keys_in rules) entries) (fault_of_keys path entries rules) (unknown_not path (least (unknown_keys (keys_in rules) entries)))
    (first_not _ (each_not (fault_of_key path entries) (λ rule. value_not (path ++ rule.key) rule (get_member rule.key entries)) rules))

tasks_not : (kind : List ℕ) (rules : Members → List Rule) (index : ℕ) (tasks : List Members) → AllByRecursion NotText (faults_of_tasks kind rules index tasks)
tasks_not kind rules index [] = tt
tasks_not kind rules index (entries ∷ rest) = (table_not (task_path kind index) (rules entries) entries, tasks_not kind rules (index + 1) rest)

name_not : (index : ℕ) (right : Bool) → NotText (if right then None else Some (error.Name (counted index)))
name_not index true = λ is. cc
name_not index false = λ is. cc

names_not : (earlier : List (List ℕ)) (index : ℕ) (names : List (List ℕ)) → AllByRecursion NotText (faults_of_names earlier index names)
names_not earlier index [] = tt
names_not earlier index (name ∷ rest) = (name_not index (is_name name && not (is_among earlier name)), names_not (name ∷ earlier) (index + 1) rest)

close_not : (task : List ℕ) (place earlier later : ℕ) (close : Bool) → NotText (if close then Some (error.Arrivals task (counted place) earlier later) else None)
close_not task place earlier later true = λ is. cc
close_not task place earlier later false = λ is. cc

ticks_not : (task : List ℕ) (gap place : ℕ) (ticks : List ℕ) → AllByRecursion NotText (faults_of_ticks task gap place ticks)
ticks_not task gap place [] = tt
ticks_not task gap place (tick ∷ []) = tt
ticks_not task gap place (earlier ∷ later ∷ rest) = (close_not task place earlier later (nat_lt later (earlier + gap)), ticks_not task gap (place + 1) (later ∷ rest))

arrivals_not : (task : List ℕ) (gap : ℕ) (these : Arrivals) → NotText (fault_of_arrivals task gap these)
unfolding fault_of_arrivals
arrivals_not task gap (Every first step) = close_not task 1 first (first + step) (nat_lt step gap)
arrivals_not task gap (arrivals.List ticks) = first_not (faults_of_ticks task gap 1 ticks) (ticks_not task gap 1 ticks)

text_not : (task : List ℕ) (read : Result (List Statement) ScriptError) → NotText (fault_of_text task read)
text_not task (Ok script) = λ is. cc
text_not task (Err fault) = λ is. cc

script_not : (heap : HeapKeys) (entries : Members) → NotText (fault_of_script heap entries)
unfolding fault_of_script
script_not heap entries = text_not (text_at (codes "name") entries) (script_of (limits_of heap.fields heap.registers) (text_at (codes "script") entries))

sizes_not : (fault : Option GeoError) → NotText (option_map error.Geometry fault)
sizes_not None = λ is. cc
sizes_not (Some fault) = λ is. cc

geometry_not : (sheet : Sheet) → NotText (fault_of_geometry sheet)
unfolding fault_of_geometry
geometry_not sheet = sizes_not (first_error sheet.heap.fields (sizes_of sheet))

document_not : (document : Members) → NotText (fault_of document)
unfolding fault_of fault_of_tables fault_of_contents
document_not document =
    let of_high = highs_of document in
    let of_low = lows_of document in
    let high_rules = task_rules true (number_at (codes "ticks") document) in
    let low_rules = task_rules false (number_at (codes "ticks") document) in
    let heap_of_table = fault_of_table (codes "heap.") (heap_rules (is_second document)) (table_at (codes "heap") document) in
    let script = fault_of_script (heap_of document) in
    let high_gaps = each_not fault_of_high_arrivals (λ entries. arrivals_not (text_at (codes "name") entries) (number_at (codes "period") entries) (arrivals_in entries)) of_high in
    let low_gaps = each_not fault_of_low_arrivals (λ entries. arrivals_not (text_at (codes "name") entries) 1 (arrivals_in entries)) of_low in
    let gaps = map fault_of_high_arrivals of_high ++ map fault_of_low_arrivals of_low in
    neither_text (fault_of_tables document) (fault_of_contents document)
    (neither_text (fault_of_table [] top_rules document) _ (table_not [] top_rules document)
    (neither_text heap_of_table _ (table_not (codes "heap.") (heap_rules (is_second document)) (table_at (codes "heap") document))
    (neither_text (first_of (faults_of_tasks (codes "high") high_rules 0 of_high)) _ (first_not _ (tasks_not (codes "high") high_rules 0 of_high))
    (neither_text (first_of (faults_of_tasks (codes "low") low_rules 0 of_low)) None (first_not _ (tasks_not (codes "low") low_rules 0 of_low)) none_not))))
    (neither_text (first_of (faults_of_names [] 0 (names_of document))) _ (first_not _ (names_not [] 0 (names_of document)))
    (neither_text (first_of gaps) _ (first_not gaps (all_append NotText _ _ high_gaps low_gaps))
    (neither_text (first_of (map script (tasks_of document))) _ (first_not _ (each_not script (script_not (heap_of document)) (tasks_of document)))
    (neither_text (fault_of_geometry (sheet_in document)) None (geometry_not (sheet_in document)) none_not))))

-- what the sheet of a document is
found : (document : Members) (sheet : Sheet) → fault_of document ≡ None → sheet ≡ sheet_in document → sheet_of document ≡ Ok sheet
unfolding sheet_of
found document sheet none is = rw (none, is) refl

refused : (document : Members) (fault : SheetError) → fault_of document ≡ Some fault → sheet_of document ≡ Err fault
unfolding sheet_of
refused document fault is = rw is refl

module _ (bytes : List ℕ) (document : Members) (is : IsDocument bytes document) where
  read_so : (answer : Result Sheet SheetError) → sheet_of document ≡ answer → IsRead bytes answer
  read_so answer read = record { document = document; is = is; read = read }

  pub answers : (answer : Result Sheet SheetError) → Gives (fault_of document) (sheet_in document) answer → Answers bytes answer
  answers (Ok sheet) gives = read_so (Ok sheet) (found document sheet gives.0 gives.1)
  answers (Err error.Text) gives = absurd (document_not document (gives (λ same. cc)))
  answers (Err error.Memory) gives = tt
  answers (Err (error.Missing key)) gives = read_so (Err (error.Missing key)) (refused document (error.Missing key) (gives (λ same. cc)))
  answers (Err (error.Unknown key)) gives = read_so (Err (error.Unknown key)) (refused document (error.Unknown key) (gives (λ same. cc)))
  answers (Err (error.Kind key)) gives = read_so (Err (error.Kind key)) (refused document (error.Kind key) (gives (λ same. cc)))
  answers (Err (error.Range key)) gives = read_so (Err (error.Range key)) (refused document (error.Range key) (gives (λ same. cc)))
  answers (Err (error.Name index)) gives = read_so (Err (error.Name index)) (refused document (error.Name index) (gives (λ same. cc)))
  answers (Err (error.Arrivals task place earlier later)) gives =
      read_so (Err (error.Arrivals task place earlier later)) (refused document (error.Arrivals task place earlier later) (gives (λ same. cc)))
  answers (Err (error.Script task fault)) gives = read_so (Err (error.Script task fault)) (refused document (error.Script task fault) (gives (λ same. cc)))
  answers (Err (error.Geometry fault)) gives = read_so (Err (error.Geometry fault)) (refused document (error.Geometry fault) (gives (λ same. cc)))

-- what is read is a sheet that the other calls take
pub valid : (document : Members) (answer : Result Sheet SheetError) → Gives (fault_of document) (sheet_in document) answer → IfOk answer IsSheet
valid document (Ok sheet) gives = rw gives.1 (sheet_right document gives.0)
valid document (Err fault) gives = tt
