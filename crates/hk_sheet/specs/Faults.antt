-- The first fault of a document, in the stated order: the tables one after another, the document's own first, then the
-- heap's, the high tasks' and the low tasks'; in a table an unknown key, and then key by key. After all tables the names,
-- then the arrivals, then the scripts of all tasks, and at last the geometry.
use Rattle.std.specs.Prelude.{ℕ, ◌+◌, ◌-◌, ◌^◌, min, nat_lt, nat_le, Bool, true, false, not, ◌&&◌, ◌||◌, ◌==◌, bytes_eq, List, [], ◌∷◌, ◌++◌, length, map, filter, flat_map, fold, take, codes, decimal, Option, Some, None, option_map, Result, Ok, Err, if◌then◌else◌}
use Rattle.std.specs.Char.{is_ascii_graphic, is_ascii_lowercase, is_ascii_digit}
use Rattle.std.specs.List.{list_all, list_any}
use Rattle.std.specs.Ordering.{is_lt, nat_cmp}
use Rattle.std.specs.Cmp.Lexicographic.{slice_cmp}
use Rattle.toml.specs.Data.{Data, Members, no_members, member, get_member}
use Rattle.hk_words.specs.Geometry.{Sizes, first_error}
use Rattle.hk_script.specs.Limits.{limits_of}
use Rattle.hk_script.specs.declared.error.ScriptError.{ScriptError}
use Rattle.hk_script.specs.declared.statement.Statement.{Statement}
use Rattle.hk_script.specs.Texts.{script_of}
use Rattle.hk_sheet.specs.declared.arrivals.Arrivals.{Arrivals}
use Rattle.hk_sheet.specs.declared.arrivals.Arrivals.TheVariants.{Every}
use Rattle.hk_sheet.specs.declared.arrivals.Arrivals.TheVariants as arrivals
use Rattle.hk_sheet.specs.declared.error.SheetError.{SheetError}
use Rattle.hk_sheet.specs.declared.error.SheetError.TheVariants as error
use Rattle.hk_sheet.specs.declared.sheet.HeapKeys.{HeapKeys}
use Rattle.hk_sheet.specs.declared.sheet.Sheet.{Sheet}
use Rattle.hk_sheet.specs.Rules.{Rule, Wrong, no_such_kind, out_of_range, wrong_in, number_at, is_second, keys_in, top_rules, heap_rules, task_rules}
use Rattle.hk_sheet.specs.Reading.{text_at, table_at, highs_of, lows_of, arrivals_in, heap_of, sheet_in}

-- the first fault, and the other one where there is none
abbrev pub or_else : Option SheetError → Option SheetError → Option SheetError
or_else None other = other
or_else (Some fault) other = Some fault

-- the first fault of some, in their order
abbrev pub first_of : List (Option SheetError) → Option SheetError
first_of [] = None
first_of (fault ∷ rest) = or_else fault (first_of rest)

-- KEYS

-- the keys of a table
abbrev pub keys_of : Members → List (List ℕ)
keys_of no_members = []
keys_of (member key value rest) = key ∷ keys_of rest

-- a key is one of these
unfoldable pub is_known : (known : List (List ℕ)) → List ℕ → Bool
is_known known key = list_any (λ other. bytes_eq other key) known

-- the keys of a table that are none of these
abbrev pub unknown_keys : (known : List (List ℕ)) → Members → List (List ℕ)
unknown_keys known entries = filter (λ key. not (is_known known key)) (keys_of entries)

-- the lesser of two keys, and the least of some, by their bytes
abbrev pub lesser : List ℕ → List ℕ → List ℕ
lesser key other = if is_lt (slice_cmp nat_cmp other key) then other else key

abbrev pub least : List (List ℕ) → Option (List ℕ)
least [] = None
least (key ∷ rest) = Some (fold lesser key rest)

-- A path as an error shows it: each character outside `!` to `~` is a `?`, and it is cut to 80 bytes. The bytes from 128
-- to 191 go on with a character that has begun.
abbrev pub goes_on : ℕ → Bool
goes_on byte = nat_le 128 byte && nat_lt byte 192

abbrev pub shown_byte : ℕ → List ℕ
shown_byte byte = if is_ascii_graphic byte then byte ∷ [] else if goes_on byte then [] else 63 ∷ []

unfoldable pub shown : List ℕ → List ℕ
shown path = take 80 (flat_map shown_byte path)

-- the least unknown key of a table; paths in the table begin so
unfoldable pub unknown_fault : (path : List ℕ) → (known : List (List ℕ)) → Members → Option SheetError
unknown_fault path known entries = option_map (λ key. error.Unknown (shown (path ++ key))) (least (unknown_keys known entries))

-- the fault of a key: it is needed and missing, or its value isn't of its kind, or out of its range
abbrev pub error_of : List ℕ → Wrong → SheetError
error_of path no_such_kind = error.Kind path
error_of path out_of_range = error.Range path

abbrev pub fault_of_value : (path : List ℕ) → Rule → Option Data → Option SheetError
fault_of_value path rule None = if rule.needed then Some (error.Missing path) else None
fault_of_value path rule (Some value) = option_map (error_of path) (wrong_in rule.kind value)

abbrev pub fault_of_key : (path : List ℕ) → Members → Rule → Option SheetError
fault_of_key path entries rule = fault_of_value (path ++ rule.key) rule (get_member rule.key entries)

-- the first fault of some keys, in their order
abbrev pub fault_of_keys : (path : List ℕ) → Members → List Rule → Option SheetError
fault_of_keys path entries rules = first_of (map (fault_of_key path entries) rules)

-- the first fault of a table: the least unknown key, and then the keys in their order
unfoldable pub fault_of_table : (path : List ℕ) → List Rule → Members → Option SheetError
fault_of_table path rules entries = or_else (unknown_fault path (keys_in rules) entries) (fault_of_keys path entries rules)

-- how paths begin in the table of a task, as `high[0].`
abbrev pub task_path : List ℕ → ℕ → List ℕ
task_path kind index = kind ++ codes "[" ++ decimal index ++ codes "]."

-- the first fault of each task's table
abbrev pub faults_of_tasks : (kind : List ℕ) → (Members → List Rule) → ℕ → List Members → List (Option SheetError)
faults_of_tasks kind rules index [] = []
faults_of_tasks kind rules index (entries ∷ rest) =
    fault_of_table (task_path kind index) (rules entries) entries ∷ faults_of_tasks kind rules (index + 1) rest

-- COUNTS

-- a count as an error shows it, in 32 bits: one past the greatest number of them is shown as that number
abbrev pub counted : ℕ → ℕ
counted n = min n (2 ^ 32 - 1)

-- NAMES

-- a name: 1 to 16 bytes, a small letter, and then small letters, digits and `_`
abbrev pub is_name_byte : ℕ → Bool
is_name_byte byte = is_ascii_lowercase byte || is_ascii_digit byte || byte == 95

abbrev pub is_name : List ℕ → Bool
is_name [] = nat_lt 0 0
is_name (first ∷ rest) = is_ascii_lowercase first && (list_all is_name_byte rest && nat_le (length (first ∷ rest)) 16)

-- the fault of each name, from the task with this number on: it is no name, or that of an earlier task
abbrev pub is_among : List (List ℕ) → List ℕ → Bool
is_among names name = list_any (bytes_eq name) names

abbrev pub faults_of_names : (earlier : List (List ℕ)) → ℕ → List (List ℕ) → List (Option SheetError)
faults_of_names earlier index [] = []
faults_of_names earlier index (name ∷ rest) =
    (if is_name name && not (is_among earlier name) then None else Some (error.Name (counted index)))
    ∷ faults_of_names (name ∷ earlier) (index + 1) rest

-- ARRIVALS

-- the fault of each arrival after the first, from this place of the list on: it comes less than a gap after the one before
abbrev pub faults_of_ticks : (task : List ℕ) → (gap place : ℕ) → List ℕ → List (Option SheetError)
faults_of_ticks task gap place (earlier ∷ later ∷ rest) =
    (if nat_lt later (earlier + gap) then Some (error.Arrivals task (counted place) earlier later) else None)
    ∷ faults_of_ticks task gap (place + 1) (later ∷ rest)
faults_of_ticks task gap place ticks = []

-- the first fault of a task's arrivals, which are to be a gap apart: for a high task its period, for a low one a tick
unfoldable pub fault_of_arrivals : (task : List ℕ) → (gap : ℕ) → Arrivals → Option SheetError
fault_of_arrivals task gap (arrivals.List ticks) = first_of (faults_of_ticks task gap 1 ticks)
fault_of_arrivals task gap (Every first step) = if nat_lt step gap then Some (error.Arrivals task 1 first (first + step)) else None

abbrev pub fault_of_high_arrivals : Members → Option SheetError
fault_of_high_arrivals entries = fault_of_arrivals (text_at (codes "name") entries) (number_at (codes "period") entries) (arrivals_in entries)

abbrev pub fault_of_low_arrivals : Members → Option SheetError
fault_of_low_arrivals entries = fault_of_arrivals (text_at (codes "name") entries) 1 (arrivals_in entries)

-- SCRIPTS

abbrev pub fault_of_text : (task : List ℕ) → Result (List Statement) ScriptError → Option SheetError
fault_of_text task (Ok script) = None
fault_of_text task (Err fault) = Some (error.Script task fault)

-- of a task beside this heap
unfoldable pub fault_of_script : HeapKeys → Members → Option SheetError
fault_of_script heap entries = fault_of_text (text_at (codes "name") entries) (script_of (limits_of heap.fields heap.registers) (text_at (codes "script") entries))

-- THE GEOMETRY

-- what the heap's geometry is made of, for so many high and low tasks: more than 255 of a kind count as 255
abbrev pub sizes_for : HeapKeys → (high low : ℕ) → Sizes
sizes_for heap high low = record {
  live = heap.live;
  alloc = heap.alloc;
  reserve = heap.reserve;
  high = min high 255;
  low = min low 255;
  refs = heap.refs;
  nums = heap.nums;
  registers = heap.registers;
}

abbrev pub sizes_of : Sheet → Sizes
sizes_of sheet = sizes_for sheet.heap (length sheet.high) (length sheet.low)

-- the first reason why the sizes of a sheet are no geometry whose board is at most as large as an object may be
unfoldable pub fault_of_geometry : Sheet → Option SheetError
fault_of_geometry sheet = option_map error.Geometry (first_error sheet.heap.fields (sizes_of sheet))

-- THE DOCUMENT

-- the tables of all tasks, the high ones first
abbrev pub tasks_of : Members → List Members
tasks_of document = highs_of document ++ lows_of document

-- the names of all tasks, the high ones first
abbrev pub names_of : Members → List (List ℕ)
names_of document = map (text_at (codes "name")) (tasks_of document)

-- the first fault of the tables, of which each is looked at only where those before have none
unfoldable pub fault_of_tables : Members → Option SheetError
fault_of_tables document = first_of (
    fault_of_table [] top_rules document
    ∷ fault_of_table (codes "heap.") (heap_rules (is_second document)) (table_at (codes "heap") document)
    ∷ first_of (faults_of_tasks (codes "high") (task_rules true (number_at (codes "ticks") document)) 0 (highs_of document))
    ∷ first_of (faults_of_tasks (codes "low") (task_rules false (number_at (codes "ticks") document)) 0 (lows_of document))
    ∷ [])

-- the first fault of what the tables say: of the names, the arrivals and the scripts of all tasks, and of the geometry
unfoldable pub fault_of_contents : Members → Option SheetError
fault_of_contents document = first_of (
    first_of (faults_of_names [] 0 (names_of document))
    ∷ first_of (map fault_of_high_arrivals (highs_of document) ++ map fault_of_low_arrivals (lows_of document))
    ∷ first_of (map (fault_of_script (heap_of document)) (tasks_of document))
    ∷ fault_of_geometry (sheet_in document)
    ∷ [])

-- the first fault of a document
unfoldable pub fault_of : Members → Option SheetError
fault_of document = or_else (fault_of_tables document) (fault_of_contents document)

-- the sheet of a document, or its first fault
abbrev pub unless_fault : Option SheetError → Sheet → Result Sheet SheetError
unless_fault None sheet = Ok sheet
unless_fault (Some fault) sheet = Err fault

unfoldable pub sheet_of : Members → Result Sheet SheetError
sheet_of document = unless_fault (fault_of document) (sheet_in document)
