-- The tables of a sheet and their keys: what each key may hold, and whether it is needed.
use Rattle.std.specs.Prelude.{ℕ, ◌-◌, nat_le, nat_eq, Bool, true, false, not, ◌&&◌, ◌==◌, pos, List, [], ◌∷◌, ◌++◌, length, map, codes, is_some, Option, Some, None, if◌then◌else◌}
use Rattle.std.specs.List.{list_all}
use Rattle.toml.specs.Data.{Data, integer, array, Items, no_items, item, Members, get_member, as_integer, as_str, as_array, as_table}

-- what a key may hold: an integer of a range, an array of two integers of a range from 0, an array of ticks of a run, a
-- string, a table, or an array of tables
pub data Kind : Type 0 where
  number : (low high : ℕ) → Kind
  pair : (high : ℕ) → Kind
  ticks_of_run : (ticks : ℕ) → Kind
  text : Kind
  one_table : Kind
  tables : Kind

-- what is wrong with a value: it isn't of its kind, or it is out of its range
pub data Wrong : Type 0 where
  no_such_kind : Wrong
  out_of_range : Wrong

-- the elements of an array, and of a value that is one
abbrev pub elements : Items → List Data
elements no_items = []
elements (item d ds) = d ∷ elements ds

abbrev pub elements_of : Data → List Data
elements_of (array items) = elements items
elements_of d = []

-- a value is an integer; an array of integers; an integer from low to high
abbrev pub is_integer : Data → Bool
is_integer d = is_some (as_integer d)

abbrev pub are_integers : Data → Bool
are_integers d = is_some (as_array d) && list_all is_integer (elements_of d)

abbrev pub is_in : (low high : ℕ) → Data → Bool
is_in low high (integer (pos n)) = nat_le low n && nat_le n high
is_in low high d = false

-- the fault of a value that has its kind or not, and that is in its range or not
abbrev pub wrong_unless : (of_kind in_range : Bool) → Option Wrong
wrong_unless of_kind in_range = if not of_kind then Some no_such_kind else if in_range then None else Some out_of_range

-- what is wrong with a value where a key is to hold this kind. All elements of an array have their kind before any range
-- is looked at. There are at most 4,096 ticks
abbrev pub wrong_in : Kind → Data → Option Wrong
wrong_in (number low high) d = wrong_unless (is_integer d) (is_in low high d)
wrong_in (pair high) d = wrong_unless (are_integers d && nat_eq (length (elements_of d)) 2) (list_all (is_in 0 high) (elements_of d))
wrong_in (ticks_of_run ticks) d =
    wrong_unless (are_integers d) (nat_le (length (elements_of d)) 4096 && list_all (is_in 0 (ticks - 1)) (elements_of d))
wrong_in text d = wrong_unless (is_some (as_str d)) true
wrong_in one_table d = wrong_unless (is_some (as_table d)) true
wrong_in tables d = wrong_unless (is_some (as_array d) && list_all (λ e. is_some (as_table e)) (elements_of d)) true

-- a key of a table: its name, what it may hold, and whether it is needed
pub record Rule : Type 0 where
  pub key : List ℕ
  pub kind : Kind
  pub needed : Bool

abbrev pub needs : List ℕ → Kind → Rule
needs key kind = record { key = key; kind = kind; needed = true }

abbrev pub may_have : List ℕ → Kind → Rule
may_have key kind = record { key = key; kind = kind; needed = false }

-- the keys of some rules
abbrev pub keys_in : List Rule → List (List ℕ)
keys_in rules = map (λ (rule : Rule). rule.key) rules

-- the number at a key, and 0 where there is none
abbrev pub number_of : Data → ℕ
number_of (integer (pos n)) = n
number_of d = 0

abbrev pub number_held : Option Data → ℕ
number_held None = 0
number_held (Some d) = number_of d

abbrev pub number_at : List ℕ → Members → ℕ
number_at key entries = number_held (get_member key entries)

-- The keys of each table, in the order in which they are looked at.

-- the document
unfoldable pub top_rules : List Rule
top_rules =
    needs (codes "version") (number 1 2)
    ∷ needs (codes "ticks") (number 1 16777216)
    ∷ needs (codes "heap") one_table
    ∷ may_have (codes "high") tables
    ∷ may_have (codes "low") tables
    ∷ []

-- a sheet is of version 2
abbrev pub is_second : Members → Bool
is_second document = number_at (codes "version") document == 2

-- the registers of a task, which a sheet of version 2 gives; in every other sheet the key is unknown
unfoldable pub register_rules : (second : Bool) → List Rule
register_rules true = needs (codes "registers") (number 2 32) ∷ []
register_rules false = []

-- the heap, of a sheet of version 2 or of another
unfoldable pub heap_rules : (second : Bool) → List Rule
heap_rules second =
    needs (codes "live") (number 0 1000000)
    ∷ needs (codes "alloc") (number 0 1000000)
    ∷ needs (codes "reserve") (number 0 1000000)
    ∷ needs (codes "rate") (number 1 4096)
    ∷ needs (codes "board") (pair 255)
    ∷ register_rules second

-- when the jobs of a task arrive: a list of ticks, or else the first job and the step from each to the next. Where the
-- list is there, the other two are unknown
abbrev pub has_list : Members → Bool
has_list entries = is_some (get_member (codes "arrivals") entries)

unfoldable pub arrival_rules : (ticks : ℕ) → (listed : Bool) → List Rule
arrival_rules ticks true = needs (codes "arrivals") (ticks_of_run ticks) ∷ []
arrival_rules ticks false = needs (codes "first") (number 0 16777216) ∷ needs (codes "every") (number 1 16777216) ∷ []

-- the times of a task, which only a high one has: its deadline is at most its period, and its jitter is below its deadline
unfoldable pub time_rules : (high : Bool) → Members → List Rule
time_rules true entries =
    needs (codes "period") (number 1 16777216)
    ∷ needs (codes "deadline") (number 1 (number_at (codes "period") entries))
    ∷ needs (codes "cost") (number 1 16777216)
    ∷ needs (codes "words") (number 0 16777216)
    ∷ may_have (codes "jitter") (number 0 (number_at (codes "deadline") entries - 1))
    ∷ may_have (codes "lag") (number 0 16777216)
    ∷ []
time_rules false entries = []

-- when the jobs of a task arrive, and what they do
abbrev pub job_rules : (ticks : ℕ) → (listed : Bool) → List Rule
job_rules ticks listed = arrival_rules ticks listed ++ needs (codes "script") text ∷ []

-- a task, high or low, of a run of so many ticks
unfoldable pub task_rules : (high : Bool) → (ticks : ℕ) → Members → List Rule
task_rules high ticks entries = needs (codes "name") text ∷ time_rules high entries ++ job_rules ticks (has_list entries)
