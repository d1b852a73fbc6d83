-- What holds of a table that has no fault.
use Rattle.std.proofs.Common.{◌≡◌, ℕ, ◌-◌, ◌<◌, ◌≤◌, nat_le, Bool, true, false, ◌&&◌, pos, negsuc, List, [], ◌∷◌, ◌++◌, length, map, Option, Some, None, option_map, refl, arith}
use Rattle.std.proofs.lemmas.Bool.{and_parts, false≢true}
use Rattle.std.proofs.lemmas.Bool.Decides.{nat_tests}
use Rattle.std.specs.List.{AllByRecursion, list_all}
use Rattle.toml.specs.Data.{Data, string, integer, float, boolean, datetime, array, table, Members, get_member}
use Rattle.hk_sheet.specs.Rules.{number, pair, ticks_of_run, Wrong, Rule, keys_in, needs, may_have, elements_of, number_of, number_held, number_at, is_in, wrong_unless, wrong_in}
use Rattle.hk_sheet.specs.Reading.{held, value_at, numbers_at, first_of_pair, second_of_pair}
use Rattle.hk_sheet.specs.Faults.{unknown_fault, error_of, fault_of_value, fault_of_key, fault_of_keys, fault_of_table}
use Rattle.hk_sheet.specs.Valid.{IsFrom}
use Rattle.hk_sheet.proofs.FaultOrder.{neither, none_of}

-- no key of the table has a fault
pub no_key_fault : (path : List ℕ) (rules : List Rule) (entries : Members) → fault_of_table path rules entries ≡ None → AllByRecursion (λ rule. fault_of_key path entries rule ≡ None) rules
unfolding fault_of_table
no_key_fault path rules entries none =
    none_of (fault_of_key path entries) rules (neither (unknown_fault path (keys_in rules) entries) (fault_of_keys path entries rules) none).1

-- a value that nothing is wrong with
right : (path : List ℕ) (w : Option Wrong) → option_map (error_of path) w ≡ None → w ≡ None
right path None none = refl
right path (Some w) none = cc

in_range : (of_kind within : Bool) → wrong_unless of_kind within ≡ None → within ≡ true
in_range true true none = refl
in_range true false none = cc
in_range false true none = refl
in_range false false none = cc

-- a number in its range
pub number_in : (low high : ℕ) (d : Data) → is_in low high d ≡ true → IsFrom low high (number_of d)
number_in low high (string s) is = absurd (false≢true is)
number_in low high (integer (pos n)) is =
    let both = and_parts (nat_le low n) (nat_le n high) is in
    record { at_least = grind (arith, nat_tests); at_most = grind (arith, nat_tests) }
number_in low high (integer (negsuc n)) is = absurd (false≢true is)
number_in low high (float x) is = absurd (false≢true is)
number_in low high (boolean b) is = absurd (false≢true is)
number_in low high (datetime t) is = absurd (false≢true is)
number_in low high (array ds) is = absurd (false≢true is)
number_in low high (table ms) is = absurd (false≢true is)

number_value : (path key : List ℕ) (low high : ℕ) (o : Option Data) → fault_of_value (path ++ key) (needs key (number low high)) o ≡ None → IsFrom low high (number_held o)
number_value path key low high None none = cc
number_value path key low high (Some d) none = number_in low high d (in_range _ _ (right (path ++ key) (wrong_in (number low high) d) none))

-- the number at a key that has no fault
pub number_key : (path key : List ℕ) (low high : ℕ) (entries : Members) → fault_of_key path entries (needs key (number low high)) ≡ None → IsFrom low high (number_at key entries)
number_key path key low high entries none = number_value path key low high (get_member key entries) none

-- the number at a key that may be missing
optional_value : (path key : List ℕ) (high : ℕ) (o : Option Data) → fault_of_value (path ++ key) (may_have key (number 0 high)) o ≡ None → number_held o ≤ high
optional_value path key high None none = omega arith
optional_value path key high (Some d) none = (number_in 0 high d (in_range _ _ (right (path ++ key) (wrong_in (number 0 high) d) none))).at_most

pub optional_key : (path key : List ℕ) (high : ℕ) (entries : Members) → fault_of_key path entries (may_have key (number 0 high)) ≡ None → number_at key entries ≤ high
optional_key path key high entries none = optional_value path key high (get_member key entries) none

-- the numbers of a pair
first_in : (high : ℕ) (ds : List Data) → list_all (is_in 0 high) ds ≡ true → first_of_pair (map number_of ds) ≤ high
first_in high [] all = omega arith
first_in high (d ∷ ds) all = (number_in 0 high d (and_parts (is_in 0 high d) (list_all (is_in 0 high) ds) all).0).at_most

second_in : (high : ℕ) (ds : List Data) → list_all (is_in 0 high) ds ≡ true → second_of_pair (map number_of ds) ≤ high
second_in high [] all = omega arith
second_in high (d ∷ []) all = omega arith
second_in high (d ∷ e ∷ ds) all = first_in high (e ∷ ds) (and_parts (is_in 0 high d) (list_all (is_in 0 high) (e ∷ ds)) all).1

pair_value : (path key : List ℕ) (high : ℕ) (o : Option Data) → fault_of_value (path ++ key) (needs key (pair high)) o ≡ None → list_all (is_in 0 high) (elements_of (held o)) ≡ true
pair_value path key high None none = cc
pair_value path key high (Some d) none = in_range _ _ (right (path ++ key) (wrong_in (pair high) d) none)

pub pair_key : (path key : List ℕ) (high : ℕ) (entries : Members) → fault_of_key path entries (needs key (pair high)) ≡ None
    → (first_of_pair (numbers_at key entries) ≤ high) × (second_of_pair (numbers_at key entries) ≤ high)
pair_key path key high entries none =
    let all = pair_value path key high (get_member key entries) none in
    (first_in high (elements_of (value_at key entries)) all, second_in high (elements_of (value_at key entries)) all)

-- the ticks of a run
ticks_in : (ticks : ℕ) (ds : List Data) → 1 ≤ ticks → list_all (is_in 0 (ticks - 1)) ds ≡ true → AllByRecursion (λ tick. tick < ticks) (map number_of ds)
ticks_in ticks [] some all = tt
ticks_in ticks (d ∷ ds) some all =
    let both = and_parts (is_in 0 (ticks - 1) d) (list_all (is_in 0 (ticks - 1)) ds) all in
    let last = (number_in 0 (ticks - 1) d both.0).at_most in
    (omega (arith, last), ticks_in ticks ds some both.1)

ticks_value : (path key : List ℕ) (ticks : ℕ) (o : Option Data) → fault_of_value (path ++ key) (needs key (ticks_of_run ticks)) o ≡ None
    → (nat_le (length (elements_of (held o))) 4096 && list_all (is_in 0 (ticks - 1)) (elements_of (held o))) ≡ true
ticks_value path key ticks None none = cc
ticks_value path key ticks (Some d) none = in_range _ _ (right (path ++ key) (wrong_in (ticks_of_run ticks) d) none)

length-map : {X Y : Type 0} (h : X → Y) (xs : List X) → length (map h xs) ≡ length xs
length-map h [] = refl
length-map h (x ∷ xs) = omega (arith, length-map h xs)

few : (n m : ℕ) → nat_le n m ≡ true → n ≤ m
few n m is = grind (arith, nat_tests)

pub ticks_key : (path key : List ℕ) (ticks : ℕ) (entries : Members) → 1 ≤ ticks → fault_of_key path entries (needs key (ticks_of_run ticks)) ≡ None
    → AllByRecursion (λ tick. tick < ticks) (numbers_at key entries) × (length (numbers_at key entries) ≤ 4096)
ticks_key path key ticks entries some none =
    let ds = elements_of (value_at key entries) in
    let both = and_parts (nat_le (length ds) 4096) (list_all (is_in 0 (ticks - 1)) ds) (ticks_value path key ticks (get_member key entries) none) in
    (ticks_in ticks ds some both.1, rw (length-map number_of ds) (few (length ds) 4096 both.0))
