-- What the code's types say, and what its functions answer.
use Rattle.std.specs.Prelude.{◌≡◌, ℕ, pos, List, map, Option, Some, None, Result, Ok, Err, String}
use denote.Ref.{Bor}
use Rattle.std.specs.BTreeMap.{BTreeMap}
use Rattle.std.specs.declared.alloc.Global.{Global}
use Rattle.toml.specs.Data.{Data, integer, Members}
use Rattle.toml.specs.View.{table_view}
use Rattle.toml.specs.declared.value.Value.{Value}
use Rattle.hk_sheet.specs.declared.error.SheetError.{SheetError}
use Rattle.hk_sheet.specs.declared.error.SheetError.TheVariants as error
use Rattle.hk_sheet.specs.declared.values.Wrong as the_wrong
use Rattle.hk_sheet.specs.declared.values.Wrong.TheVariants as fault
use Rattle.hk_sheet.specs.Rules.{Wrong, no_such_kind, out_of_range}

-- the natural number that a value is
abbrev pub natural_of : Data → Option ℕ
natural_of (integer (pos n)) = Some n
natural_of d = None

-- the tables behind some references, and the texts
abbrev pub seen : List (Bor (BTreeMap (String Global) Value)) → List Members
seen = map (λ t. table_view t.now)

abbrev pub texts : List (Bor (List ℕ)) → List (List ℕ)
texts = map (λ t. t.now)

-- the value of a kind was found, as it is seen, or what is wrong, unless memory ran out
abbrev pub Finds : {A B : Type 0} → (see : A → B) → Option Wrong → B → Result A the_wrong.Wrong → Type 0
Finds see wrong value (Ok found) = (wrong ≡ None) × (see found ≡ value)
Finds see wrong value (Err fault.Kind) = wrong ≡ Some no_such_kind
Finds see wrong value (Err fault.Range) = wrong ≡ Some out_of_range
Finds see wrong value (Err fault.Memory) = Unit {0}

-- the fault of a key whose value is wrong
abbrev pub fault_of_wrong : (path : List ℕ) → the_wrong.Wrong → Option SheetError
fault_of_wrong path fault.Kind = Some (error.Kind path)
fault_of_wrong path fault.Range = Some (error.Range path)
fault_of_wrong path fault.Memory = None

-- a refusal is the fault, unless memory ran out
abbrev pub Refuses : SheetError → Option SheetError → Type 0
Refuses e fault = ¬ (e ≡ error.Memory) → fault ≡ Some e

-- a check found the first fault, or that there is none, unless memory ran out
abbrev pub Checks : {A : Type 0} → Option SheetError → Result A SheetError → Type 0
Checks fault (Ok done) = fault ≡ None
Checks fault (Err e) = Refuses e fault

-- a reader gave the value where there is no fault, and else the first fault, unless memory ran out
abbrev pub Gives : {A : Type 0} → Option SheetError → A → Result A SheetError → Type 0
Gives fault value (Ok found) = (fault ≡ None) × (found ≡ value)
Gives fault value (Err e) = Refuses e fault

-- the same of a reader that gave what is seen as the value
abbrev pub Shows : {A B : Type 0} → (see : A → B) → Option SheetError → B → Result A SheetError → Type 0
Shows see fault value (Ok found) = (fault ≡ None) × (see found ≡ value)
Shows see fault value (Err e) = Refuses e fault
