-- The first of some faults.
use Rattle.std.proofs.Common.{◌≡◌, List, [], ◌∷◌, ◌++◌, map, Option, Some, None, refl}
use Rattle.std.specs.List.{AllByRecursion}
use Rattle.hk_sheet.specs.declared.error.SheetError.{SheetError}
use Rattle.hk_sheet.specs.Faults.{or_else, first_of}

-- the first of some and then of others
pub first_of-append : (xs ys : List (Option SheetError)) → first_of (xs ++ ys) ≡ or_else (first_of xs) (first_of ys)
first_of-append [] ys = refl
first_of-append (None ∷ xs) ys = first_of-append xs ys
first_of-append (Some fault ∷ xs) ys = refl

-- there is no fault where neither is
pub neither : (a b : Option SheetError) → or_else a b ≡ None → (a ≡ None) × (b ≡ None)
neither None b none = (refl, none)
neither (Some fault) b none = cc

-- none of these is a fault
abbrev pub AreNone : List (Option SheetError) → Type 0
AreNone faults = AllByRecursion (λ fault. fault ≡ None) faults

-- where there is no first fault, there is none
pub none_of : {X : Type 0} (h : X → Option SheetError) (xs : List X) → first_of (map h xs) ≡ None → AllByRecursion (λ x. h x ≡ None) xs
none_of h [] none = tt
none_of h (x ∷ xs) none = let parts = neither (h x) (first_of (map h xs)) none in (parts.0, none_of h xs parts.1)

-- what holds of all of two lists
pub all_append : {A : Type 0} (P : A → Type 0) (xs ys : List A) → AllByRecursion P xs → AllByRecursion P ys → AllByRecursion P (xs ++ ys)
all_append P [] ys front back = back
all_append P (x ∷ xs) ys front back = (front.0, all_append P xs ys front.1 back)

-- a stage without a fault is passed, and one with a fault ends the search
pub skip : {a b : Option SheetError} → a ≡ None → or_else a b ≡ b
skip none = rw none refl

pub stop : {a : Option SheetError} {fault : SheetError} (b : Option SheetError) → a ≡ Some fault → or_else a b ≡ Some fault
stop b found = rw found refl
