-- What the parts of a check answer.
use Rattle.std.specs.Prelude.{◌≡◌, false, List, Option, Some}
use Rattle.std.specs.List.{list_any}
use Rattle.hk_sheet.specs.declared.sheet.High.{High}
use Rattle.hk_admit.specs.declared.refused.Refused.{Refused}
use Rattle.hk_admit.specs.declared.refused.Refused.TheVariants.{Cost, Words, Response, Memory}
use Rattle.hk_admit.specs.Conditions.{is_too_long}
use Rattle.hk_admit.specs.Refusals.{first_too_long, first_too_large, IsFirstLateName}

-- a refusal that was looked for, or want of memory
abbrev pub IsThat : Option Refused → Refused → Type 0
IsThat first Memory = Unit {0}
IsThat first refused = first ≡ Some refused

-- a refusal for what the high tasks declare: all ticks are looked at before all words
abbrev pub IsDeclaredRefusal : List High → Refused → Type 0
IsDeclaredRefusal tasks (Cost task need declared) = first_too_long tasks ≡ Some (Cost task need declared)
IsDeclaredRefusal tasks (Words task need declared) =
    (list_any is_too_long tasks ≡ false) × (first_too_large tasks ≡ Some (Words task need declared))
IsDeclaredRefusal tasks Memory = Unit {0}
IsDeclaredRefusal tasks refused = ⊥

-- a refusal for the response times
abbrev pub IsLateRefusal : List High → Refused → Type 0
IsLateRefusal tasks (Response name) = IsFirstLateName tasks name
IsLateRefusal tasks Memory = Unit {0}
IsLateRefusal tasks refused = ⊥
