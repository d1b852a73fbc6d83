-- What is kept of an admitted sheet has at most one proof.
use Rattle.std.specs.Prelude.{ℕ, List}
use Rattle.std.proofs.Props.{props}
use Rattle.hk_sheet.specs.declared.sheet.Sheet.{Sheet}
use Rattle.hk_ceiling.specs.declared.told.Section.{Section}
use Rattle.hk_ceiling.specs.Admission.{IsHeld}

pub IsHeld-prop : (sheet : Sheet) (sections : List Section) (responses : List ℕ) → IsProp (IsHeld sheet sections responses)
IsHeld-prop sheet sections responses = Prim.hlevel props
