-- Each of the facts that the types keep has at most one proof.
use Rattle.std.specs.Prelude.{ℕ, List, [], ◌∷◌}
use Rattle.std.specs.Coded.{×_prop}
use Rattle.std.proofs.Props.{props}
use Rattle.hk_rta.specs.declared.Timing.{Timing}
use Rattle.hk_script.specs.declared.statement.Statement.{Statement}
use Rattle.hk_script.specs.declared.statement.Statement.TheVariants as statement
use Rattle.hk_script.specs.declared.statement.Test.{Test}
use Rattle.hk_script.specs.declared.statement.Test.TheVariants as test
use Rattle.hk_script.specs.Limits.{limits_of}
use Rattle.hk_script.specs.Blocks.{IsScript}
use Rattle.hk_script.specs.Spelling.{IsTest, IsStatement}
use Rattle.hk_sheet.specs.declared.arrivals.Arrivals.{Arrivals}
use Rattle.hk_sheet.specs.declared.arrivals.Arrivals.TheVariants.{Every}
use Rattle.hk_sheet.specs.declared.arrivals.Arrivals.TheVariants as arrivals
use Rattle.hk_sheet.specs.declared.sheet.Sheet.{Sheet}
use Rattle.hk_sheet.specs.Valid.{IsSheet, AreSpaced, AreArrivals, AreDistinct}
use Rattle.hk_admit.specs.Facts.{IsChecked}
use Rattle.hk_admit.specs.Conditions.{AreResponses}

AreSpaced-prop : (gap : ℕ) (ticks : List ℕ) → IsProp (AreSpaced gap ticks)
AreSpaced-prop gap [] = Prim.hlevel props
AreSpaced-prop gap (tick ∷ []) = Prim.hlevel props
AreSpaced-prop gap (earlier ∷ later ∷ rest) = ×_prop (Prim.hlevel props) (AreSpaced-prop gap (later ∷ rest))

AreArrivals-prop : (ticks gap : ℕ) (task : Arrivals) → IsProp (AreArrivals ticks gap task)
AreArrivals-prop ticks gap (Every first step) = Prim.hlevel props
AreArrivals-prop ticks gap (arrivals.List list) = Prim.hlevel (props, AreSpaced-prop)

AreDistinct-prop : (names : List (List ℕ)) → IsProp (AreDistinct names)
AreDistinct-prop [] = Prim.hlevel props
AreDistinct-prop (name ∷ rest) = ×_prop (Prim.hlevel props) (AreDistinct-prop rest)

IsTest-prop : (fields registers : ℕ) (t : Test) → IsProp (IsTest (limits_of fields registers) t)
IsTest-prop fields registers (test.Less left right) = Prim.hlevel props
IsTest-prop fields registers (test.Equal left right) = Prim.hlevel props
IsTest-prop fields registers (test.Null reg) = Prim.hlevel props
IsTest-prop fields registers (test.Same left right) = Prim.hlevel props

IsStatement-prop : (fields registers : ℕ) (s : Statement) → IsProp (IsStatement (limits_of fields registers) s)
IsStatement-prop fields registers (statement.If t) = IsTest-prop fields registers t
IsStatement-prop fields registers s = Prim.hlevel props

IsScript-prop : (fields registers : ℕ) (script : List Statement) → IsProp (IsScript (limits_of fields registers) script)
IsScript-prop fields registers script = Prim.hlevel (props, IsStatement-prop)

IsSheet-prop : (sheet : Sheet) → IsProp (IsSheet sheet)
IsSheet-prop sheet = Prim.hlevel (props, AreArrivals-prop, AreDistinct-prop, IsScript-prop)

pub IsChecked-prop : (sheet : Sheet) (work attempt busy debt : ℕ) → IsProp (IsChecked sheet work attempt busy debt)
IsChecked-prop sheet work attempt busy debt = Prim.hlevel (props, IsSheet-prop)

pub AreResponses-prop : (tasks : List Timing) (responses : List ℕ) → IsProp (AreResponses tasks responses)
AreResponses-prop tasks responses = Prim.hlevel props
