-- What the report needs of a sheet that can be read.
use Rattle.std.proofs.Common.{◌≡◌, ℕ, ◌≤◌, Bool, true, false, ◌&&◌, List, [], ◌∷◌, length, refl, sym, subst, arith}
use Rattle.std.proofs.lemmas.Bool.{both_ways}
use Rattle.std.specs.Prelude.{nat_le}
use Rattle.std.specs.List.{AllByRecursion}
use Rattle.hk_sheet.specs.declared.sheet.HeapKeys.{HeapKeys}
use Rattle.hk_sheet.specs.declared.sheet.High.{High}
use Rattle.hk_sheet.specs.declared.sheet.Low.{Low}
use Rattle.hk_sheet.specs.declared.sheet.Sheet.{Sheet}
use Rattle.hk_sheet.specs.Faults.{is_name}
use Rattle.hk_sheet.specs.Valid.{IsHigh, IsLow, IsSheet}
use Rattle.hk_top.specs.Names.{AreNamed, AreLowNamed}

and_last : (a b : Bool) → (a && b) ≡ true → b ≡ true
and_last true b e = e
and_last false b e = absurd (both_ways false refl e)

-- a name is short
short_name : (name : List ℕ) → is_name name ≡ true → length name ≤ 16
short_name [] is = omega arith
short_name (first ∷ rest) is =
    let last : nat_le (length (first ∷ rest)) 16 ≡ true = and_last _ (nat_le (length (first ∷ rest)) 16) (and_last _ _ is) in
    grind (arith, last)

named : (ticks : ℕ) (heap : HeapKeys) (tasks : List High) → AllByRecursion (IsHigh ticks heap) tasks → AreNamed tasks
named ticks heap [] all = tt
named ticks heap (t ∷ ts) all = (short_name t.name all.0.name, named ticks heap ts all.1)

low_named : (ticks : ℕ) (heap : HeapKeys) (tasks : List Low) → AllByRecursion (IsLow ticks heap) tasks → AreLowNamed tasks
low_named ticks heap [] all = tt
low_named ticks heap (t ∷ ts) all = (short_name t.name all.0.name, low_named ticks heap ts all.1)

pub sheet_named : (sheet : Sheet) (tasks : List High) → IsSheet sheet → tasks ≡ sheet.high → AreNamed tasks
sheet_named sheet tasks is same = subst AreNamed (sym same) (named sheet.ticks sheet.heap sheet.high is.high)

pub sheet_low_named : (sheet : Sheet) (tasks : List Low) → IsSheet sheet → tasks ≡ sheet.low → AreLowNamed tasks
sheet_low_named sheet tasks is same = subst AreLowNamed (sym same) (low_named sheet.ticks sheet.heap sheet.low is.low)
