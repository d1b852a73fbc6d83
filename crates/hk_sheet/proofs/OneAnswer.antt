-- Bytes have one answer, but for want of memory.
use Rattle.std.proofs.Common.{◌≡◌, ℕ, List, Some, Result, Ok, Err, refl, sym, ◌∙◌}
use Rattle.std.specs.Result.{MatchResult}
use Rattle.hk_sheet.specs.declared.error.SheetError.{SheetError}
use Rattle.hk_sheet.specs.declared.error.SheetError.TheVariants as error
use Rattle.hk_sheet.specs.declared.sheet.Sheet.{Sheet}
use Rattle.hk_sheet.specs.Answers.{IsRead, Answers}

-- bytes are read in one way
pub one_read : (bytes : List ℕ) (answer other : Result Sheet SheetError) → IsRead bytes answer → IsRead bytes other → answer ≡ other
one_read bytes answer other first second =
    let same : Some first.document ≡ Some second.document = sym first.is.parsed ∙ second.is.parsed in
    let document : first.document ≡ second.document = cc in
    sym first.read ∙ rw document second.read

-- so no fault is read where a sheet is
no_fault : (bytes : List ℕ) (sheet : Sheet) (fault : SheetError) → IsRead bytes (Ok sheet) → IsRead bytes (Err fault) → ⊥
no_fault bytes sheet fault good bad = let same = one_read bytes (Ok sheet) (Err fault) good bad in cc

-- bytes of which a sheet is read are answered by it
pub answered : (sheet : Sheet) (bytes : List ℕ) (answer : Result Sheet SheetError) → IsRead bytes (Ok sheet) → Answers bytes answer → MatchResult answer (λ s. s ≡ sheet) (λ e. e ≡ error.Memory)
answered sheet bytes (Ok found) good right = let same = one_read bytes (Ok sheet) (Ok found) good right in cc
answered sheet bytes (Err error.Text) good right = absurd (right good.document good.is)
answered sheet bytes (Err error.Memory) good right = refl
answered sheet bytes (Err (error.Missing key)) good right = absurd (no_fault bytes sheet (error.Missing key) good right)
answered sheet bytes (Err (error.Unknown key)) good right = absurd (no_fault bytes sheet (error.Unknown key) good right)
answered sheet bytes (Err (error.Kind key)) good right = absurd (no_fault bytes sheet (error.Kind key) good right)
answered sheet bytes (Err (error.Range key)) good right = absurd (no_fault bytes sheet (error.Range key) good right)
answered sheet bytes (Err (error.Name index)) good right = absurd (no_fault bytes sheet (error.Name index) good right)
answered sheet bytes (Err (error.Arrivals task place earlier later)) good right = absurd (no_fault bytes sheet (error.Arrivals task place earlier later) good right)
answered sheet bytes (Err (error.Script task fault)) good right = absurd (no_fault bytes sheet (error.Script task fault) good right)
answered sheet bytes (Err (error.Geometry fault)) good right = absurd (no_fault bytes sheet (error.Geometry fault) good right)
