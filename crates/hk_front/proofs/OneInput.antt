-- The bytes of an input are one sheet at most, and call for one line where they are none.
use Rattle.std.proofs.Common.{◌≡◌, ◌≢◌, ℕ, ◌⊎◌, inl, inr, List, Ok, Err, refl, sym, ap, ◌∙◌, arith}
use Rattle.toml.specs.Data.{Members}
use Rattle.hk_sheet.specs.declared.error.SheetError.{SheetError}
use Rattle.hk_sheet.specs.declared.error.SheetError.TheVariants as unread
use Rattle.hk_sheet.specs.declared.sheet.Sheet.{Sheet}
use Rattle.hk_sheet.specs.Answers.{IsDocument, IsRead, Answers}
use Rattle.hk_sheet.proofs.OneAnswer.{one_read, answered}
use Rattle.hk_front.specs.Refusals.{sheet_line}
use Rattle.hk_front.specs.Input.{IsSheetOf, IsNoSheet, IsUnread, too_long, no_sheet}

-- one sheet
pub one_sheet : (bytes : List ℕ) (x y : Sheet) → IsSheetOf bytes x → IsSheetOf bytes y → x ≡ y
one_sheet bytes x y a b = let same = one_read bytes (Ok x) (Ok y) a.read b.read in cc

-- bytes that aren't read are no sheet
pub none_read : (bytes text : List ℕ) (sheet : Sheet) → IsUnread bytes text → IsSheetOf bytes sheet → ⊥
none_read bytes text sheet (too_long long is) x = let s = x.short in omega (arith, long, s)
none_read bytes text sheet (no_sheet error e is) x = e.told (answered sheet bytes (Err error) x.read e.answers)

-- the bytes are no document, or the first fault of one
abbrev IsTold : List ℕ → SheetError → Type 0
IsTold bytes error = ((error ≡ unread.Text) × ((document : Members) → ¬ (IsDocument bytes document))) ⊎ IsRead bytes (Err error)

told_by : (bytes : List ℕ) (error : SheetError) → error ≢ unread.Memory → Answers bytes (Err error) → IsTold bytes error
told_by bytes unread.Text told a = inl (refl, a)
told_by bytes (unread.Missing key) told a = inr a
told_by bytes (unread.Unknown key) told a = inr a
told_by bytes (unread.Kind key) told a = inr a
told_by bytes (unread.Range key) told a = inr a
told_by bytes (unread.Name index) told a = inr a
told_by bytes (unread.Arrivals task place earlier later) told a = inr a
told_by bytes (unread.Script task error) told a = inr a
told_by bytes (unread.Geometry error) told a = inr a
told_by bytes unread.Memory told a = absurd (told refl)

-- they are no sheet for one reason
one_error : (bytes : List ℕ) (x y : SheetError) → IsNoSheet bytes x → IsNoSheet bytes y → x ≡ y
one_error bytes x y a b = go (told_by bytes x a.told a.answers) (told_by bytes y b.told b.answers)
  where
    go : IsTold bytes x → IsTold bytes y → x ≡ y
    go (inl p) (inl q) = p.0 ∙ sym q.0
    go (inl p) (inr q) = absurd (p.1 q.document q.is)
    go (inr p) (inl q) = absurd (q.1 p.document p.is)
    go (inr p) (inr q) = let same = one_read bytes (Err x) (Err y) p q in cc

-- one line for bytes that aren't read
pub one_unread : (bytes t t' : List ℕ) → IsUnread bytes t → IsUnread bytes t' → t ≡ t'
one_unread bytes t t' (too_long long is) (too_long long' is') = is ∙ sym is'
one_unread bytes t t' (too_long long is) (no_sheet error e is') = let s = e.short in absurd (omega (arith, long, s))
one_unread bytes t t' (no_sheet error e is) (too_long long' is') = let s = e.short in absurd (omega (arith, long', s))
one_unread bytes t t' (no_sheet error e is) (no_sheet error' e' is') = is ∙ ap sheet_line (one_error bytes error error' e e') ∙ sym is'
