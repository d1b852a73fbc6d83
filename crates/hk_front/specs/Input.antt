-- What the bytes of an input are.
use Rattle.std.specs.Prelude.{◌≡◌, ◌≢◌, ℕ, ◌<◌, ◌≤◌, List, length, Ok, Err}
use Rattle.hk_io.specs.declared.Status.{Status}
use Rattle.hk_io.specs.declared.Status.TheVariants as status
use Rattle.hk_io.specs.Limits.{longest_input}
use Rattle.hk_sheet.specs.declared.error.SheetError.{SheetError}
use Rattle.hk_sheet.specs.declared.error.SheetError.TheVariants as unread
use Rattle.hk_sheet.specs.declared.sheet.Sheet.{Sheet}
use Rattle.hk_sheet.specs.Answers.{IsRead, Answers}
use Rattle.hk_front.specs.Refusals.{long_line, sheet_line}

-- the bytes aren't too many, and they are this sheet
pub record IsSheetOf (bytes : List ℕ) (sheet : Sheet) : Type 0 where
  pub short : length bytes ≤ longest_input
  pub read : IsRead bytes (Ok sheet)

-- the bytes aren't too many, and this is why they are no sheet
pub record IsNoSheet (bytes : List ℕ) (error : SheetError) : Type 0 where
  pub short : length bytes ≤ longest_input
  pub told : error ≢ unread.Memory
  pub answers : Answers bytes (Err error)

-- the line for bytes that are too many, or no sheet
pub data IsUnread (bytes : List ℕ) (text : List ℕ) : Type 0 where
  too_long : longest_input < length bytes → text ≡ long_line → IsUnread bytes text
  no_sheet : (error : SheetError) → IsNoSheet bytes error → text ≡ sheet_line error → IsUnread bytes text

-- what bytes that aren't read as a sheet call for: the status `Sheet`, and their line
abbrev pub UnreadCallsFor : (bytes : List ℕ) → Status → (text : List ℕ) → Type 0
UnreadCallsFor bytes status.Sheet text = IsUnread bytes text
UnreadCallsFor bytes other text = ⊥
