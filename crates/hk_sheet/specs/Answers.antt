-- What reading bytes answers.
use Rattle.std.specs.Prelude.{◌≡◌, ℕ, List, Some, Result, Err, IsUtf8}
use Rattle.toml.specs.Data.{Members}
use Rattle.toml.specs.Parse.{parse_document}
use Rattle.hk_sheet.specs.declared.error.SheetError.{SheetError}
use Rattle.hk_sheet.specs.declared.error.SheetError.TheVariants as error
use Rattle.hk_sheet.specs.declared.sheet.Sheet.{Sheet}
use Rattle.hk_sheet.specs.Faults.{sheet_of}

-- the bytes are a TOML document
pub record IsDocument (bytes : List ℕ) (document : Members) : Type 0 where
  pub utf8 : IsUtf8 bytes
  pub parsed : parse_document bytes ≡ Some document

-- the bytes are a TOML document, of which this is the sheet, or the first fault
pub record IsRead (bytes : List ℕ) (answer : Result Sheet SheetError) : Type 0 where
  pub document : Members
  pub is : IsDocument bytes document
  pub read : sheet_of document ≡ answer

-- what was answered is right: the sheet or the first fault of the document, and `Text` where there is no document. Want of
-- memory is free
abbrev pub Answers : List ℕ → Result Sheet SheetError → Type 0
Answers bytes (Err error.Text) = (document : Members) → ¬ (IsDocument bytes document)
Answers bytes (Err error.Memory) = Unit {0}
Answers bytes answer = IsRead bytes answer
