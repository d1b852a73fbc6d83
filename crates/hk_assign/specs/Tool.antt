-- What the program answers and writes, by its words and its input.
use Rattle.std.specs.Prelude.{◌≡◌, ℕ, List, [], ◌∷◌, codes, Option, IfSome, Ok, String}
use Rattle.std.specs.declared.alloc.Global.{Global}
use Rattle.std.specs.Io.KnownBytes.{Appends}
use Rattle.hk_io.specs.declared.Status.{Status}
use Rattle.hk_io.specs.declared.Status.TheVariants as status
use Rattle.hk_io.specs.Bytes.{AppendsPrefix}
use Rattle.hk_sheet.specs.declared.sheet.Sheet.{Sheet}
use Rattle.hk_sheet.specs.Answers.{IsRead}
use Rattle.hk_admit.specs.Analysis.{timings_of}
use Rattle.hk_front.specs.Text.{line}
use Rattle.hk_front.specs.Input.{IsSheetOf, IsUnread}
use Rattle.hk_assign.specs.Assignment.{IsStuck}
use Rattle.hk_assign.specs.Sheets.{names_at, in_sheet_order, IsAssigned}

-- the words that the program takes: none
abbrev pub IsAsked : List (String Global) → Type 0
IsAsked words = words ≡ []

-- the line for any other words
abbrev pub usage_line : List ℕ
usage_line = line (codes "usage: hk_assign" ∷ [])

-- the line that there is no order because of these tasks
abbrev pub order_line : (names : List (List ℕ)) → List ℕ
order_line names = line (codes "refused" ∷ codes "order" ∷ names)

-- the text of the sheet that the bytes are, with its high tasks in the order that the rule gives. Which of the texts that
-- are read as that sheet it is, is left open
pub record IsArranged (bytes : List ℕ) (text : List ℕ) : Type 0 where
  pub sheet : Sheet
  pub is : IsSheetOf bytes sheet
  pub order : List ℕ
  pub assigned : IsAssigned sheet.high order
  pub text_is : IsRead text (Ok (in_sheet_order sheet order))

-- the line for bytes that are a sheet whose high tasks have no order: the largest set of them of which none can be the last
pub record IsNoOrder (bytes : List ℕ) (text : List ℕ) : Type 0 where
  pub sheet : Sheet
  pub is : IsSheetOf bytes sheet
  pub set : List ℕ
  pub stuck : IsStuck (timings_of sheet.high) set
  pub text_is : text ≡ order_line (names_at sheet.high set)

-- how the program ends on these bytes, where nothing fails, and what it writes
abbrev pub BytesCallFor : (bytes : List ℕ) → Status → (text : List ℕ) → Type 0
BytesCallFor bytes status.Sheet text = IsUnread bytes text
BytesCallFor bytes status.NotAdmitted text = IsNoOrder bytes text
BytesCallFor bytes status.Done text = IsArranged bytes text
BytesCallFor bytes other text = ⊥

-- WHAT THE WORDS AND THE BYTES CALL FOR: one end at most, and one text, or texts that are read as one sheet (the law
-- `one_end_and_one_text`). Words call for the usage line, whatever the bytes
abbrev pub CallsFor : List (String Global) → (bytes : List ℕ) → Status → (text : List ℕ) → Type 0
CallsFor words bytes status.Usage text = (¬ (IsAsked words)) × (text ≡ usage_line)
CallsFor words bytes other text = IsAsked words × BytesCallFor bytes other text

-- the whole text was written that the words and the input call for; where the input isn't told, that some input calls for
pub record Writes (words : List (String Global)) (input before after : Option (List ℕ)) (ended : Status) : Type 0 where
  pub bytes : List ℕ
  pub told : IfSome input (λ left. bytes ≡ left)
  pub text : List ℕ
  pub called : CallsFor words bytes ended text
  pub written : Appends before after text

-- a first part was written of the text that the words and the input call for
pub record WritesPrefix (words : List (String Global)) (input before after : Option (List ℕ)) : Type 0 where
  pub bytes : List ℕ
  pub told : IfSome input (λ left. bytes ≡ left)
  pub ended : Status
  pub text : List ℕ
  pub called : CallsFor words bytes ended text
  pub written : AppendsPrefix before after text

-- two texts are read as one sheet
abbrev pub AreOneSheet : (text other : List ℕ) → Type 0
AreOneSheet text other = (sheet : Sheet) × IsRead text (Ok sheet) × IsRead other (Ok sheet)
