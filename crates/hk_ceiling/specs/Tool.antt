-- What the program answers and writes, by its words and its input.
use Rattle.std.specs.Prelude.{◌≡◌, ◌≢◌, ℕ, true, false, List, [], ◌∷◌, ◌++◌, codes, decimal, Option, IfSome, String}
use Rattle.std.specs.declared.alloc.Global.{Global}
use Rattle.std.specs.Io.KnownBytes.{Appends}
use Rattle.hk_words.specs.declared.geometry.Geometry.{Geometry}
use Rattle.hk_words.specs.Geometry.{HasSizes}
use Rattle.hk_io.specs.declared.Status.{Status}
use Rattle.hk_io.specs.declared.Status.TheVariants as status
use Rattle.hk_io.specs.Bytes.{AppendsPrefix}
use Rattle.hk_sheet.specs.declared.sheet.Sheet.{Sheet}
use Rattle.hk_sheet.specs.Faults.{sizes_of}
use Rattle.hk_dispatch.specs.Session.{IsSession}
use Rattle.hk_front.specs.Text.{line}
use Rattle.hk_front.specs.Input.{IsSheetOf, IsUnread}
use Rattle.hk_top.specs.declared.report.Finish.{Finish}
use Rattle.hk_top.specs.declared.report.Form.TheVariants.{Plain}
use Rattle.hk_top.specs.Refusals.{refused_words}
use Rattle.hk_top.specs.Report.{analysis, IsRunText}
use Rattle.hk_top.specs.Tool.{status_of}
use Rattle.hk_ceiling.specs.declared.admitted.Held.{Held}
use Rattle.hk_ceiling.specs.declared.ceilings.TaskSection.{TaskSection}
use Rattle.hk_ceiling.specs.declared.refused.CeilRefused.{CeilRefused}
use Rattle.hk_ceiling.specs.declared.refused.CeilRefused.TheVariants as refusal
use Rattle.hk_ceiling.specs.declared.told.Section.{Section}
use Rattle.hk_ceiling.specs.Admission.{IsCeilRefusal}
use Rattle.hk_ceiling.specs.Choice.{by_ceilings}
use Rattle.hk_ceiling.specs.Headline.{Headline, LiveIsWithin}
use Rattle.hk_ceiling.specs.Told.{all_numbered}
use Rattle.hk_ceiling.specs.Words.{are_sections, sections_from}

-- LINES

-- the words that the program takes
abbrev pub usage_line : List ℕ
usage_line = line (codes "usage: hk_ceiling [NAME:RES:START:LEN]..." ∷ [])

-- why a sheet with sections isn't admitted; want of memory is no reason that is told
abbrev pub ceil_words : CeilRefused → List (List ℕ)
ceil_words (refusal.Section q) = codes "section" ∷ decimal q ∷ []
ceil_words (refusal.Heap refused) = refused_words refused
ceil_words (refusal.Jitter name) = codes "jitter" ∷ name ∷ []
ceil_words (refusal.Response name) = codes "response" ∷ name ∷ []
ceil_words refusal.Memory = []

abbrev pub ceil_line : CeilRefused → List ℕ
ceil_line why = line (codes "refused" ∷ ceil_words why)

-- WHAT THE SECTIONS AND THE BYTES CALL FOR

-- the line for bytes that are a sheet which isn't admitted with these sections
pub record IsNotAdmitted (sections : List Section) (bytes : List ℕ) (text : List ℕ) : Type 0 where
  pub sheet : Sheet
  pub is : IsSheetOf bytes sheet
  pub why : CeilRefused
  pub told : why ≢ refusal.Memory
  pub refusal : IsCeilRefusal sheet sections why
  pub text_is : text ≡ ceil_line why

-- the sections of an admitted sheet, by the numbers of their tasks
abbrev pub numbered_of : Held → List TaskSection
numbered_of held = all_numbered held.checked.sheet.high held.sections

-- its analysis
abbrev pub analysis_of : Held → List ℕ
analysis_of held = analysis held.checked.sheet held.checked.work held.checked.attempt held.checked.busy held.checked.debt held.responses

-- The report of the run of an admitted sheet, which ends the program so: the analysis, and the text of the session of the sheet, of
-- which the headline holds, and each promise of the dispatcher, since high tasks go by a choice among the ready ones. By what
-- `Held` keeps, each response that is printed is the least solution of its equation, with room for one section of a later task.
pub record IsReport (held : Held) (ended : Status) (text : List ℕ) : Type 0 where
  pub geometry : Geometry
  pub sizes : HasSizes geometry (sizes_of held.checked.sheet)
  pub session : IsSession geometry (by_ceilings (numbered_of held)) held.checked.sheet held.checked.work held.checked.attempt held.checked.busy held.checked.debt
  pub headline : Headline geometry held.checked.sheet (numbered_of held) held.responses
  pub finish : Finish
  pub ended_is : ended ≡ status_of finish
  pub run : List ℕ
  pub run_is : IsRunText Plain geometry (by_ceilings (numbered_of held)) held.checked.sheet finish run
  pub text_is : text ≡ analysis_of held ++ run

-- the bytes are a sheet that is admitted with these sections, and this is its report
pub record IsAnswer (sections : List Section) (bytes : List ℕ) (ended : Status) (text : List ℕ) : Type 0 where
  pub held : Held
  pub sections_are : held.sections ≡ sections
  pub is : IsSheetOf bytes held.checked.sheet
  pub report : IsReport held ended text

-- How the program ends on these bytes, where nothing fails, and what it writes; the first that holds in the order of the
-- refusals. A run that stands still, since the collector
-- found more words reserved than the space has for evacuation, ends by `Live`
abbrev pub BytesCallFor : (sections : List Section) → (bytes : List ℕ) → Status → (text : List ℕ) → Type 0
BytesCallFor sections bytes status.Sheet text = IsUnread bytes text
BytesCallFor sections bytes status.NotAdmitted text = IsNotAdmitted sections bytes text
BytesCallFor sections bytes status.Done text = IsAnswer sections bytes status.Done text
BytesCallFor sections bytes status.Live text = IsAnswer sections bytes status.Live text
BytesCallFor sections bytes other text = ⊥

-- WHAT THE WORDS AND THE BYTES CALL FOR: one end at most, and one text (the law `one_end_and_one_text`). Words that tell no
-- sections call for the usage line, whatever the bytes
abbrev pub CallsFor : List (String Global) → (bytes : List ℕ) → Status → (text : List ℕ) → Type 0
CallsFor words bytes status.Usage text = (are_sections words ≡ false) × (text ≡ usage_line)
CallsFor words bytes other text = (are_sections words ≡ true) × BytesCallFor (sections_from words) bytes other text

-- the whole text was written that the words and the input call for; where the input isn't told, that some input calls for
pub record Writes (words : List (String Global)) (input before after : Option (List ℕ)) (ended : Status) : Type 0 where
  pub bytes : List ℕ
  pub told : IfSome input (λ left. bytes ≡ left)
  pub text : List ℕ
  pub called : CallsFor words bytes ended text
  pub written : Appends before after text

-- a first part was written of the text that the words and the input call for
pub record WritesPrefix (words : List (String Global)) (input before after : Option (List ℕ)) : Type 0 where
  pub bytes : List ℕ
  pub told : IfSome input (λ left. bytes ≡ left)
  pub ended : Status
  pub text : List ℕ
  pub called : CallsFor words bytes ended text
  pub written : AppendsPrefix before after text

-- THE LAWS

-- one end, and one text
abbrev pub OneEnd : Type 0
OneEnd = (words : List (String Global)) (bytes : List ℕ) (one other : Status) (text text' : List ℕ)
    → CallsFor words bytes one text → CallsFor words bytes other text' → one ≡ other

abbrev pub OneText : Type 0
OneText = (words : List (String Global)) (bytes : List ℕ) (one other : Status) (text text' : List ℕ)
    → CallsFor words bytes one text → CallsFor words bytes other text' → text ≡ text'

-- the run of a sheet that is admitted with the sections of the words is called for to its end, where at no flip more words are
-- live than the sheet declares
abbrev pub AdmittedIsDone : Type 0
AdmittedIsDone = (words : List (String Global)) (bytes : List ℕ) (held : Held) (g : Geometry)
    → are_sections words ≡ true → held.sections ≡ sections_from words → IsSheetOf bytes held.checked.sheet
    → HasSizes g (sizes_of held.checked.sheet) → LiveIsWithin g held.checked.sheet (numbered_of held)
    → (text : List ℕ) × CallsFor words bytes status.Done text
