-- What the program answers and writes, by its words and its input.
use Rattle.std.specs.Prelude.{◌≡◌, ◌≢◌, ℕ, ◌≤◌, List, [], ◌∷◌, ◌++◌, Option, IfSome, String}
use Rattle.std.specs.declared.alloc.Global.{Global}
use Rattle.std.specs.Io.KnownBytes.{Appends}
use Rattle.hk_words.specs.declared.geometry.Geometry.{Geometry}
use Rattle.hk_words.specs.Geometry.{HasSizes}
use Rattle.hk_io.specs.declared.Status.{Status}
use Rattle.hk_io.specs.declared.Status.TheVariants as status
use Rattle.hk_io.specs.Bytes.{AppendsPrefix}
use Rattle.hk_collect.specs.Live.{LiveExceeds}
use Rattle.hk_sheet.specs.declared.sheet.Sheet.{Sheet}
use Rattle.hk_sheet.specs.Faults.{sizes_of}
use Rattle.hk_admit.specs.declared.checked.Checked.{Checked}
use Rattle.hk_dispatch.specs.Moment.{flip_heap}
use Rattle.hk_dispatch.specs.Session.{state}
use Rattle.hk_front.specs.Input.{IsSheetOf, IsUnread}
use Rattle.hk_top.specs.declared.report.Form.TheVariants.{Plain}
use Rattle.hk_top.specs.declared.report.Finish.{Finish}
use Rattle.hk_top.specs.Report.{IsRunText}
use Rattle.hk_top.specs.Tool.{status_of}
use Rattle.hk_edf.specs.declared.refused.EdfRefused.{EdfRefused}
use Rattle.hk_edf.specs.declared.refused.EdfRefused.TheVariants as refused
use Rattle.hk_edf.specs.Earliest.{earliest_row}
use Rattle.hk_edf.specs.Refusals.{MeetsDemand, IsEdfRefusal}
use Rattle.hk_edf.specs.Headline.{Headline}
use Rattle.hk_edf.specs.Reserve.{Reserve}
use Rattle.hk_edf.specs.Text.{usage_line, analysis_of, edf_line}

-- WHAT THE BYTES CALL FOR

-- the line for bytes that are a sheet which isn't admitted
pub record IsNotAdmitted (bytes : List ℕ) (text : List ℕ) : Type 0 where
  pub sheet : Sheet
  pub is : IsSheetOf bytes sheet
  pub why : EdfRefused
  pub told : why ≢ refused.Memory
  pub refusal : IsEdfRefusal sheet why
  pub text_is : text ≡ edf_line why

-- What an admitted sheet calls for. The report of its run, which ends the program so: the analysis, and the text of the session
-- of the sheet, of which the headline holds, and what is promised of the debt and of the reserve.
pub record IsReport (checked : Checked) (ended : Status) (text : List ℕ) : Type 0 where
  pub geometry : Geometry
  pub sizes : HasSizes geometry (sizes_of checked.sheet)
  pub headline : Headline geometry checked.sheet
  pub reserve : Reserve geometry checked.sheet checked.work checked.busy checked.debt
  pub finish : Finish
  pub ended_is : ended ≡ status_of finish
  pub run : List ℕ
  pub run_is : IsRunText Plain geometry earliest_row checked.sheet finish run
  pub text_is : text ≡ analysis_of checked ++ run

-- the bytes are an admitted sheet, with its report
pub record IsAnswer (bytes : List ℕ) (ended : Status) (text : List ℕ) : Type 0 where
  pub checked : Checked
  pub is : IsSheetOf bytes checked.sheet
  pub meets : MeetsDemand checked.sheet checked.busy
  pub report : IsReport checked ended text

-- How the program ends on these bytes, where nothing fails, and what it writes; the first that holds in the order of the
-- refusals. A run that stands still, since the collector found more words reserved than the space has for evacuation, ends by
-- `Live`
abbrev pub BytesCallFor : (bytes : List ℕ) → Status → (text : List ℕ) → Type 0
BytesCallFor bytes status.Sheet text = IsUnread bytes text
BytesCallFor bytes status.NotAdmitted text = IsNotAdmitted bytes text
BytesCallFor bytes status.Done text = IsAnswer bytes status.Done text
BytesCallFor bytes status.Live text = IsAnswer bytes status.Live text
BytesCallFor bytes other text = ⊥

-- WHAT THE WORDS AND THE BYTES CALL FOR: one end at most, and one text. Words call for the usage line, whatever the bytes
abbrev pub CallsFor : List (String Global) → (bytes : List ℕ) → Status → (text : List ℕ) → Type 0
CallsFor [] bytes ended text = BytesCallFor bytes ended text
CallsFor (word ∷ words) bytes ended text = (ended ≡ status.Usage) × (text ≡ usage_line)

-- the whole text was written that the words and the input call for; where the input isn't told, that some input calls for
pub record Writes (words : List (String Global)) (input before after : Option (List ℕ)) (ended : Status) : Type 0 where
  pub bytes : List ℕ
  pub told : IfSome input (λ left. bytes ≡ left)
  pub text : List ℕ
  pub called : CallsFor words bytes ended text
  pub written : Appends before after text

-- a first part was written of the text that the words and the input call for
pub record WritesPrefix (words : List (String Global)) (input before after : Option (List ℕ)) : Type 0 where
  pub bytes : List ℕ
  pub told : IfSome input (λ left. bytes ≡ left)
  pub ended : Status
  pub text : List ℕ
  pub called : CallsFor words bytes ended text
  pub written : AppendsPrefix before after text

-- THE LAWS

-- one end, and one text
abbrev pub OneEnd : Type 0
OneEnd = (words : List (String Global)) (bytes : List ℕ) (one other : Status) (text text' : List ℕ)
    → CallsFor words bytes one text → CallsFor words bytes other text' → one ≡ other

abbrev pub OneText : Type 0
OneText = (words : List (String Global)) (bytes : List ℕ) (one other : Status) (text text' : List ℕ)
    → CallsFor words bytes one text → CallsFor words bytes other text' → text ≡ text'

-- at no moment of the run up to the horizon more words were live at the last flip than the sheet declares
abbrev pub LiveIsWithin : Geometry → Sheet → Type 0
LiveIsWithin g sheet = (t : ℕ) → t ≤ sheet.ticks → ¬ (LiveExceeds g (flip_heap g (state g earliest_row sheet t)) sheet.heap.live)

-- the run of an admitted sheet is called for to its end, where that is so
abbrev pub AdmittedIsDone : Type 0
AdmittedIsDone = (bytes : List ℕ) (checked : Checked) (g : Geometry) → IsSheetOf bytes checked.sheet → MeetsDemand checked.sheet checked.busy
    → HasSizes g (sizes_of checked.sheet) → LiveIsWithin g checked.sheet → (text : List ℕ) × CallsFor [] bytes status.Done text
