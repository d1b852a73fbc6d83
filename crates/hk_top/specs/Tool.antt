-- What the program answers and writes, by its words and its input.
use Rattle.std.specs.Prelude.{◌≡◌, ◌≢◌, ℕ, Bool, true, false, List, [], ◌∷◌, ◌++◌, map, codes, Option, Some, None, option_map, if◌then◌else◌, IfSome, Ok, String}
use Rattle.std.specs.Str.{bytes_eq}
use Rattle.std.specs.String.{string_bytes}
use Rattle.std.specs.declared.alloc.Global.{Global}
use Rattle.std.specs.Io.KnownBytes.{Appends}
use Rattle.hk_words.specs.declared.geometry.Geometry.{Geometry}
use Rattle.hk_words.specs.Geometry.{HasSizes}
use Rattle.hk_io.specs.declared.Status.{Status}
use Rattle.hk_io.specs.declared.Status.TheVariants as status
use Rattle.hk_io.specs.Bytes.{AppendsPrefix}
use Rattle.hk_io.specs.Number.{number_of}
use Rattle.hk_plan.specs.AloneBy.{least_task}
use Rattle.hk_sheet.specs.declared.sheet.Sheet.{Sheet}
use Rattle.hk_sheet.specs.Answers.{IsRead}
use Rattle.hk_sheet.specs.Faults.{sizes_of}
use Rattle.hk_admit.specs.declared.checked.Admitted.{Admitted}
use Rattle.hk_admit.specs.declared.refused.Refused.{Refused}
use Rattle.hk_admit.specs.declared.refused.Refused.TheVariants as refused
use Rattle.hk_admit.specs.Refusals.{IsRefusal}
use Rattle.hk_gen.specs.Made.{made}
use Rattle.hk_front.specs.Input.{IsSheetOf, IsUnread}
use Rattle.hk_top.specs.declared.report.Form.{Form}
use Rattle.hk_top.specs.declared.report.Form.TheVariants as form
use Rattle.hk_top.specs.declared.report.Finish.{Finish}
use Rattle.hk_top.specs.declared.report.Finish.TheVariants as finish
use Rattle.hk_top.specs.declared.tool.Command.{Command}
use Rattle.hk_top.specs.declared.tool.Command.TheVariants as command
use Rattle.hk_top.specs.Headline.{Headline}
use Rattle.hk_top.specs.Refusals.{usage_line, refused_line}
use Rattle.hk_top.specs.Report.{analysis, IsRunText}

-- the analysis of an admitted sheet
abbrev pub analysis_of : Admitted → List ℕ
analysis_of a = analysis a.checked.sheet a.checked.work a.checked.attempt a.checked.busy a.checked.debt a.responses

-- how the end of a run ends the program
abbrev pub status_of : Finish → Status
status_of finish.AtEnd = status.Done
status_of (finish.Live words) = status.Live

-- WHAT THE WORDS ASK FOR: the analysis of a sheet, its run, or its run with a trace; the sheet that is made for a number, or
-- the run of that
abbrev pub one_word : List ℕ → Option Command
one_word word =
    if bytes_eq word (codes "check") then Some command.Check
    else if bytes_eq word (codes "run") then Some (command.Run form.Plain)
    else None

abbrev pub two_words : (word other : List ℕ) → Option Command
two_words word other =
    if bytes_eq word (codes "run") then (if bytes_eq other (codes "--trace") then Some (command.Run form.Trace) else None)
    else if bytes_eq word (codes "gen") then option_map command.Make (number_of other)
    else if bytes_eq word (codes "sim") then option_map command.Simulate (number_of other)
    else None

abbrev pub asked : List (List ℕ) → Option Command
asked (word ∷ []) = one_word word
asked (word ∷ other ∷ []) = two_words word other
asked words = None

-- the words of the program ask for nothing
abbrev pub AsksNothing : List (String Global) → Type 0
AsksNothing words = asked (map string_bytes words) ≡ None

-- what is asked for needs the input
abbrev pub needs_input : Option Command → Bool
needs_input None = false
needs_input (Some command.Check) = true
needs_input (Some (command.Run f)) = true
needs_input (Some (command.Make n)) = false
needs_input (Some (command.Simulate n)) = false

abbrev pub ReadsInput : List (String Global) → Type 0
ReadsInput words = needs_input (asked (map string_bytes words)) ≡ true

-- WHAT THE BYTES CALL FOR

-- the line for bytes that are a sheet which isn't admitted
pub record IsNotAdmitted (bytes : List ℕ) (text : List ℕ) : Type 0 where
  pub sheet : Sheet
  pub is : IsSheetOf bytes sheet
  pub why : Refused
  pub told : why ≢ refused.Memory
  pub refusal : IsRefusal sheet why
  pub text_is : text ≡ refused_line why

-- WHAT AN ADMITTED SHEET CALLS FOR. The report of its run, which ends the program so: the analysis, and the text of the session
-- of the sheet, of which the headline holds. By what `Admitted` keeps, each response that is printed is the least solution of
-- the response-time equation and at most the deadline, and the printed busy period is the least.
pub record IsReport (f : Form) (admitted : Admitted) (ended : Status) (text : List ℕ) : Type 0 where
  pub geometry : Geometry
  pub sizes : HasSizes geometry (sizes_of admitted.checked.sheet)
  pub headline : Headline geometry admitted.checked.sheet admitted.responses
  pub finish : Finish
  pub ended_is : ended ≡ status_of finish
  pub run : List ℕ
  pub run_is : IsRunText f geometry least_task admitted.checked.sheet finish run
  pub text_is : text ≡ analysis_of admitted ++ run

-- the analysis alone
pub record IsAnalysis (admitted : Admitted) (ended : Status) (text : List ℕ) : Type 0 where
  pub ended_is : ended ≡ status.Done
  pub text_is : text ≡ analysis_of admitted

-- its analysis alone, or its report in a form
abbrev pub answer_for : Option Form → Admitted → Status → (text : List ℕ) → Type 0
answer_for None admitted ended text = IsAnalysis admitted ended text
answer_for (Some f) admitted ended text = IsReport f admitted ended text

-- the bytes are an admitted sheet, for which this is called for
pub record IsAnswer (Answer : Admitted → Status → List ℕ → Type 0) (bytes : List ℕ) (ended : Status) (text : List ℕ) : Type 0 where
  pub admitted : Admitted
  pub is : IsSheetOf bytes admitted.checked.sheet
  pub answer : Answer admitted ended text

-- How the program ends on these bytes, where nothing fails, and what it writes; the first that holds in the order of the
-- refusals. A run that stands still, since the collector found more words reserved than the space has for evacuation, ends by
-- `Live`
abbrev pub BytesCallFor : (Answer : Admitted → Status → List ℕ → Type 0) → (bytes : List ℕ) → Status → (text : List ℕ) → Type 0
BytesCallFor Answer bytes status.Sheet text = IsUnread bytes text
BytesCallFor Answer bytes status.NotAdmitted text = IsNotAdmitted bytes text
BytesCallFor Answer bytes status.Done text = IsAnswer Answer bytes status.Done text
BytesCallFor Answer bytes status.Live text = IsAnswer Answer bytes status.Live text
BytesCallFor Answer bytes other text = ⊥

-- the run of the sheet that is made for a number, without outputs and faults
pub record IsSimulation (n : ℕ) (ended : Status) (text : List ℕ) : Type 0 where
  pub admitted : Admitted
  pub is : admitted.checked.sheet ≡ made n
  pub answer : IsReport form.Quiet admitted ended text

-- WHAT THE WORDS AND THE BYTES CALL FOR: one end at most, and one text (the law `one_end_and_one_text`) but for the sheet that is
-- made for a number, for which each text will do that is read as it. Words that ask for nothing call for the usage line, whatever
-- the bytes
abbrev pub CommandCallsFor : Option Command → (bytes : List ℕ) → Status → (text : List ℕ) → Type 0
CommandCallsFor None bytes ended text = (ended ≡ status.Usage) × (text ≡ usage_line)
CommandCallsFor (Some command.Check) bytes ended text = BytesCallFor (answer_for None) bytes ended text
CommandCallsFor (Some (command.Run f)) bytes ended text = BytesCallFor (answer_for (Some f)) bytes ended text
CommandCallsFor (Some (command.Make n)) bytes ended text = (ended ≡ status.Done) × IsRead text (Ok (made n))
CommandCallsFor (Some (command.Simulate n)) bytes ended text = IsSimulation n ended text

abbrev pub CallsFor : List (String Global) → (bytes : List ℕ) → Status → (text : List ℕ) → Type 0
CallsFor words bytes ended text = CommandCallsFor (asked (map string_bytes words)) bytes ended text

-- the whole text was written that the words and the input call for; where the input isn't told, that some input calls for
pub record Writes (words : List (String Global)) (input before after : Option (List ℕ)) (ended : Status) : Type 0 where
  pub bytes : List ℕ
  pub told : IfSome input (λ left. bytes ≡ left)
  pub text : List ℕ
  pub called : CallsFor words bytes ended text
  pub written : Appends before after text

-- a first part was written of the text that the words and the input call for
pub record WritesPrefix (words : List (String Global)) (input before after : Option (List ℕ)) : Type 0 where
  pub bytes : List ℕ
  pub told : IfSome input (λ left. bytes ≡ left)
  pub ended : Status
  pub text : List ℕ
  pub called : CallsFor words bytes ended text
  pub written : AppendsPrefix before after text
