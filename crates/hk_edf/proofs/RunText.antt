-- The report of a checked sheet, by what its session wrote.
use Rattle.std.proofs.Common.{◌≡◌, ℕ, List, ◌++◌, Option, None, Result, Ok, Err, OnErr, IfOk, refl, sym, subst, arith}
use Rattle.std.specs.Prelude.{MatchResult}
use Rattle.std.specs.Io.KnownBytes.{Appends}
use Rattle.hk_words.specs.declared.geometry.Geometry.{Geometry}
use Rattle.hk_words.specs.Geometry.{HasSizes}
use Rattle.hk_io.specs.declared.Status.{Status}
use Rattle.hk_io.specs.declared.Status.TheVariants as status
use Rattle.hk_io.specs.declared.faults.Failed.{Failed}
use Rattle.hk_io.specs.Bytes.{AppendsPrefix}
use Rattle.hk_io.specs.Faults.{HasCause}
use Rattle.hk_plan.specs.declared.Ready.{Ready}
use Rattle.hk_sheet.specs.declared.sheet.Sheet.{Sheet}
use Rattle.hk_sheet.specs.Faults.{sizes_of}
use Rattle.hk_admit.specs.declared.checked.Checked.{Checked}
use Rattle.hk_dispatch.specs.Moment.{opening}
use Rattle.hk_dispatch.specs.Session.{state}
use Rattle.hk_front.specs.Endings.{HasText, EndsBy}
use Rattle.hk_front.proofs.EndLemmas.{ends_written}
use Rattle.hk_top.specs.declared.report.Form.TheVariants.{Plain}
use Rattle.hk_top.specs.declared.report.Finish.{Finish}
use Rattle.hk_top.specs.declared.report.Finish.TheVariants as finish
use Rattle.hk_top.specs.Report.{ticks_text, last_lines, IsRunText}
use Rattle.hk_top.specs.Tool.{status_of}
use Rattle.hk_top.proofs.RunEnds.{ends_from}
use Rattle.hk_edf.specs.Earliest.{earliest_row}
use Rattle.hk_edf.specs.Refusals.{MeetsDemand}
use Rattle.hk_edf.specs.Text.{edf_analysis, analysis_of}
use Rattle.hk_edf.specs.Tool.{IsReport}
use Rattle.hk_edf.proofs.ToolLemmas.{report_of}

pub opened : (g : Geometry) (choice : List Ready → ℕ) (sheet : Sheet) → (state g choice sheet 0).over ≡ None
unfolding state opening
opened g choice sheet = refl

-- a session has a text
pub some_run : (g : Geometry) (choice : List Ready → ℕ) (sheet : Sheet) → (end : Finish) × (text : List ℕ) × IsRunText Plain g choice sheet end text
some_run g choice sheet =
    let e = ends_from g choice sheet 0 (omega arith) (opened g choice sheet) in
    (e.end, ticks_text Plain g choice sheet e.ticks ++ last_lines g choice sheet e.end e.ticks, record { ticks = e.ticks; ends = e.so; is = refl })

-- the analysis is that of the sheet and its numbers
pub analysis_same : (c : Checked) (sheet : Sheet) (work attempt busy debt : ℕ) → c.sheet ≡ sheet → (c.work ≡ work) × (c.attempt ≡ attempt) × (c.busy ≡ busy) × (c.debt ≡ debt)
    → analysis_of c ≡ edf_analysis sheet work attempt busy debt
analysis_same c sheet work attempt busy debt p q = λ i. edf_analysis (p i) (q.0 i) (q.1 i) (q.2 i) (q.3 i)

-- what was written of a run whose sheet and numbers are those
abbrev pub WroteRun : Geometry → Sheet → (work attempt busy debt : ℕ) → (before after : Option (List ℕ)) → Finish → Type 0
WroteRun g sheet work attempt busy debt before after end = (text : List ℕ) × IsRunText Plain g earliest_row sheet end text × Appends before after (edf_analysis sheet work attempt busy debt ++ text)

abbrev pub WrotePart : Geometry → Sheet → (work attempt busy debt : ℕ) → (before after : Option (List ℕ)) → Type 0
WrotePart g sheet work attempt busy debt before after =
    (end : Finish) × (text : List ℕ) × IsRunText Plain g earliest_row sheet end text × AppendsPrefix before after (edf_analysis sheet work attempt busy debt ++ text)

has_text : (end : Finish) → HasText (status_of end)
has_text finish.AtEnd = tt
has_text (finish.Live words) = tt

-- how the run ended, by what the session answered
pub to_end : (r : Result Finish Failed) → r ≡ Ok finish.AtEnd → MatchResult r (λ end. status.Done ≡ status_of end) (λ _. status.Done ≡ status.WriteFault)
to_end r is = subst (λ x. MatchResult x (λ end. status.Done ≡ status_of end) (λ _. status.Done ≡ status.WriteFault)) (sym is) refl

pub to_live : (r : Result Finish Failed) (words : ℕ) → r ≡ Ok (finish.Live words) → MatchResult r (λ end. status.Live ≡ status_of end) (λ _. status.Live ≡ status.WriteFault)
to_live r words is = subst (λ x. MatchResult x (λ end. status.Live ≡ status_of end) (λ _. status.Live ≡ status.WriteFault)) (sym is) refl

pub to_fault : (r : Result Finish Failed) (e : Failed) → r ≡ Err e → MatchResult r (λ end. status.WriteFault ≡ status_of end) (λ _. status.WriteFault ≡ status.WriteFault)
to_fault r e is = subst (λ x. MatchResult x (λ end. status.WriteFault ≡ status_of end) (λ _. status.WriteFault ≡ status.WriteFault)) (sym is) refl

module _ (c : Checked) (meets : MeetsDemand c.sheet c.busy) (g : Geometry) (sheet : Sheet) (work attempt busy debt : ℕ)
    (p : sheet ≡ c.sheet) (q : (work ≡ c.work) × (attempt ≡ c.attempt) × (busy ≡ c.busy) × (debt ≡ c.debt)) (sizes : HasSizes g (sizes_of sheet))
    (before after : Option (List ℕ)) (faults faults_after : ℕ) where
  -- the report of the sheet
  called : (end : Finish) (text : List ℕ) → IsRunText Plain g earliest_row sheet end text → IsReport c (status_of end) (edf_analysis sheet work attempt busy debt ++ text)
  called end text is =
      subst (λ t. IsReport c (status_of end) (t ++ text)) (sym (λ i. edf_analysis (p i) (q.0 i) (q.1 i) (q.2 i) (q.3 i)))
      (report_of c g (subst (λ (s : Sheet). HasSizes g (sizes_of s)) p sizes) meets end text (subst (λ (s : Sheet). IsRunText Plain g earliest_row s end text) p is))

  pub run_ends : (written : Result Finish Failed) (result : Status) → IfOk written (λ end. WroteRun g sheet work attempt busy debt before after end)
      → OnErr written (WrotePart g sheet work attempt busy debt before after) → HasCause faults faults_after written
      → MatchResult written (λ end. result ≡ status_of end) (λ _. result ≡ status.WriteFault) → EndsBy (IsReport c) before after faults faults_after result
  run_ends (Ok end) result whole part cause is =
      ends_written (IsReport c) before after faults faults_after (status_of end) (edf_analysis sheet work attempt busy debt ++ whole.0) (Ok tt) result (has_text end)
      (called end whole.0 whole.1) (record { ok = whole.2; prefix = tt; cause = record { later = cause.later; failed = tt; kept = cause.kept } }) is
  run_ends (Err e) result whole part cause is =
      ends_written (IsReport c) before after faults faults_after (status_of part.0) (edf_analysis sheet work attempt busy debt ++ part.1) (Err e) result (has_text part.0)
      (called part.0 part.1 part.2) (record { ok = tt; prefix = part.3; cause = record { later = cause.later; failed = cause.failed; kept = tt } }) is
