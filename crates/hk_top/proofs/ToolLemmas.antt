-- From what the parts of the program answer to what its top call answers.
use Rattle.std.proofs.Common.{◌≡◌, ◌≢◌, ℕ, ◌⊎◌, inl, inr, List, ◌++◌, Option, None, Some, Result, refl, sym, ap, ◌∙◌, subst, String, Global}
use Rattle.std.specs.Prelude.{IfSome, MatchResult, map}
use Rattle.std.specs.String.{string_bytes}
use Rattle.hk_io.specs.declared.Status.{Status}
use Rattle.hk_io.specs.declared.Status.TheVariants as status
use Rattle.hk_io.specs.declared.faults.Failed.{Failed}
use Rattle.hk_words.specs.declared.geometry.Geometry.{Geometry}
use Rattle.hk_words.specs.Geometry.{HasSizes}
use Rattle.hk_sheet.specs.declared.sheet.Sheet.{Sheet}
use Rattle.hk_sheet.specs.Faults.{sizes_of}
use Rattle.hk_plan.specs.AloneBy.{least_task}
use Rattle.hk_admit.specs.declared.checked.Admitted.{Admitted}
use Rattle.hk_admit.specs.declared.refused.Refused.{Refused}
use Rattle.hk_admit.specs.declared.refused.Refused.TheVariants as refused
use Rattle.hk_admit.specs.Refusals.{IsRefusal}
use Rattle.hk_front.specs.Words.{Puts}
use Rattle.hk_front.specs.Input.{IsSheetOf}
use Rattle.hk_front.specs.Endings.{HasText, EndsBy, EndsOn}
use Rattle.hk_front.proofs.EndLemmas.{ends_written, text_or_memory}
use Rattle.hk_top.specs.Refusals.{refused_line}
use Rattle.hk_top.specs.declared.report.Form.{Form}
use Rattle.hk_top.specs.declared.report.Finish.{Finish}
use Rattle.hk_top.specs.declared.report.Finish.TheVariants as finish
use Rattle.hk_top.specs.declared.tool.Command.{Command}
use Rattle.hk_top.specs.Report.{analysis, IsRunText}
use Rattle.hk_top.specs.Tool.{analysis_of, status_of, asked, IsAnalysis, IsReport, answer_for, BytesCallFor, CommandCallsFor, CallsFor, Writes, WritesPrefix}
use Rattle.hk_top.proofs.Headline.{headline}
use Rattle.hk_top.proofs.OneCall.{one_end}

-- the analysis by equal numbers
pub analysis_by : (sheet sheet' : Sheet) (work work' attempt attempt' busy busy' debt debt' : ℕ) (responses : List ℕ) → sheet ≡ sheet' → work ≡ work' → attempt ≡ attempt' → busy ≡ busy' → debt ≡ debt'
    → analysis sheet work attempt busy debt responses ≡ analysis sheet' work' attempt' busy' debt' responses
analysis_by sheet sheet' work work' attempt attempt' busy busy' debt debt' responses same w t b d =
    ap (λ s. analysis s work attempt busy debt responses) same
    ∙ ap (λ n. analysis sheet' n attempt busy debt responses) w
    ∙ ap (λ n. analysis sheet' work' n busy debt responses) t
    ∙ ap (λ n. analysis sheet' work' attempt' n debt responses) b
    ∙ ap (λ n. analysis sheet' work' attempt' busy' n responses) d

-- the report of an admitted sheet, by the numbers of its session
module _ (f : Form) (a : Admitted) (sheet : Sheet) (work attempt busy debt : ℕ) (responses : List ℕ) (g : Geometry) (same : sheet ≡ a.checked.sheet)
    (w : work ≡ a.checked.work) (t : attempt ≡ a.checked.attempt) (b : busy ≡ a.checked.busy) (d : debt ≡ a.checked.debt) (r : responses ≡ a.responses)
    (sizes : HasSizes g (sizes_of sheet)) where
  own_analysis : analysis sheet work attempt busy debt responses ≡ analysis_of a
  own_analysis =
      analysis_by sheet a.checked.sheet work a.checked.work attempt a.checked.attempt busy a.checked.busy debt a.checked.debt responses same w t b d
      ∙ ap (analysis a.checked.sheet a.checked.work a.checked.attempt a.checked.busy a.checked.debt) r

  pub own_report : (s : Status) (end : Finish) (run : List ℕ) → s ≡ status_of end → IsRunText f g least_task sheet end run
      → IsReport f a s (analysis sheet work attempt busy debt responses ++ run)
  own_report s end run ended is =
      let own : HasSizes g (sizes_of a.checked.sheet) = subst (λ (x : Sheet). HasSizes g (sizes_of x)) same sizes in
      record {
        geometry = g;
        sizes = own;
        headline = headline a g own;
        finish = end;
        ended_is = ended;
        run = run;
        run_is = subst (λ (x : Sheet). IsRunText f g least_task x end run) same is;
        text_is = ap (λ x. x ++ run) own_analysis;
      }

-- an admitted sheet of these bytes, whose answer ends the program by Done or by Live
answered : (Answer : Admitted → Status → List ℕ → Type 0) (bytes : List ℕ) (a : Admitted) → IsSheetOf bytes a.checked.sheet → (s : Status) (t : List ℕ)
    → (s ≡ status.Done) ⊎ (s ≡ status.Live) → Answer a s t → BytesCallFor Answer bytes s t
answered Answer bytes a is s t (inl e) answer =
    subst (λ s. BytesCallFor Answer bytes s t) (sym e) (record { admitted = a; is = is; answer = subst (λ s. Answer a s t) e answer })
answered Answer bytes a is s t (inr e) answer =
    subst (λ s. BytesCallFor Answer bytes s t) (sym e) (record { admitted = a; is = is; answer = subst (λ s. Answer a s t) e answer })

by_finish : (s : Status) (end : Finish) → s ≡ status_of end → (s ≡ status.Done) ⊎ (s ≡ status.Live)
by_finish s finish.AtEnd e = inl e
by_finish s (finish.Live words) e = inr e

-- so does its analysis, and the report of its run
pub analysis_calls : (bytes : List ℕ) (a : Admitted) → IsSheetOf bytes a.checked.sheet → (s : Status) (t : List ℕ) → IsAnalysis a s t → BytesCallFor (answer_for None) bytes s t
analysis_calls bytes a is s t answer = answered (answer_for None) bytes a is s t (inl answer.ended_is) answer

pub report_calls : (f : Form) (bytes : List ℕ) (a : Admitted) → IsSheetOf bytes a.checked.sheet → (s : Status) (t : List ℕ) → IsReport f a s t → BytesCallFor (answer_for (Some f)) bytes s t
report_calls f bytes a is s t answer = answered (answer_for (Some f)) bytes a is s t (by_finish s answer.finish answer.ended_is) answer

-- what is called for by what the words ask for
pub asked_as : (words : List (String Global)) (c : Option Command) → asked (map string_bytes words) ≡ c → (bytes : List ℕ) (s : Status) (t : List ℕ) → CommandCallsFor c bytes s t → CallsFor words bytes s t
asked_as words c asks bytes s t called = subst (λ o. CommandCallsFor o bytes s t) (sym asks) called

-- THE TOP CALL
module _ (Calls : List ℕ → Status → List ℕ → Type 0) (words : List (String Global)) (input before after : Option (List ℕ)) (faults faults_after : ℕ) (ended : Status)
    (turns : (bytes : List ℕ) (s : Status) (t : List ℕ) → Calls bytes s t → CallsFor words bytes s t) (e : EndsOn Calls input before after faults faults_after ended) where
  pub writes : HasText ended → Writes words input before after ended
  writes has = let w = e.ends.whole has in record { bytes = e.bytes; told = e.told; text = w.0; called = turns e.bytes ended w.0 w.1; written = w.2 }

  pub writes_prefix : ended ≡ status.WriteFault → WritesPrefix words input before after
  writes_prefix fault = let p = e.ends.prefix fault in record { bytes = e.bytes; told = e.told; ended = p.0; text = p.1; called = turns e.bytes p.0 p.1 p.2; written = p.3 }

-- where nothing fails, the end is the one that is called for
pub complete : (words : List (String Global)) (input before after : Option (List ℕ)) (ended : Status) → (HasText ended → Writes words input before after ended)
    → (ended ≡ status.ReadFault → ⊥) → (ended ≡ status.WriteFault → ⊥)
    → IfSome input (λ bytes. (s : Status) (t : List ℕ) → CallsFor words bytes s t → (ended ≡ s) ⊎ (ended ≡ status.Memory))
complete words None before after ended whole not_read not_write = tt
complete words (Some left) before after ended whole not_read not_write = λ s t called.
    elim (text_or_memory ended not_read not_write) [ inl has ↦ inl (writing (whole has) s t called) | inr none ↦ inr none ]
  where
    writing : Writes words (Some left) before after ended → (s : Status) (t : List ℕ) → CallsFor words left s t → ended ≡ s
    writing w s t called = one_end (asked (map string_bytes words)) left ended s w.text t (subst (λ b. CallsFor words b ended w.text) w.told w.called) called

-- why a sheet isn't admitted
pub admission_refused : (before after : Option (List ℕ)) (faults faults_after : ℕ) (f : Option Form) (bytes : List ℕ) (sheet : Sheet) (why : Refused) (written : Result (Unit {0}) Failed) (result : Status)
    → IsSheetOf bytes sheet → IsRefusal sheet why → why ≢ refused.Memory → Puts before after faults faults_after (refused_line why) written
    → MatchResult written (λ _. result ≡ status.NotAdmitted) (λ _. result ≡ status.WriteFault) → EndsBy (BytesCallFor (answer_for f) bytes) before after faults faults_after result
admission_refused before after faults faults_after f bytes sheet why written result is refusal told puts ended =
    ends_written (BytesCallFor (answer_for f) bytes) before after faults faults_after status.NotAdmitted (refused_line why) written result tt
    (record { sheet = sheet; is = is; why = why; told = told; refusal = refusal; text_is = refl }) puts ended
