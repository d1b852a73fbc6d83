-- From what the parts of the program answer to what its top call answers.
use Rattle.std.proofs.Common.{◌≡◌, ◌≢◌, ℕ, ◌⊎◌, inl, inr, true, false, List, ◌++◌, Option, Some, None, Result, refl, sym, ap, ◌∙◌, subst, arith, String, Global}
use Rattle.std.specs.Prelude.{IfSome, MatchOption, MatchResult}
use Rattle.hk_io.specs.declared.Status.{Status}
use Rattle.hk_io.specs.declared.Status.TheVariants as status
use Rattle.hk_io.specs.declared.faults.Failed.{Failed}
use Rattle.hk_sheet.specs.declared.sheet.Sheet.{Sheet}
use Rattle.hk_front.specs.Words.{Puts}
use Rattle.hk_front.specs.Input.{IsSheetOf}
use Rattle.hk_front.specs.Endings.{HasText, EndsBy, EndsOn}
use Rattle.hk_front.proofs.EndLemmas.{ends_written, text_or_memory}
use Rattle.hk_top.specs.declared.report.Finish.{Finish}
use Rattle.hk_top.specs.declared.report.Finish.TheVariants as finish
use Rattle.hk_top.specs.Tool.{status_of}
use Rattle.hk_top.proofs.RunEnds.{ends_from, opened}
use Rattle.hk_top.specs.declared.report.Form.TheVariants.{Plain}
use Rattle.hk_top.specs.Report.{analysis, IsRunText}
use Rattle.hk_words.specs.declared.geometry.Geometry.{Geometry}
use Rattle.hk_words.specs.Geometry.{HasSizes}
use Rattle.hk_sheet.specs.Faults.{sizes_of}
use Rattle.hk_ceiling.specs.declared.ceilings.TaskSection.{TaskSection}
use Rattle.hk_ceiling.specs.Choice.{by_ceilings}
use Rattle.hk_ceiling.proofs.Headline.{headline_holds}
use Rattle.hk_ceiling.proofs.OneAnswer.{one_call}
use Rattle.hk_ceiling.proofs.Sessions.{ceilings_choose}
use Rattle.hk_ceiling.specs.declared.admitted.Held.{Held}
use Rattle.hk_ceiling.specs.declared.refused.CeilRefused.{CeilRefused}
use Rattle.hk_ceiling.specs.declared.refused.CeilRefused.TheVariants as refusal
use Rattle.hk_ceiling.specs.declared.told.Section.{Section}
use Rattle.hk_ceiling.specs.Admission.{IsCeilRefusal}
use Rattle.hk_ceiling.specs.Tool.{usage_line, ceil_line, numbered_of, analysis_of, IsReport, BytesCallFor, CallsFor, Writes, WritesPrefix}
use Rattle.hk_ceiling.specs.Words.{are_sections, sections_from}

-- why a sheet isn't admitted with its sections
pub admission_refused : (before after : Option (List ℕ)) (faults faults_after : ℕ) (sections : List Section) (bytes : List ℕ) (sheet : Sheet) (why : CeilRefused) (written : Result (Unit {0}) Failed) (result : Status)
    → IsSheetOf bytes sheet → IsCeilRefusal sheet sections why → why ≢ refusal.Memory → Puts before after faults faults_after (ceil_line why) written
    → MatchResult written (λ _. result ≡ status.NotAdmitted) (λ _. result ≡ status.WriteFault) → EndsBy (BytesCallFor sections bytes) before after faults faults_after result
admission_refused before after faults faults_after sections bytes sheet why written result is refused told puts ended =
    ends_written (BytesCallFor sections bytes) before after faults faults_after status.NotAdmitted (ceil_line why) written result tt
    (record { sheet = sheet; is = is; why = why; told = told; refusal = refused; text_is = refl }) puts ended

-- a sheet that is admitted with its sections, whose report ends the program by Done or by Live
by_finish : (s : Status) (end : Finish) → s ≡ status_of end → (s ≡ status.Done) ⊎ (s ≡ status.Live)
by_finish s finish.AtEnd e = inl e
by_finish s (finish.Live words) e = inr e

pub report_calls : (sections : List Section) (bytes : List ℕ) (held : Held) → held.sections ≡ sections → IsSheetOf bytes held.checked.sheet → (s : Status) (t : List ℕ) → IsReport held s t → BytesCallFor sections bytes s t
report_calls sections bytes held same is s t report = elim (by_finish s report.finish report.ended_is) [
  | inl e ↦ subst (λ x. BytesCallFor sections bytes x t) (sym e) (record { held = held; sections_are = same; is = is; report = subst (λ x. IsReport held x t) e report })
  | inr e ↦ subst (λ x. BytesCallFor sections bytes x t) (sym e) (record { held = held; sections_are = same; is = is; report = subst (λ x. IsReport held x t) e report })
]

-- what the bytes call for, the words do too
pub words_call : (words : List (String Global)) (bytes : List ℕ) → are_sections words ≡ true → (s : Status) (t : List ℕ) → BytesCallFor (sections_from words) bytes s t → CallsFor words bytes s t
words_call words bytes form status.Done t h = (form, h)
words_call words bytes form status.Memory t h = (form, h)
words_call words bytes form status.Usage t h = absurd h
words_call words bytes form status.ReadFault t h = (form, h)
words_call words bytes form status.WriteFault t h = (form, h)
words_call words bytes form status.Sheet t h = (form, h)
words_call words bytes form status.NotAdmitted t h = (form, h)
words_call words bytes form status.Live t h = (form, h)
words_call words bytes form status.Full t h = (form, h)

-- the sections that were read are those that the words tell
pub some_told : (words : List (String Global)) (found : Option (List Section)) (sections : List Section) → found ≡ Some sections
    → MatchOption found (are_sections words ≡ false) (λ s. (are_sections words ≡ true) × (s ≡ sections_from words)) → (are_sections words ≡ true) × (sections ≡ sections_from words)
some_told words found sections is read = subst (λ o. MatchOption o (are_sections words ≡ false) (λ s. (are_sections words ≡ true) × (s ≡ sections_from words))) is read

-- words that tell no sections call for the usage line
pub usage_calls : (words : List (String Global)) → are_sections words ≡ false → (bytes : List ℕ) (s : Status) (t : List ℕ) → (s ≡ status.Usage) × (t ≡ usage_line) → CallsFor words bytes s t
usage_calls words none bytes s t h = subst (λ x. CallsFor words bytes x t) (sym h.0) (none, h.1)

-- THE TOP CALL
module _ (Calls : List ℕ → Status → List ℕ → Type 0) (words : List (String Global)) (input before after : Option (List ℕ)) (faults faults_after : ℕ) (ended : Status)
    (turns : (bytes : List ℕ) (s : Status) (t : List ℕ) → Calls bytes s t → CallsFor words bytes s t) (e : EndsOn Calls input before after faults faults_after ended) where
  pub writes : HasText ended → Writes words input before after ended
  writes has = let w = e.ends.whole has in record { bytes = e.bytes; told = e.told; text = w.0; called = turns e.bytes ended w.0 w.1; written = w.2 }

  pub writes_prefix : ended ≡ status.WriteFault → WritesPrefix words input before after
  writes_prefix fault = let p = e.ends.prefix fault in record { bytes = e.bytes; told = e.told; ended = p.0; text = p.1; called = turns e.bytes p.0 p.1 p.2; written = p.3 }

-- where nothing fails, the end is the one that is called for
pub complete : (words : List (String Global)) (input before after : Option (List ℕ)) (ended : Status) → (HasText ended → Writes words input before after ended)
    → (ended ≡ status.ReadFault → ⊥) → (ended ≡ status.WriteFault → ⊥)
    → IfSome input (λ bytes. (s : Status) (t : List ℕ) → CallsFor words bytes s t → (ended ≡ s) ⊎ (ended ≡ status.Memory))
complete words None before after ended whole not_read not_write = tt
complete words (Some left) before after ended whole not_read not_write = λ s t called.
    elim (text_or_memory ended not_read not_write) [ inl has ↦ inl (writing (whole has) s t called) | inr none ↦ inr none ]
  where
    writing : Writes words (Some left) before after ended → (s : Status) (t : List ℕ) → CallsFor words left s t → ended ≡ s
    writing w s t called = (one_call words left ended s w.text t (subst (λ b. CallsFor words b ended w.text) w.told w.called) called).0

-- THE REPORT of an admitted sheet, by the numbers of its session
module _ (held : Held) (sheet : Sheet) (work attempt busy debt : ℕ) (pick : List TaskSection) (g : Geometry) (same : sheet ≡ held.checked.sheet)
    (w : work ≡ held.checked.work) (t : attempt ≡ held.checked.attempt) (b : busy ≡ held.checked.busy) (d : debt ≡ held.checked.debt) (p : pick ≡ numbered_of held)
    (sizes : HasSizes g (sizes_of sheet)) where
  own_analysis : analysis sheet work attempt busy debt held.responses ≡ analysis_of held
  own_analysis =
      ap (λ s. analysis s work attempt busy debt held.responses) same
      ∙ ap (λ n. analysis held.checked.sheet n attempt busy debt held.responses) w
      ∙ ap (λ n. analysis held.checked.sheet held.checked.work n busy debt held.responses) t
      ∙ ap (λ n. analysis held.checked.sheet held.checked.work held.checked.attempt n debt held.responses) b
      ∙ ap (λ n. analysis held.checked.sheet held.checked.work held.checked.attempt held.checked.busy n held.responses) d

  pub own_report : (s : Status) (end : Finish) (run : List ℕ) → s ≡ status_of end → IsRunText Plain g (by_ceilings pick) sheet end run
      → IsReport held s (analysis sheet work attempt busy debt held.responses ++ run)
  own_report s end run ended is =
      let own : HasSizes g (sizes_of held.checked.sheet) = subst (λ (x : Sheet). HasSizes g (sizes_of x)) same sizes in
      record {
        geometry = g;
        sizes = own;
        session = record { sizes = own; checked = held.checked.sound; choice_is = ceilings_choose (numbered_of held) };
        headline = headline_holds g held.checked.sheet held.sections held.checked.work held.checked.attempt held.checked.busy held.checked.debt held.responses own held.checked.sound held.kept;
        finish = end;
        ended_is = ended;
        run = run;
        run_is = subst (λ (x : List TaskSection). IsRunText Plain g (by_ceilings x) held.checked.sheet end run) p (subst (λ (x : Sheet). IsRunText Plain g (by_ceilings pick) x end run) same is);
        text_is = ap (λ x. x ++ run) own_analysis;
      }

-- some run of a sheet has a text, whatever is written of it
pub some_run : (g : Geometry) (sections : List TaskSection) (sheet : Sheet) → (finish : Finish) × (run : List ℕ) × IsRunText Plain g (by_ceilings sections) sheet finish run
some_run g sections sheet =
    let e = ends_from g (by_ceilings sections) sheet 0 (omega arith) (opened g (by_ceilings sections) sheet) in
    (e.end, _, record { ticks = e.ticks; ends = e.so; is = refl })
