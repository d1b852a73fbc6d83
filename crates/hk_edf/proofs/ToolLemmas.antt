-- From what the parts of the program answer to what its top call answers.
use Rattle.std.proofs.Common.{◌≡◌, ◌≢◌, ℕ, ◌⊎◌, inl, inr, List, [], ◌∷◌, ◌++◌, length, true, false, ◌==◌, Option, None, Some, Result, refl, sym, ap, ◌∙◌, subst, arith, String, Global}
use Rattle.std.proofs.lemmas.Bool.{ne_eqb, true≢false}
use Rattle.std.specs.Prelude.{IfSome, MatchResult}
use Rattle.hk_words.specs.declared.geometry.Geometry.{Geometry}
use Rattle.hk_words.specs.Geometry.{HasSizes}
use Rattle.hk_io.specs.declared.Status.{Status}
use Rattle.hk_io.specs.declared.Status.TheVariants as status
use Rattle.hk_io.specs.declared.faults.Failed.{Failed}
use Rattle.hk_sheet.specs.declared.sheet.Sheet.{Sheet}
use Rattle.hk_sheet.specs.Faults.{sizes_of}
use Rattle.hk_admit.specs.declared.checked.Checked.{Checked}
use Rattle.hk_front.specs.Words.{Puts}
use Rattle.hk_front.specs.Input.{IsSheetOf}
use Rattle.hk_front.specs.Endings.{HasText, EndsBy}
use Rattle.hk_front.proofs.EndLemmas.{ends_written, text_or_memory}
use Rattle.hk_top.specs.declared.report.Form.TheVariants.{Plain}
use Rattle.hk_top.specs.declared.report.Finish.{Finish}
use Rattle.hk_top.specs.declared.report.Finish.TheVariants as finish
use Rattle.hk_top.specs.Report.{IsRunText}
use Rattle.hk_top.specs.Tool.{status_of}
use Rattle.hk_edf.specs.declared.refused.EdfRefused.{EdfRefused}
use Rattle.hk_edf.specs.declared.refused.EdfRefused.TheVariants as refused
use Rattle.hk_edf.specs.Earliest.{earliest_row}
use Rattle.hk_edf.specs.Refusals.{MeetsDemand, IsEdfRefusal}
use Rattle.hk_edf.specs.Text.{usage_line, analysis_of, edf_line}
use Rattle.hk_edf.specs.Tool.{IsReport, IsAnswer, BytesCallFor, CallsFor, Writes, WritesPrefix}
use Rattle.hk_edf.proofs.Headline.{headline}
use Rattle.hk_edf.proofs.Reserve.{reserve}
use Rattle.hk_edf.proofs.OneAnswer.{one_call}

-- ---- the run of a checked sheet

-- its report, by how its session ended
pub report_of : (c : Checked) (g : Geometry) → HasSizes g (sizes_of c.sheet) → MeetsDemand c.sheet c.busy → (end : Finish) (run : List ℕ)
    → IsRunText Plain g earliest_row c.sheet end run → IsReport c (status_of end) (analysis_of c ++ run)
report_of c g sizes meets end run is = record {
  geometry = g;
  sizes = sizes;
  headline = headline g c.sheet c.work c.attempt c.busy c.debt sizes c.sound meets;
  reserve = reserve g c.sheet c.work c.attempt c.busy c.debt sizes c.sound;
  finish = end;
  ended_is = refl;
  run = run;
  run_is = is;
  text_is = refl;
}

-- the report of an admitted sheet of these bytes is what they call for
by_finish : (bytes t : List ℕ) (end : Finish) → IsAnswer bytes (status_of end) t → BytesCallFor bytes (status_of end) t
by_finish bytes t finish.AtEnd a = a
by_finish bytes t (finish.Live words) a = a

pub answer_calls : (bytes : List ℕ) (c : Checked) → IsSheetOf bytes c.sheet → MeetsDemand c.sheet c.busy → (s : Status) (t : List ℕ) → IsReport c s t → BytesCallFor bytes s t
answer_calls bytes c is meets s t r =
    subst (λ x. BytesCallFor bytes x t) (sym r.ended_is)
    (by_finish bytes t r.finish (record { checked = c; is = is; meets = meets; report = subst (λ x. IsReport c x t) r.ended_is r }))

-- ---- refusals

-- why a sheet isn't admitted
pub admission_refused : (before after : Option (List ℕ)) (faults faults_after : ℕ) (bytes : List ℕ) (sheet : Sheet) (why : EdfRefused) (written : Result (Unit {0}) Failed) (result : Status)
    → IsSheetOf bytes sheet → IsEdfRefusal sheet why → why ≢ refused.Memory → Puts before after faults faults_after (edf_line why) written
    → MatchResult written (λ _. result ≡ status.NotAdmitted) (λ _. result ≡ status.WriteFault) → EndsBy (BytesCallFor bytes) before after faults faults_after result
admission_refused before after faults faults_after bytes sheet why written result is refusal told puts ended =
    ends_written (BytesCallFor bytes) before after faults faults_after status.NotAdmitted (edf_line why) written result tt
    (record { sheet = sheet; is = is; why = why; told = told; refusal = refusal; text_is = refl }) puts ended

-- ---- the words

pub no_words : (words : List (String Global)) (bytes : List ℕ) → words ≡ [] → (s : Status) (t : List ℕ) → BytesCallFor bytes s t → CallsFor words bytes s t
no_words words bytes none s t called = subst (λ ws. CallsFor ws bytes s t) (sym none) called

pub some_words : (words : List (String Global)) (bytes : List ℕ) → words ≢ [] → CallsFor words bytes status.Usage usage_line
some_words [] bytes some = absurd (some refl)
some_words (word ∷ words) bytes some = (refl, refl)

pub not_empty : (words : List (String Global)) → false ≡ (length words == 0) → words ≢ []
not_empty words some none = absurd (let e : false ≡ true = some ∙ ap (λ ws. length ws == 0) none in cc)

pub is_empty : (words : List (String Global)) → true ≡ (length words == 0) → words ≡ []
is_empty [] none = refl
is_empty (word ∷ words) none =
    let some : (length (word ∷ words) == 0) ≡ false = ne_eqb (length (word ∷ words)) 0 (λ z. absurd (omega (arith, z))) in
    absurd (true≢false (none ∙ some))

-- ---- the top call

module _ (words : List (String Global)) (input before after : Option (List ℕ)) (faults faults_after : ℕ) (bytes : List ℕ) (told : IfSome input (λ left. bytes ≡ left)) (ended : Status)
    (ends : EndsBy (CallsFor words bytes) before after faults faults_after ended) where
  pub writes : HasText ended → Writes words input before after ended
  writes has = let w = ends.whole has in record { bytes = bytes; told = told; text = w.0; called = w.1; written = w.2 }

  pub writes_prefix : ended ≡ status.WriteFault → WritesPrefix words input before after
  writes_prefix e = let p = ends.prefix e in record { bytes = bytes; told = told; ended = p.0; text = p.1; called = p.2; written = p.3 }

-- where nothing fails, the end is the one that is called for
pub complete : (words : List (String Global)) (input before after : Option (List ℕ)) (ended : Status) → (HasText ended → Writes words input before after ended)
    → (ended ≡ status.ReadFault → ⊥) → (ended ≡ status.WriteFault → ⊥)
    → IfSome input (λ bytes. (s : Status) (t : List ℕ) → CallsFor words bytes s t → (ended ≡ s) ⊎ (ended ≡ status.Memory))
complete words None before after ended whole not_read not_write = tt
complete words (Some left) before after ended whole not_read not_write = λ s t called.
    elim (text_or_memory ended not_read not_write) [ inl has ↦ inl (writing (whole has) s t called) | inr none ↦ inr none ]
  where
    writing : Writes words (Some left) before after ended → (s : Status) (t : List ℕ) → CallsFor words left s t → ended ≡ s
    writing w s t called = (one_call words left ended s w.text t (subst (λ b. CallsFor words b ended w.text) w.told w.called) called).0
