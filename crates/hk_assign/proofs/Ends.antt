-- From what the parts of the program answer to what its top call answers.
use Rattle.std.proofs.Common.{◌≡◌, ℕ, ◌⊎◌, inl, inr, true, false, ◌==◌, List, [], ◌∷◌, length, Option, None, Some, Result, Ok, refl, ap, subst, arith, String, Global}
use Rattle.std.proofs.lemmas.Bool.Decides.{nat_tests}
use Rattle.std.specs.Prelude.{IfSome, MatchResult, OnOk, OnErr}
use Rattle.std.specs.Io.KnownBytes.{Appends}
use Rattle.hk_io.specs.declared.Status.{Status}
use Rattle.hk_io.specs.declared.Status.TheVariants as status
use Rattle.hk_io.specs.declared.faults.Failed.{Failed}
use Rattle.hk_io.specs.Bytes.{AppendsPrefix}
use Rattle.hk_io.specs.Faults.{HasCause}
use Rattle.hk_sheet.specs.declared.sheet.Sheet.{Sheet}
use Rattle.hk_sheet.specs.Answers.{IsRead}
use Rattle.hk_admit.specs.Analysis.{timings_of}
use Rattle.hk_front.specs.Words.{Puts}
use Rattle.hk_front.specs.Input.{IsSheetOf}
use Rattle.hk_front.specs.Endings.{HasText, EndsBy}
use Rattle.hk_front.proofs.EndLemmas.{ends_written, text_or_memory}
use Rattle.hk_assign.specs.Assignment.{IsStuck}
use Rattle.hk_assign.specs.Sheets.{names_at, in_sheet_order, IsAssigned}
use Rattle.hk_assign.specs.Tool.{IsAsked, order_line, BytesCallFor, CallsFor, Writes, WritesPrefix}
use Rattle.hk_assign.proofs.OneEnd.{one_status}

-- the three facts of a text that was put
pub as_puts : {T E : Type 0} (before after : Option (List ℕ)) (faults faults_after : ℕ) (text : List ℕ) (result : Result T E) → OnOk result (Appends before after text) → OnErr result (AppendsPrefix before after text)
    → HasCause faults faults_after result → Puts before after faults faults_after text result
as_puts before after faults faults_after text result ok prefix cause = record { ok = ok; prefix = prefix; cause = cause }

-- why the tasks of a sheet have no order
pub order_refused : (before after : Option (List ℕ)) (faults faults_after : ℕ) (bytes : List ℕ) (sheet : Sheet) (set : List ℕ) (written : Result (Unit {0}) Failed) (result : Status)
    → IsSheetOf bytes sheet → IsStuck (timings_of sheet.high) set → Puts before after faults faults_after (order_line (names_at sheet.high set)) written
    → MatchResult written (λ _. result ≡ status.NotAdmitted) (λ _. result ≡ status.WriteFault) → EndsBy (BytesCallFor bytes) before after faults faults_after result
order_refused before after faults faults_after bytes sheet set written result is stuck puts ended =
    ends_written (BytesCallFor bytes) before after faults faults_after status.NotAdmitted (order_line (names_at sheet.high set)) written result tt
    (record { sheet = sheet; is = is; set = set; stuck = stuck; text_is = refl }) puts ended

-- the sheet with its tasks in their order
pub arranged : (before after : Option (List ℕ)) (faults faults_after : ℕ) (bytes : List ℕ) (sheet : Sheet) (order text : List ℕ) (written : Result (Unit {0}) Failed) (result : Status)
    → IsSheetOf bytes sheet → IsAssigned sheet.high order → IsRead text (Ok (in_sheet_order sheet order)) → Puts before after faults faults_after text written
    → MatchResult written (λ _. result ≡ status.Done) (λ _. result ≡ status.WriteFault) → EndsBy (BytesCallFor bytes) before after faults faults_after result
arranged before after faults faults_after bytes sheet order text written result is assigned read puts ended =
    ends_written (BytesCallFor bytes) before after faults faults_after status.Done text written result tt
    (record { sheet = sheet; is = is; order = order; assigned = assigned; text_is = read }) puts ended

-- THE TOP CALL

-- there are no words, or some
pub no_words : (words : List (String Global)) → (length words == 0) ≡ true → IsAsked words
no_words [] none = refl
no_words (word ∷ words) none = absurd (grind (arith, nat_tests, none))

pub some_words : (words : List (String Global)) → (length words == 0) ≡ false → ¬ (IsAsked words)
some_words words some none = let long : length words ≡ 0 = ap length none in grind (arith, nat_tests, some, long)

-- where there are none
pub asked_calls : (words : List (String Global)) (bytes : List ℕ) → IsAsked words → (s : Status) (t : List ℕ) → BytesCallFor bytes s t → CallsFor words bytes s t
asked_calls words bytes none status.Done t called = (none, called)
asked_calls words bytes none status.Memory t called = absurd called
asked_calls words bytes none status.Usage t called = absurd called
asked_calls words bytes none status.ReadFault t called = absurd called
asked_calls words bytes none status.WriteFault t called = absurd called
asked_calls words bytes none status.Sheet t called = (none, called)
asked_calls words bytes none status.NotAdmitted t called = (none, called)
asked_calls words bytes none status.Live t called = absurd called
asked_calls words bytes none status.Full t called = absurd called

module _ (words : List (String Global)) (input before after : Option (List ℕ)) (faults faults_after : ℕ) (bytes : List ℕ) (told : IfSome input (λ left. bytes ≡ left)) (ended : Status)
    (ends : EndsBy (CallsFor words bytes) before after faults faults_after ended) where
  pub writes : HasText ended → Writes words input before after ended
  writes has = let w = ends.whole has in record { bytes = bytes; told = told; text = w.0; called = w.1; written = w.2 }

  pub writes_prefix : ended ≡ status.WriteFault → WritesPrefix words input before after
  writes_prefix e = let p = ends.prefix e in record { bytes = bytes; told = told; ended = p.0; text = p.1; called = p.2; written = p.3 }

-- where nothing fails, the end is the one that is called for
pub complete : (words : List (String Global)) (input before after : Option (List ℕ)) (ended : Status) → (HasText ended → Writes words input before after ended)
    → (ended ≡ status.ReadFault → ⊥) → (ended ≡ status.WriteFault → ⊥)
    → IfSome input (λ bytes. (s : Status) (t : List ℕ) → CallsFor words bytes s t → (ended ≡ s) ⊎ (ended ≡ status.Memory))
complete words None before after ended whole not_read not_write = tt
complete words (Some left) before after ended whole not_read not_write = λ s t called.
    elim (text_or_memory ended not_read not_write) [ inl has ↦ inl (writing (whole has) s t called) | inr none ↦ inr none ]
  where
    writing : Writes words (Some left) before after ended → (s : Status) (t : List ℕ) → CallsFor words left s t → ended ≡ s
    writing w s t called = one_status words left ended s w.text t (subst (λ b. CallsFor words b ended w.text) w.told w.called) called
