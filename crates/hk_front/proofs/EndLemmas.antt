-- How parts of a program end.
use Rattle.std.proofs.Common.{◌≡◌, ◌≢◌, ℕ, ◌≤◌, ◌⊎◌, inl, inr, List, [], length, Option, None, Some, Result, Ok, Err, refl, sym, ◌∙◌, subst, arith}
use Rattle.std.specs.Prelude.{MatchResult}
use Rattle.std.specs.Io.KnownBytes.{Appends}
use Rattle.hk_io.specs.declared.Status.{Status}
use Rattle.hk_io.specs.declared.Status.TheVariants as status
use Rattle.hk_io.specs.declared.faults.Failed.{Failed}
use Rattle.hk_io.specs.Bytes.{AppendsPrefix}
use Rattle.hk_io.specs.Faults.{Rose}
use Rattle.hk_io.specs.Limits.{longest_input}
use Rattle.hk_sheet.specs.declared.error.SheetError.{SheetError}
use Rattle.hk_sheet.specs.declared.error.SheetError.TheVariants as unread
use Rattle.hk_sheet.specs.Answers.{Answers}
use Rattle.hk_front.specs.Refusals.{sheet_line}
use Rattle.hk_front.specs.Words.{Puts}
use Rattle.hk_front.specs.Input.{IsUnread, no_sheet, UnreadCallsFor}
use Rattle.hk_front.specs.Endings.{HasText, EndsBy, EndsOn}

-- a write fault is told from the other ends
abbrev IsWriteFault : Status → Type 0
IsWriteFault status.WriteFault = Unit {0}
IsWriteFault other = ⊥

abbrev HasMemory : Status → Type 0
HasMemory status.Memory = Unit {0}
HasMemory other = ⊥

module _ (Calls : Status → List ℕ → Type 0) (before after : Option (List ℕ)) (faults faults_after : ℕ) where
  -- a text that is called for was written, or a first part of it
  pub ends_written : (owed : Status) (text : List ℕ) (written : Result (Unit {0}) Failed) (result : Status) → HasText owed → Calls owed text
      → Puts before after faults faults_after text written → MatchResult written (λ _. result ≡ owed) (λ _. result ≡ status.WriteFault)
      → EndsBy Calls before after faults faults_after result
  ends_written owed text (Ok done) result has called puts is = record {
    whole = λ _. (text, subst (λ s. Calls s text) (sym is) called, puts.ok);
    prefix = λ w. absurd (subst HasText (sym is ∙ w) has);
    cause = λ w. absurd (subst HasText (sym is ∙ w) has);
    no_read = λ r. subst HasText (sym is ∙ r) has;
    kept = λ _. puts.cause.kept;
    later = puts.cause.later;
  }
  ends_written owed text (Err e) result has called puts is = record {
    whole = λ h. absurd (subst HasText is h);
    prefix = λ _. (owed, text, called, puts.prefix);
    cause = λ _. puts.cause.failed;
    no_read = λ r. subst IsWriteFault (sym is ∙ r) tt;
    kept = λ other. absurd (other is);
    later = puts.cause.later;
  }

  -- there was no memory
  pub ends_memory : faults_after ≡ faults → EndsBy Calls before after faults faults_after status.Memory
  ends_memory kept = record {
    whole = λ h. absurd h;
    prefix = λ w. absurd (subst IsWriteFault (sym w) tt);
    cause = λ w. absurd (subst IsWriteFault (sym w) tt);
    no_read = λ r. subst HasMemory r tt;
    kept = λ _. kept;
    later = omega (arith, kept);
  }

  -- what this calls for, that calls for too
  pub ends_as : (Others : Status → List ℕ → Type 0) (result : Status) → ((s : Status) (t : List ℕ) → Calls s t → Others s t)
      → EndsBy Calls before after faults faults_after result → EndsBy Others before after faults faults_after result
  ends_as Others result turns ends = record {
    whole = λ h. let w = ends.whole h in (w.0, turns result w.0 w.1, w.2);
    prefix = λ e. let p = ends.prefix e in (p.0, p.1, turns p.0 p.1 p.2, p.3);
    cause = ends.cause;
    no_read = ends.no_read;
    kept = ends.kept;
    later = ends.later;
  }

module _ (Calls : Status → List ℕ → Type 0) (before after : Option (List ℕ)) (faults faults_after : ℕ) (owed : Status) (text : List ℕ) (called : Calls owed text) where
  -- a text was written whole
  pub ends_whole : HasText owed → Appends before after text → faults_after ≡ faults → EndsBy Calls before after faults faults_after owed
  ends_whole has appended kept = record {
    whole = λ _. (text, called, appended);
    prefix = λ w. absurd (subst HasText w has);
    cause = λ w. absurd (subst HasText w has);
    no_read = λ r. subst HasText r has;
    kept = λ _. kept;
    later = omega (arith, kept);
  }

  -- or in part
  pub ends_cut : AppendsPrefix before after text → Rose faults faults_after → faults ≤ faults_after → EndsBy Calls before after faults faults_after status.WriteFault
  ends_cut part rose later = record {
    whole = λ h. absurd h;
    prefix = λ _. (owed, text, called, part);
    cause = λ _. rose;
    no_read = λ r. subst IsWriteFault r tt;
    kept = λ other. absurd (other refl);
    later = later;
  }

-- an end by a write fault is none by a read fault
pub no_read_fault : (ended : Status) → ended ≡ status.WriteFault → ended ≢ status.ReadFault
no_read_fault ended e r = subst IsWriteFault (sym e ∙ r) tt

-- where no read and no write failed, a text was written whole or there was no memory
pub text_or_memory : (ended : Status) → ended ≢ status.ReadFault → ended ≢ status.WriteFault → HasText ended ⊎ (ended ≡ status.Memory)
text_or_memory status.Done not_read not_write = inl tt
text_or_memory status.Memory not_read not_write = inr refl
text_or_memory status.Usage not_read not_write = inl tt
text_or_memory status.ReadFault not_read not_write = absurd (not_read refl)
text_or_memory status.WriteFault not_read not_write = absurd (not_write refl)
text_or_memory status.Sheet not_read not_write = inl tt
text_or_memory status.NotAdmitted not_read not_write = inl tt
text_or_memory status.Live not_read not_write = inl tt
text_or_memory status.Full not_read not_write = inl tt

-- what needs no input ends so on whatever the input is
pub on_any_input : (Calls : Status → List ℕ → Type 0) (input before after : Option (List ℕ)) (faults faults_after : ℕ) (ended : Status) → EndsBy Calls before after faults faults_after ended
    → EndsOn (λ bytes. Calls) input before after faults faults_after ended
on_any_input Calls None before after faults faults_after ended e = record { bytes = []; told = tt; ends = e }
on_any_input Calls (Some left) before after faults faults_after ended e = record { bytes = left; told = refl; ends = e }

-- why bytes are no sheet
pub sheet_refused : (before after : Option (List ℕ)) (faults faults_after : ℕ) (bytes : List ℕ) (error : SheetError) (written : Result (Unit {0}) Failed) (result : Status)
    → length bytes ≤ longest_input → Answers bytes (Err error) → error ≢ unread.Memory → Puts before after faults faults_after (sheet_line error) written
    → MatchResult written (λ _. result ≡ status.Sheet) (λ _. result ≡ status.WriteFault) → EndsBy (UnreadCallsFor bytes) before after faults faults_after result
sheet_refused before after faults faults_after bytes error written result short answers told puts is =
    ends_written (UnreadCallsFor bytes) before after faults faults_after status.Sheet (sheet_line error) written result tt
    (no_sheet error (record { short = short; told = told; answers = answers }) refl) puts is

-- what unread bytes call for is called for by whatever calls for their line under the status `Sheet`
pub unread_calls : (Calls : Status → List ℕ → Type 0) (bytes : List ℕ) → ((t : List ℕ) → IsUnread bytes t → Calls status.Sheet t)
    → (s : Status) (t : List ℕ) → UnreadCallsFor bytes s t → Calls s t
unread_calls Calls bytes turns status.Done t called = absurd called
unread_calls Calls bytes turns status.Memory t called = absurd called
unread_calls Calls bytes turns status.Usage t called = absurd called
unread_calls Calls bytes turns status.ReadFault t called = absurd called
unread_calls Calls bytes turns status.WriteFault t called = absurd called
unread_calls Calls bytes turns status.Sheet t called = turns t called
unread_calls Calls bytes turns status.NotAdmitted t called = absurd called
unread_calls Calls bytes turns status.Live t called = absurd called
unread_calls Calls bytes turns status.Full t called = absurd called

-- so a part that ends by refusing unread bytes ends by what is called for
pub ends_unread : (Calls : Status → List ℕ → Type 0) (bytes : List ℕ) (before after : Option (List ℕ)) (faults faults_after : ℕ) (result : Status)
    → ((t : List ℕ) → IsUnread bytes t → Calls status.Sheet t) → EndsBy (UnreadCallsFor bytes) before after faults faults_after result
    → EndsBy Calls before after faults faults_after result
ends_unread Calls bytes before after faults faults_after result turns ends =
    ends_as (UnreadCallsFor bytes) before after faults faults_after Calls result (unread_calls Calls bytes turns) ends
