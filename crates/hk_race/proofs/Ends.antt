-- From what the parts of the program answer to what its top call answers.
use Rattle.std.proofs.Common.{◌≡◌, ◌≢◌, ℕ, ◌⊎◌, inl, inr, true, false, Bool, ◌==◌, List, [], ◌∷◌, length, Option, None, Some, Result, Ok, Err, refl, sym, ◌∙◌, ap, subst, arith, String, Global}
use Rattle.std.proofs.lemmas.Bool.Decides.{nat_tests}
use Rattle.std.specs.Prelude.{IfSome, IfOk, MatchResult, OnOk, OnErr}
use Rattle.std.specs.Io.KnownBytes.{Appends}
use Rattle.hk_words.specs.Geometry.{HasSizes}
use Rattle.hk_words.specs.declared.memory.Memory.{Memory}
use Rattle.hk_io.specs.declared.Status.{Status}
use Rattle.hk_io.specs.declared.Status.TheVariants as status
use Rattle.hk_io.specs.declared.faults.Failed.{Failed}
use Rattle.hk_io.specs.Bytes.{AppendsPrefix}
use Rattle.hk_io.specs.Faults.{HasCause}
use Rattle.hk_sheet.specs.declared.sheet.Sheet.{Sheet}
use Rattle.hk_sheet.specs.Faults.{sizes_of}
use Rattle.hk_table.specs.declared.heap.Heap.{Heap}
use Rattle.hk_front.specs.Words.{Puts}
use Rattle.hk_front.specs.Input.{IsSheetOf, IsUnread}
use Rattle.hk_front.specs.Endings.{HasText, EndsBy}
use Rattle.hk_front.proofs.EndLemmas.{ends_written}
use Rattle.hk_front.proofs.OneInput.{one_sheet, none_read}
use Rattle.hk_race.specs.declared.competing.Raced.{Raced}
use Rattle.hk_race.specs.declared.tool.RaceEnd.{RaceEnd}
use Rattle.hk_race.specs.Raced.{IsRace}
use Rattle.hk_race.specs.Race.{usage_line, long_task_line, status_by, IsTooLong, IsRaceOf, IsTold, BytesCallFor, CallsFor, Writes, WritesPrefix, EndsRace, HasRaced, EndsAsCalled}
use Rattle.hk_race.specs.Tasks.{task_at, is_long, HasNoLong, IsFirstLong}

-- the three facts of a text that was put
pub as_puts : {T E : Type 0} (before after : Option (List ℕ)) (faults faults_after : ℕ) (text : List ℕ) (result : Result T E) → OnOk result (Appends before after text) → OnErr result (AppendsPrefix before after text)
    → HasCause faults faults_after result → Puts before after faults faults_after text result
as_puts before after faults faults_after text result ok prefix cause = record { ok = ok; prefix = prefix; cause = cause }

-- a long task
pub long_refused : (before after : Option (List ℕ)) (faults faults_after : ℕ) (bytes : List ℕ) (sheet : Sheet) (seat : ℕ) (name : List ℕ) (written : Result (Unit {0}) Failed) (result : Status)
    → IsSheetOf bytes sheet → IsFirstLong sheet seat → name ≡ (task_at sheet seat).name → Puts before after faults faults_after (long_task_line name) written
    → MatchResult written (λ _. result ≡ status.Sheet) (λ _. result ≡ status.WriteFault) → EndsBy (BytesCallFor bytes None) before after faults faults_after result
long_refused before after faults faults_after bytes sheet seat name written result is first named puts ended =
    ends_written (BytesCallFor bytes None) before after faults faults_after status.Sheet (long_task_line name) written result tt
    (inr (record { sheet = sheet; is = is; seat = seat; is_first = first; text_is = ap long_task_line named })) puts ended

-- THE TEXT OF A RACE
some_text : (full : Bool) (live : Option ℕ) → HasText (status_by full live)
some_text true live = tt
some_text false (Some words) = tt
some_text false None = tt

some_end : (full : Bool) (live : Option ℕ) → EndsRace (status_by full live)
some_end true live = tt
some_end false (Some words) = tt
some_end false None = tt

pub race_written : (before after : Option (List ℕ)) (faults faults_after : ℕ) (bytes : List ℕ) (sheet : Sheet) (raced : Raced) (owed : Status) (text : List ℕ) (written : Result (Unit {0}) Failed) (result : Status)
    → IsSheetOf bytes sheet → HasNoLong sheet → IsRaceOf sheet raced → owed ≡ status_by raced.full raced.live → text ≡ raced.text.items → Puts before after faults faults_after text written
    → MatchResult written (λ _. result ≡ owed) (λ _. result ≡ status.WriteFault) → EndsBy (BytesCallFor bytes (Some raced)) before after faults faults_after result
race_written before after faults faults_after bytes sheet raced owed text written result is short of owed_is text_is puts ended =
    ends_written (BytesCallFor bytes (Some raced)) before after faults faults_after owed text written result (subst HasText (sym owed_is) (some_text raced.full raced.live))
    (record {
      sheet = sheet;
      is = is;
      short = short;
      of = of;
      ended_is = owed_is ∙ ap (λ (full : Bool). status_by full raced.live) of.race.full;
      text_is = text_is ∙ of.race.text;
    }) puts ended

pub race_ends : (full : Bool) (live : Option ℕ) (owed : Status) (written : Result (Unit {0}) Failed) (result : Status) → owed ≡ status_by full live
    → MatchResult written (λ _. result ≡ owed) (λ _. result ≡ status.WriteFault) → EndsRace result
race_ends full live owed (Ok done) result owed_is ended = subst EndsRace (sym (ended ∙ owed_is)) (some_end full live)
race_ends full live owed (Err e) result owed_is ended = subst EndsRace (sym ended) tt

-- the heap of a race is some heap
pub on_some_heap : (heap : Heap) (sheet : Sheet) (r : Result Raced Memory) → HasSizes heap.geometry (sizes_of sheet) → IfOk r (λ raced. IsRace heap sheet raced) → IfOk r (IsRaceOf sheet)
on_some_heap heap sheet (Ok raced) sizes race = record { heap = heap; sizes = sizes; race = race }
on_some_heap heap sheet (Err e) sizes race = tt

-- THE TOP CALL

-- there are no words, or some
pub no_words : (words : List (String Global)) → (length words == 0) ≡ true → words ≡ []
no_words [] none = refl
no_words (word ∷ words) none = absurd (grind (arith, nat_tests, none))

pub some_words : (words : List (String Global)) → (length words == 0) ≡ false → words ≢ []
some_words words some none = let long : length words ≡ 0 = ap length none in grind (arith, nat_tests, some, long)

-- what each calls for
pub usage_called : (words : List (String Global)) (bytes : List ℕ) → words ≢ [] → CallsFor words bytes None status.Usage usage_line
usage_called [] bytes some = absurd (some refl)
usage_called (word ∷ words) bytes some = (refl, refl)

pub bytes_called : (words : List (String Global)) (bytes : List ℕ) (raced : Option Raced) → words ≡ [] → (s : Status) (t : List ℕ) → BytesCallFor bytes raced s t → CallsFor words bytes raced s t
bytes_called words bytes raced none s t called = subst (λ (ws : List (String Global)). CallsFor ws bytes raced s t) (sym none) called

module _ (words : List (String Global)) (input before after : Option (List ℕ)) (faults faults_after : ℕ) (bytes : List ℕ) (told : IfSome input (λ left. bytes ≡ left)) (end' : RaceEnd)
    (ends : EndsBy (CallsFor words bytes end'.raced) before after faults faults_after end'.status) where
  pub writes : HasText end'.status → Writes words input before after end'
  writes has = let w = ends.whole has in record { bytes = bytes; told = told; text = w.0; called = w.1; written = w.2 }

  pub writes_prefix : end'.status ≡ status.WriteFault → WritesPrefix words input before after end'
  writes_prefix e = let p = ends.prefix e in record { bytes = bytes; told = told; ended = p.0; text = p.1; called = p.2; written = p.3 }

-- a sheet without a long task isn't one with a long task
not_both : (bytes text : List ℕ) (sheet : Sheet) → IsTooLong bytes text → IsSheetOf bytes sheet → HasNoLong sheet → ⊥
not_both bytes text sheet long is short =
    let same : sheet ≡ long.sheet = one_sheet bytes sheet long.sheet is long.is in
    let none : HasNoLong long.sheet = subst HasNoLong same short in
    let here : is_long (task_at long.sheet long.seat) ≡ false = none long.seat long.is_first.below in
    let there : is_long (task_at long.sheet long.seat) ≡ true = long.is_first.long in
    cc

-- bytes for which there is no race call for `Sheet`
no_race : (bytes : List ℕ) (ended : Status) (t : List ℕ) → BytesCallFor bytes None ended t → ended ≡ status.Sheet
no_race bytes status.Done t called = absurd called
no_race bytes status.Memory t called = absurd called
no_race bytes status.Usage t called = absurd called
no_race bytes status.ReadFault t called = absurd called
no_race bytes status.WriteFault t called = absurd called
no_race bytes status.Sheet t called = refl
no_race bytes status.NotAdmitted t called = absurd called
no_race bytes status.Live t called = absurd called
no_race bytes status.Full t called = absurd called

refused_ends : (bytes : List ℕ) (raced : Option Raced) (ended : Status) (t text : List ℕ) → BytesCallFor bytes raced ended t → IsUnread bytes text ⊎ IsTooLong bytes text → ended ≡ status.Sheet
refused_ends bytes (Some raced) ended t text called (inl unread) = absurd (none_read bytes text called.sheet unread called.is)
refused_ends bytes (Some raced) ended t text called (inr long) = absurd (not_both bytes text called.sheet long called.is called.short)
refused_ends bytes None ended t text called refused = no_race bytes ended t called

none_ends : (bytes t : List ℕ) (sheet : Sheet) → IsUnread bytes t ⊎ IsTooLong bytes t → IsSheetOf bytes sheet → HasNoLong sheet → ⊥
none_ends bytes t sheet (inl unread) is short = none_read bytes t sheet unread is
none_ends bytes t sheet (inr long) is short = not_both bytes t sheet long is short

raced_ends : (bytes : List ℕ) (end' : RaceEnd) (t : List ℕ) (sheet : Sheet) → BytesCallFor bytes end'.raced end'.status t → IsSheetOf bytes sheet → HasNoLong sheet → HasRaced end'
raced_ends bytes end' t sheet called is short = by_race end'.raced refl
  where
    by_race : (o : Option Raced) → end'.raced ≡ o → HasRaced end'
    by_race (Some raced) e =
        let told : IsTold bytes raced end'.status t = subst (λ (r : Option Raced). BytesCallFor bytes r end'.status t) e called in
        record { raced = raced; is = e; ended_is = told.ended_is }
    by_race None e =
        let told : BytesCallFor bytes None end'.status t = subst (λ (r : Option Raced). BytesCallFor bytes r end'.status t) e called in
        let refused : IsUnread bytes t ⊎ IsTooLong bytes t = subst (λ (s : Status). BytesCallFor bytes None s t) (no_race bytes end'.status t told) told in
        absurd (none_ends bytes t sheet refused is short)

-- a program ends by a text, or for want of memory, where nothing fails
text_or_memory : (ended : Status) → ended ≢ status.ReadFault → ended ≢ status.WriteFault → HasText ended ⊎ (ended ≡ status.Memory)
text_or_memory status.Done not_read not_write = inl tt
text_or_memory status.Memory not_read not_write = inr refl
text_or_memory status.Usage not_read not_write = inl tt
text_or_memory status.ReadFault not_read not_write = absurd (not_read refl)
text_or_memory status.WriteFault not_read not_write = absurd (not_write refl)
text_or_memory status.Sheet not_read not_write = inl tt
text_or_memory status.NotAdmitted not_read not_write = inl tt
text_or_memory status.Live not_read not_write = inl tt
text_or_memory status.Full not_read not_write = inl tt

-- where nothing fails, the words and the bytes decide
pub complete : (words : List (String Global)) (input before after : Option (List ℕ)) (end' : RaceEnd) → (HasText end'.status → Writes words input before after end')
    → (words ≢ [] → (end'.status ≡ status.Usage) ⊎ (end'.status ≡ status.WriteFault))
    → end'.status ≢ status.ReadFault → end'.status ≢ status.WriteFault
    → IfSome input (λ bytes. EndsAsCalled words bytes end')
complete words None before after end' whole wrong not_read not_write = tt
complete words (Some left) before after end' whole wrong not_read not_write = record {
  usage = λ some. elim (wrong some) [ inl usage ↦ usage | inr fault ↦ absurd (not_write fault) ];
  refused = λ none text refused. elim (text_or_memory end'.status not_read not_write) [
    | inl has ↦ let w = whole has in inl (refused_ends left end'.raced end'.status w.text text (here none w) refused)
    | inr memory ↦ inr memory
  ];
  raced = λ none sheet is short. elim (text_or_memory end'.status not_read not_write) [
    | inl has ↦ let w = whole has in inl (raced_ends left end' w.text sheet (here none w) is short)
    | inr memory ↦ inr memory
  ];
}
  where
    here : words ≡ [] → (w : Writes words (Some left) before after end') → BytesCallFor left end'.raced end'.status w.text
    here none w =
        let called : CallsFor [] w.bytes end'.raced end'.status w.text = subst (λ (ws : List (String Global)). CallsFor ws w.bytes end'.raced end'.status w.text) none w.called in
        subst (λ (b : List ℕ). BytesCallFor b end'.raced end'.status w.text) w.told called

-- after a line the program ends by its status, or by a write fault
pub by_written : (written : Result (Unit {0}) Failed) (result : Status) → MatchResult written (λ _. result ≡ status.Usage) (λ _. result ≡ status.WriteFault)
    → (result ≡ status.Usage) ⊎ (result ≡ status.WriteFault)
by_written (Ok done) result ended = inl ended
by_written (Err e) result ended = inr ended

-- what was lent of the bytes is the input, where that is told
pub told_by : (input : Option (List ℕ)) (bytes slice : List ℕ) → slice ≡ bytes → IfSome input (λ left. bytes ≡ left) → IfSome input (λ left. slice ≡ left)
told_by input bytes slice same told = subst (λ (b : List ℕ). IfSome input (λ left. b ≡ left)) (sym same) told

-- for want of memory
pub nothing_written : (words : List (String Global)) (input : Option (List ℕ)) → words ≡ [] → IfSome input (λ bytes. EndsAsCalled words bytes (record { status = status.Memory; raced = None }))
nothing_written words None none = tt
nothing_written words (Some left) none = record {
  usage = λ some. absurd (some none);
  refused = λ _ text refused. inr refl;
  raced = λ _ sheet is short. inr refl;
}
