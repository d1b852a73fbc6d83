-- Words and bytes call for one end, and for one text.
use Rattle.std.proofs.Common.{◌≡◌, ℕ, ◌<◌, ◌⊎◌, inl, inr, true, false, List, ◌++◌, length, refl, sym, ap, ◌∙◌, subst, arith, String, Global}
use Rattle.std.proofs.lemmas.Grind.{same_number_lists}
use Rattle.std.specs.Prelude.{slice_index}
use Rattle.hk_io.specs.declared.Status.{Status}
use Rattle.hk_io.specs.declared.Status.TheVariants as status
use Rattle.hk_rta.specs.declared.Timing.{Timing}
use Rattle.hk_sheet.specs.declared.sheet.Sheet.{Sheet}
use Rattle.hk_sheet.specs.Faults.{sizes_of}
use Rattle.hk_admit.specs.Analysis.{IsBusy, timings_of, cycle_work, attempt_events, most_owed}
use Rattle.hk_admit.proofs.Excluded.{one_busy}
use Rattle.hk_words.specs.Geometry.{HasSizes}
use Rattle.hk_words.proofs.OneGeometry.{one_geometry}
use Rattle.hk_front.proofs.OneInput.{one_sheet, none_read, one_unread}
use Rattle.hk_top.specs.declared.report.Form.TheVariants.{Plain}
use Rattle.hk_top.specs.Report.{analysis, IsRunText}
use Rattle.hk_top.specs.Tool.{status_of}
use Rattle.hk_top.proofs.OneRun.{one_run}
use Rattle.hk_ceiling.specs.declared.admitted.Held.{Held}
use Rattle.hk_ceiling.specs.declared.ceilings.TaskSection.{TaskSection}
use Rattle.hk_ceiling.specs.declared.told.Section.{Section}
use Rattle.hk_ceiling.specs.Admission.{AreResponses, IsCeilRefusal}
use Rattle.hk_ceiling.specs.Choice.{by_ceilings}
use Rattle.hk_ceiling.specs.Told.{all_numbered}
use Rattle.hk_ceiling.specs.Tool.{usage_line, ceil_line, numbered_of, analysis_of, IsNotAdmitted, IsReport, IsAnswer, BytesCallFor, CallsFor}
use Rattle.hk_ceiling.specs.Words.{are_sections, sections_from}
use Rattle.hk_ceiling.proofs.Excluded.{held_excludes, one_refusal}

-- ONE SHEET

-- there is one list of response times
one_responses : (tasks : List Timing) (sections : List TaskSection) (rs qs : List ℕ) → AreResponses tasks sections rs → AreResponses tasks sections qs → rs ≡ qs
one_responses tasks sections rs qs a b = same_number_lists rs qs (a.whole ∙ sym b.whole) each
  where
    each : (k : ℕ) → k < length rs → slice_index rs k ≡ slice_index qs k
    each k within =
        let w = a.whole in
        let inside : k < length tasks = omega (arith, within, w) in
        let r = a.each k inside in
        let q = b.each k inside in
        let first = r.least (slice_index qs k) q.holds in
        let second = q.least (slice_index rs k) r.holds in
        omega (arith, first, second)

-- a sheet that is admitted with its sections has one analysis
same_analysis : (a b : Held) → a.checked.sheet ≡ b.checked.sheet → a.sections ≡ b.sections → analysis_of a ≡ analysis_of b
same_analysis a b same told =
    let x = a.checked.sound in
    let y = b.checked.sound in
    let sheet = b.checked.sheet in
    let work : a.checked.work ≡ b.checked.work = x.work_is ∙ ap cycle_work same ∙ sym y.work_is in
    let attempt : a.checked.attempt ≡ b.checked.attempt = x.attempt_is ∙ ap attempt_events same ∙ sym y.attempt_is in
    let busy : a.checked.busy ≡ b.checked.busy = one_busy sheet a.checked.busy b.checked.busy (subst (λ s. IsBusy s a.checked.busy) same x.busy_is) y.busy_is in
    let debt : a.checked.debt ≡ b.checked.debt = x.debt_is ∙ ap (λ s. most_owed s a.checked.busy) same ∙ ap (most_owed sheet) busy ∙ sym y.debt_is in
    let here : AreResponses (timings_of sheet.high) (all_numbered sheet.high b.sections) a.responses =
    subst (λ (told : List Section). AreResponses (timings_of sheet.high) (all_numbered sheet.high told) a.responses) told
    (subst (λ (s : Sheet). AreResponses (timings_of s.high) (all_numbered s.high a.sections) a.responses) same a.kept.in_time) in
    let responses : a.responses ≡ b.responses = one_responses (timings_of sheet.high) (numbered_of b) a.responses b.responses here b.kept.in_time in
    ap (λ s. analysis s a.checked.work a.checked.attempt a.checked.busy a.checked.debt a.responses) same
    ∙ ap (λ n. analysis sheet n a.checked.attempt a.checked.busy a.checked.debt a.responses) work
    ∙ ap (λ n. analysis sheet b.checked.work n a.checked.busy a.checked.debt a.responses) attempt
    ∙ ap (λ n. analysis sheet b.checked.work b.checked.attempt n a.checked.debt a.responses) busy
    ∙ ap (λ n. analysis sheet b.checked.work b.checked.attempt b.checked.busy n a.responses) debt
    ∙ ap (analysis sheet b.checked.work b.checked.attempt b.checked.busy b.checked.debt) responses

-- the sections of the tasks of one sheet are the same
same_numbered : (a b : Held) → a.checked.sheet ≡ b.checked.sheet → a.sections ≡ b.sections → numbered_of a ≡ numbered_of b
same_numbered a b same told = ap (λ (s : Sheet). all_numbered s.high a.sections) same ∙ ap (all_numbered b.checked.sheet.high) told

-- and one report
one_report : (a b : Held) → a.checked.sheet ≡ b.checked.sheet → a.sections ≡ b.sections → (s s' : Status) (t t' : List ℕ) → IsReport a s t → IsReport b s' t' → (s ≡ s') × (t ≡ t')
one_report a b same told s s' t t' x y =
    let sheet = b.checked.sheet in
    let geometry : x.geometry ≡ y.geometry = one_geometry x.geometry y.geometry (sizes_of sheet) (subst (λ (s : Sheet). HasSizes x.geometry (sizes_of s)) same x.sizes) y.sizes in
    let here : IsRunText Plain y.geometry (by_ceilings (numbered_of b)) sheet x.finish x.run =
    subst (λ (p : List TaskSection). IsRunText Plain y.geometry (by_ceilings p) sheet x.finish x.run) (same_numbered a b same told)
    (subst (λ g. IsRunText Plain g (by_ceilings (numbered_of a)) sheet x.finish x.run) geometry
    (subst (λ (s : Sheet). IsRunText Plain x.geometry (by_ceilings (numbered_of a)) s x.finish x.run) same x.run_is)) in
    let one = one_run y.geometry (by_ceilings (numbered_of b)) sheet Plain x.finish y.finish x.run y.run here y.run_is in
    (x.ended_is ∙ ap status_of one.0 ∙ sym y.ended_is, x.text_is ∙ ap (λ r. r ++ x.run) (same_analysis a b same told) ∙ ap (λ r. analysis_of b ++ r) one.1 ∙ sym y.text_is)

module _ (sections : List Section) (bytes : List ℕ) where
  -- a sheet that isn't admitted with its sections is none that is
  none_admitted : (t : List ℕ) (s : Status) (u : List ℕ) → IsNotAdmitted sections bytes t → IsAnswer sections bytes s u → ⊥
  none_admitted t s u n a =
      let same = one_sheet bytes n.sheet a.held.checked.sheet n.is a.is in
      let refusal : IsCeilRefusal a.held.checked.sheet a.held.sections n.why =
      subst (λ told. IsCeilRefusal a.held.checked.sheet told n.why) (sym a.sections_are) (subst (λ x. IsCeilRefusal x sections n.why) same n.refusal) in
      n.told (held_excludes a.held.checked.sheet a.held.sections a.held.checked.work a.held.checked.attempt a.held.checked.busy a.held.checked.debt a.held.responses n.why a.held.checked.sound a.held.kept refusal)

  -- and it has one line
  one_not_admitted : (t u : List ℕ) → IsNotAdmitted sections bytes t → IsNotAdmitted sections bytes u → t ≡ u
  one_not_admitted t u a b =
      let same = one_sheet bytes a.sheet b.sheet a.is b.is in
      let why = one_refusal b.sheet sections a.why b.why (subst (λ s. IsCeilRefusal s sections a.why) same a.refusal) b.refusal a.told b.told in
      a.text_is ∙ ap ceil_line why ∙ sym b.text_is

  one_answer : (s s' : Status) (t t' : List ℕ) → IsAnswer sections bytes s t → IsAnswer sections bytes s' t' → (s ≡ s') × (t ≡ t')
  one_answer s s' t t' x y =
      one_report x.held y.held (one_sheet bytes x.held.checked.sheet y.held.checked.sheet x.is y.is) (x.sections_are ∙ sym y.sections_are) s s' t t' x.report y.report

  -- THE END AND THE TEXT, by the bytes
  one_bytes : (s s' : Status) (t t' : List ℕ) → BytesCallFor sections bytes s t → BytesCallFor sections bytes s' t' → (s ≡ s') × (t ≡ t')
  one_bytes status.Done status.Done t t' a b = one_answer status.Done status.Done t t' a b
  one_bytes status.Done status.Memory t t' a b = absurd b
  one_bytes status.Done status.Usage t t' a b = absurd b
  one_bytes status.Done status.ReadFault t t' a b = absurd b
  one_bytes status.Done status.WriteFault t t' a b = absurd b
  one_bytes status.Done status.Sheet t t' a b = absurd (none_read bytes t' a.held.checked.sheet b a.is)
  one_bytes status.Done status.NotAdmitted t t' a b = absurd (none_admitted t' status.Done t b a)
  one_bytes status.Done status.Live t t' a b = one_answer status.Done status.Live t t' a b
  one_bytes status.Done status.Full t t' a b = absurd b
  one_bytes status.Memory s' t t' a b = absurd a
  one_bytes status.Usage s' t t' a b = absurd a
  one_bytes status.ReadFault s' t t' a b = absurd a
  one_bytes status.WriteFault s' t t' a b = absurd a
  one_bytes status.Sheet status.Done t t' a b = absurd (none_read bytes t b.held.checked.sheet a b.is)
  one_bytes status.Sheet status.Memory t t' a b = absurd b
  one_bytes status.Sheet status.Usage t t' a b = absurd b
  one_bytes status.Sheet status.ReadFault t t' a b = absurd b
  one_bytes status.Sheet status.WriteFault t t' a b = absurd b
  one_bytes status.Sheet status.Sheet t t' a b = (refl, one_unread bytes t t' a b)
  one_bytes status.Sheet status.NotAdmitted t t' a b = absurd (none_read bytes t b.sheet a b.is)
  one_bytes status.Sheet status.Live t t' a b = absurd (none_read bytes t b.held.checked.sheet a b.is)
  one_bytes status.Sheet status.Full t t' a b = absurd b
  one_bytes status.NotAdmitted status.Done t t' a b = absurd (none_admitted t status.Done t' a b)
  one_bytes status.NotAdmitted status.Memory t t' a b = absurd b
  one_bytes status.NotAdmitted status.Usage t t' a b = absurd b
  one_bytes status.NotAdmitted status.ReadFault t t' a b = absurd b
  one_bytes status.NotAdmitted status.WriteFault t t' a b = absurd b
  one_bytes status.NotAdmitted status.Sheet t t' a b = absurd (none_read bytes t' a.sheet b a.is)
  one_bytes status.NotAdmitted status.NotAdmitted t t' a b = (refl, one_not_admitted t t' a b)
  one_bytes status.NotAdmitted status.Live t t' a b = absurd (none_admitted t status.Live t' a b)
  one_bytes status.NotAdmitted status.Full t t' a b = absurd b
  one_bytes status.Live status.Done t t' a b = one_answer status.Live status.Done t t' a b
  one_bytes status.Live status.Memory t t' a b = absurd b
  one_bytes status.Live status.Usage t t' a b = absurd b
  one_bytes status.Live status.ReadFault t t' a b = absurd b
  one_bytes status.Live status.WriteFault t t' a b = absurd b
  one_bytes status.Live status.Sheet t t' a b = absurd (none_read bytes t' a.held.checked.sheet b a.is)
  one_bytes status.Live status.NotAdmitted t t' a b = absurd (none_admitted t' status.Live t b a)
  one_bytes status.Live status.Live t t' a b = one_answer status.Live status.Live t t' a b
  one_bytes status.Live status.Full t t' a b = absurd b
  one_bytes status.Full s' t t' a b = absurd a

-- BY THE WORDS

-- words that tell no sections call for the usage line, and others for what the bytes call for
abbrev IsWrong : List (String Global) → Status → List ℕ → Type 0
IsWrong words s t = (are_sections words ≡ false) × (s ≡ status.Usage) × (t ≡ usage_line)

abbrev IsRight : List (String Global) → (bytes : List ℕ) → Status → List ℕ → Type 0
IsRight words bytes s t = (are_sections words ≡ true) × BytesCallFor (sections_from words) bytes s t

parted : (words : List (String Global)) (bytes : List ℕ) (s : Status) (t : List ℕ) → CallsFor words bytes s t → IsWrong words s t ⊎ IsRight words bytes s t
parted words bytes status.Done t called = inr called
parted words bytes status.Memory t called = inr called
parted words bytes status.Usage t called = inl (called.0, refl, called.1)
parted words bytes status.ReadFault t called = inr called
parted words bytes status.WriteFault t called = inr called
parted words bytes status.Sheet t called = inr called
parted words bytes status.NotAdmitted t called = inr called
parted words bytes status.Live t called = inr called
parted words bytes status.Full t called = inr called

-- words that tell sections tell some
told_and_not : (words : List (String Global)) → are_sections words ≡ true → are_sections words ≡ false → ⊥
told_and_not words some none = let e : true ≡ false = sym some ∙ none in cc

pub one_call : (words : List (String Global)) (bytes : List ℕ) (s s' : Status) (t t' : List ℕ) → CallsFor words bytes s t → CallsFor words bytes s' t' → (s ≡ s') × (t ≡ t')
one_call words bytes s s' t t' a b = go (parted words bytes s t a) (parted words bytes s' t' b)
  where
    go : IsWrong words s t ⊎ IsRight words bytes s t → IsWrong words s' t' ⊎ IsRight words bytes s' t' → (s ≡ s') × (t ≡ t')
    go (inl x) (inl y) = (x.1 ∙ sym y.1, x.2 ∙ sym y.2)
    go (inl x) (inr y) = absurd (told_and_not words y.0 x.0)
    go (inr x) (inl y) = absurd (told_and_not words x.0 y.0)
    go (inr x) (inr y) = one_bytes (sections_from words) bytes s s' t t' x.1 y.1
