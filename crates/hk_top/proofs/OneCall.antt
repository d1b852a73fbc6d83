-- Words and bytes call for one end, and for one text.
use Rattle.std.proofs.Common.{◌≡◌, ◌≢◌, ℕ, ◌-◌, ◌<◌, List, ◌++◌, length, Option, Some, None, refl, sym, ap, ◌∙◌, subst, arith, slice_index}
use Rattle.std.proofs.lemmas.Grind.{same_number_lists}
use Rattle.hk_io.specs.declared.Status.{Status}
use Rattle.hk_io.specs.declared.Status.TheVariants as status
use Rattle.hk_rta.specs.declared.Timing.{Timing}
use Rattle.hk_rta.specs.Demand.{jitter_at}
use Rattle.hk_sheet.specs.declared.sheet.Sheet.{Sheet}
use Rattle.hk_sheet.specs.Faults.{sizes_of}
use Rattle.hk_admit.specs.declared.checked.Admitted.{Admitted}
use Rattle.hk_admit.specs.Analysis.{timings_of, IsBusy, cycle_work, attempt_events, most_owed}
use Rattle.hk_admit.specs.Conditions.{AreResponses}
use Rattle.hk_admit.specs.Refusals.{IsRefusal}
use Rattle.hk_admit.proofs.Excluded.{admitted_excludes, one_busy}
use Rattle.hk_admit.proofs.Unique.{one_refusal}
use Rattle.hk_words.specs.Geometry.{HasSizes}
use Rattle.hk_words.proofs.OneGeometry.{one_geometry}
use Rattle.hk_plan.specs.AloneBy.{least_task}
use Rattle.hk_front.specs.Input.{IsSheetOf}
use Rattle.hk_front.proofs.OneInput.{one_sheet, none_read, one_unread}
use Rattle.hk_top.specs.declared.report.Form.{Form}
use Rattle.hk_top.specs.declared.report.Form.TheVariants as form
use Rattle.hk_top.specs.declared.tool.Command.{Command}
use Rattle.hk_top.specs.declared.tool.Command.TheVariants as command
use Rattle.hk_top.specs.Refusals.{refused_line}
use Rattle.hk_top.specs.Report.{analysis, IsRunText}
use Rattle.hk_top.specs.Tool.{analysis_of, status_of, IsNotAdmitted, IsAnalysis, IsReport, IsAnswer, answer_for, BytesCallFor, CommandCallsFor}
use Rattle.hk_top.proofs.OneRun.{one_run}

-- a sheet that isn't admitted is none that is
pub none_admitted : (bytes text : List ℕ) (a : Admitted) → IsNotAdmitted bytes text → IsSheetOf bytes a.checked.sheet → ⊥
none_admitted bytes text a n x =
    let same = one_sheet bytes n.sheet a.checked.sheet n.is x in
    n.told (admitted_excludes a.checked.sheet a.checked.work a.checked.attempt a.checked.busy a.checked.debt a.responses n.why a.checked.sound a.in_time
    (subst (λ s. IsRefusal s n.why) same n.refusal))

-- THE TEXTS

one_not_admitted : (bytes t t' : List ℕ) → IsNotAdmitted bytes t → IsNotAdmitted bytes t' → t ≡ t'
one_not_admitted bytes t t' a b =
    let same = one_sheet bytes a.sheet b.sheet a.is b.is in
    let why = one_refusal b.sheet a.why b.why (subst (λ s. IsRefusal s a.why) same a.refusal) b.refusal a.told b.told in
    a.text_is ∙ ap refused_line why ∙ sym b.text_is

-- there is one list of response times
one_responses : (tasks : List Timing) (rs qs : List ℕ) → AreResponses tasks rs → AreResponses tasks qs → rs ≡ qs
one_responses tasks rs qs a b = same_number_lists rs qs (a.whole ∙ sym b.whole) each
  where
    each : (k : ℕ) → k < length rs → slice_index rs k ≡ slice_index qs k
    each k within =
        let w = a.whole in
        let inside : k < length tasks = omega (arith, within, w) in
        let r = a.each k inside in
        let q = b.each k inside in
        let first = r.least.least (slice_index qs k - jitter_at tasks k) q.least.holds in
        let second = q.least.least (slice_index rs k - jitter_at tasks k) r.least.holds in
        let from = r.after_jitter in
        let since = q.after_jitter in
        omega (arith, first, second, from, since)

-- a sheet that is admitted has one analysis
same_analysis : (a b : Admitted) → a.checked.sheet ≡ b.checked.sheet → analysis_of a ≡ analysis_of b
same_analysis a b same =
    let x = a.checked.sound in
    let y = b.checked.sound in
    let sheet = b.checked.sheet in
    let work : a.checked.work ≡ b.checked.work = x.work_is ∙ ap cycle_work same ∙ sym y.work_is in
    let attempt : a.checked.attempt ≡ b.checked.attempt = x.attempt_is ∙ ap attempt_events same ∙ sym y.attempt_is in
    let busy : a.checked.busy ≡ b.checked.busy = one_busy sheet a.checked.busy b.checked.busy (subst (λ s. IsBusy s a.checked.busy) same x.busy_is) y.busy_is in
    let debt : a.checked.debt ≡ b.checked.debt = x.debt_is ∙ ap (λ s. most_owed s a.checked.busy) same ∙ ap (most_owed sheet) busy ∙ sym y.debt_is in
    let responses : a.responses ≡ b.responses =
    one_responses (timings_of sheet.high) a.responses b.responses (subst (λ (s : Sheet). AreResponses (timings_of s.high) a.responses) same a.in_time) b.in_time in
    ap (λ s. analysis s a.checked.work a.checked.attempt a.checked.busy a.checked.debt a.responses) same
    ∙ ap (λ n. analysis sheet n a.checked.attempt a.checked.busy a.checked.debt a.responses) work
    ∙ ap (λ n. analysis sheet b.checked.work n a.checked.busy a.checked.debt a.responses) attempt
    ∙ ap (λ n. analysis sheet b.checked.work b.checked.attempt n a.checked.debt a.responses) busy
    ∙ ap (λ n. analysis sheet b.checked.work b.checked.attempt b.checked.busy n a.responses) debt
    ∙ ap (analysis sheet b.checked.work b.checked.attempt b.checked.busy b.checked.debt) responses

-- two answers for one sheet are one end and one text
abbrev IsOne : (Admitted → Status → List ℕ → Type 0) → Type 0
IsOne Answer = (a b : Admitted) → a.checked.sheet ≡ b.checked.sheet → (s s' : Status) (t t' : List ℕ) → Answer a s t → Answer b s' t' → (s ≡ s') × (t ≡ t')

one_analysis : IsOne IsAnalysis
one_analysis a b same s s' t t' x y = (x.ended_is ∙ sym y.ended_is, x.text_is ∙ same_analysis a b same ∙ sym y.text_is)

one_report : (f : Form) → IsOne (IsReport f)
one_report f a b same s s' t t' x y =
    let sheet = b.checked.sheet in
    let geometry : x.geometry ≡ y.geometry = one_geometry x.geometry y.geometry (sizes_of sheet) (subst (λ (s : Sheet). HasSizes x.geometry (sizes_of s)) same x.sizes) y.sizes in
    let here : IsRunText f y.geometry least_task sheet x.finish x.run =
    subst (λ g. IsRunText f g least_task sheet x.finish x.run) geometry (subst (λ (s : Sheet). IsRunText f x.geometry least_task s x.finish x.run) same x.run_is) in
    let one = one_run y.geometry least_task sheet f x.finish y.finish x.run y.run here y.run_is in
    (x.ended_is ∙ ap status_of one.0 ∙ sym y.ended_is, x.text_is ∙ ap (λ r. r ++ x.run) (same_analysis a b same) ∙ ap (λ r. analysis_of b ++ r) one.1 ∙ sym y.text_is)

one_answer : (f : Option Form) → IsOne (answer_for f)
one_answer None = one_analysis
one_answer (Some f) = one_report f

-- THE END AND THE TEXT
module _ (Answer : Admitted → Status → List ℕ → Type 0) (one : IsOne Answer) (bytes : List ℕ) where
  answers : (s s' : Status) (t t' : List ℕ) → IsAnswer Answer bytes s t → IsAnswer Answer bytes s' t' → (s ≡ s') × (t ≡ t')
  answers s s' t t' x y = one x.admitted y.admitted (one_sheet bytes x.admitted.checked.sheet y.admitted.checked.sheet x.is y.is) s s' t t' x.answer y.answer

  one_bytes : (s s' : Status) (t t' : List ℕ) → BytesCallFor Answer bytes s t → BytesCallFor Answer bytes s' t' → (s ≡ s') × (t ≡ t')
  one_bytes status.Done status.Done t t' a b = answers status.Done status.Done t t' a b
  one_bytes status.Done status.Memory t t' a b = absurd b
  one_bytes status.Done status.Usage t t' a b = absurd b
  one_bytes status.Done status.ReadFault t t' a b = absurd b
  one_bytes status.Done status.WriteFault t t' a b = absurd b
  one_bytes status.Done status.Sheet t t' a b = absurd (none_read bytes t' a.admitted.checked.sheet b a.is)
  one_bytes status.Done status.NotAdmitted t t' a b = absurd (none_admitted bytes t' a.admitted b a.is)
  one_bytes status.Done status.Live t t' a b = answers status.Done status.Live t t' a b
  one_bytes status.Done status.Full t t' a b = absurd b
  one_bytes status.Memory s' t t' a b = absurd a
  one_bytes status.Usage s' t t' a b = absurd a
  one_bytes status.ReadFault s' t t' a b = absurd a
  one_bytes status.WriteFault s' t t' a b = absurd a
  one_bytes status.Sheet status.Done t t' a b = absurd (none_read bytes t b.admitted.checked.sheet a b.is)
  one_bytes status.Sheet status.Memory t t' a b = absurd b
  one_bytes status.Sheet status.Usage t t' a b = absurd b
  one_bytes status.Sheet status.ReadFault t t' a b = absurd b
  one_bytes status.Sheet status.WriteFault t t' a b = absurd b
  one_bytes status.Sheet status.Sheet t t' a b = (refl, one_unread bytes t t' a b)
  one_bytes status.Sheet status.NotAdmitted t t' a b = absurd (none_read bytes t b.sheet a b.is)
  one_bytes status.Sheet status.Live t t' a b = absurd (none_read bytes t b.admitted.checked.sheet a b.is)
  one_bytes status.Sheet status.Full t t' a b = absurd b
  one_bytes status.NotAdmitted status.Done t t' a b = absurd (none_admitted bytes t b.admitted a b.is)
  one_bytes status.NotAdmitted status.Memory t t' a b = absurd b
  one_bytes status.NotAdmitted status.Usage t t' a b = absurd b
  one_bytes status.NotAdmitted status.ReadFault t t' a b = absurd b
  one_bytes status.NotAdmitted status.WriteFault t t' a b = absurd b
  one_bytes status.NotAdmitted status.Sheet t t' a b = absurd (none_read bytes t' a.sheet b a.is)
  one_bytes status.NotAdmitted status.NotAdmitted t t' a b = (refl, one_not_admitted bytes t t' a b)
  one_bytes status.NotAdmitted status.Live t t' a b = absurd (none_admitted bytes t b.admitted a b.is)
  one_bytes status.NotAdmitted status.Full t t' a b = absurd b
  one_bytes status.Live status.Done t t' a b = answers status.Live status.Done t t' a b
  one_bytes status.Live status.Memory t t' a b = absurd b
  one_bytes status.Live status.Usage t t' a b = absurd b
  one_bytes status.Live status.ReadFault t t' a b = absurd b
  one_bytes status.Live status.WriteFault t t' a b = absurd b
  one_bytes status.Live status.Sheet t t' a b = absurd (none_read bytes t' a.admitted.checked.sheet b a.is)
  one_bytes status.Live status.NotAdmitted t t' a b = absurd (none_admitted bytes t' a.admitted b a.is)
  one_bytes status.Live status.Live t t' a b = answers status.Live status.Live t t' a b
  one_bytes status.Live status.Full t t' a b = absurd b
  one_bytes status.Full s' t t' a b = absurd a

-- one end, whatever is asked for
pub one_end : (c : Option Command) (bytes : List ℕ) (s s' : Status) (t t' : List ℕ) → CommandCallsFor c bytes s t → CommandCallsFor c bytes s' t' → s ≡ s'
one_end None bytes s s' t t' a b = a.0 ∙ sym b.0
one_end (Some command.Check) bytes s s' t t' a b = (one_bytes (answer_for None) (one_answer None) bytes s s' t t' a b).0
one_end (Some (command.Run f)) bytes s s' t t' a b = (one_bytes (answer_for (Some f)) (one_answer (Some f)) bytes s s' t t' a b).0
one_end (Some (command.Make n)) bytes s s' t t' a b = a.0 ∙ sym b.0
one_end (Some (command.Simulate n)) bytes s s' t t' a b = (one_report form.Quiet a.admitted b.admitted (a.is ∙ sym b.is) s s' t t' a.answer b.answer).0

-- and one text, but for the sheet that is made for a number
pub one_text : (c : Option Command) (bytes : List ℕ) (s s' : Status) (t t' : List ℕ) → ((n : ℕ) → c ≢ Some (command.Make n))
    → CommandCallsFor c bytes s t → CommandCallsFor c bytes s' t' → t ≡ t'
one_text None bytes s s' t t' other a b = a.1 ∙ sym b.1
one_text (Some command.Check) bytes s s' t t' other a b = (one_bytes (answer_for None) (one_answer None) bytes s s' t t' a b).1
one_text (Some (command.Run f)) bytes s s' t t' other a b = (one_bytes (answer_for (Some f)) (one_answer (Some f)) bytes s s' t t' a b).1
one_text (Some (command.Make n)) bytes s s' t t' other a b = absurd (other n refl)
one_text (Some (command.Simulate n)) bytes s s' t t' other a b = (one_report form.Quiet a.admitted b.admitted (a.is ∙ sym b.is) s s' t t' a.answer b.answer).1
