-- Words and bytes call for one end, and for one text.
use Rattle.std.proofs.Common.{◌≡◌, ℕ, List, [], ◌∷◌, ◌++◌, refl, sym, ap, ◌∙◌, subst, String, Global}
use Rattle.hk_io.specs.declared.Status.{Status}
use Rattle.hk_io.specs.declared.Status.TheVariants as status
use Rattle.hk_sheet.specs.declared.sheet.Sheet.{Sheet}
use Rattle.hk_sheet.specs.Faults.{sizes_of}
use Rattle.hk_admit.specs.declared.checked.Checked.{Checked}
use Rattle.hk_admit.specs.Analysis.{IsBusy, cycle_work, attempt_events, most_owed}
use Rattle.hk_admit.proofs.Excluded.{one_busy}
use Rattle.hk_words.specs.Geometry.{HasSizes}
use Rattle.hk_words.proofs.OneGeometry.{one_geometry}
use Rattle.hk_front.proofs.OneInput.{one_sheet, none_read, one_unread}
use Rattle.hk_top.specs.declared.report.Form.TheVariants.{Plain}
use Rattle.hk_top.specs.Report.{IsRunText}
use Rattle.hk_top.specs.Tool.{status_of}
use Rattle.hk_top.proofs.OneRun.{one_run}
use Rattle.hk_edf.specs.Earliest.{earliest_row}
use Rattle.hk_edf.specs.Refusals.{IsEdfRefusal}
use Rattle.hk_edf.specs.Text.{edf_analysis, analysis_of, edf_line}
use Rattle.hk_edf.specs.Tool.{IsNotAdmitted, IsReport, IsAnswer, BytesCallFor, CallsFor}
use Rattle.hk_edf.proofs.Refusals.{no_refusal, one_refusal}

-- a sheet that isn't admitted is none that is
none_admitted : (bytes t : List ℕ) (s : Status) (u : List ℕ) → IsNotAdmitted bytes t → IsAnswer bytes s u → ⊥
none_admitted bytes t s u n a =
    let same = one_sheet bytes n.sheet a.checked.sheet n.is a.is in
    n.told (no_refusal a.checked.sheet a.checked.work a.checked.attempt a.checked.busy a.checked.debt n.why a.checked.sound a.meets (subst (λ x. IsEdfRefusal x n.why) same n.refusal))

one_not_admitted : (bytes t u : List ℕ) → IsNotAdmitted bytes t → IsNotAdmitted bytes u → t ≡ u
one_not_admitted bytes t u a b =
    let same = one_sheet bytes a.sheet b.sheet a.is b.is in
    let why = one_refusal b.sheet a.why b.why (subst (λ s. IsEdfRefusal s a.why) same a.refusal) b.refusal a.told b.told in
    a.text_is ∙ ap edf_line why ∙ sym b.text_is

-- a sheet that is checked has one analysis
same_analysis : (a b : Checked) → a.sheet ≡ b.sheet → analysis_of a ≡ analysis_of b
same_analysis a b same =
    let x = a.sound in
    let y = b.sound in
    let sheet = b.sheet in
    let work : a.work ≡ b.work = x.work_is ∙ ap cycle_work same ∙ sym y.work_is in
    let attempt : a.attempt ≡ b.attempt = x.attempt_is ∙ ap attempt_events same ∙ sym y.attempt_is in
    let busy : a.busy ≡ b.busy = one_busy sheet a.busy b.busy (subst (λ s. IsBusy s a.busy) same x.busy_is) y.busy_is in
    let debt : a.debt ≡ b.debt = x.debt_is ∙ ap (λ s. most_owed s a.busy) same ∙ ap (most_owed sheet) busy ∙ sym y.debt_is in
    ap (λ s. edf_analysis s a.work a.attempt a.busy a.debt) same
    ∙ ap (λ n. edf_analysis sheet n a.attempt a.busy a.debt) work
    ∙ ap (λ n. edf_analysis sheet b.work n a.busy a.debt) attempt
    ∙ ap (λ n. edf_analysis sheet b.work b.attempt n a.debt) busy
    ∙ ap (edf_analysis sheet b.work b.attempt b.busy) debt

-- and one report
one_report : (a b : Checked) → a.sheet ≡ b.sheet → (s s' : Status) (t t' : List ℕ) → IsReport a s t → IsReport b s' t' → (s ≡ s') × (t ≡ t')
one_report a b same s s' t t' x y =
    let sheet = b.sheet in
    let geometry : x.geometry ≡ y.geometry = one_geometry x.geometry y.geometry (sizes_of sheet) (subst (λ (s : Sheet). HasSizes x.geometry (sizes_of s)) same x.sizes) y.sizes in
    let here : IsRunText Plain y.geometry earliest_row sheet x.finish x.run =
    subst (λ g. IsRunText Plain g earliest_row sheet x.finish x.run) geometry (subst (λ (s : Sheet). IsRunText Plain x.geometry earliest_row s x.finish x.run) same x.run_is) in
    let one = one_run y.geometry earliest_row sheet Plain x.finish y.finish x.run y.run here y.run_is in
    (x.ended_is ∙ ap status_of one.0 ∙ sym y.ended_is, x.text_is ∙ ap (λ r. r ++ x.run) (same_analysis a b same) ∙ ap (λ r. analysis_of b ++ r) one.1 ∙ sym y.text_is)

one_answer : (bytes : List ℕ) (s s' : Status) (t t' : List ℕ) → IsAnswer bytes s t → IsAnswer bytes s' t' → (s ≡ s') × (t ≡ t')
one_answer bytes s s' t t' x y = one_report x.checked y.checked (one_sheet bytes x.checked.sheet y.checked.sheet x.is y.is) s s' t t' x.report y.report

one_bytes : (bytes : List ℕ) (s s' : Status) (t t' : List ℕ) → BytesCallFor bytes s t → BytesCallFor bytes s' t' → (s ≡ s') × (t ≡ t')
one_bytes bytes status.Done status.Done t t' a b = one_answer bytes status.Done status.Done t t' a b
one_bytes bytes status.Done status.Memory t t' a b = absurd b
one_bytes bytes status.Done status.Usage t t' a b = absurd b
one_bytes bytes status.Done status.ReadFault t t' a b = absurd b
one_bytes bytes status.Done status.WriteFault t t' a b = absurd b
one_bytes bytes status.Done status.Sheet t t' a b = absurd (none_read bytes t' a.checked.sheet b a.is)
one_bytes bytes status.Done status.NotAdmitted t t' a b = absurd (none_admitted bytes t' status.Done t b a)
one_bytes bytes status.Done status.Live t t' a b = one_answer bytes status.Done status.Live t t' a b
one_bytes bytes status.Done status.Full t t' a b = absurd b
one_bytes bytes status.Memory s' t t' a b = absurd a
one_bytes bytes status.Usage s' t t' a b = absurd a
one_bytes bytes status.ReadFault s' t t' a b = absurd a
one_bytes bytes status.WriteFault s' t t' a b = absurd a
one_bytes bytes status.Sheet status.Done t t' a b = absurd (none_read bytes t b.checked.sheet a b.is)
one_bytes bytes status.Sheet status.Memory t t' a b = absurd b
one_bytes bytes status.Sheet status.Usage t t' a b = absurd b
one_bytes bytes status.Sheet status.ReadFault t t' a b = absurd b
one_bytes bytes status.Sheet status.WriteFault t t' a b = absurd b
one_bytes bytes status.Sheet status.Sheet t t' a b = (refl, one_unread bytes t t' a b)
one_bytes bytes status.Sheet status.NotAdmitted t t' a b = absurd (none_read bytes t b.sheet a b.is)
one_bytes bytes status.Sheet status.Live t t' a b = absurd (none_read bytes t b.checked.sheet a b.is)
one_bytes bytes status.Sheet status.Full t t' a b = absurd b
one_bytes bytes status.NotAdmitted status.Done t t' a b = absurd (none_admitted bytes t status.Done t' a b)
one_bytes bytes status.NotAdmitted status.Memory t t' a b = absurd b
one_bytes bytes status.NotAdmitted status.Usage t t' a b = absurd b
one_bytes bytes status.NotAdmitted status.ReadFault t t' a b = absurd b
one_bytes bytes status.NotAdmitted status.WriteFault t t' a b = absurd b
one_bytes bytes status.NotAdmitted status.Sheet t t' a b = absurd (none_read bytes t' a.sheet b a.is)
one_bytes bytes status.NotAdmitted status.NotAdmitted t t' a b = (refl, one_not_admitted bytes t t' a b)
one_bytes bytes status.NotAdmitted status.Live t t' a b = absurd (none_admitted bytes t status.Live t' a b)
one_bytes bytes status.NotAdmitted status.Full t t' a b = absurd b
one_bytes bytes status.Live status.Done t t' a b = one_answer bytes status.Live status.Done t t' a b
one_bytes bytes status.Live status.Memory t t' a b = absurd b
one_bytes bytes status.Live status.Usage t t' a b = absurd b
one_bytes bytes status.Live status.ReadFault t t' a b = absurd b
one_bytes bytes status.Live status.WriteFault t t' a b = absurd b
one_bytes bytes status.Live status.Sheet t t' a b = absurd (none_read bytes t' a.checked.sheet b a.is)
one_bytes bytes status.Live status.NotAdmitted t t' a b = absurd (none_admitted bytes t' status.Live t b a)
one_bytes bytes status.Live status.Live t t' a b = one_answer bytes status.Live status.Live t t' a b
one_bytes bytes status.Live status.Full t t' a b = absurd b
one_bytes bytes status.Full s' t t' a b = absurd a

pub one_call : (words : List (String Global)) (bytes : List ℕ) (s s' : Status) (t t' : List ℕ) → CallsFor words bytes s t → CallsFor words bytes s' t' → (s ≡ s') × (t ≡ t')
one_call [] bytes s s' t t' a b = one_bytes bytes s s' t t' a b
one_call (word ∷ words) bytes s s' t t' a b = (a.0 ∙ sym b.0, a.1 ∙ sym b.1)
