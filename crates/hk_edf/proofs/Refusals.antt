-- The refusals of a sheet whose high jobs are to go by earliest deadlines.
use Rattle.std.proofs.Common.{◌≡◌, ◌∙◌, sym, refl, ap, subst, ℕ, ◌<◌, true, false, Some, None, List, [], ◌∷◌, length, get_or, take, arith}
use Rattle.std.specs.List.{find, list_any}
use Rattle.std.specs.Option.{option_map}
use Rattle.hk_sheet.specs.declared.sheet.High.{High}
use Rattle.hk_sheet.specs.declared.sheet.Sheet.{Sheet}
use Rattle.hk_admit.specs.Analysis.{timings_of}
use Rattle.hk_admit.proofs.Readable.{all_in_range, all_timed}
use Rattle.hk_admit.proofs.Found.{failed, find_at}
use Rattle.hk_admit.proofs.Excluded.{one_busy, checked_excludes}
use Rattle.hk_admit.proofs.Unique.{one_heap_refusal}
use Rattle.hk_edf.specs.declared.refused.EdfRefused.TheVariants.{Heap, Jitter, Demand, Memory}
use Rattle.hk_edf.specs.Due.{FitsUpTo}
use Rattle.hk_edf.specs.Points.{IsOver}
use Rattle.hk_edf.specs.Refusals.{has_jitter, first_jitter, IsTooMuch, AdmittedIsNotRefused, OneRefusal, RefusedFitsNowhere}
use Rattle.hk_edf.proofs.AllPoints.{timed_at}
use Rattle.hk_edf.proofs.TooMuch.{no_schedule_fits}

-- ---- the first jitter

pub jitter_at_place : (tasks : List High) (i : ℕ) (task : High) (name : List ℕ) → i < length tasks → list_any has_jitter (take i tasks) ≡ false
    → task ≡ get_or tasks i task → has_jitter task ≡ true → name ≡ task.name → first_jitter tasks ≡ Some name
jitter_at_place tasks i task name within none is late named =
    let first : find has_jitter tasks ≡ Some (get_or tasks i task) = find_at has_jitter tasks i task within none (sym (ap has_jitter is) ∙ late) in
    ap (option_map (λ (t : High). t.name)) first ∙ ap (λ (t : High). Some t.name) (sym is) ∙ ap (λ n. Some n) (sym named)

find_none : (tasks : List High) → list_any has_jitter tasks ≡ false → find has_jitter tasks ≡ None
find_none [] none = refl
find_none (task ∷ rest) none =
    let split = failed (has_jitter task) (list_any has_jitter rest) none in
    rw split.0 (find_none rest split.1)

no_first : (tasks : List High) (name : List ℕ) → list_any has_jitter tasks ≡ false → ¬ (first_jitter tasks ≡ Some name)
no_first tasks name none first =
    let e : first_jitter tasks ≡ None = ap (option_map (λ (t : High). t.name)) (find_none tasks none) in
    absurd (cc)

-- ---- what refusals exclude

over_excludes : (sheet : Sheet) (x y t : ℕ) → x ≡ y → IsOver (timings_of sheet.high) x t → ¬ (FitsUpTo (timings_of sheet.high) y)
over_excludes sheet x y t same over fits =
    let in_range = over.in_range in
    let much = over.over in
    let few = fits t over.positive (omega (arith, same, in_range)) in
    absurd (omega (arith, much, few))

pub no_refusal : AdmittedIsNotRefused
no_refusal sheet work attempt busy debt (Heap r) is meets h = absurd (h.1 (checked_excludes sheet work attempt busy debt r is h.0))
no_refusal sheet work attempt busy debt (Jitter name) is meets h = absurd (no_first sheet.high name meets.no_jitter h.first)
no_refusal sheet work attempt busy debt (Demand t) is meets h =
    absurd (over_excludes sheet h.busy busy t (one_busy sheet h.busy busy h.checked.busy_is is.busy_is) h.least.holds meets.fits)
no_refusal sheet work attempt busy debt Memory is meets h = refl

one_some : {a b : List ℕ} → Some a ≡ Some b → a ≡ b
one_some e = cc

same_over : (sheet : Sheet) (x y t : ℕ) → x ≡ y → IsOver (timings_of sheet.high) x t → IsOver (timings_of sheet.high) y t
same_over sheet x y t same over = subst (λ b. IsOver (timings_of sheet.high) b t) same over

one_time : (sheet : Sheet) (t u : ℕ) → IsTooMuch sheet t → IsTooMuch sheet u → t ≡ u
one_time sheet t u h k =
    let same = one_busy sheet h.busy k.busy h.checked.busy_is k.checked.busy_is in
    let up = h.least.least u (same_over sheet k.busy h.busy u (sym same) k.least.holds) in
    let down = k.least.least t (same_over sheet h.busy k.busy t same h.least.holds) in
    omega (arith, up, down)

pub one_refusal : OneRefusal
one_refusal sheet (Heap r) (Heap s) h k p q = ap (λ x. Heap x) (one_heap_refusal sheet r s h.0 k.0 h.1 k.1)
one_refusal sheet (Heap r) (Jitter n) h k p q = absurd (h.1 (checked_excludes sheet k.work k.attempt k.busy k.debt r k.checked h.0))
one_refusal sheet (Heap r) (Demand t) h k p q = absurd (h.1 (checked_excludes sheet k.work k.attempt k.busy k.debt r k.checked h.0))
one_refusal sheet (Heap r) Memory h k p q = absurd (q refl)
one_refusal sheet (Jitter m) (Heap s) h k p q = absurd (k.1 (checked_excludes sheet h.work h.attempt h.busy h.debt s h.checked k.0))
one_refusal sheet (Jitter m) (Jitter n) h k p q = ap (λ x. Jitter x) (one_some (sym h.first ∙ k.first))
one_refusal sheet (Jitter m) (Demand t) h k p q = absurd (no_first sheet.high m k.no_jitter h.first)
one_refusal sheet (Jitter m) Memory h k p q = absurd (q refl)
one_refusal sheet (Demand t) (Heap s) h k p q = absurd (k.1 (checked_excludes sheet h.work h.attempt h.busy h.debt s h.checked k.0))
one_refusal sheet (Demand t) (Jitter n) h k p q = absurd (no_first sheet.high n h.no_jitter k.first)
one_refusal sheet (Demand t) (Demand u) h k p q = ap (λ x. Demand x) (one_time sheet t u h k)
one_refusal sheet (Demand t) Memory h k p q = absurd (q refl)
one_refusal sheet Memory s h k p q = absurd (p refl)

-- ---- what is refused fits nowhere

pub refused_fits_nowhere : RefusedFitsNowhere
refused_fits_nowhere sheet t r =
    no_schedule_fits (timings_of sheet.high) t
    (λ i below. omega (arith, (timed_at (timings_of sheet.high) i (all_timed sheet.high (all_in_range sheet r.checked.readable)) below).period.0))
    r.least.holds.over
