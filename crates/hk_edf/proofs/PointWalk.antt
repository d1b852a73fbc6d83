-- The walk from point to point.
use Rattle.std.proofs.Common.{◌≡◌, ℕ, ◌+◌, ◌-◌, ◌^◌, ◌<◌, ◌≤◌, List, All, length, get_or, sym, ◌∙◌, subst, arith, inl, inr}
use Rattle.std.proofs.lemmas.Bool.{cases_lt, cases_eq}
use Rattle.hk_rta.specs.declared.Timing.{Timing}
use Rattle.hk_rta.specs.declared.TheConstants.{MAX_TASKS, MAX_TICKS}
use Rattle.hk_rta.specs.Demand.{IsTimed, timing_at}
use Rattle.hk_rta.specs.Least.{IsLeast}
use Rattle.hk_edf.specs.Due.{due, FitsUpTo}
use Rattle.hk_edf.specs.Points.{passed, added_below, HasPoints, IsOver}
use Rattle.hk_edf.proofs.Points.{next_later}
use Rattle.hk_edf.proofs.AllPoints.{timed_at, Rests, rests, Passes, passes, due_none}

-- what is known before a point is passed
abbrev pub At : List Timing → ℕ → List ℕ → ℕ → ℕ → Type 0
At tasks last next sum t = record {
  positive : 1 ≤ t;
  most : t ≤ last + 1;
  points : HasPoints tasks next (t - 1);
  so_far : sum ≡ due tasks (t - 1);
  fits : FitsUpTo tasks (t - 1);
}

-- each point is later
all_later : (tasks : List Timing) (next : List ℕ) (t : ℕ) → All IsTimed tasks → t < 2 ^ 64 - 1 → HasPoints tasks next t → (k : ℕ) → k < MAX_TASKS → t < get_or next k 0
all_later tasks next t timed small has k below = elim (cases_lt k (length tasks)) [
  | inl listed ↦ omega (arith, has.points k listed, next_later t (timing_at tasks k) (omega (arith, (timed_at tasks k timed listed).period.0)))
  | inr past ↦ omega (arith, has.others k past below, small)
]

-- from one moment on to the lowest point
pub at_next : (tasks : List Timing) (next : List ℕ) (last t low sum : ℕ) → All IsTimed tasks → length tasks ≤ MAX_TASKS → last ≤ MAX_TICKS → t ≤ last → HasPoints tasks next t → FitsUpTo tasks t → sum ≡ due tasks t
    → low ≤ last + 1 → ((k : ℕ) → k < MAX_TASKS → low ≤ get_or next k 0)
    → ((u : ℕ) → u < last + 1 → ((k : ℕ) → k < MAX_TASKS → u < get_or next k 0) → u < low) → At tasks last next sum low
at_next tasks next last t low sum timed few small within has fits so_far no_more least above =
    let later : t < low = above t (omega (arith, within)) (all_later tasks next t timed (omega (arith, within, small)) has) in
    let r : Rests tasks next t (low - 1) = rests tasks next t (low - 1) timed few has fits (omega (arith, later)) (λ k below. omega (arith, later, least k below)) in
    record {
      positive = omega (arith, later);
      most = no_more;
      points = r.points;
      so_far = so_far ∙ sym r.due_then;
      fits = r.fits;
    }

pub at_start : (tasks : List Timing) (next : List ℕ) (last low : ℕ) → All IsTimed tasks → length tasks ≤ MAX_TASKS → last ≤ MAX_TICKS → HasPoints tasks next 0
    → low ≤ last + 1 → ((k : ℕ) → k < MAX_TASKS → low ≤ get_or next k 0)
    → ((u : ℕ) → u < last + 1 → ((k : ℕ) → k < MAX_TASKS → u < get_or next k 0) → u < low) → At tasks last next 0 low
at_start tasks next last low timed few small has no_more least above =
    at_next tasks next last 0 low 0 timed few small (omega arith) has (λ t some to. absurd (omega (arith, some, to))) (sym (due_none tasks timed)) no_more least above

-- what is known of a point that is passed
pub record Passed (tasks : List Timing) (moved : List ℕ) (sum t : ℕ) : Type 0 where
  pub points : HasPoints tasks moved t
  pub so_far : sum ≡ due tasks t

pub at_passed : (tasks : List Timing) (last sum t added : ℕ) (next moved : List ℕ) → All IsTimed tasks → length tasks ≤ MAX_TASKS → last ≤ MAX_TICKS → t ≤ last → At tasks last next sum t
    → length moved ≡ MAX_TASKS → ((k : ℕ) → k < MAX_TASKS → get_or moved k 0 ≡ passed tasks next t k) → added ≡ added_below tasks next t (length tasks)
    → Passed tasks moved (sum + added) t
at_passed tasks last sum t added next moved timed few small within at long is e =
    let back : (t - 1) + 1 ≡ t = omega (arith, at.positive) in
    let P : ℕ → Type 0 = λ u. (k : ℕ) → k < MAX_TASKS → get_or moved k 0 ≡ passed tasks next u k in
    let p : Passes tasks next moved (t - 1) = passes tasks next moved (t - 1) timed few (omega (arith, back, within, small)) at.points long (subst P (sym back) is) in
    let Q : ℕ → Type 0 = HasPoints tasks moved in
    let R : ℕ → Type 0 = λ u. due tasks u ≡ due tasks (t - 1) + added_below tasks next u (length tasks) in
    record { points = subst Q back p.points; so_far = omega (arith, at.so_far, e, subst R back p.due_then) }

pub fits_more : (tasks : List Timing) (last sum t : ℕ) (next : List ℕ) → At tasks last next sum t → due tasks t ≤ t → FitsUpTo tasks t
fits_more tasks last sum t next at here = λ u some to. elim (cases_eq t u) [
  | inl same ↦
      let P : ℕ → Type 0 = λ v. due tasks v ≤ v in
      subst P same here
  | inr other ↦ at.fits u some (omega (arith, to, other))
]

pub over_is_least : (tasks : List Timing) (last sum t : ℕ) (next : List ℕ) → At tasks last next sum t → t ≤ last → t < due tasks t → IsLeast (IsOver tasks last) t
over_is_least tasks last sum t next at within over = record {
  holds = record { positive = at.positive; in_range = within; over = over };
  least = λ m o. elim (cases_lt m t) [
    | inr fine ↦ fine
    | inl before ↦ absurd (omega (arith, at.fits m o.positive (omega (arith, before)), o.over))
  ];
}

pub sum-le : (tasks : List Timing) (last sum t : ℕ) (next : List ℕ) → All IsTimed tasks → At tasks last next sum t → sum ≤ t - 1
sum-le tasks last sum t next timed at = elim (cases_lt 0 (t - 1)) [
  | inl some ↦ omega (arith, at.so_far, at.fits (t - 1) some (omega arith))
  | inr none ↦
      let P : ℕ → Type 0 = λ u. due tasks u ≡ 0 in
      let start : 0 ≡ t - 1 = omega (arith, none) in
      omega (arith, at.so_far, subst P start (due_none tasks timed))
]

-- the lowest point is later than the one that was passed
pub low_later : (tasks : List Timing) (next : List ℕ) (last t low : ℕ) → All IsTimed tasks → last ≤ MAX_TICKS → t ≤ last → HasPoints tasks next t
    → ((u : ℕ) → u < last + 1 → ((k : ℕ) → k < MAX_TASKS → u < get_or next k 0) → u < low) → t < low
low_later tasks next last t low timed small within has above = above t (omega (arith, within)) (all_later tasks next t timed (omega (arith, within, small)) has)
