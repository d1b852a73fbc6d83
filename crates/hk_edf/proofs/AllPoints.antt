-- How what is due of all tasks grows from point to point.
use Rattle.std.proofs.Common.{◌≡◌, ℕ, zero, suc, ◌+◌, ◌-◌, ◌^◌, ◌<◌, ◌≤◌, nat_eq, List, All, length, replicate, get_or, refl, sym, ap, ◌∙◌, subst, arith, inl, inr, add-one}
use Rattle.std.specs.Prelude.{if◌then◌else◌}
use Rattle.std.specs.List.{sum_by}
use Rattle.std.proofs.Math.Seq.{take-length}
use Rattle.std.proofs.Math.ListN.{get_or-replicate}
use Rattle.std.proofs.lemmas.Bool.{cases_lt, cases_eq, eq-eqb, ne_eqb}
use Rattle.std.proofs.lemmas.List.Elements.{All-get_or}
use Rattle.hk_rta.specs.declared.Timing.{Timing}
use Rattle.hk_rta.specs.declared.TheConstants.{MAX_TASKS, MAX_TICKS}
use Rattle.hk_rta.specs.Demand.{IsTimed, no_timing, timing_at, cost_at, period_at}
use Rattle.hk_plan.proofs.Sums.{total}
use Rattle.hk_edf.proofs.Work.{sum_total}
use Rattle.hk_edf.specs.Due.{due_of, due, FitsUpTo}
use Rattle.hk_edf.specs.Points.{next_due, passed, added_below, HasPoints}
use Rattle.hk_edf.proofs.Points.{early_due, next_later, Same, same_before, same_until, hit_at}

total_same : (f g : ℕ → ℕ) (n : ℕ) → ((k : ℕ) → k < n → f k ≡ g k) → total f n ≡ total g n
total_same f g zero same = refl
total_same f g (suc n) same = omega (arith, total_same f g n (λ k below. same k (omega (arith, below))), same n (omega arith))

pub due_total : (tasks : List Timing) (t : ℕ) → total (λ k. due_of t (timing_at tasks k)) (length tasks) ≡ due tasks t
due_total tasks t =
    let P : List Timing → Type 0 = λ xs. total (λ k. due_of t (timing_at tasks k)) (length tasks) ≡ sum_by (due_of t) xs in
    subst P (take-length tasks) (sum_total (due_of t) tasks (length tasks) (omega arith))

pub timed_at : (tasks : List Timing) (k : ℕ) → All IsTimed tasks → k < length tasks → IsTimed (timing_at tasks k)
timed_at tasks k timed below = All-get_or IsTimed tasks k no_timing below timed

pub record Rests (tasks : List Timing) (next : List ℕ) (t u : ℕ) : Type 0 where
  pub points : HasPoints tasks next u
  pub due_then : due tasks u ≡ due tasks t
  pub fits : FitsUpTo tasks u

-- up to the lowest point nothing changes
pub rests : (tasks : List Timing) (next : List ℕ) (t u : ℕ) → All IsTimed tasks → length tasks ≤ MAX_TASKS → HasPoints tasks next t → FitsUpTo tasks t → t ≤ u
    → ((k : ℕ) → k < MAX_TASKS → u < get_or next k 0) → Rests tasks next t u
rests tasks next t u timed few has fits le below =
    let same : (v : ℕ) → t ≤ v → v ≤ u → (k : ℕ) → k < length tasks → Same (timing_at tasks k) t v =
    λ v from to k listed. same_until t v (timing_at tasks k) (omega (arith, (timed_at tasks k timed listed).period.0)) from
    (omega (arith, to, below k (omega (arith, listed, few)), has.points k listed)) in
    let due_same : (v : ℕ) → t ≤ v → v ≤ u → due tasks v ≡ due tasks t =
    λ v from to. sym (due_total tasks v) ∙ (total_same _ _ (length tasks) (λ k listed. (same v from to k listed).due_then) ∙ due_total tasks t) in
    record {
      points = record {
        all_places = has.all_places;
        points = λ k listed. has.points k listed ∙ sym (same u le (omega arith) k listed).point;
        others = has.others;
      };
      due_then = due_same u le (omega arith);
      fits = λ v some to. elim (cases_lt t v) [
        | inr before ↦ fits v some before
        | inl after ↦ elim (cases_lt t 1) [
          | inl none ↦ omega (arith, due_same v (omega (arith, after)) to, at_zero v (omega (arith, none)) (due_same v (omega (arith, after)) to))
          | inr one ↦ omega (arith, due_same v (omega (arith, after)) to, fits t one (omega arith), after)
        ]
      ];
    }
  where
    zero_each : (k : ℕ) → k < length tasks → due_of 0 (timing_at tasks k) ≡ 0
    zero_each k listed = early_due 0 (timing_at tasks k) (omega (arith, (timed_at tasks k timed listed).deadline.0))

    zero_all : (f : ℕ → ℕ) (n : ℕ) → ((k : ℕ) → k < n → f k ≡ 0) → total f n ≡ 0
    zero_all f zero each = refl
    zero_all f (suc n) each = omega (arith, zero_all f n (λ k b. each k (omega (arith, b))), each n (omega arith))

    at_zero : (v : ℕ) → t ≡ 0 → due tasks v ≡ due tasks t → due tasks v ≤ v
    at_zero v none e =
        let z : due tasks 0 ≡ 0 = sym (due_total tasks 0) ∙ zero_all (λ k. due_of 0 (timing_at tasks k)) (length tasks) zero_each in
        let P : ℕ → Type 0 = λ n. due tasks n ≡ 0 in
        omega (arith, e, subst P (sym none) z)

-- nothing is due at the start
pub due_none : (tasks : List Timing) → All IsTimed tasks → due tasks 0 ≡ 0
due_none tasks timed = sym (due_total tasks 0) ∙ all_none (λ k. due_of 0 (timing_at tasks k)) (length tasks) (λ k listed. early_due 0 (timing_at tasks k) (omega (arith, (timed_at tasks k timed listed).deadline.0)))
  where
    all_none : (f : ℕ → ℕ) (n : ℕ) → ((k : ℕ) → k < n → f k ≡ 0) → total f n ≡ 0
    all_none f zero each = refl
    all_none f (suc n) each = omega (arith, all_none f n (λ k b. each k (omega (arith, b))), each n (omega arith))

added_more : (tasks : List Timing) (next : List ℕ) (t n : ℕ) → added_below tasks next t (suc n) ≡ added_below tasks next t n + (if nat_eq (get_or next n 0) t then cost_at tasks n else 0)
unfolding added_below
added_more tasks next t n = refl

added_zero : (tasks : List Timing) (next : List ℕ) (t : ℕ) → added_below tasks next t 0 ≡ 0
unfolding added_below
added_zero tasks next t = refl

pub added_next : (tasks : List Timing) (next : List ℕ) (t n : ℕ) → added_below tasks next t (n + 1) ≡ added_below tasks next t n + (if nat_eq (get_or next n 0) t then cost_at tasks n else 0)
added_next tasks next t n = rw add-one (added_more tasks next t n)

pub record Passes (tasks : List Timing) (next moved : List ℕ) (t : ℕ) : Type 0 where
  pub points : HasPoints tasks moved (t + 1)
  pub due_then : due tasks (t + 1) ≡ due tasks t + added_below tasks next (t + 1) (length tasks)

-- one point is passed
pub passes : (tasks : List Timing) (next moved : List ℕ) (t : ℕ) → All IsTimed tasks → length tasks ≤ MAX_TASKS → t + 1 ≤ MAX_TICKS → HasPoints tasks next t
    → length moved ≡ MAX_TASKS → ((k : ℕ) → k < MAX_TASKS → get_or moved k 0 ≡ passed tasks next (t + 1) k) → Passes tasks next moved t
passes tasks next moved t timed few small has long is = record {
  points = record {
    all_places = long;
    points = λ k listed. is k (omega (arith, listed, few)) ∙ point k listed;
    others = λ k past below. is k below ∙ (rw (ne_eqb (get_or next k 0) (t + 1) (λ e. absurd (omega (arith, e, has.others k past below, small)))) (has.others k past below));
  };
  due_then = sym (due_total tasks (t + 1)) ∙ (sums (length tasks) (omega arith) ∙ ap (λ n. n + added_below tasks next (t + 1) (length tasks)) (due_total tasks t));
}
  where
    period_some : (k : ℕ) → k < length tasks → 0 < (timing_at tasks k).period
    period_some k listed = omega (arith, (timed_at tasks k timed listed).period.0)

    later : (k : ℕ) → k < length tasks → (get_or next k 0 ≡ t + 1 → ⊥) → t + 1 < next_due t (timing_at tasks k)
    later k listed other = elim (cases_lt (t + 1) (next_due t (timing_at tasks k))) [
      | inl fine ↦ fine
      | inr at_most ↦ absurd (other (omega (arith, at_most, has.points k listed, next_later t (timing_at tasks k) (period_some k listed))))
    ]

    point : (k : ℕ) → k < length tasks → passed tasks next (t + 1) k ≡ next_due (t + 1) (timing_at tasks k)
    point k listed = elim (cases_eq (get_or next k 0) (t + 1)) [
      | inl here ↦ rw (eq-eqb (get_or next k 0) (t + 1) here)
          (omega (arith, has.points k listed, (hit_at t (timing_at tasks k) (period_some k listed) (sym here ∙ has.points k listed)).point))
      | inr other ↦ rw (ne_eqb (get_or next k 0) (t + 1) other)
          (has.points k listed ∙ sym (same_before t (timing_at tasks k) (period_some k listed) (later k listed other)).point)
    ]

    term : (k : ℕ) → k < length tasks → due_of (t + 1) (timing_at tasks k) ≡ due_of t (timing_at tasks k) + (if nat_eq (get_or next k 0) (t + 1) then cost_at tasks k else 0)
    term k listed = elim (cases_eq (get_or next k 0) (t + 1)) [
      | inl here ↦ rw (eq-eqb (get_or next k 0) (t + 1) here)
          ((hit_at t (timing_at tasks k) (period_some k listed) (sym here ∙ has.points k listed)).due_then)
      | inr other ↦ rw (ne_eqb (get_or next k 0) (t + 1) other)
          (omega (arith, (same_before t (timing_at tasks k) (period_some k listed) (later k listed other)).due_then))
    ]

    sums : (n : ℕ) → n ≤ length tasks → total (λ k. due_of (t + 1) (timing_at tasks k)) n ≡ total (λ k. due_of t (timing_at tasks k)) n + added_below tasks next (t + 1) n
    sums zero fits = omega (arith, added_zero tasks next (t + 1))
    sums (suc n) fits = omega (arith, sums n (omega (arith, fits)), term n (omega (arith, fits)), added_more tasks next (t + 1) n)

pub never_comes : (k : ℕ) → k < 31 → get_or (replicate 31 (2 ^ 64 - 1)) k 0 ≡ 2 ^ 64 - 1
never_comes k below = get_or-replicate 31 k (2 ^ 64 - 1) 0 below

pub added_start : (tasks : List Timing) (next : List ℕ) (t : ℕ) → added_below tasks next t 0 ≡ 0
added_start = added_zero

-- ---- one task in the pass

pub moves_here : (tasks : List Timing) (next : List ℕ) (t k : ℕ) → get_or next k 0 ≡ t → passed tasks next t k ≡ get_or next k 0 + period_at tasks k
moves_here tasks next t k e = rw (eq-eqb (get_or next k 0) t e) refl

pub moves_not : (tasks : List Timing) (next : List ℕ) (t k : ℕ) → (get_or next k 0 ≡ t → ⊥) → passed tasks next t k ≡ get_or next k 0
moves_not tasks next t k ne = rw (ne_eqb (get_or next k 0) t ne) refl

pub adds_here : (tasks : List Timing) (next : List ℕ) (t k : ℕ) → get_or next k 0 ≡ t → added_below tasks next t (k + 1) ≡ added_below tasks next t k + cost_at tasks k
adds_here tasks next t k e = added_next tasks next t k ∙ rw (eq-eqb (get_or next k 0) t e) refl

pub adds_not : (tasks : List Timing) (next : List ℕ) (t k : ℕ) → (get_or next k 0 ≡ t → ⊥) → added_below tasks next t (k + 1) ≡ added_below tasks next t k
adds_not tasks next t k ne = added_next tasks next t k ∙ rw (ne_eqb (get_or next k 0) t ne) (omega arith)
