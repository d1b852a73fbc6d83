-- How much work the jobs bring that arrive in a window, and of these the ones that are due in it.
use Rattle.std.proofs.Common.{◌≡◌, ℕ, zero, suc, ◌+◌, ◌-◌, ◌*◌, ◌/◌, ◌<◌, ◌≤◌, Bool, true, false, List, length, take, refl, sym, subst, arith, inl, inr}
use Rattle.std.specs.List.{sum_by}
use Rattle.std.proofs.Math.Nat.{mul-le-mul_right, mod-lt}
use Rattle.std.proofs.lemmas.Nat.{div-add-mod'}
use Rattle.std.proofs.lemmas.Bool.{cases_lt, cases_Bool, and_from, le-leb, leb-true, lt-ltb}
use Rattle.std.proofs.lemmas.Grind.{div_ceil_times}
use Rattle.std.proofs.Math.Seq.{take-length}
use Rattle.std.proofs.lemmas.List.Sums.{sum_by_more}
use Rattle.hk_rta.specs.declared.Timing.{Timing}
use Rattle.hk_rta.specs.Demand.{starts_in, demand_of, demand, no_timing, timing_at, cost_at, period_at, deadline_at, jitter_at}
use Rattle.hk_plan.proofs.Arrivals.{falls_in, arrivals, Apart, falls_from, arrivals-le}
use Rattle.hk_plan.proofs.Sums.{total, pick, total-le, total-le-times}
use Rattle.hk_edf.proofs.Busy.{is_due, counts, work_of}
use Rattle.hk_plan.specs.AloneBy.{Jobs}
use Rattle.hk_edf.specs.Due.{due_of, due}
use Rattle.hk_edf.specs.ByDeadlines.{due_at}
use Rattle.hk_edf.specs.InTime.{KeepTimings}

-- ---- how often a period begins

few_starts : (q c x t : ℕ) → x < q * t + t → c * t < x + 1 + t → c ≤ q + 1
few_starts q c x t above below = elim (cases_lt (q + 1) c) [
  | inr fine ↦ fine
  | inl more ↦
      let m : suc (q + 1) * t ≤ c * t = mul-le-mul_right t more in
      absurd (omega (arith, m, above, below))
]

-- in a window of x + 1 ticks a period begins at most once more than x holds whole ones
pub starts_floor : (x period : ℕ) → 0 < period → starts_in (x + 1) period ≤ x / period + 1
starts_floor x period some =
    few_starts (x / period) (starts_in (x + 1) period) x period
    (omega (arith, div-add-mod' x period, mod-lt x some))
    (omega (arith, div_ceil_times (x + 1) period some))

pub starts_none : (period : ℕ) → 0 < period → starts_in 0 period ≡ 0
starts_none period some = elim (cases_lt 0 (starts_in 0 period)) [
  | inr none ↦ omega (arith, none)
  | inl more ↦
      let m : 1 * period ≤ starts_in 0 period * period = mul-le-mul_right period more in
      absurd (omega (arith, m, div_ceil_times 0 period some))
]

-- the jobs that arrive and are due within x ticks are at most as many as begin in what is left before the last deadline
pub due_starts : (x : ℕ) (timing : Timing) → 0 < timing.period → starts_in (x + 1 - timing.deadline) timing.period * timing.cost ≤ due_of x timing
due_starts x timing some = elim (cases_lt x timing.deadline) [
  | inl late ↦
      let P : ℕ → Type 0 = λ n. starts_in n timing.period * timing.cost ≤ due_of x timing in
      let none : 0 ≡ x + 1 - timing.deadline = omega (arith, late) in
      subst P none (rw (starts_none timing.period some) (omega arith))
  | inr early ↦
      let P : ℕ → Type 0 = λ n. starts_in n timing.period * timing.cost ≤ due_of x timing in
      let some_left : (x - timing.deadline) + 1 ≡ x + 1 - timing.deadline = omega (arith, early) in
      subst P some_left (rw (le-leb timing.deadline x early) (mul-le-mul_right timing.cost (starts_floor (x - timing.deadline) timing.period some)))
]

-- ---- the jobs of one task

pub pick_implies : (a b : Bool) → (a ≡ true → b ≡ true) → pick a 1 ≤ pick b 1
pick_implies true b h = rw (h refl) (omega arith)
pick_implies false b h = omega arith

-- a sum over the tasks at the places of a list
pub sum_total : (f : Timing → ℕ) (timings : List Timing) (n : ℕ) → n ≤ length timings → total (λ i. f (timing_at timings i)) n ≡ sum_by f (take n timings)
sum_total f timings zero fits = refl
sum_total f timings (suc n) fits =
    let P : ℕ → Type 0 = λ k. sum_by f (take k timings) ≡ sum_by f (take n timings) + f (timing_at timings n) in
    let next : n + 1 ≡ suc n = omega arith in
    omega (arith, sum_total f timings n (omega (arith, fits)), subst P next (sum_by_more f timings n no_timing (omega (arith, fits))))

module _ (jobs : Jobs) (timings : List Timing) (keep : KeepTimings jobs timings) where
  -- a job is ready as it arrives
  pub ready_is : (i j : ℕ) → i < jobs.tasks → j < jobs.count i → jobs.ready i j ≡ jobs.arrival i j
  ready_is i j below within =
      let from = (keep.each i below).from_arrival j within in
      let to = (keep.each i below).in_jitter j within in
      let none = keep.no_jitter i below in
      omega (arith, from, to, none)

  apart_in : (mine : ℕ → Bool) (i : ℕ) → i < jobs.tasks → Apart mine (jobs.ready i) (period_at timings i) (jobs.count i)
  apart_in mine i below = record {
    some = (keep.each i below).period_some;
    apart = λ a b less within first second.
        let far = (keep.each i below).apart a b less within in
        let here = ready_is i a below (omega (arith, less, within)) in
        let there = ready_is i b below within in
        omega (arith, far, here, there);
  }

  -- what a task's jobs take that count, where so many count
  work-le : (d s x i n : ℕ) → i < jobs.tasks → arrivals (is_due jobs d i) (jobs.ready i) s x (jobs.count i) ≤ n
      → total (λ j. pick (counts jobs d s x i j) (jobs.ticks i j)) (jobs.count i) ≤ n * cost_at timings i
  work-le d s x i n below few =
      let each = total-le-times (λ j. pick (counts jobs d s x i j) (jobs.ticks i j)) (λ j. pick (counts jobs d s x i j) 1) (cost_at timings i) (jobs.count i)
      (λ j within. elim (cases_Bool (counts jobs d s x i j)) [
        | inl e ↦ rw e (omega (arith, (keep.each i below).ticks_few j within))
        | inr e ↦ rw e (omega arith)
      ]) in
      omega (arith, each, mul-le-mul_right (cost_at timings i) few)

  -- all that become ready
  pub come-le : (d s x i : ℕ) → i < jobs.tasks
      → total (λ j. pick (counts jobs d s x i j) (jobs.ticks i j)) (jobs.count i) ≤ demand_of x (timing_at timings i)
  come-le d s x i below =
      let same : x ≡ x + jitter_at timings i = let none = keep.no_jitter i below in omega (arith, none) in
      let few = arrivals-le (is_due jobs d i) (jobs.ready i) (period_at timings i) (jobs.count i) s x (jobs.count i) (apart_in (is_due jobs d i) i below) (omega arith) in
      subst (λ n. total (λ j. pick (counts jobs d s x i j) (jobs.ticks i j)) (jobs.count i) ≤ starts_in n (period_at timings i) * cost_at timings i) same
      (work-le d s x i _ below few)

  -- those that are due in the window too
  pub due-le : (s x i : ℕ) → i < jobs.tasks
      → total (λ j. pick (counts jobs (s + x) s x i j) (jobs.ticks i j)) (jobs.count i) ≤ due_of x (timing_at timings i)
  due-le s x i below =
      let mine : ℕ → Bool = is_due jobs (s + x) i in
      let rest : ℕ = x + 1 - deadline_at timings i in
      let shorter : arrivals mine (jobs.ready i) s x (jobs.count i) ≤ arrivals mine (jobs.ready i) s rest (jobs.count i) =
      total-le _ _ (jobs.count i) (λ j within. pick_implies (falls_in mine (jobs.ready i) s x j) (falls_in mine (jobs.ready i) s rest j) (λ e.
      let f = falls_from mine (jobs.ready i) s x j e in
      let due_then : due_at jobs i j ≤ s + x = leb-true _ _ f.meant in
      and_from _ _ f.meant (and_from _ _ (le-leb _ _ f.from) (lt-ltb _ _ (before j within f.from due_then))))) in
      let few = arrivals-le mine (jobs.ready i) (period_at timings i) (jobs.count i) s rest (jobs.count i) (apart_in mine i below) (omega arith) in
      omega (
        arith,
        work-le (s + x) s x i (starts_in rest (period_at timings i)) below (omega (arith, shorter, few)),
        due_starts x (timing_at timings i) ((keep.each i below).period_some),
      )
    where
      before : (j : ℕ) → j < jobs.count i → s ≤ jobs.ready i j → due_at jobs i j ≤ s + x → jobs.ready i j < s + (x + 1 - deadline_at timings i)
      before j within from due_then =
          let is = ready_is i j below within in
          let same = keep.deadline_is i below in
          omega (arith, from, due_then, is, same)

  -- ---- all tasks

  whole : (f : Timing → ℕ) → total (λ i. f (timing_at timings i)) jobs.tasks ≡ sum_by f timings
  whole f =
      let P : List Timing → Type 0 = λ xs. total (λ i. f (timing_at timings i)) jobs.tasks ≡ sum_by f xs in
      let Q : ℕ → Type 0 = λ n. take n timings ≡ timings in
      subst P (subst Q (sym keep.all_tasks) (take-length timings)) (sum_total f timings jobs.tasks (omega (arith, keep.all_tasks)))

  pub all_come-le : (d s x : ℕ) → work_of jobs (counts jobs d s x) ≤ demand timings x
  all_come-le d s x = omega (arith, total-le _ (λ i. demand_of x (timing_at timings i)) jobs.tasks (λ i below. come-le d s x i below), whole (demand_of x))

  pub all_due-le : (s x : ℕ) → work_of jobs (counts jobs (s + x) s x) ≤ due timings x
  all_due-le s x = omega (arith, total-le _ (λ i. due_of x (timing_at timings i)) jobs.tasks (λ i below. due-le s x i below), whole (due_of x))
