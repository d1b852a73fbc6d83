-- The jobs of a high task become ready in their order; so where its next job isn't ready, none waits.
use Rattle.std.proofs.Common.{◌≡◌, ℕ, suc, zero, ◌+◌, ◌*◌, ◌^◌, ◌<◌, ◌≤◌, true, false, List, [], ◌∷◌, length, Option, Some, None, refl, sym, ◌∙◌, ap, arith, inl, inr, get_or}
use Rattle.std.proofs.lemmas.Bool.{cases_Bool, cases_eq, cases_lt, lt-ltb, ltb-true, le-leb}
use Rattle.std.proofs.Math.Nat.{mul-le-mul_right}
use Rattle.std.proofs.lemmas.Nat.{mod_below}
use Rattle.std.specs.Prelude.{nat_lt, slice_get}
use Rattle.std.specs.List.{AllByRecursion}
use Rattle.hk_sheet.specs.declared.arrivals.Arrivals.{Arrivals}
use Rattle.hk_sheet.specs.declared.arrivals.Arrivals.TheVariants.{Every}
use Rattle.hk_sheet.specs.declared.arrivals.Arrivals.TheVariants as arrivals
use Rattle.hk_sheet.specs.declared.sheet.High.{High}
use Rattle.hk_sheet.specs.declared.sheet.Sheet.{Sheet}
use Rattle.hk_sheet.specs.Arrivals.{in_word, arrival_of, delay_of, ready_after, ready_of}
use Rattle.hk_sheet.specs.Valid.{IsSheet, IsHigh, AreArrivals, AreSpaced}
use Rattle.hk_dispatch.specs.Tasks.{Task, task_at, high_at, no_high, is_by}
use Rattle.hk_dispatch.specs.Moment.{Moment, course_at}
use Rattle.hk_dispatch.specs.Quiet.{NoHighWaits}
use Rattle.hk_dispatch.specs.Rules.{NoHighReady, ReadyMomentsRise}
use Rattle.hk_dispatch.proofs.JobsKept.{high_is}

-- a tick that fits a word is that tick
word_is : (x b : ℕ) → in_word x ≡ Some b → (b ≡ x) × (x < 2 ^ 64)
word_is x b e = elim (cases_Bool (nat_lt x (2 ^ 64))) [
  | inl yes' ↦ (let f : ◌≡◌ {A = Option ℕ} (Some x) (Some b) = rw yes' at e in sym (let g : x ≡ b = cc in g), ltb-true x (2 ^ 64) yes')
  | inr no' ↦ absurd (let f : ◌≡◌ {A = Option ℕ} None (Some b) = rw no' at e in cc)
]

word_of : (x : ℕ) → x < 2 ^ 64 → in_word x ≡ Some x
word_of x lt = rw (lt-ltb x (2 ^ 64) lt) refl

-- an earlier arrival, at least a gap before
pub record Earlier (gap b : ℕ) (o : Option ℕ) : Type 0 where
  pub at : ℕ
  pub is : o ≡ Some at
  pub apart : at + gap ≤ b

first_apart : (gap x : ℕ) (xs : List ℕ) (k b : ℕ) → AreSpaced gap (x ∷ xs) → slice_get xs k ≡ Some b → x + gap ≤ b
first_apart gap x [] k b spaced e = absurd (cc)
first_apart gap x (y ∷ ys) zero b spaced e = let f : y ≡ b = cc in let s = spaced.0 in omega (arith, s, f)
first_apart gap x (y ∷ ys) (suc k) b spaced e = let s = spaced.0 in let later = first_apart gap y ys k b spaced.1 e in omega (arith, s, later)

rest_spaced : (gap x : ℕ) (xs : List ℕ) → AreSpaced gap (x ∷ xs) → AreSpaced gap xs
rest_spaced gap x [] spaced = tt
rest_spaced gap x (y ∷ ys) spaced = spaced.1

list_apart : (gap : ℕ) (l : List ℕ) (j k b : ℕ) → AreSpaced gap l → j < k → slice_get l k ≡ Some b → Earlier gap b (slice_get l j)
list_apart gap [] j k b spaced lt e = absurd (cc)
list_apart gap (x ∷ xs) zero (suc k) b spaced lt e = record { at = x; is = refl; apart = first_apart gap x xs k b spaced e }
list_apart gap (x ∷ xs) (suc j) (suc k) b spaced lt e = list_apart gap xs j k b (rest_spaced gap x xs spaced) (omega (arith, lt)) e
list_apart gap (x ∷ xs) j zero b spaced lt e = absurd (omega (arith, lt))

pub arrivals_apart : (ticks gap : ℕ) (a : Arrivals) (j k b : ℕ) → AreArrivals ticks gap a → j < k → arrival_of a k ≡ Some b → Earlier gap b (arrival_of a j)
arrivals_apart ticks gap (Every first step) j k b h lt e =
    let w = word_is (first + k * step) b e in
    let grow : (j + 1) * step ≤ k * step = mul-le-mul_right step (omega (arith, lt)) in
    let wide = h.2 in
    let next : (j + 1) * step ≡ j * step + step = omega arith in
    record { at = first + j * step; is = word_of (first + j * step) (omega (arith, w.0, w.1, grow, next)); apart = omega (arith, w.0, grow, next, wide) }
arrivals_apart ticks gap (arrivals.List l) j k b h lt e = list_apart gap l j k b h.2 lt e

module _ (sheet : Sheet) (task : High) (h : IsHigh sheet.ticks sheet.heap task) where
  -- a job is delayed by at most the jitter
  delay_few : (job : ℕ) → delay_of task job ≤ task.timing.jitter
  delay_few job = let lt = mod_below (job * task.lag) (task.timing.jitter + 1) (omega arith) in omega (arith, lt)

  -- a ready moment is that of an arrival
  ready_is : (d : ℕ) (o : Option ℕ) (s : ℕ) → ready_after d o ≡ Some s → (b : ℕ) × (o ≡ Some b) × (s ≡ b + d) × (b + d < 2 ^ 64)
  ready_is d None s e = absurd (cc)
  ready_is d (Some b) s e = let w = word_is (b + d) s e in (b, refl, w.0, w.1)

  ready_by : (d b : ℕ) (o : Option ℕ) → o ≡ Some b → b + d < 2 ^ 64 → ready_after d o ≡ Some (b + d)
  ready_by d b o e lt = rw e (word_of (b + d) lt)

  -- an earlier job becomes ready before a later one
  pub ready_rises : (j k s : ℕ) → j < k → ready_of task k ≡ Some s → (r : ℕ) × (ready_of task j ≡ Some r) × (r < s)
  ready_rises j k s lt e =
      let x = ready_is (delay_of task k) (arrival_of task.arrivals k) s e in
      let a = arrivals_apart sheet.ticks task.timing.period task.arrivals j k x.0 h.arrivals lt x.1 in
      let few = delay_few j in
      let jitter = h.timing.jitter in
      let deadline = h.timing.deadline.at_most in
      let apart = a.apart in
      (a.at + delay_of task j, ready_by (delay_of task j) a.at (arrival_of task.arrivals j) a.is (omega (arith, few, jitter, deadline, apart, x.2, x.3)), omega (arith, few, jitter, deadline, apart, x.2))

-- the high task of a seat
high_all : (sheet : Sheet) (xs : List High) (i : ℕ) → AllByRecursion (IsHigh sheet.ticks sheet.heap) xs → i < length xs → IsHigh sheet.ticks sheet.heap (get_or xs i no_high)
high_all sheet [] i all lt = absurd (omega (arith, lt))
high_all sheet (x ∷ xs) zero all lt = all.0
high_all sheet (x ∷ xs) (suc i) all lt = high_all sheet xs i all.1 (omega (arith, lt))

pub high_right : (sheet : Sheet) → IsSheet sheet → (seat : ℕ) → seat < length sheet.high → IsHigh sheet.ticks sheet.heap (high_at sheet seat)
high_right sheet h seat lt = high_all sheet sheet.high seat h.high lt

-- where no high task has a ready job at a tick, each job that has become ready by then is ended
pub none_waits : (sheet : Sheet) → IsSheet sheet → (m : Moment) (t : ℕ) → NoHighReady sheet m t → NoHighWaits sheet m (suc t)
none_waits sheet h m t no_high seat job ready high e lt =
    elim (cases_lt job (course_at m seat).job) [
      | inl before ↦ before
      | inr after ↦ absurd (
          let first = first_ready after in
          let by : is_by ((task_at sheet seat).ready (course_at m seat).job) t ≡ true =
          rw (ap (λ (a : Task). a.ready (course_at m seat).job) (high_is sheet seat high), first.1) (le-leb first.0 t (let few = first.2 in omega (arith, few, lt))) in
          let no : true ≡ false = sym by ∙ no_high seat high in
          cc
          )
    ]
  where
    first_ready : (course_at m seat).job ≤ job → (r : ℕ) × (ready_of (high_at sheet seat) (course_at m seat).job ≡ Some r) × (r ≤ ready)
    first_ready le = elim (cases_eq (course_at m seat).job job) [
      | inl same ↦ (ready, ap (ready_of (high_at sheet seat)) same ∙ e, omega arith)
      | inr other ↦ let r = ready_rises sheet (high_at sheet seat) (high_right sheet h seat high) (course_at m seat).job job ready (omega (arith, le, other)) e in (r.0, r.1, let l = r.2 in omega (arith, l))
    ]

pub ready_moments_rise : ReadyMomentsRise
ready_moments_rise sheet seat first second later readable high lt e = ready_rises sheet (high_at sheet seat) (high_right sheet readable seat high) first second later lt e
