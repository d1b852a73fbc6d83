-- The jobs of a high task that arrive before the horizon: when they arrive, when they become ready, and that a job which
-- becomes ready before the horizon is one of them.
use Rattle.std.proofs.Common.{◌≡◌, ℕ, zero, suc, ◌+◌, ◌-◌, ◌*◌, ◌^◌, ◌<◌, ◌≤◌, Bool, true, false, List, [], ◌∷◌, length, Option, Some, None, refl, sym, ◌∙◌, ap, arith, inl, inr}
use Rattle.std.proofs.lemmas.Bool.{cases_lt, cases_eq, cond-true, lt-ltb, le-ltb}
use Rattle.std.proofs.lemmas.Bool.Decides.{nat_tests}
use Rattle.std.proofs.lemmas.Grind.{div_ceil_times}
use Rattle.std.proofs.lemmas.Nat.{mod_below}
use Rattle.std.proofs.Math.Nat.{mul-le-mul_right}
use Rattle.std.specs.Prelude.{nat_lt, nat_le, ◌&&◌, slice_get, filter, if◌then◌else◌}
use Rattle.std.specs.List.{AllByRecursion}
use Rattle.hk_rta.specs.Demand.{starts_in}
use Rattle.hk_plan.proofs.Arrivals.{starts_above}
use Rattle.hk_sheet.specs.declared.arrivals.Arrivals.{Arrivals}
use Rattle.hk_sheet.specs.declared.arrivals.Arrivals.TheVariants.{Every}
use Rattle.hk_sheet.specs.declared.arrivals.Arrivals.TheVariants as arrivals
use Rattle.hk_sheet.specs.declared.sheet.High.{High}
use Rattle.hk_sheet.specs.declared.sheet.Sheet.{Sheet}
use Rattle.hk_sheet.specs.Arrivals.{in_word, arrival_of, delay_of, ready_after, ready_of}
use Rattle.hk_sheet.specs.Valid.{IsHigh, AreArrivals}
use Rattle.hk_dispatch.specs.Tasks.{is_by}
use Rattle.hk_dispatch.specs.Turns.{arrived}
use Rattle.hk_dispatch.specs.HighJobs.{arrivals_before}
use Rattle.hk_dispatch.proofs.ReadyMoments.{Earlier, arrivals_apart, ready_rises}

word_of : (x : ℕ) → x < 2 ^ 64 → in_word x ≡ Some x
word_of x lt = rw (lt-ltb x (2 ^ 64) lt) refl

word_is : (x b : ℕ) → in_word x ≡ Some b → b ≡ x
word_is x b e = by_size (nat_lt x (2 ^ 64)) e
  where
    by_size : (t : Bool) → ◌≡◌ {A = Option ℕ} (if t then Some x else None) (Some b) → b ≡ x
    by_size true f = sym (let g : x ≡ b = cc in g)
    by_size false f = absurd (cc)

-- ARRIVALS

-- the arrival of a job, before the horizon
pub record Arrives (ticks : ℕ) (o : Option ℕ) : Type 0 where
  pub at : ℕ
  pub is : o ≡ Some at
  pub before : at < ticks

-- that many whole periods lie below a window of which fewer begin in it
starts_below : (a period w : ℕ) → 0 < period → a < starts_in w period → a * period < w
starts_below a period w some below =
    omega (arith, div_ceil_times w period some, mul-le-mul_right period (let h : a + 1 ≤ starts_in w period = omega (arith, below) in h))

all_before : (ticks : ℕ) (l : List ℕ) → AllByRecursion (λ tick. tick < ticks) l → length (filter (λ tick. nat_lt tick ticks) l) ≡ length l
all_before ticks [] all = refl
all_before ticks (x ∷ l) all =
    ap length (cond-true (nat_lt x ticks) (x ∷ filter (λ t. nat_lt t ticks) l) (filter (λ t. nat_lt t ticks) l) (lt-ltb x ticks all.0))
    ∙ ap suc (all_before ticks l all.1)

got : (ticks : ℕ) (l : List ℕ) (job : ℕ) → AllByRecursion (λ tick. tick < ticks) l → job < length l → Arrives ticks (slice_get l job)
got ticks [] job all lt = absurd (omega (arith, lt))
got ticks (x ∷ l) zero all lt = record { at = x; is = refl; before = all.0 }
got ticks (x ∷ l) (suc job) all lt = got ticks l job all.1 (omega (arith, lt))

within : (l : List ℕ) (job at : ℕ) → slice_get l job ≡ Some at → job < length l
within [] job at e = absurd (cc)
within (x ∷ l) zero at e = omega arith
within (x ∷ l) (suc job) at e = let lt = within l job at e in omega (arith, lt)

pub arrives : (ticks gap : ℕ) (a : Arrivals) (job : ℕ) → ticks ≤ 16777216 → AreArrivals ticks gap a → job < arrivals_before ticks a → Arrives ticks (arrival_of a job)
arrives ticks gap (Every first step) job few h lt =
    let some = h.1.at_least in
    let below = starts_below job step (ticks - first) (omega (arith, some)) lt in
    record { at = first + job * step; is = word_of (first + job * step) (omega (arith, below, few)); before = omega (arith, below) }
arrives ticks gap (arrivals.List l) job few h lt = got ticks l job h.0 (omega (arith, lt, all_before ticks l h.0))

pub listed : (ticks gap : ℕ) (a : Arrivals) (job at : ℕ) → AreArrivals ticks gap a → arrival_of a job ≡ Some at → at < ticks → job < arrivals_before ticks a
listed ticks gap (Every first step) job at h e lt =
    let some = h.1.at_least in
    let is = word_is (first + job * step) at e in
    starts_above job step (ticks - first) (omega (arith, some)) (omega (arith, is, lt))
listed ticks gap (arrivals.List l) job at h e lt = let in_list = within l job at e in omega (arith, in_list, all_before ticks l h.0)

-- READY MOMENTS

ready_from : (d : ℕ) (o : Option ℕ) (r : ℕ) → ready_after d o ≡ Some r → (b : ℕ) × (o ≡ Some b) × (r ≡ b + d)
ready_from d None r e = absurd (cc)
ready_from d (Some b) r e = (b, refl, word_is (b + d) r e)

ready_by : (d b : ℕ) (o : Option ℕ) → o ≡ Some b → b + d < 2 ^ 64 → ready_after d o ≡ Some (b + d)
ready_by d b o e lt = rw e (word_of (b + d) lt)

-- a moment that is listed, and one that isn't and so is none or past the horizon
same_listed : (o : Option ℕ) (r t job count : ℕ) → o ≡ Some r → job < count → is_by o t ≡ (nat_lt job count && nat_le (arrived o) t)
same_listed o r t job count e lt = rw (e, lt-ltb job count lt) refl

same_past : (o : Option ℕ) (t job count : ℕ) → ((r : ℕ) → o ≡ Some r → t < r) → count ≤ job → is_by o t ≡ (nat_lt job count && nat_le (arrived o) t)
same_past None t job count far le = rw (le-ltb job count le) refl
same_past (Some r) t job count far le = rw (le-ltb job count le) (late r t (far r refl))
  where
    late : (a b : ℕ) → b < a → nat_le a b ≡ false
    late a b lt = grind (arith, nat_tests)

module _ (sheet : Sheet) (few : sheet.ticks ≤ 16777216) (task : High) (h : IsHigh sheet.ticks sheet.heap task) where
  abbrev count : ℕ
  count = arrivals_before sheet.ticks task.arrivals

  -- a job is delayed by at most the jitter
  pub delay_few : (job : ℕ) → delay_of task job ≤ task.timing.jitter
  delay_few job = let lt = mod_below (job * task.lag) (task.timing.jitter + 1) (omega arith) in omega (arith, lt)

  -- a job that is listed arrives before the horizon, and becomes ready
  pub record Listed (job : ℕ) : Type 0 where
    pub arrival : ℕ
    pub before : arrival < sheet.ticks
    pub arrives : arrival_of task.arrivals job ≡ Some arrival
    pub ready : ready_of task job ≡ Some (arrival + delay_of task job)

  pub listed_job : (job : ℕ) → job < count → Listed job
  listed_job job lt =
      let a = arrives sheet.ticks task.timing.period task.arrivals job few h.arrivals lt in
      let before = a.before in
      let delay = delay_few job in
      let jitter = h.timing.jitter in
      let deadline = h.timing.deadline.at_most in
      let period = h.timing.period.at_most in
      record {
        arrival = a.at;
        before = before;
        arrives = a.is;
        ready = ready_by (delay_of task job) a.at (arrival_of task.arrivals job) a.is (omega (arith, before, few, delay, jitter, deadline, period));
      }

  -- one that becomes ready before the horizon is listed
  pub ready_listed : (job r : ℕ) → ready_of task job ≡ Some r → r < sheet.ticks → job < count
  ready_listed job r e lt =
      let f = ready_from (delay_of task job) (arrival_of task.arrivals job) r e in
      listed sheet.ticks task.timing.period task.arrivals job f.0 h.arrivals f.1 (let is = f.2 in omega (arith, is, lt))

  -- so before the horizon a job is ready exactly where it is listed and its moment has come
  pub ready_same : (t job : ℕ) → t < sheet.ticks → is_by (ready_of task job) t ≡ (nat_lt job count && nat_le (arrived (ready_of task job)) t)
  ready_same t job lt = elim (cases_lt job count) [
    | inl in_list ↦ let l = listed_job job in_list in same_listed (ready_of task job) (l.arrival + delay_of task job) t job count l.ready in_list
    | inr past ↦ same_past (ready_of task job) t job count (λ r e. elim (cases_lt t r) [
      | inl later ↦ later
      | inr by_then ↦ absurd (let in_list = ready_listed job r e (omega (arith, by_then, lt)) in omega (arith, in_list, past))
    ]) past
  ]

  at_some : (o : Option ℕ) (a : ℕ) → o ≡ Some a → arrived o ≡ a
  at_some o a e = ap arrived e

  pub arrives_at : (job : ℕ) → (l : Listed job) → arrived (arrival_of task.arrivals job) ≡ l.arrival
  arrives_at job l = at_some (arrival_of task.arrivals job) l.arrival l.arrives

  pub ready_at : (job : ℕ) → (l : Listed job) → arrived (ready_of task job) ≡ l.arrival + delay_of task job
  ready_at job l = at_some (ready_of task job) (l.arrival + delay_of task job) l.ready

  -- they become ready in their order, and arrive a period apart
  pub in_order : (j k : ℕ) → j ≤ k → k < count → arrived (ready_of task j) ≤ arrived (ready_of task k)
  in_order j k le lt = elim (cases_eq j k) [
    | inl same ↦ omega (arith, ap (λ i. arrived (ready_of task i)) same)
    | inr other ↦
        let l = listed_job k lt in
        let r = ready_rises sheet task h j k (l.arrival + delay_of task k) (omega (arith, le, other)) l.ready in
        let less = r.2 in
        omega (arith, less, at_some (ready_of task j) r.0 r.1, ready_at k l)
  ]

  pub apart : (j k : ℕ) → j < k → k < count → arrived (arrival_of task.arrivals j) + task.timing.period ≤ arrived (arrival_of task.arrivals k)
  apart j k less lt =
      let l = listed_job k lt in
      let e : Earlier task.timing.period l.arrival (arrival_of task.arrivals j) = arrivals_apart sheet.ticks task.timing.period task.arrivals j k l.arrival h.arrivals less l.arrives in
      let far = e.apart in
      omega (arith, far, at_some (arrival_of task.arrivals j) e.at e.is, arrives_at k l)
