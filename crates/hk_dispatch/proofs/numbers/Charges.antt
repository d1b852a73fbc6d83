-- The ticks of a busy interval, kind by kind: what each takes from what is left, and to which high job that becomes ready a
-- lost attempt is charged. Over abstract counters.
use Rattle.std.proofs.Common.{◌≡◌, ℕ, zero, suc, ◌+◌, ◌*◌, ◌<◌, ◌≤◌, ◌⊎◌, sym, ap, subst, arith, inl, inr}
use Rattle.std.proofs.lemmas.Bool.{cases_eq}
use Rattle.std.proofs.Math.Nat.{mul-le-mul_right}
use Rattle.hk_plan.proofs.Sums.{total, total-le, total-add, total_zero}
use Rattle.hk_dispatch.proofs.numbers.Interval.{Begins, GoesOn}

-- one term is larger by c, and none is less
total_gains : (f g : ℕ → ℕ) (c l n : ℕ) → l < n → ((k : ℕ) → k < n → f k ≤ g k) → f l + c ≤ g l → total f n + c ≤ total g n
total_gains f g c l zero below h more = absurd (omega arith)
total_gains f g c l (suc n) below h more =
    elim (cases_eq l n) [
      | inl same ↦
          let P : ℕ → Type 0 = λ i. f i + c ≤ g i in
          let here : f n + c ≤ g n = subst P same more in
          omega (arith, here, total-le f g n (λ k b. h k (omega arith)))
      | inr other ↦ omega (arith, h n (omega arith), total_gains f g c l n (omega arith) (λ k b. h k (omega arith)) more)
    ]

-- at one place c of the term is kept besides
total_shifts : (f g : ℕ → ℕ) (c l n : ℕ) → l < n → ((k : ℕ) → k < n → (k ≡ l → ⊥) → f k ≤ g k) → f l + c ≤ g l → total f n + c ≤ total g n
total_shifts f g c l n below h own = total_gains f g c l n below
    (λ k b. elim (cases_eq k l) [
      | inl same ↦ subst (λ i. f i ≤ g i) (sym same) (omega (arith, own))
      | inr other ↦ h k b other
    ]) own

-- What is owed is counted in events of the collector: a job of a task can make it owe so many, and an attempt besides.
module _ (tasks : ℕ) (cost events : ℕ → ℕ) (attempt : ℕ) (fresh : ℕ → ℕ → ℕ)
    (debt liable low_ticks low_events : ℕ → ℕ) (ticks_left events_left : ℕ → ℕ → ℕ) where
  abbrev pub left_at : ℕ → ℕ
  left_at t = debt t + liable t + low_ticks t + low_events t + total (λ i. ticks_left t i + events_left t i) tasks

  abbrev pub owed_at : ℕ → ℕ
  owed_at t = debt t + liable t + low_events t + total (events_left t) tasks

  -- what a task has left after a tick that it doesn't get
  pub record Waits (t i : ℕ) : Type 0 where
    pub ticks : ticks_left (suc t) i ≤ ticks_left t i + fresh t i * cost i
    pub owed : events_left (suc t) i ≤ events_left t i + fresh t i * events i

  -- an attempt becomes liable only where a job becomes ready
  abbrev pub Charged : ℕ → Type 0
  Charged t = (liable (suc t) ≤ liable t) ⊎ ((i : ℕ) × (i < tasks) × (1 ≤ fresh t i) × (liable (suc t) ≤ attempt))

  -- a tick of a high task, which makes the collector owe so many events
  pub record HighTick (t j taken : ℕ) : Type 0 where
    pub high : j < tasks
    pub ticks : ticks_left (suc t) j + 1 ≤ ticks_left t j + fresh t j * cost j
    pub own : events_left (suc t) j + taken ≤ events_left t j + fresh t j * events j
    pub others : (i : ℕ) → i < tasks → (i ≡ j → ⊥) → Waits t i
    pub debts : debt (suc t) ≡ debt t + taken
    pub low_same : (low_ticks (suc t) ≤ low_ticks t) × (low_events (suc t) ≤ low_events t)
    pub charged : Charged t

  -- a tick of a low operation in mid-course
  pub record LowTick (t taken : ℕ) : Type 0 where
    pub ticks : low_ticks (suc t) + 1 ≤ low_ticks t
    pub own : low_events (suc t) + taken ≤ low_events t
    pub others : (i : ℕ) → i < tasks → Waits t i
    pub debts : debt (suc t) ≡ debt t + taken
    pub charged : liable (suc t) ≤ liable t

  -- a tick of the collector: a useful event, or a loss that was liable
  pub record CollectorTick (t : ℕ) : Type 0 where
    pub pays : debt (suc t) + liable (suc t) + 1 ≤ debt t + liable t
    pub others : (i : ℕ) → i < tasks → Waits t i
    pub low_same : (low_ticks (suc t) ≤ low_ticks t) × (low_events (suc t) ≤ low_events t)

  abbrev bring : ℕ → ℕ
  bring i = cost i + (events i + attempt)

  abbrev owe : ℕ → ℕ
  owe i = events i + attempt

  -- what becomes ready at a tick, without its attempts, and with one
  bare : (amount : ℕ → ℕ) (t : ℕ) → total (λ i. fresh t i * amount i) tasks ≤ total (λ i. fresh t i * (amount i + attempt)) tasks
  bare amount t = total-le (λ i. fresh t i * amount i) (λ i. fresh t i * (amount i + attempt)) tasks (λ i below. omega arith)

  with_one : (amount : ℕ → ℕ) (t i : ℕ) → i < tasks → 1 ≤ fresh t i
      → total (λ i. fresh t i * amount i) tasks + attempt ≤ total (λ i. fresh t i * (amount i + attempt)) tasks
  with_one amount t i below some = total_gains (λ i. fresh t i * amount i) (λ i. fresh t i * (amount i + attempt)) attempt i tasks below
      (λ k b. omega arith) (let m = mul-le-mul_right attempt some in omega arith)

  -- the tasks together, where none or one of them gets the tick
  ticks_all : (t : ℕ) → ((i : ℕ) → i < tasks → Waits t i)
      → total (λ i. ticks_left (suc t) i + events_left (suc t) i) tasks ≤ total (λ i. ticks_left t i + events_left t i) tasks + total (λ i. fresh t i * (cost i + events i)) tasks
  ticks_all t w = omega (
    arith,
    total-le (λ i. ticks_left (suc t) i + events_left (suc t) i) (λ i. (ticks_left t i + events_left t i) + fresh t i * (cost i + events i)) tasks
        (λ i below. let x = (w i below).ticks in let y = (w i below).owed in omega arith),
    total-add (λ i. ticks_left t i + events_left t i) (λ i. fresh t i * (cost i + events i)) tasks,
  )

  events_all : (t : ℕ) → ((i : ℕ) → i < tasks → Waits t i) → total (events_left (suc t)) tasks ≤ total (events_left t) tasks + total (λ i. fresh t i * events i) tasks
  events_all t w = omega (
    arith,
    total-le (events_left (suc t)) (λ i. events_left t i + fresh t i * events i) tasks (λ i below. (w i below).owed),
    total-add (events_left t) (λ i. fresh t i * events i) tasks,
  )

  ticks_but_one : (t j taken : ℕ) → HighTick t j taken
      → total (λ i. ticks_left (suc t) i + events_left (suc t) i) tasks + (taken + 1) ≤ total (λ i. ticks_left t i + events_left t i) tasks + total (λ i. fresh t i * (cost i + events i)) tasks
  ticks_but_one t j taken h = omega (
    arith,
    total_shifts (λ i. ticks_left (suc t) i + events_left (suc t) i) (λ i. (ticks_left t i + events_left t i) + fresh t i * (cost i + events i)) (taken + 1) j tasks h.high
        (λ i below other. let w = h.others i below other in let x = w.ticks in let y = w.owed in omega arith)
        (let x = h.ticks in let y = h.own in omega arith),
    total-add (λ i. ticks_left t i + events_left t i) (λ i. fresh t i * (cost i + events i)) tasks,
  )

  events_but_one : (t j taken : ℕ) → HighTick t j taken → total (events_left (suc t)) tasks + taken ≤ total (events_left t) tasks + total (λ i. fresh t i * events i) tasks
  events_but_one t j taken h = omega (
    arith,
    total_shifts (events_left (suc t)) (λ i. events_left t i + fresh t i * events i) taken j tasks h.high
        (λ i below other. (h.others i below other).owed) h.own,
    total-add (events_left t) (λ i. fresh t i * events i) tasks,
  )

  -- the same as what the jobs bring, with their attempts
  plain_bring : (t : ℕ) → total (λ i. fresh t i * ((cost i + events i) + attempt)) tasks ≡ total (λ i. fresh t i * bring i) tasks
  plain_bring t = ap (λ f. total f tasks) (λ n i. fresh t i * regroup (cost i) (events i) attempt n)
    where
      regroup : (a b c : ℕ) → (a + b) + c ≡ a + (b + c)
      regroup a b c = omega arith

  -- A FURTHER TICK

  pub high_goes_on : (base low : ℕ) (t j taken : ℕ) → HighTick t j taken → GoesOn tasks bring owe base low fresh left_at owed_at t
  high_goes_on base low t j taken h = elim h.charged [
    | inl none ↦ record {
      left = omega (arith, ticks_but_one t j taken h, h.debts, h.low_same.0, h.low_same.1, none, bare (λ i. cost i + events i) t, plain_bring t);
      owed = omega (arith, events_but_one t j taken h, h.debts, h.low_same.1, none, bare events t);
    }
    | inr one ↦ record {
      left = omega (arith, ticks_but_one t j taken h, h.debts, h.low_same.0, h.low_same.1, one.3, with_one (λ i. cost i + events i) t one.0 one.1 one.2, plain_bring t);
      owed = omega (arith, events_but_one t j taken h, h.debts, h.low_same.1, one.3, with_one events t one.0 one.1 one.2);
    }
  ]

  pub low_goes_on : (base low : ℕ) (t taken : ℕ) → LowTick t taken → GoesOn tasks bring owe base low fresh left_at owed_at t
  low_goes_on base low t taken h = record {
    left = omega (arith, ticks_all t h.others, h.ticks, h.own, h.debts, h.charged, bare (λ i. cost i + events i) t, plain_bring t);
    owed = omega (arith, events_all t h.others, h.own, h.debts, h.charged, bare events t);
  }

  pub collector_goes_on : (base low : ℕ) (t : ℕ) → CollectorTick t → GoesOn tasks bring owe base low fresh left_at owed_at t
  collector_goes_on base low t h = record {
    left = omega (arith, ticks_all t h.others, h.pays, h.low_same.0, h.low_same.1, bare (λ i. cost i + events i) t, plain_bring t);
    owed = omega (arith, events_all t h.others, h.pays, h.low_same.1, bare events t);
  }

  -- THE FIRST TICK, from a moment at which nothing waits but for an attempt that may be liable
  pub record Nothing (t : ℕ) : Type 0 where
    pub no_debt : debt t ≡ 0
    pub no_low : (low_ticks t ≡ 0) × (low_events t ≡ 0)
    pub no_high : (i : ℕ) → i < tasks → (ticks_left t i ≡ 0) × (events_left t i ≡ 0)

  none_left : (t : ℕ) → Nothing t → total (λ i. ticks_left t i + events_left t i) tasks ≡ 0
  none_left t n = total_zero (λ i. ticks_left t i + events_left t i) tasks (λ i below. omega (arith, (n.no_high i below).0, (n.no_high i below).1))

  none_owed : (t : ℕ) → Nothing t → total (events_left t) tasks ≡ 0
  none_owed t n = total_zero (events_left t) tasks (λ i below. (n.no_high i below).1)

  -- a high job that gets it became ready at this tick
  pub high_begins : (base low : ℕ) (t j taken : ℕ) → Nothing t → HighTick t j taken → liable (suc t) ≤ attempt
      → Begins tasks bring owe base low fresh left_at owed_at t
  high_begins base low t j taken n h few =
      let some : 1 ≤ fresh t j = elim (cases_eq (fresh t j) 0) [
        | inl none ↦ absurd (omega (arith, h.ticks, (n.no_high j h.high).0, ap (λ x. x * cost j) none))
        | inr other ↦ omega arith
      ] in record {
        left = omega (arith, ticks_but_one t j taken h, none_left t n, n.no_debt, h.debts, h.low_same.0, h.low_same.1, n.no_low.0, n.no_low.1, few, with_one (λ i. cost i + events i) t j h.high some, plain_bring t);
        owed = omega (arith, events_but_one t j taken h, none_owed t n, n.no_debt, h.debts, h.low_same.1, n.no_low.1, few, with_one events t j h.high some);
      }

  -- the first tick of a low operation of so many ticks and events
  pub record LowFirst (t ops most : ℕ) : Type 0 where
    pub ticks : low_ticks (suc t) + 1 ≤ ops
    pub own : low_events (suc t) + debt (suc t) ≤ most
    pub others : (i : ℕ) → i < tasks → Waits t i

  pub low_begins : (ops most : ℕ) (t : ℕ) → Nothing t → LowFirst t ops most → liable (suc t) ≤ attempt
      → Begins tasks bring owe (ops + (most + attempt)) (most + attempt) fresh left_at owed_at t
  low_begins ops most t n h few = record {
    left = omega (arith, ticks_all t h.others, none_left t n, h.ticks, h.own, few, bare (λ i. cost i + events i) t, plain_bring t);
    owed = omega (arith, events_all t h.others, none_owed t n, h.own, few, bare events t);
  }
