-- The jobs of a high task that have become ready, counted: which they are, and how many become ready in a window.
use Rattle.std.proofs.Common.{◌≡◌, ℕ, suc, zero, ◌+◌, ◌-◌, ◌*◌, ◌^◌, ◌<◌, ◌≤◌, true, false, length, Option, Some, None, refl, sym, ◌∙◌, ap, arith, inl, inr}
use Rattle.std.proofs.lemmas.Bool.{cases_Bool, cases_eq, cases_lt, le-leb, leb-true}
use Rattle.std.proofs.lemmas.Nat.{mod_below}
use Rattle.std.specs.Prelude.{nat_lt}
use Rattle.hk_rta.specs.Demand.{starts_in}
use Rattle.hk_plan.proofs.Arrivals.{starts_above}
use Rattle.hk_sheet.specs.declared.sheet.High.{High}
use Rattle.hk_sheet.specs.declared.sheet.Sheet.{Sheet}
use Rattle.hk_sheet.specs.Arrivals.{in_word, arrival_of, delay_of, ready_after, ready_of}
use Rattle.hk_sheet.specs.Valid.{IsSheet, IsHigh}
use Rattle.hk_dispatch.specs.Tasks.{Task, high_at, is_by}
use Rattle.hk_dispatch.specs.Moment.{Moment, course_at}
use Rattle.hk_dispatch.specs.Quiet.{NoHighWaits}
use Rattle.hk_dispatch.specs.Rules.{ready_now}
use Rattle.hk_dispatch.proofs.Counters.{come, ready_before, backlog}
use Rattle.hk_dispatch.proofs.JobsKept.{high_is}
use Rattle.hk_dispatch.proofs.ReadyMoments.{Earlier, arrivals_apart, ready_rises, high_right}

-- a moment that is by another is one
is_by_some : (o : Option ℕ) (t : ℕ) → is_by o t ≡ true → (r : ℕ) × (o ≡ Some r) × (r ≤ t)
is_by_some None t e = absurd (cc)
is_by_some (Some r) t e = (r, refl, leb-true r t e)

-- a tick that fits a word is that tick
in_word_is : (x r : ℕ) → in_word x ≡ Some r → x ≡ r
in_word_is x r e = elim (cases_Bool (nat_lt x (2 ^ 64))) [
  | inl yes' ↦ (let f : ◌≡◌ {A = Option ℕ} (Some x) (Some r) = rw yes' at e in cc)
  | inr no' ↦ absurd (let f : ◌≡◌ {A = Option ℕ} None (Some r) = rw no' at e in cc)
]

-- WHICH JOBS HAVE BECOME READY

-- a job that has become ready before a moment
abbrev pub ReadyBy : High → (moment job : ℕ) → Type 0
ReadyBy task moment job = (r : ℕ) × (ready_of task job ≡ Some r) × (r < moment)

come_one : (task : High) (before tick : ℕ) → is_by (ready_of task before) tick ≡ true → come task before tick ≡ 1
unfolding come
come_one task before tick e = rw e refl

come_none : (task : High) (before tick : ℕ) → is_by (ready_of task before) tick ≡ false → come task before tick ≡ 0
unfolding come
come_none task before tick e = rw e refl

pub ready_next : (task : High) (tick : ℕ) → ready_before task (suc tick) ≡ ready_before task tick + come task (ready_before task tick) tick
unfolding ready_before
ready_next task tick = refl

none_at_first : (task : High) → ready_before task 0 ≡ 0
unfolding ready_before
none_at_first task = refl

-- a job below the count is one
pub below_ready : (task : High) (t job : ℕ) → job < ready_before task t → ReadyBy task t job
below_ready task zero job lt = absurd (omega (arith, lt, none_at_first task))
below_ready task (suc t) job lt = elim (cases_lt job (ready_before task t)) [
  | inl before ↦ let r = below_ready task t job before in (r.0, r.1, let l = r.2 in omega (arith, l))
  | inr after ↦ elim (cases_Bool (is_by (ready_of task (ready_before task t)) t)) [
    | inl yes' ↦
        let same : ready_before task t ≡ job = omega (arith, lt, after, ready_next task t, come_one task (ready_before task t) t yes') in
        let r = is_by_some (ready_of task (ready_before task t)) t yes' in
        (r.0, ap (ready_of task) (sym same) ∙ r.1, let l = r.2 in omega (arith, l))
    | inr no' ↦ absurd (omega (arith, lt, after, ready_next task t, come_none task (ready_before task t) t no'))
  ]
]

module _ (sheet : Sheet) (task : High) (h : IsHigh sheet.ticks sheet.heap task) where
  -- one that becomes ready before a moment is below the count
  pub ready_below : (t job r : ℕ) → ready_of task job ≡ Some r → r < t → job < ready_before task t
  ready_below zero job r e lt = absurd (omega (arith, lt))
  ready_below (suc t) job r e lt = elim (cases_lt job (ready_before task t)) [
    | inl before ↦ omega (arith, before, ready_next task t)
    | inr after ↦
        let late : t ≤ r = elim (cases_lt r t) [
          | inl less ↦ absurd (let b = ready_below t job r e less in omega (arith, b, after))
          | inr more ↦ more
        ] in
        elim (cases_eq (ready_before task t) job) [
          | inl same ↦
              let own : ready_of task (ready_before task t) ≡ Some r = ap (ready_of task) same ∙ e in
              let by : is_by (ready_of task (ready_before task t)) t ≡ true = rw own (le-leb r t (omega (arith, lt))) in
              omega (arith, same, ready_next task t, come_one task (ready_before task t) t by)
          | inr other ↦ absurd (
              let x = ready_rises sheet task h (ready_before task t) job r (omega (arith, after, other)) e in
              let less = x.2 in
              let b = ready_below t (ready_before task t) x.0 x.1 (omega (arith, less, lt)) in
              omega (arith, b)
              )
        ]
  ]

  -- HOW MANY BECOME READY IN A WINDOW

  -- the arrival of a job that becomes ready: at most the jitter before
  pub arrival_by : (job r : ℕ) → ready_of task job ≡ Some r → (a : ℕ) × (arrival_of task.arrivals job ≡ Some a) × (a ≤ r) × (r ≤ a + task.timing.jitter)
  arrival_by job r e = by_arrival (arrival_of task.arrivals job) e
    where
      by_arrival : (o : Option ℕ) → ready_after (delay_of task job) o ≡ Some r → (a : ℕ) × (o ≡ Some a) × (a ≤ r) × (r ≤ a + task.timing.jitter)
      by_arrival None e = absurd (cc)
      by_arrival (Some a) e =
          let w = in_word_is (a + delay_of task job) r e in
          let few = mod_below (job * task.lag) (task.timing.jitter + 1) (omega arith) in
          (a, refl, omega (arith, w), omega (arith, w, few))

  -- arrivals are a period apart, also further ones
  far_apart : (d job b : ℕ) → arrival_of task.arrivals (job + d) ≡ Some b → Earlier (d * task.timing.period) b (arrival_of task.arrivals job)
  far_apart zero job b e = record { at = b; is = ap (arrival_of task.arrivals) (let s : job ≡ job + 0 = omega arith in s) ∙ e; apart = omega arith }
  far_apart (suc d) job b e =
      let x = arrivals_apart sheet.ticks task.timing.period task.arrivals (job + d) (job + suc d) b h.arrivals (omega arith) e in
      let y = far_apart d job x.at x.is in
      let near = x.apart in
      let far = y.apart in
      let next : suc d * task.timing.period ≡ d * task.timing.period + task.timing.period = omega arith in
      record { at = y.at; is = y.is; apart = omega (arith, near, far, next) }

  -- the first and the last of n + 1 jobs that become ready in a window
  pub window_holds : (first n s x : ℕ) → first ≡ ready_before task s → first + n < ready_before task (s + x) → n < starts_in (x + task.timing.jitter) task.timing.period
  window_holds first n s x is lt =
      let a = below_ready task (s + x) first (omega (arith, lt)) in
      let z = below_ready task (s + x) (first + n) lt in
      let from : s ≤ a.0 = elim (cases_lt a.0 s) [
        | inl less ↦ absurd (let b = ready_below s first a.0 a.1 less in omega (arith, b, is))
        | inr more ↦ more
      ] in
      let aa = arrival_by first a.0 a.1 in
      let za = arrival_by (first + n) z.0 z.1 in
      let gap = far_apart n first za.0 za.1 in
      let apart = gap.apart in
      let same : gap.at ≡ aa.0 = (let f : ◌≡◌ {A = Option ℕ} (Some gap.at) (Some aa.0) = sym gap.is ∙ aa.1 in let q : gap.at ≡ aa.0 = cc in q) in
      let period = h.timing.period.at_least in
      let last = z.2 in
      let early = za.2 in
      let late = aa.3 in
      starts_above n task.timing.period (x + task.timing.jitter) (omega (arith, period)) (omega (arith, apart, same, from, last, early, late))

module _ (sheet : Sheet) (readable : IsSheet sheet) where
  -- the jobs of a high task that become ready in a window arrived in it, or in the jitter before
  pub few_ready : (s x seat : ℕ) → seat < length sheet.high
      → ready_before (high_at sheet seat) (s + x) ≤ ready_before (high_at sheet seat) s + starts_in (x + (high_at sheet seat).timing.jitter) (high_at sheet seat).timing.period
  few_ready s x seat high = by_count (ready_before (high_at sheet seat) (s + x) - ready_before (high_at sheet seat) s) refl
    where
      by_count : (n : ℕ) → ready_before (high_at sheet seat) (s + x) - ready_before (high_at sheet seat) s ≡ n
          → ready_before (high_at sheet seat) (s + x) ≤ ready_before (high_at sheet seat) s + starts_in (x + (high_at sheet seat).timing.jitter) (high_at sheet seat).timing.period
      by_count zero e = omega (arith, e)
      by_count (suc n) e =
          let lt = window_holds sheet (high_at sheet seat) (high_right sheet readable seat high) (ready_before (high_at sheet seat) s) n s x refl (omega (arith, e)) in
          omega (arith, lt, e)

  -- WHICH WAIT: no high job does exactly where the backlog of each seat is empty
  pub no_backlog : (m : Moment) (t : ℕ) → NoHighWaits sheet m t → (seat : ℕ) → seat < length sheet.high → backlog sheet m t seat ≡ 0
  no_backlog m t none seat high = elim (cases_lt (course_at m seat).job (ready_before (high_at sheet seat) t)) [
    | inl some ↦ absurd (
        let r = below_ready (high_at sheet seat) t (course_at m seat).job some in
        let lt = none seat (course_at m seat).job r.0 high r.1 r.2 in omega (arith, lt)
        )
    | inr all ↦ omega (arith, all)
  ]

  pub none_waits_where : (m : Moment) (t : ℕ) → ((seat : ℕ) → seat < length sheet.high → backlog sheet m t seat ≡ 0) → NoHighWaits sheet m t
  none_waits_where m t none seat job ready high e lt =
      let below = ready_below sheet (high_at sheet seat) (high_right sheet readable seat high) t job ready e lt in
      let empty = none seat high in
      omega (arith, below, empty)

  -- the job of a ready task is one of those that have become ready with the tick
  pub ready_counts : (m : Moment) (t seat : ℕ) → seat < length sheet.high → ready_now sheet m t seat ≡ true → (course_at m seat).job < ready_before (high_at sheet seat) (suc t)
  ready_counts m t seat high e =
      let own : is_by (ready_of (high_at sheet seat) (course_at m seat).job) t ≡ true = ap (λ (a : Task). is_by (a.ready (course_at m seat).job) t) (sym (high_is sheet seat high)) ∙ e in
      let r = is_by_some (ready_of (high_at sheet seat) (course_at m seat).job) t own in
      let le = r.2 in
      ready_below sheet (high_at sheet seat) (high_right sheet readable seat high) (suc t) (course_at m seat).job r.0 r.1 (omega (arith, le))
