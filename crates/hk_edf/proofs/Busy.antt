-- The interval before a moment in which each tick goes to a job that is due by then.
use Rattle.std.proofs.Common.{◌≡◌, ℕ, zero, suc, ◌+◌, ◌-◌, ◌<◌, ◌≤◌, ◌⊎◌, Bool, true, nat_le, sym, subst, arith, inl, inr, add-zero, add-suc}
use Rattle.std.proofs.lemmas.Bool.{cases_lt, cases_eq, and_from, lt-ltb, le-leb}
use Rattle.hk_plan.proofs.Arrivals.{falls_in}
use Rattle.hk_plan.proofs.Sums.{pick, pick-le}
use Rattle.hk_edf.proofs.Double.{total_all, total_all_more, Found, search_below}
use Rattle.hk_plan.specs.AloneBy.{Jobs, IsJob}
use Rattle.hk_edf.specs.ByDeadlines.{due_at, IsReadyJob, ToEarliest, ByDeadlines}

-- a job is due by the moment d
abbrev pub is_due : Jobs → ℕ → ℕ → ℕ → Bool
is_due jobs d i j = nat_le (due_at jobs i j) d

-- and becomes ready in the window of w ticks from s
abbrev pub counts : Jobs → ℕ → ℕ → ℕ → ℕ → ℕ → Bool
counts jobs d s w i j = falls_in (is_due jobs d i) (jobs.ready i) s w j

-- the ticks that the jobs which count take together
abbrev pub work_of : Jobs → (ℕ → ℕ → Bool) → ℕ
work_of jobs member = total_all (λ i j. pick (member i j) (jobs.ticks i j)) jobs.count jobs.tasks

module _ (jobs : Jobs) (had : ℕ → ℕ → ℕ → ℕ) (by : ByDeadlines jobs had) where
  -- ---- how what a job has had grows

  pub had_step : (t i j : ℕ) → had t i j ≤ had (suc t) i j
  had_step t i j = elim (by.each_tick t) [
    | inl n ↦ omega (arith, n.as_before i j)
    | inr e ↦ elim (cases_eq i e.task) [
      | inl a ↦ elim (cases_eq j e.job) [
        | inl b ↦
            let P : ℕ → Type 0 = λ k. had t k j ≤ had (suc t) k j in
            let Q : ℕ → Type 0 = λ k. had t e.task k ≤ had (suc t) e.task k in
            subst P (sym a) (subst Q (sym b) (omega (arith, e.one_more)))
        | inr b ↦ omega (arith, e.others i j (λ same. b same.1))
      ]
      | inr a ↦ omega (arith, e.others i j (λ same. a same.0))
    ]
  ]

  had_grows : (t x i j : ℕ) → had t i j ≤ had (t + x) i j
  had_grows t zero i j = rw add-zero (omega arith)
  had_grows t (suc x) i j = rw add-suc (omega (arith, had_step (t + x) i j, had_grows t x i j))

  pub had-le-had : (t u i j : ℕ) → t ≤ u → had t i j ≤ had u i j
  had-le-had t u i j h =
      let e : t + (u - t) ≡ u = omega (arith, h) in
      let P : ℕ → Type 0 = λ v. had t i j ≤ had v i j in
      subst P e (had_grows t (u - t) i j)

  pub had-le-ticks : (t i j : ℕ) → had t i j ≤ jobs.ticks i j
  had-le-ticks zero i j = omega (arith, by.at_start i j)
  had-le-ticks (suc t) i j = elim (by.each_tick t) [
    | inl n ↦ omega (arith, n.as_before i j, had-le-ticks t i j)
    | inr e ↦ elim (cases_eq i e.task) [
      | inl a ↦ elim (cases_eq j e.job) [
        | inl b ↦
            let P : ℕ → Type 0 = λ k. had (suc t) k j ≤ jobs.ticks k j in
            let Q : ℕ → Type 0 = λ k. had (suc t) e.task k ≤ jobs.ticks e.task k in
            subst P (sym a) (subst Q (sym b) (omega (arith, e.one_more, e.ready.unended)))
        | inr b ↦ omega (arith, e.others i j (λ same. b same.1), had-le-ticks t i j)
      ]
      | inr a ↦ omega (arith, e.others i j (λ same. a same.0), had-le-ticks t i j)
    ]
  ]

  -- ---- the last quiet moment

  -- a job that is due by d and became ready before t isn't ended at t
  pub record IsPending (d t i j : ℕ) : Type 0 where
    pub due_then : due_at jobs i j ≤ d
    pub arrived : jobs.ready i j < t
    pub unended : had t i j < jobs.ticks i j

  pub record Pending (d t : ℕ) : Type 0 where
    pub task : ℕ
    pub job : ℕ
    pub is_job : IsJob jobs task job
    pub is_pending : IsPending d t task job

  -- each job that is due by d and became ready before t is ended at t
  abbrev pub IsOver : ℕ → ℕ → ℕ → ℕ → Type 0
  IsOver d t i j = due_at jobs i j ≤ d → jobs.ready i j < t → jobs.ticks i j ≤ had t i j

  abbrev pub Quiet : ℕ → ℕ → Type 0
  Quiet d t = (i : ℕ) → i < jobs.tasks → (j : ℕ) → j < jobs.count i → IsOver d t i j

  pub pending_or_over : (d t i j : ℕ) → IsPending d t i j ⊎ IsOver d t i j
  pending_or_over d t i j = elim (cases_lt d (due_at jobs i j)) [
    | inl late ↦ inr (λ a b. absurd (omega (arith, a, late)))
    | inr due_then ↦ elim (cases_lt (jobs.ready i j) t) [
      | inr later ↦ inr (λ a b. absurd (omega (arith, b, later)))
      | inl arrived ↦ elim (cases_lt (had t i j) (jobs.ticks i j)) [
        | inr ended ↦ inr (λ a b. ended)
        | inl unended ↦ inl (record { due_then = due_then; arrived = arrived; unended = unended })
      ]
    ]
  ]

  pub pending_or_quiet : (d t : ℕ) → Pending d t ⊎ Quiet d t
  pending_or_quiet d t = elim (search_below (λ i. Found (IsPending d t i) (jobs.count i)) (λ i. (j : ℕ) → j < jobs.count i → IsOver d t i j) jobs.tasks
      (λ i below. search_below (IsPending d t i) (IsOver d t i) (jobs.count i) (λ j within. pending_or_over d t i j))) [
        | inl f ↦ inl (record { task = f.place; job = f.holds.place; is_job = record { known = f.below; listed = f.holds.below }; is_pending = f.holds.holds })
        | inr all ↦ inr all
      ]

  -- a quiet moment at or before a, after which a job is pending at each moment up to a
  pub record Since (d a : ℕ) : Type 0 where
    pub start : ℕ
    pub before : start ≤ a
    pub quiet : Quiet d start
    pub busy : (u : ℕ) → start < u → u ≤ a → Pending d u

  pub last_quiet : (d a : ℕ) → Since d a
  last_quiet d zero = record {
    start = 0;
    before = omega arith;
    quiet = λ i below j within due_then arrived. absurd (omega (arith, arrived));
    busy = λ u from below. absurd (omega (arith, from, below));
  }
  last_quiet d (suc a) = elim (pending_or_quiet d (suc a)) [
    | inr quiet ↦ record { start = suc a; before = omega arith; quiet = quiet; busy = λ u from below. absurd (omega (arith, from, below)) }
    | inl p ↦
        let since : Since d a = last_quiet d a in
        record {
          start = since.start;
          before = omega (arith, since.before);
          quiet = since.quiet;
          busy = λ u from below. elim (cases_eq (suc a) u) [
            | inl same ↦ subst (Pending d) same p
            | inr other ↦ since.busy u from (omega (arith, below, other))
          ];
        }
  ]

  -- ---- who gets the ticks of the interval

  -- the job that gets tick u counts
  pub record GoesTo (member : ℕ → ℕ → Bool) (u : ℕ) : Type 0 where
    pub tick : ToEarliest jobs had u
    pub passes : member tick.task tick.job ≡ true

  -- a pending job became ready after the quiet moment
  pub since_start : (d s u i j : ℕ) → Quiet d s → s ≤ u → i < jobs.tasks → j < jobs.count i → due_at jobs i j ≤ d → had u i j < jobs.ticks i j → s ≤ jobs.ready i j
  since_start d s u i j quiet from below within due_then unended = elim (cases_lt (jobs.ready i j) s) [
    | inr fine ↦ fine
    | inl before ↦ absurd (omega (arith, quiet i below j within due_then before, had-le-had s u i j from, unended))
  ]

  pub it_counts : (d s w i j : ℕ) → due_at jobs i j ≤ d → s ≤ jobs.ready i j → jobs.ready i j < s + w → counts jobs d s w i j ≡ true
  it_counts d s w i j due_then from before = and_from _ _ (le-leb _ _ due_then) (and_from _ _ (le-leb _ _ from) (lt-ltb _ _ before))

  -- a tick at which a job that is due by d is ready goes to one
  pub goes_to : (d a w u : ℕ) → (since : Since d a) → since.start ≤ u → u < a → u < since.start + w → GoesTo (counts jobs d since.start w) u
  goes_to d a w u since from below inside =
      let p : Pending d (suc u) = since.busy (suc u) (omega (arith, from)) (omega (arith, below)) in
      let ready : IsReadyJob jobs (had u) u p.task p.job = record {
        is_job = p.is_job;
        by_now = omega (arith, p.is_pending.arrived);
        unended = omega (arith, p.is_pending.unended, had_step u p.task p.job);
      } in
      elim (by.each_tick u) [
        | inl n ↦ absurd (n.none_ready p.task p.job ready)
        | inr e ↦
            let due_then : due_at jobs e.task e.job ≤ d = omega (arith, e.least p.task p.job ready, p.is_pending.due_then) in
            let after : since.start ≤ jobs.ready e.task e.job =
            since_start d since.start u e.task e.job since.quiet from e.ready.is_job.known e.ready.is_job.listed due_then e.ready.unended in
            record { tick = e; passes = it_counts d since.start w e.task e.job due_then after (omega (arith, e.ready.by_now, inside)) }
      ]

  -- ---- the ticks of the interval

  abbrev pub done : (ℕ → ℕ → Bool) → ℕ → ℕ
  done member t = total_all (λ i j. pick (member i j) (had t i j)) jobs.count jobs.tasks

  pub done_more : (member : ℕ → ℕ → Bool) (u : ℕ) → GoesTo member u → done member u + 1 ≤ done member (suc u)
  done_more member u g =
      total_all_more (λ i j. pick (member i j) (had u i j)) (λ i j. pick (member i j) (had (suc u) i j)) jobs.count jobs.tasks
      g.tick.task g.tick.job g.tick.ready.is_job.known g.tick.ready.is_job.listed
      (λ i j below within. pick-le (member i j) _ _ (had_step u i j))
      (rw g.passes (omega (arith, g.tick.one_more)))

  pub interval-le-done : (member : ℕ → ℕ → Bool) (s x : ℕ) → ((u : ℕ) → s ≤ u → u < s + x → GoesTo member u) → x ≤ done member (s + x)
  interval-le-done member s zero goes = omega arith
  interval-le-done member s (suc x) goes =
      let before = interval-le-done member s x (λ u from below. goes u from (omega (arith, below))) in
      let here : GoesTo member (s + x) = goes (s + x) (omega arith) (omega arith) in
      rw add-suc (omega (arith, before, done_more member (s + x) here))

  -- from the quiet moment on, at each moment up to a, the jobs that are due by d and came since take more than the ticks
  -- that there were
  pub too_few : (d a x : ℕ) → (since : Since d a) → 1 ≤ x → since.start + x ≤ a → x + 1 ≤ work_of jobs (counts jobs d since.start x)
  too_few d a x since some fits =
      let s : ℕ = since.start in
      let p : Pending d (s + x) = since.busy (s + x) (omega (arith, some)) fits in
      let after : s ≤ jobs.ready p.task p.job =
      since_start d s (s + x) p.task p.job since.quiet (omega arith) p.is_job.known p.is_job.listed p.is_pending.due_then p.is_pending.unended in
      let counted : counts jobs d s x p.task p.job ≡ true = it_counts d s x p.task p.job p.is_pending.due_then after p.is_pending.arrived in
      let all = interval-le-done (counts jobs d s x) s x (λ u from below. goes_to d a x u since from (omega (arith, below, fits)) below) in
      let more = total_all_more (λ i j. pick (counts jobs d s x i j) (had (s + x) i j)) (λ i j. pick (counts jobs d s x i j) (jobs.ticks i j)) jobs.count jobs.tasks
      p.task p.job p.is_job.known p.is_job.listed
      (λ i j below within. pick-le (counts jobs d s x i j) _ _ (had-le-ticks (s + x) i j))
      (rw counted (omega (arith, p.is_pending.unended))) in
      omega (arith, all, more)
