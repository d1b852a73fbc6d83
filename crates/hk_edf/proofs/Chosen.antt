-- That the schedule of the jobs alone by the choice of the least deadline goes by deadlines.
use Rattle.std.proofs.Common.{◌≡◌, ◌≢◌, ℕ, suc, ◌+◌, ◌<◌, ◌≤◌, ◌⊎◌, true, ◌&&◌, nat_lt, nat_le, List, Option, Some, None, length, refl, sym, ap, ◌∙◌, subst, arith, inl, inr}
use Rattle.std.specs.Prelude.{if◌then◌else◌}
use Rattle.std.proofs.lemmas.Bool.{cases_lt, cases_eq, and_parts, and_from, lt-ltb, le-leb, ltb-true, leb-true, eq-eqb, ne_eqb, true≢false}
use Rattle.hk_rta.specs.declared.Timing.{Timing}
use Rattle.hk_plan.specs.declared.Ready.{Ready}
use Rattle.hk_plan.specs.AloneBy.{Jobs, is_ready_job, earliest, row_for, ready_rows, ready_at, alone_turn, is_some_at, alone_had}
use Rattle.hk_plan.proofs.ReadyRows.{first_law, row_from, row_to, chosen_law}
use Rattle.hk_edf.specs.Earliest.{earliest_row}
use Rattle.hk_edf.specs.ByDeadlines.{due_at, IsReadyJob, ToNobody, ToEarliest}
use Rattle.hk_edf.specs.InTime.{KeepTimings, ChoiceGoesByDeadlines}
use Rattle.hk_edf.proofs.LeastRow.{earliest_of}

pub had_more : (choice : List Ready → ℕ) (jobs : Jobs) (t i j : ℕ)
    → alone_had choice jobs (suc t) i j
    ≡ alone_had choice jobs t i j
    + (if is_some_at (alone_turn choice jobs (alone_had choice jobs t) t) i && is_some_at (earliest jobs (alone_had choice jobs t) t i) j then 1 else 0)
unfolding alone_had
had_more choice jobs t i j = refl

had_none : (choice : List Ready → ℕ) (jobs : Jobs) (i j : ℕ) → alone_had choice jobs 0 i j ≡ 0
unfolding alone_had
had_none choice jobs i j = refl

-- one tick more for a job, by the task that gets the tick and its earliest ready job
gain : (turn first : Option ℕ) (n i j : ℕ) → turn ≡ Some i → first ≡ Some j → n + (if is_some_at turn i && is_some_at first j then 1 else 0) ≡ n + 1
gain turn first n i j e f = rw (e, f, eq-eqb i i refl, eq-eqb j j refl) refl

gain_none : (turn first : Option ℕ) (n a b : ℕ) → turn ≡ None → n + (if is_some_at turn a && is_some_at first b then 1 else 0) ≡ n
gain_none turn first n a b e = rw e (omega arith)

other_task : (turn first : Option ℕ) (n i a b : ℕ) → turn ≡ Some i → i ≢ a → n + (if is_some_at turn a && is_some_at first b then 1 else 0) ≡ n
other_task turn first n i a b e other = rw (e, ne_eqb i a other) (omega arith)

other_job : (turn first : Option ℕ) (n i j a b : ℕ) → turn ≡ Some i → i ≡ a → first ≡ Some j → j ≢ b → n + (if is_some_at turn a && is_some_at first b then 1 else 0) ≡ n
other_job turn first n i j a b e same f other = rw (e, eq-eqb i a same, f, ne_eqb j b other) (omega arith)

-- ---- the rows at a moment

-- a row is that of a task's earliest ready job
record OwnRow (jobs : Jobs) (i : ℕ) (first : Option ℕ) (row : Ready) : Type 0 where
  job : ℕ
  is_first : first ≡ Some job
  its_task : row.task ≡ i
  its_deadline : row.deadline ≡ due_at jobs i job

own_row : (jobs : Jobs) (had : ℕ → ℕ → ℕ) (i at : ℕ) (o : Option ℕ) → at < length (row_for jobs had i o) → OwnRow jobs i o (ready_at (row_for jobs had i o) at)
own_row jobs had i at None lt = absurd (omega (arith, lt))
own_row jobs had i at (Some j) lt =
    let head : 0 ≡ at = omega (arith, lt) in
    subst (λ k. OwnRow jobs i (Some j) (ready_at (row_for jobs had i (Some j)) k)) head (record { job = j; is_first = refl; its_task = refl; its_deadline = refl })

-- the deadlines of a task's jobs rise
rising : (jobs : Jobs) (timings : List Timing) → KeepTimings jobs timings → (i j k : ℕ) → i < jobs.tasks → k < jobs.count i → j ≤ k → due_at jobs i j ≤ due_at jobs i k
rising jobs timings keep i j k below within le = elim (cases_eq j k) [
  | inl same ↦ subst (λ m. due_at jobs i j ≤ due_at jobs i m) same (omega arith)
  | inr other ↦ omega (arith, (keep.each i below).apart j k (omega (arith, le, other)) within)
]

module _ (jobs : Jobs) (timings : List Timing) (keep : KeepTimings jobs timings) (t : ℕ) where
  abbrev now : ℕ → ℕ → ℕ
  now = alone_had earliest_row jobs t

  abbrev own_rows : ℕ → List Ready
  own_rows i = row_for jobs now i (earliest jobs now t i)

  -- a task's earliest ready job is no later than another one of it
  record FirstReady (i j : ℕ) : Type 0 where
    job : ℕ
    is : earliest jobs now t i ≡ Some job
    no_later : job ≤ j

  first_ready : (i j : ℕ) → IsReadyJob jobs now t i j → FirstReady i j
  first_ready i j r =
      let passes : is_ready_job jobs now t i j ≡ true = and_from _ _ (le-leb _ _ r.by_now) (lt-ltb _ _ r.unended) in
      elim (first_law (is_ready_job jobs now t i) (jobs.count i)) [
        | inr none ↦ absurd (true≢false (sym passes ∙ none.fails j r.is_job.listed))
        | inl f ↦ record {
          job = f.place;
          is = f.is;
          no_later = elim (cases_lt j f.place) [
            | inl before ↦ absurd (true≢false (sym passes ∙ f.least j before))
            | inr fine ↦ fine
          ];
        }
      ]

  -- it is ready itself
  is_ready : (i j : ℕ) → i < jobs.tasks → earliest jobs now t i ≡ Some j → IsReadyJob jobs now t i j
  is_ready i j below e = elim (first_law (is_ready_job jobs now t i) (jobs.count i)) [
    | inr none ↦ absurd (let both : None ≡ Some j = sym none.is ∙ e in cc)
    | inl f ↦
        let same : f.place ≡ j = let both : Some f.place ≡ Some j = sym f.is ∙ e in cc in
        let both = and_parts (nat_le (jobs.ready i f.place) t) (nat_lt (now i f.place) (jobs.ticks i f.place)) f.passes in
        subst (IsReadyJob jobs now t i) same (record {
          is_job = record { known = below; listed = f.within };
          by_now = leb-true _ _ both.0;
          unended = ltb-true _ _ both.1;
        })
  ]

  -- the row of a ready job's task stands in the list
  record Stands (i j : ℕ) : Type 0 where
    at : ℕ
    within : at < length (ready_rows jobs now t)
    no_later : (ready_at (ready_rows jobs now t) at).deadline ≤ due_at jobs i j

  stands : (i j : ℕ) → IsReadyJob jobs now t i j → Stands i j
  stands i j r =
      let f = first_ready i j r in
      let one : 0 < length (own_rows i) = omega (arith, ap (λ o. length (row_for jobs now i o)) f.is) in
      let q = row_to own_rows jobs.tasks i 0 r.is_job.known one in
      let here : (ready_at (own_rows i) 0).deadline ≡ due_at jobs i f.job = ap (λ o. (ready_at (row_for jobs now i o) 0).deadline) f.is in
      let there : (ready_at (ready_rows jobs now t) q.at).deadline ≡ due_at jobs i f.job = ap (λ (row : Ready). row.deadline) q.row ∙ here in
      record { at = q.at; within = q.within; no_later = omega (arith, there, rising jobs timings keep i f.job j r.is_job.known r.is_job.listed f.no_later) }

  -- ---- the tick

  abbrev turn : Option ℕ
  turn = alone_turn earliest_row jobs now t

  to_nobody : length (ready_rows jobs now t) ≡ 0 → turn ≡ None → ToNobody jobs (alone_had earliest_row jobs) t
  to_nobody empty none = record {
    none_ready = λ i j r. let s = stands i j r in absurd (let within = s.within in omega (arith, within, empty));
    as_before = λ i j. had_more earliest_row jobs t i j ∙ gain_none turn (earliest jobs now t i) (now i j) i j none;
  }

  to_earliest : 0 < length (ready_rows jobs now t) → turn ≡ Some (ready_at (ready_rows jobs now t) (earliest_row (ready_rows jobs now t))).task → ToEarliest jobs (alone_had earliest_row jobs) t
  to_earliest some is =
      let p = earliest_of (ready_rows jobs now t) some in
      let r = row_from own_rows jobs.tasks (earliest_row (ready_rows jobs now t)) p.inside in
      let own = own_row jobs now r.task r.at (earliest jobs now t r.task) r.listed in
      let i : ℕ = r.task in
      let j : ℕ = own.job in
      let mine : turn ≡ Some i = is ∙ ap (λ (row : Ready). Some row.task) r.row ∙ ap (λ k. Some k) own.its_task in
      let its_due : (ready_at (ready_rows jobs now t) (earliest_row (ready_rows jobs now t))).deadline ≡ due_at jobs i j = ap (λ (row : Ready). row.deadline) r.row ∙ own.its_deadline in
      record {
        task = i;
        job = j;
        ready = is_ready i j r.known own.is_first;
        least = λ a b other. let s = stands a b other in let le = p.least s.at s.within in let no_later = s.no_later in omega (arith, its_due, le, no_later);
        one_more = had_more earliest_row jobs t i j ∙ gain turn (earliest jobs now t i) (now i j) i j mine own.is_first;
        others = λ a b apart. had_more earliest_row jobs t a b ∙ elim (cases_eq i a) [
          | inr other ↦ other_task turn (earliest jobs now t a) (now a b) i a b mine other
          | inl same ↦ elim (cases_eq j b) [
            | inl also ↦ absurd (apart (sym same, sym also))
            | inr other ↦
                let first : earliest jobs now t a ≡ Some j = ap (earliest jobs now t) (sym same) ∙ own.is_first in
                other_job turn (earliest jobs now t a) (now a b) i j a b mine same first other
          ]
        ];
      }

  one_tick : ToNobody jobs (alone_had earliest_row jobs) t ⊎ ToEarliest jobs (alone_had earliest_row jobs) t
  one_tick = elim (chosen_law earliest_row (ready_rows jobs now t)) [
    | inr c ↦ inl (to_nobody c.none c.is)
    | inl c ↦ inr (to_earliest c.some c.is)
  ]

pub goes_by_deadlines : ChoiceGoesByDeadlines
goes_by_deadlines jobs timings keep = record {
  at_start = had_none earliest_row jobs;
  each_tick = λ t. one_tick jobs timings keep t;
}
