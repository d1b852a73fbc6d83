-- The schedule of the jobs alone by the choice by ceilings, over the places of one list.
use Rattle.std.proofs.Common.{◌≡◌, ℕ, suc, ◌+◌, ◌<◌, ◌≤◌, ◌⊎◌, Bool, true, false, ◌&&◌, nat_lt, nat_le, List, Option, Some, None, length, get_or, refl, sym, ap, ◌∙◌, subst, arith, inl, inr, if◌then◌else◌}
use Rattle.std.proofs.lemmas.Bool.{cases_lt, cases_eq, cases_Bool, and_parts, and_from, ltb-true, leb-true, lt-ltb, le-ltb, le-leb, eq-eqb, ne_eqb}
use Rattle.hk_plan.specs.declared.Ready.{Ready}
use Rattle.hk_plan.specs.Alone.{arrival_of, tick_for}
use Rattle.hk_plan.specs.AloneBy.{Jobs, IsJob, rows_below, no_ready, ready_at, is_ready_job, earliest, row_for, alone_turn, is_some_at, alone_had}
use Rattle.hk_plan.proofs.Had.{tick_for_same, tick_for_other, tick_for_nobody}
use Rattle.hk_plan.proofs.JobRows.{job_rows, place}
use Rattle.hk_plan.proofs.ReadyRows.{FirstIs, NoneIs, first_law, row_from, row_to, chosen_law}
use Rattle.hk_ceiling.specs.declared.ceilings.TaskSection.{TaskSection}
use Rattle.hk_ceiling.specs.Ceilings.{level, AreApart}
use Rattle.hk_ceiling.specs.Choice.{level_of_row, is_in_section, by_ceilings}
use Rattle.hk_ceiling.specs.Promises.{InOrder}
use Rattle.hk_ceiling.proofs.Scheduled.{IsReady, IsEarliest, level_at, Yields, ByCeilings, AreOrdered, ResponseBounds, IsExclusive, IsHeldByOne}
use Rattle.hk_ceiling.proofs.Bound.{response_bounds}
use Rattle.hk_ceiling.proofs.Chosen.{MayPrecede, chooses_best}
use Rattle.hk_ceiling.proofs.HeldUp.{is_held_by_one}
use Rattle.hk_ceiling.proofs.Levels.{found_inside, inside_found}
use Rattle.hk_ceiling.proofs.Nested.{is_exclusive}
use Rattle.hk_ceiling.proofs.Placed.{had_at, at_job, at_turn, got_at, is_row, job_of, task_is, same_task, same_job, its_had}

module _ (sections : List TaskSection) (jobs : Jobs) where
  abbrev choice : List Ready → ℕ
  choice rows = by_ceilings sections rows

  -- what a job has had
  abbrev pub of_job : ℕ → ℕ → ℕ → ℕ
  of_job t = alone_had choice jobs t

  -- what the row at a place has had
  abbrev pub had : ℕ → ℕ → ℕ
  had t k = had_at jobs (of_job t) k

  abbrev pub got : ℕ → Option ℕ
  got t = got_at choice jobs t

  abbrev pub first_job : ℕ → ℕ → Option ℕ
  first_job t i = earliest jobs (of_job t) t i

  abbrev its_row : ℕ → ℕ → List Ready
  its_row t i = row_for jobs (of_job t) i (first_job t i)

  abbrev all_ready : ℕ → List Ready
  all_ready t = rows_below (its_row t) jobs.tasks

  abbrev ready_row : ℕ → ℕ → ℕ → Ready
  ready_row t i j = record { task = i; job = j; arrival = jobs.arrival i j; deadline = jobs.arrival i j + jobs.deadline i; done = of_job t i j }

  -- ---- ready jobs

  ready_to : (t i j : ℕ) → IsJob jobs i j → is_ready_job jobs (of_job t) t i j ≡ true → IsReady (job_rows jobs) (had t) t (place jobs i j)
  ready_to t i j is e =
      let p = and_parts (nat_le (jobs.ready i j) t) (nat_lt (of_job t i j) (jobs.ticks i j)) e in
      record {
        within = (is_row jobs i j is).within;
        arrived = omega (arith, (is_row jobs i j is).ready, leb-true (jobs.ready i j) t p.0);
        unended = omega (arith, its_had jobs (of_job t) i j is, (is_row jobs i j is).ticks, ltb-true (of_job t i j) (jobs.ticks i j) p.1);
      }

  ready_from : (t i j : ℕ) → IsJob jobs i j → IsReady (job_rows jobs) (had t) t (place jobs i j) → is_ready_job jobs (of_job t) t i j ≡ true
  ready_from t i j is r =
      and_from (nat_le (jobs.ready i j) t) (nat_lt (of_job t i j) (jobs.ticks i j))
      (le-leb (jobs.ready i j) t (omega (arith, (is_row jobs i j is).ready, r.arrived)))
      (lt-ltb (of_job t i j) (jobs.ticks i j) (omega (arith, its_had jobs (of_job t) i j is, (is_row jobs i j is).ticks, r.unended)))

  -- ---- who gets a tick

  pub record Given (t : ℕ) : Type 0 where
    pub task : ℕ
    pub known : task < jobs.tasks
    pub first : FirstIs (is_ready_job jobs (of_job t) t task) (jobs.count task) (first_job t task)
    pub turn : alone_turn choice jobs (of_job t) t ≡ Some task
    pub gets : got t ≡ Some (place jobs task first.place)
    pub is_job : IsJob jobs task first.place
    pub best : (i j : ℕ) → i < jobs.tasks → first_job t i ≡ Some j → MayPrecede sections (ready_row t task first.place) (ready_row t i j)

  pub record Idle (t : ℕ) : Type 0 where
    pub turn : alone_turn choice jobs (of_job t) t ≡ None
    pub gets : got t ≡ None
    pub none : (i : ℕ) → i < jobs.tasks → NoneIs (is_ready_job jobs (of_job t) t i) (jobs.count i) (first_job t i)

  abbrev row_of_option : ℕ → ℕ → Option ℕ → List Ready
  row_of_option t i o = row_for jobs (of_job t) i o

  given_or_idle : (t : ℕ) → Given t ⊎ Idle t
  given_or_idle t = elim (chosen_law choice (all_ready t)) [
    | inr nobody ↦ inr (record {
      turn = nobody.is;
      gets = ap (λ o. at_turn jobs (of_job t) t o) nobody.is;
      none = λ i known. elim (first_law (is_ready_job jobs (of_job t) t i) (jobs.count i)) [
        | inr none ↦ none
        | inl f ↦
            let one : length (its_row t i) ≡ 1 = ap (λ o. length (row_of_option t i o)) f.is in
            let r = row_to (its_row t) jobs.tasks i 0 known (omega (arith, one)) in
            absurd (omega (arith, r.within, nobody.none))
      ];
    })
    | inl some ↦
        let best = chooses_best sections (all_ready t) some.some in
        let p : ℕ = choice (all_ready t) in
        let r = row_from (its_row t) jobs.tasks p best.within in
        elim (first_law (is_ready_job jobs (of_job t) t r.task) (jobs.count r.task)) [
          | inr none ↦
              let empty : length (its_row t r.task) ≡ 0 = ap (λ o. length (row_of_option t r.task o)) none.is in
              absurd (omega (arith, r.listed, empty))
          | inl f ↦
              let one : length (its_row t r.task) ≡ 1 = ap (λ o. length (row_of_option t r.task o)) f.is in
              let zeroth : r.at ≡ 0 = omega (arith, r.listed, one) in
              let row : ready_at (all_ready t) p ≡ ready_row t r.task f.place =
              r.row ∙ ap (λ n. get_or (its_row t r.task) n no_ready) zeroth ∙ ap (λ o. get_or (row_of_option t r.task o) 0 no_ready) f.is in
              let turn : alone_turn choice jobs (of_job t) t ≡ Some r.task = some.is ∙ ap (λ (x : Ready). Some x.task) row in
              inl (record {
                task = r.task;
                known = r.known;
                first = f;
                turn = turn;
                gets = ap (λ o. at_turn jobs (of_job t) t o) turn ∙ ap (λ o. at_job jobs r.task o) f.is;
                is_job = record { known = r.known; listed = f.within };
                best = λ i j known is.
                    let its_one : length (its_row t i) ≡ 1 = ap (λ o. length (row_of_option t i o)) is in
                    let q = row_to (its_row t) jobs.tasks i 0 known (omega (arith, its_one)) in
                    let other : ready_at (all_ready t) q.at ≡ ready_row t i j = q.row ∙ ap (λ o. get_or (row_of_option t i o) 0 no_ready) is in
                    let P : Ready → Type 0 = λ x. MayPrecede sections x (ready_at (all_ready t) q.at) in
                    let Q : Ready → Type 0 = λ x. MayPrecede sections (ready_row t r.task f.place) x in
                    subst Q other (subst P row (best.precedes q.at q.within));
              })
        ]
  ]

  -- ---- one tick more

  none_at_first : (k : ℕ) → had 0 k ≡ 0
  unfolding alone_had
  none_at_first k = elim (cases_Bool (nat_lt k (length (job_rows jobs)))) [ inl e ↦ rw e refl | inr e ↦ rw e refl ]

  one_more : (t i j : ℕ) → of_job (suc t) i j ≡ of_job t i j + (if is_some_at (alone_turn choice jobs (of_job t) t) i && is_some_at (first_job t i) j then 1 else 0)
  unfolding alone_had
  one_more t i j = refl

  -- the tick of a job is that of its place
  abbrev gain_of : (turn first : Option ℕ) (i j : ℕ) → ℕ
  gain_of turn first i j = if is_some_at turn i && is_some_at first j then 1 else 0

  abbrev gain : ℕ → ℕ → ℕ → ℕ
  gain t i j = gain_of (alone_turn choice jobs (of_job t) t) (first_job t i) i j

  gain_if : (turn first : Option ℕ) (i j a b : ℕ) → turn ≡ Some a → (a ≡ i → first ≡ Some b) → (a ≡ i → b ≡ j → ⊥)
      → gain_of turn first i j ≡ 0
  gain_if turn first i j a b is its other = elim (cases_eq a i) [
    | inr ne ↦ rw (is, ne_eqb a i ne) refl
    | inl same ↦ rw (is, eq-eqb a i same, its same, ne_eqb b j (other same)) refl
  ]

  gain_one : (turn first : Option ℕ) (i j a b : ℕ) → turn ≡ Some a → first ≡ Some b → a ≡ i → b ≡ j
      → gain_of turn first i j ≡ 1
  gain_one turn first i j a b is its same one = rw (is, eq-eqb a i same, its, eq-eqb b j one) refl

  gain_none : (turn first : Option ℕ) (i j : ℕ) → turn ≡ None → gain_of turn first i j ≡ 0
  gain_none turn first i j is = rw is refl

  tick_is : (t i j : ℕ) → IsJob jobs i j → gain t i j ≡ tick_for (got t) (place jobs i j)
  tick_is t i j is = elim (given_or_idle t) [
    | inr idle ↦ gain_none (alone_turn choice jobs (of_job t) t) (first_job t i) i j idle.turn ∙ sym (tick_for_nobody (got t) (place jobs i j) idle.gets)
    | inl g ↦
        let b : ℕ = g.first.place in
        let turn : Option ℕ = alone_turn choice jobs (of_job t) t in
        let its : g.task ≡ i → first_job t i ≡ Some b = λ same. (ap (λ x. first_job t x) (sym same) ∙ g.first.is) in
        let zero_gain : (g.task ≡ i → b ≡ j → ⊥) → gain t i j ≡ tick_for (got t) (place jobs i j) =
        λ other. (gain_if turn (first_job t i) i j g.task b g.turn its other
        ∙ sym (tick_for_other (got t) (place jobs g.task b) (place jobs i j) g.gets (λ e. other (same_task jobs g.task b i j g.is_job is e) (same_job jobs g.task b i j g.is_job is e)))) in
        elim (cases_eq g.task i) [
          | inr other ↦ zero_gain (λ same one. other same)
          | inl same ↦ elim (cases_eq b j) [
            | inr other ↦ zero_gain (λ again one. other one)
            | inl one ↦
                let e : place jobs g.task b ≡ place jobs i j = ap (λ x. place jobs x b) same ∙ ap (λ y. place jobs i y) one in
                gain_one turn (first_job t i) i j g.task b g.turn (its same) same one ∙ sym (tick_for_same (got t) (place jobs i j) (g.gets ∙ ap (λ k. Some k) e))
          ]
        ]
  ]

  more_at : (t k : ℕ) → had (suc t) k ≡ had t k + tick_for (got t) k
  more_at t k = elim (cases_lt k (length (job_rows jobs))) [
    | inl within ↦
        let l = job_of jobs k within in
        let P : ℕ → Type 0 = λ x. had (suc t) x ≡ had t x + tick_for (got t) x in
        subst P l.there (omega (
          arith,
          its_had jobs (of_job (suc t)) l.task l.job l.is_job,
          its_had jobs (of_job t) l.task l.job l.is_job,
          one_more t l.task l.job,
          tick_is t l.task l.job l.is_job,
        ))
    | inr past ↦
        let none : tick_for (got t) k ≡ 0 = elim (given_or_idle t) [
          | inr idle ↦ tick_for_nobody (got t) k idle.gets
          | inl g ↦ tick_for_other (got t) (place jobs g.task g.first.place) k g.gets (λ e. omega (arith, past, e, (is_row jobs g.task g.first.place g.is_job).within))
        ] in
        let empty : (h : ℕ → ℕ → ℕ) → had_at jobs h k ≡ 0 = λ h. (rw (le-ltb k (length (job_rows jobs)) past) refl) in
        omega (arith, none, empty (of_job (suc t)), empty (of_job t))
  ]

  -- ---- the schedule

  not_ready : (b : Bool) → b ≡ true → b ≡ false → ⊥
  not_ready true e f = cc
  not_ready false e f = cc

  idle_at : (t k : ℕ) → got t ≡ None → ¬ (IsReady (job_rows jobs) (had t) t k)
  idle_at t k nobody r = elim (given_or_idle t) [
    | inl g ↦ let e : None ≡ Some (place jobs g.task g.first.place) = sym nobody ∙ g.gets in cc
    | inr idle ↦
        let l = job_of jobs k r.within in
        let P : ℕ → Type 0 = λ x. IsReady (job_rows jobs) (had t) t x in
        not_ready (is_ready_job jobs (of_job t) t l.task l.job) (ready_from t l.task l.job l.is_job (subst P (sym l.there) r))
        ((idle.none l.task l.is_job.known).fails l.job l.is_job.listed)
  ]

  -- the earliest job of a task is the earliest of its rows
  earliest_at : (t i : ℕ) → i < jobs.tasks → (f : FirstIs (is_ready_job jobs (of_job t) t i) (jobs.count i) (first_job t i)) → IsEarliest (job_rows jobs) (had t) t (place jobs i f.place)
  earliest_at t i known f = record {
    ready = ready_to t i f.place (record { known = known; listed = f.within }) f.passes;
    first = λ j r same.
        let l = job_of jobs j r.within in
        let P : ℕ → Type 0 = λ x. IsReady (job_rows jobs) (had t) t x in
        let own : l.task ≡ i = sym (task_is jobs j l) ∙ same ∙ (is_row jobs i f.place (record { known = known; listed = f.within })).task in
        let ready : is_ready_job jobs (of_job t) t l.task l.job ≡ true = ready_from t l.task l.job l.is_job (subst P (sym l.there) r) in
        let Q : ℕ → Type 0 = λ x. is_ready_job jobs (of_job t) t x l.job ≡ true in
        elim (cases_lt l.job f.place) [
          | inl less ↦ absurd (not_ready (is_ready_job jobs (of_job t) t i l.job) (subst Q own ready) (f.least l.job less))
          | inr fine ↦ omega (arith, fine, l.there, ap (λ x. place jobs x l.job) own)
        ];
  }

  its_first_at : (t k : ℕ) → got t ≡ Some k → IsEarliest (job_rows jobs) (had t) t k
  its_first_at t k gets = elim (given_or_idle t) [
    | inr idle ↦ let e : None ≡ Some k = sym idle.gets ∙ gets in absurd (cc)
    | inl g ↦
        let e : Some (place jobs g.task g.first.place) ≡ Some k = sym g.gets ∙ gets in
        let same : place jobs g.task g.first.place ≡ k = cc in
        let P : ℕ → Type 0 = λ x. IsEarliest (job_rows jobs) (had t) t x in
        subst P same (earliest_at t g.task g.known g.first)
  ]

  -- the earliest of a task's rows is that of its earliest job
  is_first_job : (t a b : ℕ) → IsJob jobs a b → IsEarliest (job_rows jobs) (had t) t (place jobs a b) → first_job t a ≡ Some b
  is_first_job t a b is e = elim (first_law (is_ready_job jobs (of_job t) t a) (jobs.count a)) [
    | inr none ↦ absurd (not_ready (is_ready_job jobs (of_job t) t a b) (ready_from t a b is e.ready) (none.fails b is.listed))
    | inl f ↦
        let other : IsJob jobs a f.place = record { known = is.known; listed = f.within } in
        let up = e.first (place jobs a f.place) (ready_to t a f.place other f.passes) ((is_row jobs a f.place other).task ∙ sym (is_row jobs a b is).task) in
        elim (cases_lt b f.place) [
          | inl less ↦ absurd (not_ready (is_ready_job jobs (of_job t) t a b) (ready_from t a b is e.ready) (f.least b less))
          | inr above ↦
              let same : f.place ≡ b = omega (arith, up, above) in
              f.is ∙ ap (λ x. Some x) same
        ]
  ]

  level_is : (t i j : ℕ) → IsJob jobs i j → level_at (job_rows jobs) sections (had t) (place jobs i j) ≡ level_of_row sections (ready_row t i j)
  level_is t i j is = ap (λ x. level sections x (had t (place jobs i j))) (is_row jobs i j is).task ∙ ap (λ d. level sections i d) (its_had jobs (of_job t) i j is)

  yields_jobs : (t i j a b : ℕ) → IsJob jobs i j → IsJob jobs a b
      → MayPrecede sections (ready_row t i j) (ready_row t a b) → Yields (job_rows jobs) sections (had t) (place jobs i j) (place jobs a b)
  yields_jobs t i j a b is other m = record {
    level = omega (arith, m.level, level_is t i j is, level_is t a b other);
    tie = λ same q inside.
        let within : is_in_section sections (ready_row t a b) ≡ true = found_inside sections a (of_job t a b) q (record {
          listed = inside.listed;
          its = inside.its ∙ (is_row jobs a b other).task;
          begun = omega (arith, inside.begun, its_had jobs (of_job t) a b other);
          more = omega (arith, inside.more, its_had jobs (of_job t) a b other);
        }) in
        let f = inside_found sections i (of_job t i j) (m.tie (sym (level_is t i j is) ∙ same ∙ level_is t a b other) within) in (
          f.0,
          record {
            listed = f.1.listed;
            its = f.1.its ∙ sym (is_row jobs i j is).task;
            begun = omega (arith, f.1.begun, its_had jobs (of_job t) i j is);
            more = omega (arith, f.1.more, its_had jobs (of_job t) i j is);
          },
        );
  }

  yields_at : (t k j : ℕ) → got t ≡ Some k → IsEarliest (job_rows jobs) (had t) t j → Yields (job_rows jobs) sections (had t) k j
  yields_at t k j gets e = elim (given_or_idle t) [
    | inr idle ↦ let none : None ≡ Some k = sym idle.gets ∙ gets in absurd (cc)
    | inl g ↦
        let is : Some (place jobs g.task g.first.place) ≡ Some k = sym g.gets ∙ gets in
        let same : place jobs g.task g.first.place ≡ k = cc in
        let l = job_of jobs j e.ready.within in
        let E : ℕ → Type 0 = λ x. IsEarliest (job_rows jobs) (had t) t x in
        let first = is_first_job t l.task l.job l.is_job (subst E (sym l.there) e) in
        let y = yields_jobs t g.task g.first.place l.task l.job g.is_job l.is_job (g.best l.task l.job l.is_job.known first) in
        let P : ℕ → Type 0 = λ x. Yields (job_rows jobs) sections (had t) x (place jobs l.task l.job) in
        let Q : ℕ → Type 0 = λ x. Yields (job_rows jobs) sections (had t) k x in
        subst Q l.there (subst P same y)
  ]

  -- the jobs alone keep to ceilings
  pub by_ceilings_alone : (stop : ℕ) → ByCeilings (job_rows jobs) sections stop got had
  by_ceilings_alone stop = record {
    none_first = none_at_first;
    more = λ t k lt. more_at t k;
    idle = λ t k lt nobody. idle_at t k nobody;
    its_first = λ t k lt gets. its_first_at t k gets;
    yields = λ t k j lt gets e. yields_at t k j gets e;
  }

  module _ (apart : AreApart sections) (in_order : InOrder jobs) where
    pub are_ordered : AreOrdered (job_rows jobs)
    are_ordered = record {
      order = λ j k less within same.
          let l = job_of jobs j (omega (arith, less, within)) in
          let m = job_of jobs k within in
          let one : l.task ≡ m.task = sym (task_is jobs j l) ∙ same ∙ task_is jobs k m in
          let before : l.job < m.job = omega (arith, less, l.there, m.there, ap (λ x. place jobs x l.job) one) in
          let P : ℕ → Type 0 = λ x. jobs.ready x l.job ≤ jobs.ready m.task m.job in
          let moments : jobs.ready l.task l.job ≤ jobs.ready m.task m.job = subst P (sym one) (in_order.order m.task l.job m.job m.is_job.known before m.is_job.listed) in
          omega (
            arith,
            moments,
            ap (λ x. arrival_of (job_rows jobs) x) (sym l.there) ∙ (is_row jobs l.task l.job l.is_job).ready,
            ap (λ x. arrival_of (job_rows jobs) x) (sym m.there) ∙ (is_row jobs m.task m.job m.is_job).ready,
          );
    }

    pub exclusive_alone : (stop : ℕ) → IsExclusive (job_rows jobs) sections stop got had
    exclusive_alone stop = is_exclusive (job_rows jobs) sections stop got had (by_ceilings_alone stop) apart are_ordered

    pub held_by_one_alone : (stop : ℕ) → IsHeldByOne (job_rows jobs) sections stop got had
    held_by_one_alone stop = is_held_by_one (job_rows jobs) sections stop got had (by_ceilings_alone stop) apart are_ordered

    pub bounds_alone : (stop : ℕ) → ResponseBounds (job_rows jobs) sections stop got had
    bounds_alone stop = response_bounds (job_rows jobs) sections stop got had (by_ceilings_alone stop) apart are_ordered
