-- That the schedule by the choice of the least task is the plain schedule of rows.
use Rattle.std.proofs.Common.{◌≡◌, ℕ, zero, suc, ◌+◌, ◌-◌, ◌<◌, ◌≤◌, ◌⊎◌, ◌↔◌, Bool, true, false, ◌&&◌, nat_lt, nat_le, List, Option, Some, None, length, refl, sym, ap, ◌∙◌, subst, arith, inl, inr, if◌then◌else◌}
use Rattle.std.proofs.lemmas.Bool.{cases_lt, cases_eq, and_parts, and_from, ltb-true, leb-true, lt-ltb, le-leb, eq-eqb, ne_eqb, true≢false}
use Rattle.hk_plan.specs.declared.Row.{Row}
use Rattle.hk_plan.specs.declared.Ready.{Ready}
use Rattle.hk_plan.specs.Alone.{task_of, tick_for, had_after, row_at, IsReady, IsIdle, ComesFirst}
use Rattle.hk_plan.specs.AloneBy.{Jobs, IsJob, is_ready_job, earliest, row_for, ready_rows, ready_at, alone_turn, is_some_at, alone_had, AloneGives, AloneRests, least_task}
use Rattle.hk_plan.specs.LeastTask.{HasJob, ListsJobs, IsPlainSchedule, LeastTaskIsPlain}
use Rattle.hk_plan.proofs.Had.{had_more, had_none, each_tick_follows_order, tick_for_same, tick_for_other, tick_for_nobody}
use Rattle.hk_plan.proofs.ReadyRows.{first_law, head_law, chosen_law}

-- ---- one tick more for a job

abbrev gain_of : (turn first : Option ℕ) (i j : ℕ) → ℕ
gain_of turn first i j = if is_some_at turn i && is_some_at first j then 1 else 0

gain_other : (turn first : Option ℕ) (i j a b : ℕ) → turn ≡ Some a → (a ≡ i → first ≡ Some b) → (a ≡ i → b ≡ j → ⊥) → gain_of turn first i j ≡ 0
gain_other turn first i j a b is its other = elim (cases_eq a i) [
  | inr ne ↦ rw (is, ne_eqb a i ne) refl
  | inl same ↦ rw (is, eq-eqb a i same, its same, ne_eqb b j (other same)) refl
]

gain_same : (turn first : Option ℕ) (i j a b : ℕ) → turn ≡ Some a → first ≡ Some b → a ≡ i → b ≡ j → gain_of turn first i j ≡ 1
gain_same turn first i j a b is its same one = rw (is, eq-eqb a i same, its, eq-eqb b j one) refl

gain_none : (turn first : Option ℕ) (i j : ℕ) → turn ≡ None → gain_of turn first i j ≡ 0
gain_none turn first i j is = rw is refl

one_some : {a b : ℕ} → Some a ≡ Some b → a ≡ b
one_some e = cc

none_some : {a : ℕ} → None ≡ Some a → ⊥
none_some e = cc

module _ (jobs : Jobs) where
  -- ---- the job that gets a tick

  abbrev had : ℕ → ℕ → ℕ → ℕ
  had t = alone_had least_task jobs t

  abbrev first_job : ℕ → ℕ → Option ℕ
  first_job t i = earliest jobs (had t) t i

  abbrev row_from_option : ℕ → ℕ → Option ℕ → List Ready
  row_from_option t i o = row_for jobs (had t) i o

  abbrev its_row : ℕ → ℕ → List Ready
  its_row t i = row_from_option t i (first_job t i)

  abbrev is_ready : ℕ → ℕ → ℕ → Bool
  is_ready t i j = is_ready_job jobs (had t) t i j

  -- a job is ready, and goes before each other ready job
  record Given (t : ℕ) : Type 0 where
    task : ℕ
    job : ℕ
    is_job : IsJob jobs task job
    turn : alone_turn least_task jobs (had t) t ≡ Some task
    first : first_job t task ≡ Some job
    passes : is_ready t task job ≡ true
    least : (i j : ℕ) → IsJob jobs i j → is_ready t i j ≡ true → (task < i) ⊎ ((task ≡ i) × (job ≤ j))

  record Idle (t : ℕ) : Type 0 where
    turn : alone_turn least_task jobs (had t) t ≡ None
    none : (i j : ℕ) → IsJob jobs i j → is_ready t i j ≡ false

  -- a task without a row has no ready job
  none_ready : (t i : ℕ) → length (its_row t i) ≡ 0 → (j : ℕ) → j < jobs.count i → is_ready t i j ≡ false
  none_ready t i empty j listed = elim (first_law (is_ready t i) (jobs.count i)) [
    | inr none ↦ none.fails j listed
    | inl f ↦ absurd (omega (arith, empty, ap (λ o. length (row_from_option t i o)) f.is))
  ]

  given_or_idle : (t : ℕ) → Given t ⊎ Idle t
  given_or_idle t = elim (chosen_law least_task (ready_rows jobs (had t) t)) [
    | inr nobody ↦ elim (head_law (its_row t) jobs.tasks) [
      | inl h ↦ absurd (omega (arith, h.more, nobody.none))
      | inr no_head ↦ inr (record { turn = nobody.is; none = λ i j is. none_ready t i (no_head.empty i is.known) j is.listed })
    ]
    | inl some ↦ elim (head_law (its_row t) jobs.tasks) [
      | inr no_head ↦ absurd (omega (arith, some.some, no_head.none))
      | inl h ↦ elim (first_law (is_ready t h.task) (jobs.count h.task)) [
        | inr none ↦ absurd (omega (arith, h.some, ap (λ o. length (row_from_option t h.task o)) none.is))
        | inl f ↦ inl (record {
          task = h.task;
          job = f.place;
          is_job = record { known = h.known; listed = f.within };
          turn = some.is ∙ ap (λ (x : Ready). Some x.task) (h.head ∙ ap (λ o. ready_at (row_from_option t h.task o) 0) f.is);
          first = f.is;
          passes = f.passes;
          least = λ i j is ready. elim (cases_lt h.task i) [
            | inl less ↦ inl less
            | inr fine ↦ elim (cases_eq h.task i) [
              | inr other ↦ absurd (true≢false (sym ready ∙ none_ready t i (h.before i (omega (arith, fine, other))) j is.listed))
              | inl same ↦ elim (cases_lt j f.place) [
                | inr past ↦ inr (same, past)
                | inl before ↦
                    let P : ℕ → Type 0 = λ x. is_ready t x j ≡ false in
                    absurd (true≢false (sym ready ∙ subst P same (f.least j before)))
              ]
            ]
          ];
        })
      ]
    ]
  ]

  -- ---- the same over rows

  module _ (rows : List Row) (place : ℕ → ℕ → ℕ) (lists : ListsJobs rows jobs place) where
    same_task : (i j a b : ℕ) → IsJob jobs i j → IsJob jobs a b → place i j ≡ place a b → i ≡ a
    same_task i j a b is its e = sym (lists.row i j is).task ∙ ap (task_of rows) e ∙ (lists.row a b its).task

    same_job : (i j a b : ℕ) → IsJob jobs i j → IsJob jobs a b → place i j ≡ place a b → j ≡ b
    same_job i j a b is its e =
        let same : i ≡ a = same_task i j a b is its e in
        let there : place i j ≡ place i b = e ∙ ap (λ x. place x b) (sym same) in
        let P : ℕ → Type 0 = λ x. IsJob jobs x b in
        elim (cases_lt j b) [
          | inl less ↦ absurd (omega (arith, there, lists.order i j b less (subst P (sym same) its)))
          | inr fine ↦ elim (cases_eq j b) [
            | inl one ↦ one
            | inr other ↦ absurd (omega (arith, there, lists.order i b j (omega (arith, fine, other)) is))
          ]
        ]

    -- each job has had as many ticks as its row
    abbrev Same : ℕ → Type 0
    Same t = (i j : ℕ) → IsJob jobs i j → had t i j ≡ had_after rows t (place i j)

    module _ (t : ℕ) (same : Same t) where
      ready_to : (i j : ℕ) → IsJob jobs i j → is_ready t i j ≡ true → IsReady rows t (place i j)
      ready_to i j is e =
          let both = and_parts (nat_le (jobs.ready i j) t) (nat_lt (had t i j) (jobs.ticks i j)) e in
          let row = lists.row i j is in
          record {
            within = row.within;
            arrived = omega (arith, row.ready, leb-true (jobs.ready i j) t both.0);
            unended = omega (arith, row.ticks, same i j is, ltb-true (had t i j) (jobs.ticks i j) both.1);
          }

      ready_from : (i j : ℕ) → IsJob jobs i j → IsReady rows t (place i j) → is_ready t i j ≡ true
      ready_from i j is r =
          let row = lists.row i j is in
          and_from (nat_le (jobs.ready i j) t) (nat_lt (had t i j) (jobs.ticks i j))
          (le-leb (jobs.ready i j) t (omega (arith, row.ready, r.arrived)))
          (lt-ltb (had t i j) (jobs.ticks i j) (omega (arith, row.ticks, same i j is, r.unended)))

      comes_first : (i j a b : ℕ) → IsJob jobs i j → IsJob jobs a b → (i < a) ⊎ ((i ≡ a) × (j ≤ b)) → ComesFirst rows (place i j) (place a b)
      comes_first i j a b is its (inl less) = inl (omega (arith, less, (lists.row i j is).task, (lists.row a b its).task))
      comes_first i j a b is its (inr own) = inr (
        (lists.row i j is).task ∙ own.0 ∙ sym (lists.row a b its).task,
        elim (cases_eq j b) [
          | inl one ↦ let e : place i j ≡ place a b = ap (λ x. place x j) own.0 ∙ ap (λ y. place a y) one in omega (arith, e)
          | inr other ↦ omega (arith, ap (λ x. place x j) own.0, lists.order a j b (omega (arith, own.1, other)) its)
        ],
      )

      -- the given job's row gets the tick
      gets : (g : Given t) → row_at rows t ≡ Some (place g.task g.job)
      gets g = ((each_tick_follows_order rows t).to_row (place g.task g.job)).1 (record {
        ready = ready_to g.task g.job g.is_job g.passes;
        first = λ k r.
            let other : HasJob jobs place k = lists.job k r.within in
            let R : ℕ → Type 0 = IsReady rows t in
            let F : ℕ → Type 0 = ComesFirst rows (place g.task g.job) in
            let there = ready_from other.task other.job other.is_job (subst R (sym other.there) r) in
            subst F other.there (comes_first g.task g.job other.task other.job g.is_job other.is_job (g.least other.task other.job other.is_job there));
      })

      -- and where no job is ready nobody does
      idle : Idle t → row_at rows t ≡ None
      idle none = (each_tick_follows_order rows t).to_nobody.1 (nobody none)
        where
          nobody : Idle t → IsIdle rows t
          nobody none k r =
              let other : HasJob jobs place k = lists.job k r.within in
              let R : ℕ → Type 0 = IsReady rows t in
              true≢false (sym (ready_from other.task other.job other.is_job (subst R (sym other.there) r)) ∙ none.none other.task other.job other.is_job)

      tick_is : (i j : ℕ) → IsJob jobs i j → gain_of (alone_turn least_task jobs (had t) t) (first_job t i) i j ≡ tick_for (row_at rows t) (place i j)
      tick_is i j is = elim (given_or_idle t) [
        | inr none ↦ gain_none (alone_turn least_task jobs (had t) t) (first_job t i) i j none.turn ∙ sym (tick_for_nobody (row_at rows t) (place i j) (idle none))
        | inl g ↦
            let turn : Option ℕ = alone_turn least_task jobs (had t) t in
            let its : g.task ≡ i → first_job t i ≡ Some g.job = λ e. (ap (first_job t) (sym e) ∙ g.first) in
            let another : (g.task ≡ i → g.job ≡ j → ⊥) → gain_of turn (first_job t i) i j ≡ tick_for (row_at rows t) (place i j) =
            λ other. (gain_other turn (first_job t i) i j g.task g.job g.turn its other
            ∙ sym (tick_for_other (row_at rows t) (place g.task g.job) (place i j) (gets g) (λ e. other (same_task g.task g.job i j g.is_job is e) (same_job g.task g.job i j g.is_job is e)))) in
            elim (cases_eq g.task i) [
              | inr other ↦ another (λ e one. other e)
              | inl e ↦ elim (cases_eq g.job j) [
                | inr other ↦ another (λ again one. other one)
                | inl one ↦
                    let there : place g.task g.job ≡ place i j = ap (λ x. place x g.job) e ∙ ap (λ y. place i y) one in
                    gain_same turn (first_job t i) i j g.task g.job g.turn (its e) e one ∙ sym (tick_for_same (row_at rows t) (place i j) (gets g ∙ ap (λ k. Some k) there))
              ]
            ]
      ]

      gives_at : (i j : ℕ) → IsJob jobs i j → AloneGives least_task jobs t i j ↔ (row_at rows t ≡ Some (place i j))
      gives_at i j is = elim (given_or_idle t) [
        | inr none ↦ (
          λ gives. absurd (none_some (sym none.turn ∙ gives.task)),
          λ some. absurd (none_some (sym (idle none) ∙ some)),
        )
        | inl g ↦ (
          λ gives.
              let e : g.task ≡ i = one_some (sym g.turn ∙ gives.task) in
              let one : g.job ≡ j = one_some (sym g.first ∙ ap (first_job t) e ∙ gives.job) in
              gets g ∙ ap (λ k. Some k) (ap (λ x. place x g.job) e ∙ ap (λ y. place i y) one),
          λ some.
              let there : place g.task g.job ≡ place i j = one_some (sym (gets g) ∙ some) in
              let e : g.task ≡ i = same_task g.task g.job i j g.is_job is there in
              let one : g.job ≡ j = same_job g.task g.job i j g.is_job is there in
              record {
                task = g.turn ∙ ap (λ x. Some x) e;
                job = ap (first_job t) (sym e) ∙ g.first ∙ ap (λ x. Some x) one;
              },
        )
      ]

      rests_at : AloneRests least_task jobs t ↔ (row_at rows t ≡ None)
      rests_at = elim (given_or_idle t) [
        | inr none ↦ (λ _. idle none, λ _. none.turn)
        | inl g ↦ (λ rests. absurd (none_some (sym rests ∙ g.turn)), λ none. absurd (none_some (sym none ∙ gets g)))
      ]

    one_more : (t i j : ℕ) → had (suc t) i j ≡ had t i j + gain_of (alone_turn least_task jobs (had t) t) (first_job t i) i j
    unfolding alone_had
    one_more t i j = refl

    none_at_first : (i j : ℕ) → had 0 i j ≡ 0
    unfolding alone_had
    none_at_first i j = refl

    all_same : (t : ℕ) → Same t
    all_same zero i j is = none_at_first i j ∙ sym (had_none rows (place i j))
    all_same (suc t) i j is =
        omega (arith, one_more t i j, had_more rows t (place i j), all_same t i j is, tick_is t (all_same t) i j is)

    is_plain : IsPlainSchedule rows jobs place
    is_plain = record {
      gives = λ t i j is. gives_at t (all_same t) i j is;
      rests = λ t. rests_at t (all_same t);
      had = λ t i j is. all_same t i j is;
      ends = λ i j e is.
          let row = lists.row i j is in
          let both = gives_at (e - 1) (all_same (e - 1)) i j is in (
            λ ends. record { later = ends.later; last = both.0 ends.last; whole = omega (arith, all_same e i j is, ends.whole, row.ticks) },
            λ ends. record { later = ends.later; last = both.1 ends.last; whole = omega (arith, all_same e i j is, ends.whole, row.ticks) },
          );
    }

pub least_task_is_plain : LeastTaskIsPlain
least_task_is_plain rows jobs place lists = is_plain jobs rows place lists
