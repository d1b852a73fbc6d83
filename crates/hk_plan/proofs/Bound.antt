-- That each row of a task ends within the task's response time.
use Rattle.std.proofs.Common.{◌≡◌, ℕ, zero, suc, ◌+◌, ◌-◌, ◌<◌, ◌≤◌, Bool, true, nat_eq, List, Some, length, take, refl, sym, ◌∙◌, subst, arith, inl, inr}
use Rattle.std.proofs.Math.Nat.{mul-le-mul_right}
use Rattle.std.proofs.lemmas.Bool.{cases_lt, cases_eq, cases_Bool, and_from, or_left, or_right, eq-eqb, eqb-true, lt-ltb, le-ltb, le-leb}
use Rattle.std.proofs.lemmas.List.Sums.{sum_by_more}
use Rattle.hk_rta.specs.declared.Timing.{Timing}
use Rattle.hk_rta.specs.Demand.{demand_of, demand, no_timing, timing_at, cost_at, period_at, jitter_at}
use Rattle.hk_plan.specs.declared.Row.{Row}
use Rattle.hk_plan.specs.Alone.{task_of, arrival_of, ticks_of, had_after, row_at, IsReady, EndsAt}
use Rattle.hk_plan.specs.Bounds.{KeepsTiming, ResponseBounds}
use Rattle.hk_plan.proofs.Arrivals.{falls_in, falls_from, readies-le, Apart, InJitter}
use Rattle.hk_plan.proofs.Had.{had_more, had_none, had-le-had, had-le-ticks, gets_first, tick_for_cases}
use Rattle.hk_plan.proofs.Interval.{Getter, getter, Quiet, LesserReady, Since, last_quiet, GoesTo, interval-le-done, is_lesser, counts, done-le}
use Rattle.hk_plan.proofs.Sums.{total, pick, total-le, total_zero, total-add, total-le-times}

-- ---- the work of the lesser tasks in a window

-- the rows of a task that arrive in the window of w ticks from s
abbrev pub is_of : List Row → ℕ → ℕ → ℕ → ℕ → Bool
is_of rows j s w l = falls_in (λ k. nat_eq (task_of rows k) j) (arrival_of rows) s w l

-- what a task's rows that become ready in a window take together
pub task_work-le : (rows : List Row) (origin : ℕ → ℕ) (j s w : ℕ) (timing : Timing) → KeepsTiming rows origin j timing
    → total (λ l. pick (is_of rows j s w l) (ticks_of rows l)) (length rows) ≤ demand_of w timing
task_work-le rows origin j s w timing keeps =
    let mine : ℕ → Bool = λ k. nat_eq (task_of rows k) j in
    let apart : Apart mine origin timing.period (length rows) = record {
      some = keeps.period_some;
      apart = λ a b less within first second. keeps.apart a b less within (eqb-true _ _ first) (eqb-true _ _ second);
    } in
    let soon : InJitter mine origin (arrival_of rows) timing.jitter (length rows) = record {
      from_origin = λ k within own. keeps.from_origin k within (eqb-true _ _ own);
      in_jitter = λ k within own. keeps.in_jitter k within (eqb-true _ _ own);
    } in
    let few = readies-le mine origin (arrival_of rows) timing.jitter timing.period (length rows) s w (length rows) apart soon (omega arith) in
    let each = total-le-times (λ l. pick (is_of rows j s w l) (ticks_of rows l)) (λ l. pick (is_of rows j s w l) 1) timing.cost (length rows)
    (λ l below. elim (cases_Bool (is_of rows j s w l)) [
      | inl e ↦ rw e (omega (arith, keeps.ticks_few l below (eqb-true _ _ (falls_from mine (arrival_of rows) s w l e).meant)))
      | inr e ↦ rw e (omega arith)
    ]) in
    omega (arith, each, mul-le-mul_right timing.cost few)

-- a row of a task up to i is of a lesser task or of task i
lesser_or_own : (rows : List Row) (i s w l : ℕ) → pick (is_lesser rows (suc i) s w l) (ticks_of rows l) ≤ pick (is_lesser rows i s w l) (ticks_of rows l) + pick (is_of rows i s w l) (ticks_of rows l)
lesser_or_own rows i s w l =
    elim (cases_lt (task_of rows l) i) [
      | inl less ↦ rw (lt-ltb (task_of rows l) (suc i) (omega arith), lt-ltb (task_of rows l) i less) (omega arith)
      | inr above ↦ elim (cases_eq (task_of rows l) i) [
        | inl same ↦ rw (lt-ltb (task_of rows l) (suc i) (omega arith), eq-eqb (task_of rows l) i same) (omega arith)
        | inr other ↦ rw (le-ltb (task_of rows l) (suc i) (omega arith)) (omega arith)
      ]
    ]

-- what the rows of the lesser tasks that arrive in a window take together
pub lesser_work-le : (rows : List Row) (origin : ℕ → ℕ) (timings : List Timing) (i s w : ℕ) → i ≤ length timings
    → ((j : ℕ) → j < i → KeepsTiming rows origin j (timing_at timings j))
    → total (λ l. pick (is_lesser rows i s w l) (ticks_of rows l)) (length rows) ≤ demand (take i timings) w
lesser_work-le rows origin timings zero s w fits keeps =
    omega (
      arith,
      total_zero (λ l. pick (is_lesser rows 0 s w l) (ticks_of rows l)) (length rows)
          (λ l below. rw (le-ltb (task_of rows l) 0 (omega arith)) refl),
    )
lesser_work-le rows origin timings (suc i) s w fits keeps =
    let before = lesser_work-le rows origin timings i s w (omega arith) (λ j below. keeps j (omega arith)) in
    let own = task_work-le rows origin i s w (timing_at timings i) (keeps i (omega arith)) in
    let split = total-le (λ l. pick (is_lesser rows (suc i) s w l) (ticks_of rows l))
    (λ l. pick (is_lesser rows i s w l) (ticks_of rows l) + pick (is_of rows i s w l) (ticks_of rows l)) (length rows)
    (λ l below. lesser_or_own rows i s w l) in
    let joined = total-add (λ l. pick (is_lesser rows i s w l) (ticks_of rows l)) (λ l. pick (is_of rows i s w l) (ticks_of rows l)) (length rows) in
    let more : demand (take (suc i) timings) w ≡ demand (take i timings) w + demand_of w (timing_at timings i) =
    let P : ℕ → Type 0 = λ n. demand (take n timings) w ≡ demand (take i timings) w + demand_of w (timing_at timings i) in
    let next : i + 1 ≡ suc i = omega arith in
    subst P next (sum_by_more (demand_of w) timings i no_timing (omega arith)) in
    omega (arith, before, own, split, joined, more)

-- ---- one row

-- each row of the task at a place below k has had all its ticks the bound after it became ready
abbrev pub EarlierEnded : List Row → ℕ → ℕ → ℕ → Type 0
EarlierEnded rows i r k = (j : ℕ) → j < k → task_of rows j ≡ i → had_after rows (arrival_of rows j + r) j ≡ ticks_of rows j

-- the row at l is of a lesser task and arrives in the window
lesser_counts : (rows : List Row) (i s w k l : ℕ) → task_of rows l < i → s ≤ arrival_of rows l → arrival_of rows l < s + w → counts rows i s w k l ≡ true
lesser_counts rows i s w k l lesser from before =
    or_left (is_lesser rows i s w l) (nat_eq l k)
    (and_from _ _ (lt-ltb _ _ lesser) (and_from _ _ (le-leb _ _ from) (lt-ltb _ _ before)))

-- a ready row of a lesser task arrived after the quiet moment
lesser_since : (rows : List Row) (i s u l : ℕ) → Quiet rows i s → s ≤ u → task_of rows l < i → IsReady rows u l → s ≤ arrival_of rows l
lesser_since rows i s u l quiet from lesser ready =
    elim (cases_lt (arrival_of rows l) s) [
      | inr fine ↦ fine
      | inl before ↦ absurd (omega (arith, quiet l ready.within lesser before, had-le-had rows s u l from, ready.unended))
    ]

-- as long as the row at k isn't ended, the ticks of the interval go to it and to rows of lesser tasks that arrive there
goes_to : (rows : List Row) (origin : ℕ → ℕ) (timings : List Timing) (i r k : ℕ) → (since : Since rows i (arrival_of rows k)) → KeepsTiming rows origin i (timing_at timings i)
    → r + jitter_at timings i ≤ period_at timings i → k < length rows → task_of rows k ≡ i → EarlierEnded rows i r k
    → had_after rows (arrival_of rows k + r) k < ticks_of rows k
    → (u : ℕ) → since.start ≤ u → u < since.start + r → GoesTo rows (counts rows i since.start r k) u
goes_to rows origin timings i r k since keeps short within own earlier unended u from below =
    let lesser_gets : (l : ℕ) → row_at rows u ≡ Some l → task_of rows l < i → IsReady rows u l → GoesTo rows (counts rows i since.start r k) u =
    λ l gets lesser ready. record {
      place = l;
      gets = gets;
      passes = lesser_counts rows i since.start r k l lesser (lesser_since rows i since.start u l since.quiet from lesser ready) (omega (arith, ready.arrived));
    } in
    elim (cases_lt u (arrival_of rows k)) [
      | inl before ↦
          let busy : LesserReady rows i u = since.busy u from before in
          let g : Getter rows u = getter rows u busy.place busy.ready in
          elim (g.first.first busy.place busy.ready) [
            | inl less ↦ lesser_gets g.place g.gets (omega (arith, less, busy.lesser)) g.first.ready
            | inr same ↦ lesser_gets g.place g.gets (omega (arith, same.0, busy.lesser)) g.first.ready
          ]
      | inr arrived ↦
          let ready : IsReady rows u k = record {
            within = within;
            arrived = arrived;
            unended = omega (arith, unended, had-le-had rows u (arrival_of rows k + r) k (omega (arith, since.before)));
          } in
          let g : Getter rows u = getter rows u k ready in
          elim (g.first.first k ready) [
            | inl less ↦ lesser_gets g.place g.gets (omega (arith, less, own)) g.first.ready
            | inr same ↦ elim (cases_eq g.place k) [
              | inl e ↦ record { place = g.place; gets = g.gets; passes = or_right (is_lesser rows i since.start r g.place) (nat_eq g.place k) (eq-eqb g.place k e) }
              | inr other ↦
                  let place_below : g.place < k = omega (arith, same.1) in
                  let own_task : task_of rows g.place ≡ i = same.0 ∙ own in
                  let ended = earlier g.place place_below own_task in
                  let before = keeps.apart g.place k place_below within own_task own in
                  let late = keeps.in_jitter g.place g.first.ready.within own_task in
                  let from_there = keeps.from_origin k within own in
                  absurd (omega (
                    arith,
                    ended,
                    g.first.ready.unended,
                    had-le-had rows (arrival_of rows g.place + r) u g.place (omega (arith, before, late, from_there, short, arrived)),
                  ))
            ]
          ]
    ]

-- a row has had all its ticks the bound after it became ready, if the earlier ones of its task have
pub row_ended : (rows : List Row) (origin : ℕ → ℕ) (timings : List Timing) (i r k : ℕ) → i < length timings
    → ((j : ℕ) → j ≤ i → KeepsTiming rows origin j (timing_at timings j))
    → r + jitter_at timings i ≤ period_at timings i → cost_at timings i + demand (take i timings) r ≤ r
    → k < length rows → task_of rows k ≡ i → EarlierEnded rows i r k
    → had_after rows (arrival_of rows k + r) k ≡ ticks_of rows k
row_ended rows origin timings i r k listed keeps short enough within own earlier =
    elim (cases_lt (had_after rows (arrival_of rows k + r) k) (ticks_of rows k)) [
      | inr full ↦ omega (arith, full, had-le-ticks rows (arrival_of rows k + r) k)
      | inl unended ↦
          let since : Since rows i (arrival_of rows k) = last_quiet rows i (arrival_of rows k) in
          let all = interval-le-done rows (counts rows i since.start r k) since.start r
          (goes_to rows origin timings i r k since (keeps i (omega arith)) short within own earlier unended) in
          let split = done-le rows i since.start r k (since.start + r) within in
          let lesser = lesser_work-le rows origin timings i since.start r (omega arith) (λ j below. keeps j (omega arith)) in
          let so_far = had-le-had rows (since.start + r) (arrival_of rows k + r) k (omega (arith, since.before)) in
          let few = (keeps i (omega arith)).ticks_few k within own in
          absurd (omega (arith, all, split, lesser, so_far, few, unended, enough))
    ]

-- all earlier rows of the task have
pub earlier_ended : (rows : List Row) (origin : ℕ → ℕ) (timings : List Timing) (i r : ℕ) → i < length timings
    → ((j : ℕ) → j ≤ i → KeepsTiming rows origin j (timing_at timings j))
    → r + jitter_at timings i ≤ period_at timings i → cost_at timings i + demand (take i timings) r ≤ r
    → (k : ℕ) → k ≤ length rows → EarlierEnded rows i r k
earlier_ended rows origin timings i r listed keeps short enough zero fits = λ j below own. absurd (omega arith)
earlier_ended rows origin timings i r listed keeps short enough (suc k) fits =
    let before : EarlierEnded rows i r k = earlier_ended rows origin timings i r listed keeps short enough k (omega arith) in
    λ j below own. elim (cases_eq k j) [
      | inl same ↦
          let P : ℕ → Type 0 = λ l. task_of rows l ≡ i → had_after rows (arrival_of rows l + r) l ≡ ticks_of rows l in
          let there : P j = subst P same (λ mine. row_ended rows origin timings i r k listed keeps short enough (omega arith) mine before) in
          there own
      | inr other ↦ before j (omega arith) own
    ]

-- a row that has had all its ticks has an end
pub has_end : (rows : List Row) (k t : ℕ) → 1 ≤ ticks_of rows k → had_after rows t k ≡ ticks_of rows k → (e : ℕ) × EndsAt rows k e
has_end rows k zero some whole = absurd (omega (arith, had_none rows k))
has_end rows k (suc t) some whole =
    elim (tick_for_cases (row_at rows t) k) [
      | inl gets ↦
          let back : suc t - 1 ≡ t = omega arith in
          let P : ℕ → Type 0 = λ u. row_at rows u ≡ Some k in
          (suc t, record { later = omega arith; last = subst P (sym back) gets; whole = whole })
      | inr other ↦ has_end rows k t some (omega (arith, had_more rows t k, other, whole))
    ]

-- it has no end later than a moment at which it has had all its ticks
pub end-le : (rows : List Row) (k t e : ℕ) → had_after rows t k ≡ ticks_of rows k → EndsAt rows k e → e ≤ t
end-le rows k t e whole ends =
    elim (cases_lt t e) [
      | inr fine ↦ fine
      | inl later ↦ absurd (omega (arith, whole, (gets_first rows (e - 1) k ends.last).ready.unended, had-le-had rows t (e - 1) k (omega arith)))
    ]

-- the law
pub response_bounds : ResponseBounds
response_bounds rows origin timings i response listed keeps constrained is_response in_time k within own =
    let r : ℕ = response - jitter_at timings i in
    let both : r + jitter_at timings i ≡ response = omega (arith, is_response.after_jitter) in
    let short : r + jitter_at timings i ≤ period_at timings i = omega (arith, both, constrained, in_time) in
    let enough : cost_at timings i + demand (take i timings) r ≤ r = omega (arith, is_response.least.holds.balanced) in
    let earlier : EarlierEnded rows i r k = earlier_ended rows origin timings i r listed keeps short enough k (omega arith) in
    let ready_whole : had_after rows (arrival_of rows k + r) k ≡ ticks_of rows k = row_ended rows origin timings i r k listed keeps short enough within own earlier in
    let late = (keeps i (omega arith)).in_jitter k within own in
    let later : arrival_of rows k + r ≤ origin k + response = omega (arith, late, both) in
    let whole : had_after rows (origin k + response) k ≡ ticks_of rows k =
    omega (arith, ready_whole, had-le-had rows (arrival_of rows k + r) (origin k + response) k later, had-le-ticks rows (origin k + response) k) in
    record {
      whole = λ t le. omega (arith, whole, had-le-had rows (origin k + response) t k le, had-le-ticks rows t k);
      ends = has_end rows k (origin k + response) ((keeps i (omega arith)).ticks_some k within own) whole;
      bounded = λ e ends. end-le rows k (origin k + response) e whole ends;
    }
