-- Each job ends within its task's response time, which has room for one section that holds it up.
use Rattle.std.proofs.Common.{◌≡◌, ℕ, zero, suc, ◌+◌, ◌-◌, ◌<◌, ◌≤◌, ◌⊎◌, nat_lt, List, Option, Some, None, length, take, refl, sym, ap, subst, arith, inl, inr}
use Rattle.std.proofs.Math.Nat.{mul-le-mul_right}
use Rattle.std.proofs.lemmas.Bool.{cases_lt, cases_eq, cases_Bool, and_from, lt-ltb, le-ltb, le-leb}
use Rattle.std.proofs.lemmas.Grind.{div_ceil_times}
use Rattle.std.proofs.lemmas.List.Sums.{sum_by_more}
use Rattle.hk_rta.specs.declared.Timing.{Timing}
use Rattle.hk_rta.specs.Demand.{starts_in, demand_of, demand, no_timing, timing_at, cost_at, period_at}
use Rattle.hk_ceiling.specs.Bounds.{AreStill, brought}
use Rattle.hk_ceiling.proofs.Still.{brought_is, still_demand}
use Rattle.hk_plan.specs.declared.Row.{Row}
use Rattle.hk_plan.specs.Alone.{task_of, arrival_of, ticks_of}
use Rattle.hk_plan.specs.Bounds.{KeepsTiming}
use Rattle.hk_plan.proofs.Had.{tick_for_same, tick_for_cases}
use Rattle.hk_plan.proofs.Interval.{is_lesser}
use Rattle.hk_plan.proofs.Bound.{lesser_work-le}
use Rattle.hk_plan.proofs.Sums.{total, pick, total_zero, total-add, total_more}
use Rattle.hk_ceiling.specs.declared.ceilings.TaskSection.{TaskSection}
use Rattle.hk_ceiling.specs.Ceilings.{block, AreApart}
use Rattle.hk_ceiling.proofs.Scheduled.{IsReady, ByCeilings, AreOrdered, ResponseBounds}
use Rattle.hk_ceiling.proofs.Levels.{block-le}
use Rattle.hk_ceiling.proofs.Nested.{had-le-had, had-le-ticks}
use Rattle.hk_ceiling.proofs.HeldUp.{SomeWaits, Waits, InWindow, in_window, one_blocker}

-- a sum with one term at most
total_one : (f : ℕ → ℕ) (c n : ℕ) → ((k : ℕ) → k < n → f k ≤ c) → ((j k : ℕ) → j < n → k < n → 0 < f j → 0 < f k → j ≡ k) → total f n ≤ c
total_one f c zero each one = omega arith
total_one f c (suc n) each one = elim (cases_lt 0 (f n)) [
  | inr none ↦ omega (arith, none, total_one f c n (λ k lt. each k (omega arith)) (λ j k lj lk. one j k (omega arith) (omega arith)))
  | inl some ↦
      let rest : total f n ≡ 0 = total_zero f n (λ k lt. elim (cases_lt 0 (f k)) [
        | inr none ↦ omega (arith, none)
        | inl other ↦ absurd (omega (arith, lt, one k n (omega arith) (omega arith) other some))
      ]) in
      omega (arith, rest, each n (omega arith))
]

-- a window that is at most a period holds one arrival
starts_one : (w period : ℕ) → 0 < period → w ≤ period → starts_in w period ≤ 1
starts_one w period some short = elim (cases_lt 1 (starts_in w period)) [
  | inr fine ↦ fine
  | inl more ↦
      let two : 2 ≤ starts_in w period = omega (arith, more) in
      absurd (omega (arith, div_ceil_times w period some, mul-le-mul_right period two, short))
]

module _ (rows : List Row) (sections : List TaskSection) (stop : ℕ) (got : ℕ → Option ℕ) (had : ℕ → ℕ → ℕ)
    (run : ByCeilings rows sections stop got had) (apart : AreApart sections) (ordered : AreOrdered rows) where
  grows : (t u k : ℕ) → t ≤ u → u ≤ stop → had t k ≤ had u k
  grows t u k le fits = had-le-had rows sections stop got had run apart ordered t u k le fits

  -- ---- the last quiet moment

  -- a row of a task up to i that arrived before t isn't ended at t
  pub record Pending (i t : ℕ) : Type 0 where
    pub place : ℕ
    pub within : place < length rows
    pub its : task_of rows place ≤ i
    pub arrived : arrival_of rows place < t
    pub unended : had t place < ticks_of rows place

  abbrev pub QuietBelow : ℕ → ℕ → ℕ → Type 0
  QuietBelow i t n = (l : ℕ) → l < n → task_of rows l ≤ i → arrival_of rows l < t → ticks_of rows l ≤ had t l

  pending_or_quiet : (i t n : ℕ) → n ≤ length rows → Pending i t ⊎ QuietBelow i t n
  pending_or_quiet i t zero fits = inr (λ l below its arrived. absurd (omega arith))
  pending_or_quiet i t (suc n) fits = elim (pending_or_quiet i t n (omega arith)) [
    | inl p ↦ inl p
    | inr quiet ↦
        let keep : (task_of rows n ≤ i → arrival_of rows n < t → ticks_of rows n ≤ had t n) → QuietBelow i t (suc n) =
        λ here l below its arrived. elim (cases_eq n l) [
          | inl same ↦
              let P : ℕ → Type 0 = λ k. task_of rows k ≤ i → arrival_of rows k < t → ticks_of rows k ≤ had t k in
              let there : P l = subst P same here in
              there its arrived
          | inr other ↦ quiet l (omega (arith, below, other)) its arrived
        ] in
        elim (cases_lt i (task_of rows n)) [
          | inl later ↦ inr (keep (λ a b. absurd (omega (arith, a, later))))
          | inr its ↦ elim (cases_lt (arrival_of rows n) t) [
            | inr not_yet ↦ inr (keep (λ a b. absurd (omega (arith, b, not_yet))))
            | inl arrived ↦ elim (cases_lt (had t n) (ticks_of rows n)) [
              | inr ended ↦ inr (keep (λ a b. ended))
              | inl unended ↦ inl (record { place = n; within = omega arith; its = its; arrived = arrived; unended = unended })
            ]
          ]
        ]
  ]

  pub record Since (i a : ℕ) : Type 0 where
    pub start : ℕ
    pub before : start ≤ a
    pub quiet : QuietBelow i start (length rows)
    pub busy : (u : ℕ) → start < u → u ≤ a → Pending i u

  last_quiet : (i a : ℕ) → Since i a
  last_quiet i zero = record {
    start = 0;
    before = omega arith;
    quiet = λ l within its arrived. absurd (omega arith);
    busy = λ u from below. absurd (omega arith);
  }
  last_quiet i (suc a) = elim (pending_or_quiet i (suc a) (length rows) (omega arith)) [
    | inr quiet ↦ record { start = suc a; before = omega arith; quiet = quiet; busy = λ u from below. absurd (omega arith) }
    | inl p ↦
        let since : Since i a = last_quiet i a in
        record {
          start = since.start;
          before = omega (arith, since.before);
          quiet = since.quiet;
          busy = λ u from below. elim (cases_eq (suc a) u) [
            | inl same ↦ let P : ℕ → Type 0 = Pending i in subst P same p
            | inr other ↦ since.busy u from (omega (arith, below, other))
          ];
        }
  ]

  -- who is pending after a tick was waiting before it
  pending_waits : (i v : ℕ) → v < stop → Pending i (suc v) → SomeWaits rows sections stop got had run apart ordered i v
  pending_waits i v lt p = record {
    place = p.place;
    its = p.its;
    ready = record { within = p.within; arrived = omega (arith, p.arrived); unended = omega (arith, p.unended, grows v (suc v) p.place (omega arith) (omega (arith, lt))) };
  }

  -- ---- the ticks of an interval

  abbrev gained : ℕ → ℕ → ℕ → ℕ
  gained s t l = had t l - had s l

  someone : (t : ℕ) → t < stop → (l : ℕ) → IsReady rows (had t) t l → (o : Option ℕ) → got t ≡ o → (k : ℕ) × (got t ≡ Some k)
  someone t lt l ready None e = absurd (run.idle t l lt e ready)
  someone t lt l ready (Some k) e = (k, e)

  -- as many ticks as an interval has
  interval-le : (i s x : ℕ) → s + x ≤ stop → Waits rows sections stop got had run apart ordered i s x → x ≤ total (gained s (s + x)) (length rows)
  interval-le i s zero fits waits = omega arith
  interval-le i s (suc x) fits waits =
      let e : s + suc x ≡ suc (s + x) = omega arith in
      let before = interval-le i s x (omega arith) (λ v from below. waits v from (omega arith)) in
      let w = waits (s + x) (omega arith) (omega arith) in
      let g = someone (s + x) (omega arith) w.place w.ready (got (s + x)) refl in
      let first = run.its_first (s + x) g.0 (omega arith) g.1 in
      let more = total_more (gained s (s + x)) (gained s (suc (s + x))) g.0 (length rows) first.ready.within
      (λ k below. omega (arith, grows (s + x) (suc (s + x)) k (omega arith) (omega arith)))
      (omega (arith, run.more (s + x) g.0 (omega arith), tick_for_same (got (s + x)) g.0 g.1, grows s (s + x) g.0 (omega arith) (omega arith))) in
      let P : ℕ → Type 0 = λ u. suc x ≤ total (gained s u) (length rows) in
      subst P (sym e) (omega (arith, before, more))

  -- the last tick of an interval that a row gets
  record LastGain (s x l : ℕ) : Type 0 where
    pub tick : ℕ
    pub from : s ≤ tick
    pub below : tick < s + x
    pub gets : got tick ≡ Some l
    pub whole : had (s + x) l ≡ had tick l + 1

  last_gain : (s x l : ℕ) → s + x ≤ stop → had s l < had (s + x) l → LastGain s x l
  last_gain s zero l fits more =
      let e : s + 0 ≡ s = omega arith in
      absurd (omega (arith, more, ap (λ v. had v l) e))
  last_gain s (suc x) l fits more =
      let e : s + suc x ≡ suc (s + x) = omega arith in
      let same = ap (λ v. had v l) e in
      let step = run.more (s + x) l (omega arith) in
      elim (tick_for_cases (got (s + x)) l) [
        | inl mine ↦ record {
          tick = s + x;
          from = omega arith;
          below = omega arith;
          gets = mine;
          whole = omega (arith, same, step, tick_for_same (got (s + x)) l mine);
        }
        | inr other ↦
            let g = last_gain s x l (omega arith) (omega (arith, more, same, step, other)) in
            record { tick = g.tick; from = g.from; below = omega (arith, g.below); gets = g.gets; whole = omega (arith, g.whole, same, step, other) }
      ]

  -- ---- what the rows gain in a window

  module _ (i s r : ℕ) (fits : s + r ≤ stop) (waits : Waits rows sections stop got had run apart ordered i s r) (quiet : QuietBelow i s (length rows)) where
    -- the work of the rows of tasks up to i that arrive in the window
    abbrev work : ℕ → ℕ
    work l = pick (is_lesser rows (suc i) s r l) (ticks_of rows l)

    -- the ticks that rows of later tasks gain
    abbrev extra : ℕ → ℕ
    extra l = pick (nat_lt i (task_of rows l)) (gained s (s + r) l)

    comes : (l : ℕ) → l < length rows → task_of rows l ≤ i → had s l < ticks_of rows l → arrival_of rows l < s + r → work l ≡ ticks_of rows l
    comes l within its unended before = elim (cases_lt (arrival_of rows l) s) [
      | inl early ↦ absurd (omega (arith, quiet l within its early, unended))
      | inr from ↦ rw (and_from _ _ (lt-ltb (task_of rows l) (suc i) (omega (arith, its))) (and_from _ _ (le-leb s (arrival_of rows l) from) (lt-ltb (arrival_of rows l) (s + r) before))) refl
    ]

    gained-le : (l : ℕ) → gained s (s + r) l ≤ work l + extra l
    gained-le l = elim (cases_lt (had s l) (had (s + r) l)) [
      | inr nothing ↦ omega (arith, nothing)
      | inl some ↦ elim (cases_lt i (task_of rows l)) [
        | inl later ↦ rw (lt-ltb i (task_of rows l) later) (omega arith)
        | inr its ↦
            let g = last_gain s r l fits some in
            let first = (run.its_first g.tick l (omega (arith, g.below, fits)) g.gets).ready in
            let whole = comes l first.within its (omega (arith, first.unended, grows s g.tick l g.from (omega (arith, g.below, fits)))) (omega (arith, first.arrived, g.below)) in
            omega (arith, whole, had-le-ticks rows sections stop got had run apart ordered (s + r) l fits)
      ]
    ]

    window_of : (l : ℕ) → 0 < extra l → (g : LastGain s r l) × (InWindow rows sections stop got had run apart ordered i s g.tick l)
    window_of l some = elim (cases_lt i (task_of rows l)) [
      | inr its ↦
          let none : extra l ≡ 0 = rw (le-ltb i (task_of rows l) its) refl in
          absurd (omega (arith, some, none))
      | inl later ↦
          let all : extra l ≡ gained s (s + r) l = rw (lt-ltb i (task_of rows l) later) refl in
          let g = last_gain s r l fits (omega (arith, some, all)) in
          (g, in_window rows sections stop got had run apart ordered i s r g.tick l fits waits g.from g.below g.gets later)
    ]

    extra-le : (l : ℕ) → extra l ≤ block sections i
    extra-le l = elim (cases_lt 0 (extra l)) [
      | inr none ↦ omega (arith, none)
      | inl some ↦
          let w = window_of l some in
          let most = block-le sections i w.1.place w.1.blocks.inside.listed (omega (arith, w.1.blocks.later, w.1.blocks.inside.its)) w.1.blocks.high in
          let all : extra l ≤ gained s (s + r) l = elim (cases_Bool (nat_lt i (task_of rows l))) [ inl e ↦ rw e (omega arith) | inr e ↦ rw e (omega arith) ] in
          omega (arith, all, most, w.0.whole, w.1.inside.begun, w.1.blocks.inside.more)
    ]

    extras-le : total extra (length rows) ≤ block sections i
    extras-le = total_one extra (block sections i) (length rows) (λ k lt. extra-le k) (λ j k lj lk some other.
        let x = window_of j some in
        let y = window_of k other in
        one_blocker rows sections stop got had run apart ordered i s x.0.tick y.0.tick j k (omega (arith, fits)) x.1 y.1)

    -- the window has room for all that is pending
    pub window_ends : (timings : List Timing) → i < length timings → ((j : ℕ) → j ≤ i → KeepsTiming rows (arrival_of rows) j (timing_at timings j))
        → AreStill timings
        → r ≤ period_at timings i → cost_at timings i + block sections i + brought (take i timings) r ≤ r → Pending i (s + r) → ⊥
    window_ends timings listed keeps still short enough p =
        let worked = lesser_work-le rows (arrival_of rows) timings (suc i) s r (omega (arith, listed)) (λ j lt. keeps j (omega (arith, lt))) in
        let more : demand (take (suc i) timings) r ≡ demand (take i timings) r + demand_of r (timing_at timings i) =
        (let P : ℕ → Type 0 = λ n. demand (take n timings) r ≡ demand (take i timings) r + demand_of r (timing_at timings i) in
        let next : i + 1 ≡ suc i = omega arith in
        subst P next (sum_by_more (demand_of r) timings i no_timing listed)) in
        let own = still_demand (timing_at timings i) r (still i listed) in
        let same = brought_is timings r still i (omega (arith, listed)) in
        let one = mul-le-mul_right (cost_at timings i) (starts_one r (period_at timings i) (keeps i (omega arith)).period_some short) in
        let ticks = interval-le i s r fits waits in
        let p_whole = comes p.place p.within p.its (omega (arith, p.unended, grows s (s + r) p.place (omega arith) fits)) p.arrived in
        let less = total_more (gained s (s + r)) (λ l. work l + extra l) p.place (length rows) p.within (λ k below. gained-le k)
        (omega (arith, p_whole, p.unended)) in
        let split = total-add work extra (length rows) in
        omega (arith, ticks, less, split, extras-le, worked, more, one, enough, own, same)

  -- ---- the law

  pub response_bounds : ResponseBounds rows sections stop got had
  response_bounds timings i r listed keeps still constrained response in_time k within own fits =
      elim (cases_lt (had (arrival_of rows k + r) k) (ticks_of rows k)) [
        | inr ended ↦ omega (arith, ended, had-le-ticks rows sections stop got had run apart ordered (arrival_of rows k + r) k fits)
        | inl unended ↦
            let since : Since i (arrival_of rows k) = last_quiet i (arrival_of rows k) in
            let s : ℕ = since.start in
            let its : task_of rows k ≤ i = omega (arith, own) in
            let going : (v : ℕ) → v ≤ arrival_of rows k + r → had v k < ticks_of rows k =
            λ v le. (omega (arith, unended, grows v (arrival_of rows k + r) k le fits)) in
            let waits : Waits rows sections stop got had run apart ordered i s r = λ v from below.
            elim (cases_lt v (arrival_of rows k)) [
              | inl before ↦ pending_waits i v (omega (arith, before, fits)) (since.busy (suc v) (omega (arith, from)) (omega (arith, before)))
              | inr arrived ↦ record {
                place = k;
                its = its;
                ready = record { within = within; arrived = arrived; unended = going v (omega (arith, below, since.before)) };
              }
            ] in
            let pending : Pending i (s + r) = elim (cases_lt (arrival_of rows k) (s + r)) [
              | inl before ↦ record { place = k; within = within; its = its; arrived = before; unended = going (s + r) (omega (arith, since.before)) }
              | inr later ↦ since.busy (s + r) (omega (arith, response.holds.positive)) later
            ] in
            absurd (window_ends i s r (omega (arith, since.before, fits)) waits since.quiet timings listed keeps still (omega (arith, constrained, in_time)) (omega (arith, response.holds.balanced)) pending)
      ]
