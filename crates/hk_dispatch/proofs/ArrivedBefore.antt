-- The jobs of a high task that have become ready before a moment have arrived before it.
use Rattle.std.proofs.Common.{◌≡◌, ℕ, zero, suc, ◌+◌, ◌-◌, ◌*◌, ◌^◌, ◌<◌, ◌≤◌, true, List, [], ◌∷◌, length, Option, Some, None, refl, arith, inl, inr}
use Rattle.std.proofs.lemmas.Bool.{cases_Bool, lt-ltb}
use Rattle.std.specs.Prelude.{nat_lt, filter}
use Rattle.hk_rta.specs.Demand.{starts_in}
use Rattle.hk_plan.proofs.Arrivals.{starts_above}
use Rattle.hk_plan.proofs.Sums.{total, total-le, sum_is_total}
use Rattle.hk_sheet.specs.declared.arrivals.Arrivals.{Arrivals}
use Rattle.hk_sheet.specs.declared.arrivals.Arrivals.TheVariants.{Every}
use Rattle.hk_sheet.specs.declared.arrivals.Arrivals.TheVariants as arrivals
use Rattle.hk_sheet.specs.declared.sheet.High.{High}
use Rattle.hk_sheet.specs.declared.sheet.Sheet.{Sheet}
use Rattle.hk_sheet.specs.Arrivals.{in_word, arrival_of}
use Rattle.hk_sheet.specs.Valid.{IsSheet, IsHigh, AreArrivals}
use Rattle.hk_dispatch.specs.HighJobs.{arrivals_before, high_arrivals_before}
use Rattle.hk_dispatch.specs.Tasks.{high_at, no_high}
use Rattle.hk_dispatch.proofs.Counters.{ready_before}
use Rattle.hk_dispatch.proofs.ReadyCounts.{below_ready, arrival_by}
use Rattle.hk_dispatch.proofs.ReadyMoments.{high_right}

-- a tick that fits a word is that tick
in_word_is : (x r : ℕ) → in_word x ≡ Some r → x ≡ r
in_word_is x r e = elim (cases_Bool (nat_lt x (2 ^ 64))) [
  | inl yes' ↦ (let f : ◌≡◌ {A = Option ℕ} (Some x) (Some r) = rw yes' at e in cc)
  | inr no' ↦ absurd (let f : ◌≡◌ {A = Option ℕ} None (Some r) = rw no' at e in cc)
]

-- each of the first n jobs arrives before a moment
abbrev Arrive : Arrivals → (n moment : ℕ) → Type 0
Arrive a n moment = (job : ℕ) → job < n → (at : ℕ) × (arrival_of a job ≡ Some at) × (at < moment)

listed_few : (l : List ℕ) (n t : ℕ) → Arrive (arrivals.List l) n t → n ≤ length (filter (λ tick. nat_lt tick t) l)
listed_few l zero t each = omega arith
listed_few [] (suc n) t each = absurd (let first = each 0 (omega arith) in let e : ◌≡◌ {A = Option ℕ} None (Some first.0) = first.1 in cc)
listed_few (x ∷ l) (suc n) t each =
    let first = each 0 (omega arith) in
    let same : x ≡ first.0 = (let e : ◌≡◌ {A = Option ℕ} (Some x) (Some first.0) = first.1 in cc) in
    let early = first.2 in
    let passes : nat_lt x t ≡ true = lt-ltb x t (omega (arith, same, early)) in
    let rest = listed_few l n t (λ job lt. each (suc job) (omega (arith, lt))) in
    let more : length (filter (λ tick. nat_lt tick t) (x ∷ l)) ≡ suc (length (filter (λ tick. nat_lt tick t) l)) = rw passes refl in
    omega (arith, more, rest)

every_few : (first step n t : ℕ) → 0 < step → Arrive (Every first step) n t → n ≤ starts_in (t - first) step
every_few first step zero t some each = omega arith
every_few first step (suc n) t some each =
    let last = each n (omega arith) in
    let at = in_word_is (first + n * step) last.0 last.1 in
    let early = last.2 in
    let above = starts_above n step (t - first) some (omega (arith, at, early)) in
    omega (arith, above)

arrived_few : (ticks gap : ℕ) (a : Arrivals) (n t : ℕ) → 0 < gap → AreArrivals ticks gap a → Arrive a n t → n ≤ arrivals_before t a
arrived_few ticks gap (Every first step) n t some h each = every_few first step n t (let wide = h.2 in omega (arith, some, wide)) each
arrived_few ticks gap (arrivals.List l) n t some h each = listed_few l n t each

module _ (sheet : Sheet) (readable : IsSheet sheet) where
  ready_arrived : (task : High) → IsHigh sheet.ticks sheet.heap task → (t : ℕ) → ready_before task t ≤ arrivals_before t task.arrivals
  ready_arrived task h t = arrived_few sheet.ticks task.timing.period task.arrivals (ready_before task t) t (let some = h.timing.period.at_least in omega (arith, some)) h.arrivals
      (λ job lt.
      let r = below_ready task t job lt in
      let a = arrival_by sheet task h job r.0 r.1 in
      let early = a.2 in
      let before = r.2 in
      (a.0, a.1, omega (arith, early, before)))

  -- and so of all high tasks together
  pub all_ready_arrived : (t : ℕ) → total (λ seat. ready_before (high_at sheet seat) t) (length sheet.high) ≤ high_arrivals_before sheet t
  all_ready_arrived t = omega (
    arith,
    total-le (λ seat. ready_before (high_at sheet seat) t) (λ seat. arrivals_before t (high_at sheet seat).arrivals) (length sheet.high)
        (λ seat high. ready_arrived (high_at sheet seat) (high_right sheet readable seat high) t),
    sum_is_total (λ (task : High). arrivals_before t task.arrivals) sheet.high no_high,
  )
