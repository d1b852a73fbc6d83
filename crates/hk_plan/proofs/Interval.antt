-- The interval in which the ticks go to a row and to rows of lesser tasks alone.
use Rattle.std.proofs.Common.{◌≡◌, ℕ, zero, suc, ◌+◌, ◌<◌, ◌≤◌, ◌⊎◌, Bool, true, ◌||◌, nat_eq, nat_lt, List, Option, Some, None, MatchOption, length, refl, subst, arith, inl, inr, add-suc}
use Rattle.std.proofs.lemmas.Bool.{cases_lt, cases_eq, cases_Bool, ne_eqb}
use Rattle.hk_plan.specs.declared.Row.{Row}
use Rattle.hk_plan.specs.Alone.{task_of, arrival_of, ticks_of, had_after, row_at, IsReady, IsIdle, GoesFirst}
use Rattle.hk_plan.proofs.Arrivals.{falls_in}
use Rattle.hk_plan.proofs.Had.{had_more, had-le-had, had-le-ticks, each_tick_goes_first, gets_first, tick_for_same}
use Rattle.hk_plan.proofs.Sums.{total, pick, total_more, total_but_one, pick-le, pick-le-self}

-- ---- who gets a tick

pub record Getter (rows : List Row) (t : ℕ) : Type 0 where
  pub place : ℕ
  pub gets : row_at rows t ≡ Some place
  pub first : GoesFirst rows t place

getter_of : (rows : List Row) (t m : ℕ) (o : Option ℕ) → row_at rows t ≡ o → MatchOption o (IsIdle rows t) (GoesFirst rows t) → IsReady rows t m → Getter rows t
getter_of rows t m None e idle r = absurd (idle m r)
getter_of rows t m (Some l) e first r = record { place = l; gets = e; first = first }

-- where a row is ready some row gets the tick
pub getter : (rows : List Row) (t m : ℕ) → IsReady rows t m → Getter rows t
getter rows t m r = getter_of rows t m (row_at rows t) refl (each_tick_goes_first rows t) r

-- ---- the last quiet moment

-- a row of a lesser task that arrived before t and isn't ended at t
pub record Pending (rows : List Row) (i t : ℕ) : Type 0 where
  pub place : ℕ
  pub within : place < length rows
  pub lesser : task_of rows place < i
  pub arrived : arrival_of rows place < t
  pub unended : had_after rows t place < ticks_of rows place

-- each row of a lesser task at a place below n that arrived before t is ended at t
abbrev pub QuietBelow : List Row → ℕ → ℕ → ℕ → Type 0
QuietBelow rows i t n = (l : ℕ) → l < n → task_of rows l < i → arrival_of rows l < t → ticks_of rows l ≤ had_after rows t l

abbrev pub Quiet : List Row → ℕ → ℕ → Type 0
Quiet rows i t = QuietBelow rows i t (length rows)

pending_or_quiet : (rows : List Row) (i t n : ℕ) → n ≤ length rows → Pending rows i t ⊎ QuietBelow rows i t n
pending_or_quiet rows i t zero fits = inr (λ l below lesser arrived. absurd (omega arith))
pending_or_quiet rows i t (suc n) fits =
    elim (pending_or_quiet rows i t n (omega arith)) [
      | inl p ↦ inl p
      | inr quiet ↦
          let keep : (task_of rows n < i → arrival_of rows n < t → ticks_of rows n ≤ had_after rows t n) → QuietBelow rows i t (suc n) =
          λ here l below lesser arrived. elim (cases_eq n l) [
            | inl same ↦
                let P : ℕ → Type 0 = λ k. task_of rows k < i → arrival_of rows k < t → ticks_of rows k ≤ had_after rows t k in
                let there : P l = subst P same here in
                there lesser arrived
            | inr other ↦ quiet l (omega arith) lesser arrived
          ] in
          elim (cases_lt (task_of rows n) i) [
            | inr no_lesser ↦ inr (keep (λ a b. absurd (omega arith)))
            | inl lesser ↦ elim (cases_lt (arrival_of rows n) t) [
              | inr later ↦ inr (keep (λ a b. absurd (omega arith)))
              | inl arrived ↦ elim (cases_lt (had_after rows t n) (ticks_of rows n)) [
                | inr ended ↦ inr (keep (λ a b. ended))
                | inl unended ↦ inl (record { place = n; within = omega arith; lesser = lesser; arrived = arrived; unended = unended })
              ]
            ]
          ]
    ]

-- a row of a lesser task is ready
pub record LesserReady (rows : List Row) (i t : ℕ) : Type 0 where
  pub place : ℕ
  pub lesser : task_of rows place < i
  pub ready : IsReady rows t place

-- a quiet moment at or before a, from which on a row of a lesser task is always ready up to a
pub record Since (rows : List Row) (i a : ℕ) : Type 0 where
  pub start : ℕ
  pub before : start ≤ a
  pub quiet : Quiet rows i start
  pub busy : (u : ℕ) → start ≤ u → u < a → LesserReady rows i u

pub last_quiet : (rows : List Row) (i a : ℕ) → Since rows i a
last_quiet rows i zero = record {
  start = 0;
  before = omega arith;
  quiet = λ l within lesser arrived. absurd (omega arith);
  busy = λ u from below. absurd (omega arith);
}
last_quiet rows i (suc a) =
    elim (pending_or_quiet rows i (suc a) (length rows) (omega arith)) [
      | inr quiet ↦ record { start = suc a; before = omega arith; quiet = quiet; busy = λ u from below. absurd (omega arith) }
      | inl p ↦
          let since : Since rows i a = last_quiet rows i a in
          let ready : IsReady rows a p.place = record {
            within = p.within;
            arrived = omega (arith, p.arrived);
            unended = omega (arith, p.unended, had-le-had rows a (suc a) p.place (omega arith));
          } in
          record {
            start = since.start;
            before = omega (arith, since.before);
            quiet = since.quiet;
            busy = λ u from below. elim (cases_eq a u) [
              | inl same ↦
                  let P : ℕ → Type 0 = LesserReady rows i in
                  subst P same (record { place = p.place; lesser = p.lesser; ready = ready })
              | inr other ↦ since.busy u from (omega arith)
            ];
          }
    ]

-- ---- the ticks of an interval

-- the ticks that the places which pass a test have had together
abbrev pub done : List Row → (ℕ → Bool) → ℕ → ℕ
done rows member t = total (λ k. pick (member k) (had_after rows t k)) (length rows)

-- a tick that goes to a place that passes is one more for them together
pub done_more : (rows : List Row) (member : ℕ → Bool) (t l : ℕ) → row_at rows t ≡ Some l → member l ≡ true → done rows member t + 1 ≤ done rows member (suc t)
done_more rows member t l gets in_it =
    let within : l < length rows = (gets_first rows t l gets).ready.within in
    let more : had_after rows t l + 1 ≤ had_after rows (suc t) l = omega (arith, had_more rows t l, tick_for_same (row_at rows t) l gets) in
    total_more (λ k. pick (member k) (had_after rows t k)) (λ k. pick (member k) (had_after rows (suc t) k)) l (length rows) within
    (λ k below. pick-le (member k) _ _ (had-le-had rows t (suc t) k (omega arith)))
    (rw in_it more)

-- a tick goes to a place that passes
pub record GoesTo (rows : List Row) (member : ℕ → Bool) (t : ℕ) : Type 0 where
  pub place : ℕ
  pub gets : row_at rows t ≡ Some place
  pub passes : member place ≡ true

-- as many ticks as an interval has
pub interval-le-done : (rows : List Row) (member : ℕ → Bool) (s x : ℕ) → ((u : ℕ) → s ≤ u → u < s + x → GoesTo rows member u) → x ≤ done rows member (s + x)
interval-le-done rows member s zero goes = omega arith
interval-le-done rows member s (suc x) goes =
    let before = interval-le-done rows member s x (λ u from below. goes u from (omega arith)) in
    let here : GoesTo rows member (s + x) = goes (s + x) (omega arith) (omega arith) in
    rw add-suc (omega (arith, before, done_more rows member (s + x) here.place here.gets here.passes))

-- a row of a lesser task arrives in the window of w ticks from s
abbrev pub is_lesser : List Row → ℕ → ℕ → ℕ → ℕ → Bool
is_lesser rows i s w l = falls_in (λ k. nat_lt (task_of rows k) i) (arrival_of rows) s w l

-- such a row, or the row at k
abbrev pub counts : List Row → ℕ → ℕ → ℕ → ℕ → ℕ → Bool
counts rows i s w k l = is_lesser rows i s w l || nat_eq l k

-- what the rows that count have had together is at most what those of the lesser tasks take, and what the row at k has had
pub done-le : (rows : List Row) (i s w k t : ℕ) → k < length rows
    → done rows (counts rows i s w k) t ≤ total (λ l. pick (is_lesser rows i s w l) (ticks_of rows l)) (length rows) + had_after rows t k
done-le rows i s w k t within =
    total_but_one (λ l. pick (counts rows i s w k l) (had_after rows t l)) (λ l. pick (is_lesser rows i s w l) (ticks_of rows l))
    (had_after rows t k) k (length rows)
    (λ l below other. elim (cases_Bool (is_lesser rows i s w l)) [
      | inl e ↦ rw e (had-le-ticks rows t l)
      | inr e ↦ rw (e, ne_eqb l k other) (omega arith)
    ])
    (omega (arith, pick-le-self (counts rows i s w k k) (had_after rows t k)))
