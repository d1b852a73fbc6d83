-- How many arrivals a window holds, where any two are a period apart.
use Rattle.std.proofs.Common.{◌≡◌, ℕ, zero, suc, ◌+◌, ◌*◌, ◌<◌, ◌≤◌, Bool, true, false, ◌&&◌, nat_lt, nat_le, refl, ap, arith, inl, inr}
use Rattle.std.proofs.lemmas.Bool.{cases_lt, cases_Bool, and_parts, and_from, ltb-true, leb-true, lt-ltb, le-leb}
use Rattle.std.proofs.lemmas.Grind.{div_ceil_times}
use Rattle.std.proofs.Math.Nat.{mul-le-mul_right}
use Rattle.hk_rta.specs.Demand.{starts_in}
use Rattle.hk_plan.proofs.Sums.{total, pick, total-le}

-- a place of those that are meant has its moment in the window of w ticks from s
abbrev pub falls_in : (ℕ → Bool) → (ℕ → ℕ) → ℕ → ℕ → ℕ → Bool
falls_in mine moment s w k = mine k && (nat_le s (moment k) && nat_lt (moment k) (s + w))

-- how many of the places below n do
abbrev pub arrivals : (ℕ → Bool) → (ℕ → ℕ) → ℕ → ℕ → ℕ → ℕ
arrivals mine moment s w n = total (λ k. pick (falls_in mine moment s w k) 1) n

-- the moments of the places that are meant stand in the order of the places, at least a period apart
pub record Apart (mine : ℕ → Bool) (moment : ℕ → ℕ) (period count : ℕ) : Type 0 where
  pub some : 0 < period
  pub apart : (j k : ℕ) → j < k → k < count → mine j ≡ true → mine k ≡ true → moment j + period ≤ moment k

pub record FallsIn (mine : ℕ → Bool) (moment : ℕ → ℕ) (s w k : ℕ) : Type 0 where
  pub meant : mine k ≡ true
  pub from : s ≤ moment k
  pub before : moment k < s + w

pub falls_from : (mine : ℕ → Bool) (moment : ℕ → ℕ) (s w k : ℕ) → falls_in mine moment s w k ≡ true → FallsIn mine moment s w k
falls_from mine moment s w k e =
    let outer = and_parts (mine k) (nat_le s (moment k) && nat_lt (moment k) (s + w)) e in
    let inner = and_parts (nat_le s (moment k)) (nat_lt (moment k) (s + w)) outer.1 in
    record { meant = outer.0; from = leb-true s (moment k) inner.0; before = ltb-true (moment k) (s + w) inner.1 }

-- a number of whole periods below the window's length is below the number of periods that begin in it
pub starts_above : (a period w : ℕ) → 0 < period → a * period < w → a < starts_in w period
starts_above a period w some below =
    elim (cases_lt a (starts_in w period)) [
      | inl fine ↦ fine
      | inr less ↦ absurd (omega (arith, div_ceil_times w period some, mul-le-mul_right period less))
    ]

one_more : (mine : ℕ → Bool) (moment : ℕ → ℕ) (s w n : ℕ) → falls_in mine moment s w n ≡ true → arrivals mine moment s w (suc n) ≡ arrivals mine moment s w n + 1
one_more mine moment s w n e = rw e refl

none_more : (mine : ℕ → Bool) (moment : ℕ → ℕ) (s w n : ℕ) → falls_in mine moment s w n ≡ false → arrivals mine moment s w (suc n) ≡ arrivals mine moment s w n
none_more mine moment s w n e = rw e (omega arith)

-- each arrival in the window below n pushes the next one a period on
pub pushed_on : (mine : ℕ → Bool) (moment : ℕ → ℕ) (period count s w n m : ℕ) → Apart mine moment period count
    → n ≤ m → m < count → mine m ≡ true → s ≤ moment m → s + arrivals mine moment s w n * period ≤ moment m
pushed_on mine moment period count s w zero m a past within meant late = omega arith
pushed_on mine moment period count s w (suc n) m a past within meant late =
    elim (cases_Bool (falls_in mine moment s w n)) [
      | inl e ↦
          let f : FallsIn mine moment s w n = falls_from mine moment s w n e in
          let before = pushed_on mine moment period count s w n n a (omega arith) (omega arith) f.meant f.from in
          let one = ap (λ x. x * period) (one_more mine moment s w n e) in
          omega (arith, before, one, a.apart n m (omega arith) within f.meant meant)
      | inr e ↦
          let before = pushed_on mine moment period count s w n m a (omega arith) within meant late in
          let none = ap (λ x. x * period) (none_more mine moment s w n e) in
          omega (arith, before, none)
    ]

-- a window holds at most as many arrivals as periods can begin in it
pub arrivals-le : (mine : ℕ → Bool) (moment : ℕ → ℕ) (period count s w n : ℕ) → Apart mine moment period count → n ≤ count
    → arrivals mine moment s w n ≤ starts_in w period
arrivals-le mine moment period count s w zero a fits = omega arith
arrivals-le mine moment period count s w (suc n) a fits =
    elim (cases_Bool (falls_in mine moment s w n)) [
      | inl e ↦
          let f : FallsIn mine moment s w n = falls_from mine moment s w n e in
          let pushed = pushed_on mine moment period count s w n n a (omega arith) (omega arith) f.meant f.from in
          let above = starts_above (arrivals mine moment s w n) period w a.some (omega (arith, pushed, f.before)) in
          omega (arith, above, one_more mine moment s w n e)
      | inr e ↦ omega (arith, arrivals-le mine moment period count s w n a (omega arith), none_more mine moment s w n e)
    ]

-- each moment of the places that are meant is at its origin, or at most the jitter after it
pub record InJitter (mine : ℕ → Bool) (origin moment : ℕ → ℕ) (jitter count : ℕ) : Type 0 where
  pub from_origin : (k : ℕ) → k < count → mine k ≡ true → origin k ≤ moment k
  pub in_jitter : (k : ℕ) → k < count → mine k ≡ true → moment k ≤ origin k + jitter

-- a moment in a window has its origin, put off by the whole jitter, in the window that is longer by the jitter
put_off : (mine : ℕ → Bool) (origin moment : ℕ → ℕ) (jitter count s w k : ℕ) → InJitter mine origin moment jitter count → k < count
    → pick (falls_in mine moment s w k) 1 ≤ pick (falls_in mine (λ l. origin l + jitter) s (w + jitter) k) 1
put_off mine origin moment jitter count s w k j within =
    elim (cases_Bool (falls_in mine moment s w k)) [
      | inl e ↦
          let f : FallsIn mine moment s w k = falls_from mine moment s w k e in
          let late = j.in_jitter k within f.meant in
          let early = j.from_origin k within f.meant in
          let from : s ≤ origin k + jitter = omega (arith, late, f.from) in
          let before : origin k + jitter < s + (w + jitter) = omega (arith, early, f.before) in
          let there : falls_in mine (λ l. origin l + jitter) s (w + jitter) k ≡ true =
          and_from _ _ f.meant (and_from _ _ (le-leb _ _ from) (lt-ltb _ _ before)) in
          rw (there, e) (omega arith)
      | inr e ↦ rw e (omega arith)
    ]

-- where the origins are a period apart, a window holds at most as many moments as periods can begin in the window and
-- the jitter
pub readies-le : (mine : ℕ → Bool) (origin moment : ℕ → ℕ) (jitter period count s w n : ℕ) → Apart mine origin period count
    → InJitter mine origin moment jitter count → n ≤ count → arrivals mine moment s w n ≤ starts_in (w + jitter) period
readies-le mine origin moment jitter period count s w n a j fits =
    let later : Apart mine (λ l. origin l + jitter) period count = record {
      some = a.some;
      apart = λ k l less within first second. (omega (arith, a.apart k l less within first second));
    } in
    omega (
      arith,
      total-le (λ k. pick (falls_in mine moment s w k) 1) (λ k. pick (falls_in mine (λ l. origin l + jitter) s (w + jitter) k) 1) n
          (λ k below. put_off mine origin moment jitter count s w k j (omega (arith, below, fits))),
      arrivals-le mine (λ l. origin l + jitter) period count s (w + jitter) n later fits,
    )
