-- How often a period begins in a window that isn't much longer.
use Rattle.std.proofs.Common.{◌≡◌, ℕ, ◌*◌, ◌<◌, ◌≤◌, arith, inl, inr}
use Rattle.std.proofs.Math.Nat.{mul-le-mul_right}
use Rattle.std.proofs.lemmas.Bool.{cases_lt}
use Rattle.std.proofs.lemmas.Grind.{div_ceil_times}
use Rattle.hk_rta.specs.Demand.{starts_in}

-- a product with the period of a count that is so many at least
many : (count low period : ℕ) → low ≤ count → low * period ≤ count * period
many count low period h = mul-le-mul_right period h

-- a window of a tick or more has a begin
pub starts_some : (window period : ℕ) → 1 ≤ window → 1 ≤ period → 1 ≤ starts_in window period
starts_some window period some positive =
    elim (cases_lt (starts_in window period) 1) [
      | inl none ↦ absurd (omega (arith, div_ceil_times window period positive, mul-le-mul_right period (none_at (starts_in window period) none)))
      | inr fine ↦ fine
    ]
  where
    none_at : (count : ℕ) → count < 1 → count ≤ 0
    none_at count h = omega arith

-- where the window is no longer than the period, there is one
pub starts_once : (window period : ℕ) → 1 ≤ window → window ≤ period → starts_in window period ≡ 1
starts_once window period some short =
    elim (cases_lt 1 (starts_in window period)) [
      | inl more ↦ absurd (omega (arith, div_ceil_times window period (omega arith), many (starts_in window period) 2 period (omega arith)))
      | inr few ↦ omega (arith, starts_some window period some (omega arith))
    ]

-- where it is longer, and no longer than two periods, there are two
pub starts_twice : (window period : ℕ) → 1 ≤ period → period < window → window ≤ 2 * period → starts_in window period ≡ 2
starts_twice window period some long short =
    elim (cases_lt 2 (starts_in window period)) [
      | inl more ↦ absurd (omega (arith, div_ceil_times window period some, many (starts_in window period) 3 period (omega arith)))
      | inr few ↦ elim (cases_lt (starts_in window period) 2) [
        | inl one ↦ absurd (omega (arith, div_ceil_times window period some, mul-le-mul_right period (one_at (starts_in window period) one)))
        | inr two ↦ omega arith
      ]
    ]
  where
    one_at : (count : ℕ) → count < 2 → count ≤ 1
    one_at count h = omega arith

-- in a window that is longer than the period there are two at least
pub starts_two : (window period : ℕ) → 1 ≤ period → period < window → 2 ≤ starts_in window period
starts_two window period some long =
    elim (cases_lt (starts_in window period) 2) [
      | inl one ↦ absurd (omega (arith, div_ceil_times window period some, mul-le-mul_right period (one_at (starts_in window period) one)))
      | inr two ↦ two
    ]
  where
    one_at : (count : ℕ) → count < 2 → count ≤ 1
    one_at count h = omega arith
