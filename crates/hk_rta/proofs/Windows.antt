-- Windows that no window with room for all work is below.
use Rattle.std.proofs.Common.{◌≡◌, ℕ, ◌+◌, ◌-◌, ◌*◌, ◌^◌, ◌<◌, ◌≤◌, arith, inl, inr}
use Rattle.std.proofs.Math.Nat.{mul-le-mul_left, mul-le-mul_right}
use Rattle.std.proofs.lemmas.Bool.{cases_lt}
use Rattle.std.proofs.lemmas.Grind.{div_ceil_times}
use Rattle.std.specs.Int.{div_ceil}

distributes : (x a b : ℕ) → x * (a + b) ≡ x * a + x * b
distributes x a b = omega arith

turned : (a b c : ℕ) → a * b * c ≡ a * (c * b)
turned a b c = omega arith

-- the least window that holds so many ticks and a share of itself
pub least_window : (ticks share x : ℕ) → share < 2 ^ 32 → ticks * 2 ^ 32 + x * share ≤ x * 2 ^ 32 → div_ceil (ticks * 2 ^ 32) (2 ^ 32 - share) ≤ x
least_window ticks share x less holds =
    let rest : ℕ = 2 ^ 32 - share in
    let whole : x * (rest + share) ≡ x * 2 ^ 32 = (let e : rest + share ≡ 2 ^ 32 = omega arith in λ i. x * e i) in
    let room : ticks * 2 ^ 32 ≤ x * rest = omega (arith, whole, distributes x rest share) in
    elim (cases_lt x (div_ceil (ticks * 2 ^ 32) rest)) [
      | inl more ↦ absurd (omega (arith, div_ceil_times (ticks * 2 ^ 32) rest (omega arith), mul-le-mul_right rest more))
      | inr fine ↦ fine
    ]

-- work that comes once a period, as its share of the window
pub by_share : (ticks share part x total starts work period : ℕ) → ticks * 2 ^ 32 + x * share ≤ total * 2 ^ 32 → part * period ≤ work * 2 ^ 32 → x ≤ starts * period
    → ticks * 2 ^ 32 + x * (share + part) ≤ (total + starts * work) * 2 ^ 32
by_share ticks share part x total starts work period holds few long =
    omega (arith, distributes x share part, mul-le-mul_right part long, turned starts period part, mul-le-mul_left starts few)

-- and as its starts in a shorter window
pub by_starts : (ticks more share x total starts fewer work : ℕ) → ticks * 2 ^ 32 + x * share ≤ total * 2 ^ 32 → fewer ≤ starts → more ≤ ticks + fewer * work
    → more * 2 ^ 32 + x * share ≤ (total + starts * work) * 2 ^ 32
by_starts ticks more share x total starts fewer work holds few sum = omega (arith, mul-le-mul_right work few)
