-- Numbers that are drawn one after another: a linear congruential generator modulo 2^64 (D. E. Knuth, MMIX).
use Rattle.std.specs.Prelude.{ℕ, ◌+◌, ◌*◌, ◌/◌, ◌%◌, ◌^◌}

-- the state after a draw
unfoldable pub next : (state : ℕ) → ℕ
next state = (state * 6364136223846793005 + 1442695040888963407) % 2 ^ 64

-- the number below a limit that the state after a draw gives: the state without its 33 low bits, modulo the limit
abbrev pub drawn : (limit state : ℕ) → ℕ
drawn limit state = state / 2 ^ 33 % limit

-- the number below a limit that is drawn from a state
abbrev pub draw : (limit state : ℕ) → ℕ
draw limit state = drawn limit (next state)
