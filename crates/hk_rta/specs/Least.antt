-- The least number of which something holds.
use Rattle.std.specs.Prelude.{ℕ, ◌≤◌}

-- it holds of this number, and each number of which it holds is at least this one
pub record IsLeast (P : ℕ → Type 0) (n : ℕ) : Type 0 where
  pub holds : P n
  pub least : (m : ℕ) → P m → n ≤ m
