-- Sources and sinks in memory.
use Rattle.std.specs.Prelude.{ℕ, List}

-- A source in memory: the bytes still to come, the numbers of the calls that fail, the number of the next call,
-- and the count of faults.
pub record Supply : Type 0 where
  pub left : List ℕ
  pub fails : List ℕ
  pub calls : ℕ
  pub faults : ℕ

-- A sink in memory: the bytes taken so far, how many it takes at most, the numbers of the calls that fail, the
-- number of the next call, and the count of faults.
pub record Intake : Type 0 where
  pub taken : List ℕ
  pub room : ℕ
  pub fails : List ℕ
  pub calls : ℕ
  pub faults : ℕ
