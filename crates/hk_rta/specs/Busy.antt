-- The length of a busy period: from a moment with some work waiting to the first at which all work that came
-- meanwhile is done too.
use Rattle.std.specs.Prelude.{ℕ, ◌+◌, ◌≤◌, List}
use Rattle.hk_rta.specs.declared.Load.{Load}
use Rattle.hk_rta.specs.Demand.{work_in}
use Rattle.hk_rta.specs.Least.{IsLeast}

-- a window of at least one tick has room for the work that waits as it begins and for all that comes in it
pub record Suffices (loads : List Load) (base x : ℕ) : Type 0 where
  pub positive : 1 ≤ x
  pub enough : base + work_in loads x ≤ x

-- the length of a busy period is the least such window
abbrev pub Busy : List Load → ℕ → ℕ → Type 0
Busy loads base x = IsLeast (Suffices loads base) x

-- no such window is at most the cap
abbrev pub IsOverfull : List Load → ℕ → ℕ → Type 0
IsOverfull loads base cap = (x : ℕ) → x ≤ cap → ¬ (Suffices loads base x)
