-- Sums, as the code holds them: up to a limit.
use Rattle.std.specs.Prelude.{ℕ, min}
use Rattle.hk_script.specs.declared.costs.TheConstants.{LIMIT}
use Rattle.hk_script.specs.declared.costs.Sums.{Sums}
use Rattle.hk_script.specs.declared.statement.Statement.{Statement}
use Rattle.hk_script.specs.declared.statement.Statement.TheVariants as statement
use Rattle.hk_script.specs.Cost.{Ahead}

abbrev pub seen : Sums → Ahead
seen sums = record { here = sums.here; blocks = sums.blocks }

-- the first sum up to the limit
abbrev pub at_most_limit : Ahead → Ahead
at_most_limit a = record { here = min a.here LIMIT; blocks = a.blocks }

-- how many blocks may lie ahead of a statement
abbrev pub room_of : Statement → ℕ
room_of statement.End = 15
room_of s = 16
