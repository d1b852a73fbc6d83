use Rattle.hk_core.specs.Lawful.{IsLawful}
use Rattle.hk_core.proofs.tests.play.Given as goal

-- the machine is lawful all along
abbrev pub invariant-loop-row : goal.invariant-loop-row
invariant-loop-row g l = IsLawful l.core

abbrev pub invariant-loop : goal.invariant-loop
invariant-loop g l = IsLawful l.core
