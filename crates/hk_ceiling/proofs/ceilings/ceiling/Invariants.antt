use Rattle.std.proofs.Common.{◌≡◌}
use Rattle.hk_ceiling.specs.Ceilings.{ceiling_below}
use Rattle.hk_ceiling.proofs.ceilings.ceiling.Given as goal

abbrev pub invariant-loop-section : goal.invariant-loop-section
invariant-loop-section l = l.least ≡ ceiling_below l.sections l.own.res l.own.task l.section-index
