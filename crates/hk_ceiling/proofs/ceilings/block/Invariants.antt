use Rattle.std.proofs.Common.{◌≡◌}
use Rattle.hk_ceiling.specs.Ceilings.{block_below}
use Rattle.hk_ceiling.proofs.ceilings.block.Given as goal

abbrev pub invariant-loop-q : goal.invariant-loop-q
invariant-loop-q l = l.most ≡ block_below l.sections l.task l.q
