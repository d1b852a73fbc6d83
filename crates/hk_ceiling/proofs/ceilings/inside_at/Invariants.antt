use Rattle.std.proofs.Common.{◌≡◌, ◌<◌, IfSome}
use Rattle.hk_ceiling.specs.Ceilings.{inside_below}
use Rattle.hk_ceiling.proofs.ceilings.inside_at.Given as goal

abbrev pub invariant-loop-q : goal.invariant-loop-q
invariant-loop-q l = record {
  so_far : l.found ≡ inside_below l.sections l.task l.done l.q;
  within : IfSome l.found (λ k. k < l.q);
}
