use Rattle.std.proofs.Common.{◌≡◌, ◌<◌, IfSome}
use Rattle.hk_ceiling.specs.Order.{last_of}
use Rattle.hk_ceiling.proofs.order.last_of.Given as goal

abbrev pub invariant-loop-q : goal.invariant-loop-q
invariant-loop-q l = record {
  so_far : l.found ≡ last_of l.sections l.task l.q;
  within : IfSome l.found (λ k. k < l.q);
}
