use Rattle.std.proofs.Common.{◌≡◌, length}
use Rattle.hk_assign.proofs.Filled.{IsFilled}
use Rattle.hk_assign.proofs.placing.place_all.Given as goal

abbrev pub invariant-loop-free : goal.invariant-loop-free
invariant-loop-free l = record {
  filled : IsFilled l.timings l.order l.free;
  same : length l.order ≡ length l.initial.order;
}

abbrev pub decreases-loop-free : goal.decreases-loop-free
decreases-loop-free l = l.free
