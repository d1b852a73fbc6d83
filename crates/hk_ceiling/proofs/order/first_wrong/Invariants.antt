use Rattle.hk_ceiling.specs.Order.{NoneWrong}
use Rattle.hk_ceiling.proofs.order.first_wrong.Given as goal

abbrev pub invariant-loop-q : goal.invariant-loop-q
invariant-loop-q l = NoneWrong l.timings l.sections l.q
