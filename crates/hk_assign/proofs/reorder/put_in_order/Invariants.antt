-- The tasks of the first places stand as in the order.
use Rattle.hk_assign.proofs.Standing.{AreStanding}
use Rattle.hk_assign.proofs.reorder.put_in_order.Given as goal

abbrev pub invariant-loop-place : goal.invariant-loop-place
invariant-loop-place l = AreStanding l.initial.tasks l.tasks l.standing l.order l.place
