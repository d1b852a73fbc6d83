use Rattle.hk_core.proofs.tests.play.Goals as goal
use Rattle.hk_core.proofs.tests.play.Goals.{in-Begun+else-assert_eq, in-Refused+else-assert_eq-2, in-Going+else-assert_eq-3, in-Ended+else-assert_eq-4, in-Whole+else-assert_eq-5+else-loop-test+else-assert_eq-7, in-Same+else-assert, in-Differ+else-assert-2, in-IsNull+else-assert-3}

pub loop-row-preserved : goal.loop-row-preserved
loop-row-preserved g c = elim c.match-row.branch [
  | in-Begun+else-assert_eq w ↦ rw w.core-is w.begin.ensures.lawful
  | in-Refused+else-assert_eq-2 w ↦ rw w.core-is w.begin-in-Refused.ensures.lawful
  | in-Going+else-assert_eq-3 w ↦ rw w.core-is w.step.ensures.lawful
  | in-Ended+else-assert_eq-4 w ↦ rw w.core-is w.step-in-Ended.ensures.lawful
  | in-Whole+else-assert_eq-5+else-loop-test+else-assert_eq-7 w ↦ rw w.core-is w.step-in-Whole.ensures.lawful
  | in-Same+else-assert w ↦ rw w.core-is c.loop-row.invariant
  | in-Differ+else-assert-2 w ↦ rw w.core-is c.loop-row.invariant
  | in-IsNull+else-assert-3 w ↦ rw w.core-is c.loop-row.invariant
]
