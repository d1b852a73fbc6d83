use Rattle.std.proofs.Common.{arith}
use Rattle.hk_admit.proofs.Parted.{too_long_at}
use Rattle.hk_admit.proofs.declared.check_costs.Goals as goal

pub returns-then-exceeds : goal.returns-then-exceeds
returns-then-exceeds c = too_long_at _ c.loop-task.task-index c.task-item.result _ (omega arith) c.loop-task.invariant c.task-item.is (cc) c.in_ok-too_long.ensures
