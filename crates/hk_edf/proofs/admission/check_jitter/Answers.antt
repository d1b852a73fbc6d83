use Rattle.std.proofs.Common.{arith}
use Rattle.std.proofs.lemmas.Bool.{lt-ltb}
use Rattle.hk_edf.proofs.Refusals.{jitter_at_place}
use Rattle.hk_edf.proofs.admission.check_jitter.Goals as goal

pub returns-then-task-gt0 : goal.returns-then-task-gt0
returns-then-task-gt0 c = jitter_at_place _ c.loop-task.task-index c.task-item.result _ (omega arith) c.loop-task.invariant c.task-item.is (lt-ltb 0 _ c.if-task-gt0.true) c.in_ok-name_of.ensures
