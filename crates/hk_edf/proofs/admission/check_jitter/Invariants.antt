use Rattle.std.proofs.Common.{◌≡◌, false, take}
use Rattle.std.specs.List.{list_any}
use Rattle.hk_edf.specs.Refusals.{has_jitter}
use Rattle.hk_edf.proofs.admission.check_jitter.Given as goal

abbrev pub invariant-loop-task : goal.invariant-loop-task
invariant-loop-task l = list_any has_jitter (take l.task-index l.tasks) ≡ false
