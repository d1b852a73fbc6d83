use Rattle.std.proofs.Common.{◌≡◌, false, take}
use Rattle.std.specs.List.{list_any}
use Rattle.hk_admit.specs.Conditions.{is_too_long}
use Rattle.hk_admit.proofs.declared.check_costs.Given as goal

abbrev pub invariant-loop-task : goal.invariant-loop-task
invariant-loop-task l = list_any is_too_long (take l.task-index l.tasks) ≡ false
