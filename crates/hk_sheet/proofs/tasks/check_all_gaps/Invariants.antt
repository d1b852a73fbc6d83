use Rattle.std.proofs.Common.{◌≡◌, drop, map}
use Rattle.hk_sheet.specs.Faults.{first_of}
use Rattle.hk_sheet.specs.Raw.{gap_fault}
use Rattle.hk_sheet.proofs.tasks.check_all_gaps.Given as goal

-- the first fault is that of the tasks that are left
abbrev pub invariant-loop-task : goal.invariant-loop-task
invariant-loop-task l = first_of (map gap_fault (drop l.task-index l.tasks)) ≡ first_of (map gap_fault l.tasks)
