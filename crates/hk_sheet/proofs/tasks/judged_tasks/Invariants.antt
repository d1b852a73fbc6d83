use Rattle.std.proofs.Common.{◌≡◌, ◌++◌, length, map}
use Rattle.std.specs.Vec.Iter.{into_iter_items, into_iter_len}
use Rattle.hk_sheet.specs.Faults.{first_of}
use Rattle.hk_sheet.specs.Raw.{highs_among, lows_among, script_fault}
use Rattle.hk_sheet.proofs.tasks.judged_tasks.Given as goal

-- the tasks so far and those that are left are all, and the first fault is that of those that are left
abbrev pub invariant-loop-task : goal.invariant-loop-task
invariant-loop-task l = record {
  highs : l.highs.items ++ highs_among (into_iter_items l.task-iterator) ≡ highs_among l.fn.tasks.items;
  lows : l.lows.items ++ lows_among (into_iter_items l.task-iterator) ≡ lows_among l.fn.tasks.items;
  left : first_of (map script_fault (into_iter_items l.task-iterator)) ≡ first_of (map script_fault l.fn.tasks.items);
  few : into_iter_len l.task-iterator ≡ length (into_iter_items l.task-iterator);
}
