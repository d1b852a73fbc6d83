use Rattle.std.proofs.Common.{◌≡◌, take, drop, map, All}
use Rattle.hk_sheet.specs.Rules.{task_rules}
use Rattle.hk_sheet.specs.Faults.{first_of, faults_of_tasks}
use Rattle.hk_sheet.specs.Raw.{raw_task, IsFit}
use Rattle.hk_sheet.specs.Code.{seen}
use Rattle.hk_sheet.proofs.raw.raw_tasks.Given as goal

-- the tasks so far, and the first fault is that of the tables that are left
abbrev pub invariant-loop-index : goal.invariant-loop-index
invariant-loop-index l = record {
  read : l.tasks.items ≡ map (raw_task l.high l.heap) (seen (take l.index l.tables));
  left : first_of (faults_of_tasks l.kind (task_rules l.high l.run) l.index (seen (drop l.index l.tables))) ≡ first_of (faults_of_tasks l.kind (task_rules l.high l.run) 0 (seen l.tables));
  fits : All IsFit l.tasks.items;
}
