use Rattle.std.proofs.Common.{◌≡◌, ◌*◌, ◌^◌, ◌≤◌, take}
use Rattle.hk_rta.specs.Demand.{demand}
use Rattle.hk_rta.proofs.demand.Given as goal

abbrev pub invariant-loop-task : goal.invariant-loop-task
invariant-loop-task l = record {
  so_far : l.sum ≡ demand (take l.task-index l.tasks) l.window;
  few : l.sum ≤ l.task-index * 2 ^ 49;
}
