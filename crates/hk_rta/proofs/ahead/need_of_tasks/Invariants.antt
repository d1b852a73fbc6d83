use Rattle.std.proofs.Common.{ℕ, ◌+◌, ◌*◌, ◌^◌, ◌≤◌, take}
use Rattle.hk_rta.specs.Ahead.{Holds}
use Rattle.hk_rta.specs.Demand.{demand}
use Rattle.hk_rta.proofs.ahead.need_of_tasks.Given as goal

abbrev pub invariant-loop-task : goal.invariant-loop-task
invariant-loop-task l = record {
  share : l.need.share ≤ l.task-index * 2 ^ 32;
  holds : (x : ℕ) → l.window ≤ x → Holds l.need x (l.own + demand (take l.task-index l.tasks) x);
}
