use Rattle.std.proofs.Common.{ℕ, ◌+◌, ◌≤◌}
use Rattle.hk_rta.specs.Demand.{demand}
use Rattle.hk_rta.proofs.ahead.ahead_of_tasks.Given as goal

abbrev pub invariant-loop-task : goal.invariant-loop-task
invariant-loop-task l = (x : ℕ) → l.window ≤ x → l.own + demand l.tasks x ≤ x → l.most ≤ x
