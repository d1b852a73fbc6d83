use Rattle.std.proofs.Common.{◌≡◌}
use Rattle.hk_plan.proofs.tests.check.Given as goal

abbrev pub invariant-loop-tick : goal.invariant-loop-tick
invariant-loop-tick g l = record {
  same : l.plan.rows ≡ l.rows.items;
  given : l.plan.given ≡ l.tick-counter;
}

abbrev pub invariant-loop-place : goal.invariant-loop-place
invariant-loop-place g l = l.plan.rows ≡ l.rows.items
