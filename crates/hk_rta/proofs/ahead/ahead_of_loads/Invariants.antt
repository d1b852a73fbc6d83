use Rattle.std.proofs.Common.{ℕ, ◌+◌, ◌≤◌}
use Rattle.hk_rta.specs.Demand.{work_in}
use Rattle.hk_rta.proofs.ahead.ahead_of_loads.Given as goal

abbrev pub invariant-loop-load : goal.invariant-loop-load
invariant-loop-load l = (x : ℕ) → l.window ≤ x → l.base + work_in l.loads x ≤ x → l.most ≤ x
