use Rattle.std.proofs.Common.{ℕ, ◌+◌, ◌-◌, ◌<◌, ◌≤◌, take}
use Rattle.hk_rta.specs.Demand.{demand, cost_at}
use Rattle.hk_rta.specs.Response.{Solves}
use Rattle.hk_rta.proofs.response_from.Given as goal

abbrev pub invariant-loop-length : goal.invariant-loop-length
invariant-loop-length l = record {
  positive : 0 < l.length;
  short : l.length ≤ cost_at l.tasks l.i + demand (take l.i l.tasks) l.length;
  below : (r : ℕ) → Solves l.tasks l.i r → l.length ≤ r;
}

abbrev pub decreases-loop-length : goal.decreases-loop-length
decreases-loop-length l = l.longest + 1 - l.length
