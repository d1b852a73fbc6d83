-- The first length and each next one are at or below every solution.
use Rattle.std.proofs.Common.{ℕ, ◌≤◌, arith, take}
use Rattle.std.proofs.lemmas.List.Elements.{All-get_or}
use Rattle.hk_rta.specs.Demand.{IsTimed, no_timing, timing_at}
use Rattle.hk_rta.specs.Response.{Solves}
use Rattle.hk_rta.proofs.Below.{next_no_shorter}
use Rattle.hk_rta.proofs.Steps.{demand_grows, solves_above}
use Rattle.hk_rta.proofs.response_from.Goals as goal

pub loop-length-init : goal.loop-length-init
loop-length-init c =
    let task : IsTimed (timing_at c.args.tasks.now c.args.i) = All-get_or IsTimed c.args.tasks.now c.args.i no_timing c.requires.within c.requires.timed in
    let longer : c.args.least ≤ c.max-length.result = omega (arith, c.max-length.ensures) in
    record {
      positive = omega (arith, c.max-length.ensures, task.cost.0);
      short = omega (arith, c.max-length.ensures, next_no_shorter c.args.tasks.now c.args.i c.args.least task.cost.0 c.requires.least, demand_grows (take c.args.i c.args.tasks.now) c.args.least c.max-length.result longer);
      below = λ r s. omega (arith, c.max-length.ensures, s.balanced, c.requires.least r s);
    }

pub loop-length-preserved : goal.loop-length-preserved
loop-length-preserved c =
    let task : IsTimed (timing_at c.args.tasks.now c.args.i) = All-get_or IsTimed c.args.tasks.now c.args.i no_timing c.requires.within c.requires.timed in
    let below : (r : ℕ) → Solves c.args.tasks.now c.args.i r → c.longer_of_tasks-length.result ≤ r =
    λ r s.
    let reached = c.loop-length.invariant.below r s in
    c.longer_of_tasks-length.ensures.below r reached (omega (arith, s.balanced))
    (omega (arith, c.demand.ensures.value, solves_above c.args.tasks.now c.args.i c.loop-length.length r reached s)) in
    record {
      positive = omega (arith, c.longer_of_tasks-length.ensures.longer, task.cost.0);
      short = next_no_shorter c.args.tasks.now c.args.i c.longer_of_tasks-length.result task.cost.0 below;
      below = below;
    }
