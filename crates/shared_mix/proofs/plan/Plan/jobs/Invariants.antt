use Rattle.std.proofs.Common.{length}
use Rattle.std.specs.Prelude.{All}
use Rattle.hk_table.specs.Passes.{IsPassOf}
use Rattle.shared_mix.specs.Jobs.{JobFits}
use Rattle.shared_mix.proofs.plan.Plan.jobs.Given as goal

abbrev pub invariant-loop-pass : goal.invariant-loop-pass
invariant-loop-pass g l = All (IsPassOf l.heap) l.left.items × All (JobFits l.heap) l.jobs.items

abbrev pub decreases-loop-pass : goal.decreases-loop-pass
decreases-loop-pass g l = length l.left.items
