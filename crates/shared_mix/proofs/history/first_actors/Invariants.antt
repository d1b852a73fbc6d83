use Rattle.std.proofs.Common.{length}
use Rattle.std.specs.Prelude.{All}
use Rattle.hk_table.specs.Passes.{IsPassOf}
use Rattle.shared_mix.specs.Jobs.{ActorFits}
use Rattle.shared_mix.proofs.history.first_actors.Given as goal

abbrev pub invariant-loop-pass : goal.invariant-loop-pass
invariant-loop-pass g l = All (IsPassOf l.heap) l.left.items × All (ActorFits l.heap) l.actors.items

abbrev pub decreases-loop-pass : goal.decreases-loop-pass
decreases-loop-pass g l = length l.left.items
