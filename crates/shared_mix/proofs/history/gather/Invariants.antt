use Rattle.std.proofs.Common.{length}
use Rattle.std.specs.Prelude.{All, IfSome}
use Rattle.hk_table.specs.Passes.{IsPassOf, IsKeeperOf}
use Rattle.shared_mix.specs.Jobs.{ActorFits}
use Rattle.shared_mix.proofs.history.gather.Given as goal

abbrev pub invariant-loop-actor : goal.invariant-loop-actor
invariant-loop-actor l = All (ActorFits l.heap) l.left.items × All (IsPassOf l.heap) l.gathered.passes.items × IfSome l.gathered.keeper (λ keeper. IsKeeperOf l.heap keeper)

abbrev pub decreases-loop-actor : goal.decreases-loop-actor
decreases-loop-actor l = length l.left.items
