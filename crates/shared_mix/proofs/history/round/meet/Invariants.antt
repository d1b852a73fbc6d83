use Rattle.std.proofs.Common.{length}
use Rattle.std.specs.Prelude.{All, IfSome}
use Rattle.hk_table.specs.Passes.{IsNoteOf}
use Rattle.shared_mix.specs.Jobs.{ActorFits}
use Rattle.shared_mix.proofs.history.round.meet.Given as goal

abbrev pub invariant-loop-actor : goal.invariant-loop-actor
invariant-loop-actor l = All (ActorFits l.heap) l.left.items × All (ActorFits l.heap) l.met.items × IfSome l.last (λ note. IsNoteOf l.heap note)

abbrev pub decreases-loop-actor : goal.decreases-loop-actor
decreases-loop-actor l = length l.left.items
