use Rattle.std.specs.Prelude.{All}
use Rattle.shared_mix.specs.Jobs.{ActorFits}
use Rattle.shared_mix.proofs.history.act_rounds.Given as goal

abbrev pub invariant-loop : goal.invariant-loop
invariant-loop g l = All (ActorFits l.heap) l.actors.items
