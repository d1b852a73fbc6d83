use Rattle.std.proofs.Common.{◌≡◌, ◌↔◌, ℕ, subst}
use Rattle.hk_core.specs.declared.outcome.Outcome.TheVariants.{Full}
use Rattle.hk_core.specs.declared.outcome.Step.TheVariants.{Ended}
use Rattle.hk_core.specs.Refused.{EndsFull}
use Rattle.hk_core.specs.State.{State, flight_of}
use Rattle.hk_core.specs.Step.{history_after}
use Rattle.hk_collect.proofs.owned.OwnedHeap.step.Goals as goal

pub invariant_of-self : goal.invariant_of-self
invariant_of-self c =
    let lawful = c.self.invariant in
    (history_after c.self.inside.core c.args.seat lawful.0, c.step.ensures.lawful lawful.0 lawful.1)

pub returns-clause-full : goal.returns-clause-full
returns-clause-full c =
    subst (λ (s : State). (words : ℕ) → (c.step.result ≡ Ended (Full words)) ↔ EndsFull (flight_of s.flights c.args.seat) words) c.self.view_is c.step.ensures.full
