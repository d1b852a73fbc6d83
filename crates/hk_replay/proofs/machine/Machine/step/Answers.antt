use Rattle.hk_core.specs.Step.{history_after}
use Rattle.hk_replay.proofs.machine.Machine.step.Goals as goal

pub invariant_of-self : goal.invariant_of-self
invariant_of-self c =
    let lawful = c.self.invariant in
    (history_after c.self.inside.core c.args.seat lawful.0, c.step.ensures.lawful lawful.0 lawful.1)
