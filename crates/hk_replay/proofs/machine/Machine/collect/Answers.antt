use Rattle.hk_replay.proofs.machine.Machine.collect.Goals as goal

pub invariant_of-self : goal.invariant_of-self
invariant_of-self c = let lawful = c.self.invariant in (lawful.0, c.step.ensures.lawful lawful.0 lawful.1)
