use Rattle.hk_collect.proofs.owned.OwnedHeap.get.Goals as goal

pub invariant_of-self : goal.invariant_of-self
invariant_of-self c = let lawful = c.self.invariant in (_, c.get.ensures.lawful lawful.0 lawful.1)
