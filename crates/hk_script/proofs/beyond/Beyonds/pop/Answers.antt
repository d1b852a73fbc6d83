use Rattle.std.proofs.Common.{arith}
use Rattle.hk_script.proofs.Totals.{popped}
use Rattle.hk_script.proofs.beyond.Beyonds.pop.Goals as goal

pub returns-clause-outer : goal.returns-clause-outer
returns-clause-outer c = rw (← c.self.view_is) (popped c.self.inside.items c.self.inside.depth (omega arith) (let few = c.self.invariant in omega arith))
