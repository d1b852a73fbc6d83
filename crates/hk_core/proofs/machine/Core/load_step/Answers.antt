use Rattle.std.proofs.Common.{arith}
use Rattle.hk_core.proofs.Rests.{load_rests}
use Rattle.hk_core.proofs.machine.Core.load_step.Goals as goal

pub returns-in_default-clause-next : goal.returns-in_default-clause-next
returns-in_default-clause-next c =
    load_rests c.args.self.now c.args.seat c.args.dest c.args.reg c.args.field (λ some few. omega (arith, c.in_default, c.place.ensures))
