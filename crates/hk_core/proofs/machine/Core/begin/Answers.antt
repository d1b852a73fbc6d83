use Rattle.hk_core.specs.View.{flight_at}
use Rattle.hk_core.proofs.kinds.Begin.{lawful_after_begin}
use Rattle.hk_core.proofs.RefusedPlain.{refused_plain, begin_tells}
use Rattle.hk_core.proofs.machine.Core.begin.Goals as goal

pub returns-clause-lawful : goal.returns-clause-lawful
unfolding flight_at
returns-clause-lawful c = λ history h.
    rw c.start.ensures.state (lawful_after_begin c.args.self.now history c.args.seat c.args.call c.requires.seat c.requires.idle c.requires.question c.requires.registers h)

pub returns-clause-plain : goal.returns-clause-plain
unfolding flight_at
returns-clause-plain c = λ history h.
    begin_tells _ _ (refused_plain c.args.self.now history c.args.seat c.requires.seat h c.requires.idle c.args.call c.requires.question c.requires.registers)
    _ c.start.ensures.answer
