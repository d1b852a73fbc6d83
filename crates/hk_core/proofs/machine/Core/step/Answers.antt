use Rattle.hk_core.specs.State.{flight_of}
use Rattle.hk_core.specs.Step.{answer_by}
use Rattle.hk_core.specs.View.{flight_at}
use Rattle.hk_core.proofs.Can.{can_step}
use Rattle.hk_core.proofs.Room.{answers_full}
use Rattle.hk_core.proofs.Seven.{seat_steps}
use Rattle.hk_core.proofs.machine.Core.step.Goals as goal

pub advance-requires-clause-can_step : goal.advance-requires-clause-can_step
unfolding flight_at
advance-requires-clause-can_step c = can_step c.args.self.now c.requires.lawful.0 c.args.seat c.requires.seat c.requires.lawful.1 c.requires.flying

pub returns-clause-full : goal.returns-clause-full
unfolding answer_by
returns-clause-full c = λ words. rw c.advance.ensures.step (answers_full (flight_of c.args.self.now.flights c.args.seat) words)

pub returns-clause-lawful : goal.returns-clause-lawful
unfolding flight_at
returns-clause-lawful c = λ history h.
    rw c.advance.ensures.next (seat_steps c.args.self.now history c.args.seat c.requires.seat h c.requires.flying).lawful
