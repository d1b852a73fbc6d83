use Rattle.hk_core.specs.Step.{history_after}
use Rattle.hk_core.proofs.tests.step.Goals as goal

pub returns : goal.returns
returns g c = record { lawful = (history_after c.args.core.now c.args.seat c.requires.lawful.0, c.step.ensures.lawful c.requires.lawful.0 c.requires.lawful.1) }
