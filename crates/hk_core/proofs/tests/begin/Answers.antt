use Rattle.hk_core.proofs.tests.begin.Goals as goal

pub returns : goal.returns
returns g c = record { lawful = (c.requires.lawful.0, c.begin.ensures.lawful c.requires.lawful.0 c.requires.lawful.1) }
