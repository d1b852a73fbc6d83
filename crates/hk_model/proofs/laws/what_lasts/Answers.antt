use Rattle.hk_model.proofs.Lasting.{legal_begins, lasts_longer, objects_small, entry_keeps, registers_keep}
use Rattle.hk_model.proofs.laws.what_lasts.Goals as goal

pub returns-clause-begins : goal.returns-clause-begins
returns-clause-begins c = legal_begins

pub returns-clause-shapes : goal.returns-clause-shapes
returns-clause-shapes c = lasts_longer

pub returns-clause-small : goal.returns-clause-small
returns-clause-small c = objects_small

pub returns-clause-entry : goal.returns-clause-entry
returns-clause-entry c = λ h e seat reg other. entry_keeps h seat reg e other

pub returns-clause-others : goal.returns-clause-others
returns-clause-others c = λ h others seat reg none. registers_keep seat reg others h none
