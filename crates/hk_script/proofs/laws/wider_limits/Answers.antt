use Rattle.hk_script.proofs.Wider.{wider_script, wider_spells}
use Rattle.hk_script.proofs.laws.wider_limits.Goals as goal

pub returns-clause-scripts : goal.returns-clause-scripts
returns-clause-scripts c = λ narrow wide script within h. wider_script narrow wide within script h

pub returns-clause-texts : goal.returns-clause-texts
returns-clause-texts c = λ narrow wide text script within h. wider_spells narrow wide within text script h
