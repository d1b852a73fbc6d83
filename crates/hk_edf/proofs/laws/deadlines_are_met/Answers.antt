use Rattle.hk_edf.proofs.Chosen as chosen
use Rattle.hk_edf.proofs.InTime as law
use Rattle.hk_edf.proofs.laws.deadlines_are_met.Goals as goal

pub returns-clause-by_choice : goal.returns-clause-by_choice
returns-clause-by_choice c = chosen.goes_by_deadlines

pub returns-clause-whole : goal.returns-clause-whole
returns-clause-whole c = law.whole_when_due

pub returns-clause-met : goal.returns-clause-met
returns-clause-met c = law.deadlines_are_met
