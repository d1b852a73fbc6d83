use Rattle.hk_edf.proofs.LeastRow as law
use Rattle.hk_edf.proofs.laws.earliest_is_choice.Goals as goal

pub returns : goal.returns
returns c = law.earliest_is_choice
