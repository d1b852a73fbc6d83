use Rattle.hk_ceiling.proofs.Sessions as law
use Rattle.hk_ceiling.proofs.laws.ceilings_choose.Goals as goal

pub returns : goal.returns
returns c = law.ceilings_choose
