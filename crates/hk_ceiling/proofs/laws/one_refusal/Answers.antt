use Rattle.hk_ceiling.proofs.Excluded as law
use Rattle.hk_ceiling.proofs.laws.one_refusal.Goals as goal

pub returns : goal.returns
returns c = law.one_refusal
