use Rattle.hk_edf.proofs.Refusals as law
use Rattle.hk_edf.proofs.laws.one_refusal.Goals as goal

pub returns : goal.returns
returns c = law.one_refusal
