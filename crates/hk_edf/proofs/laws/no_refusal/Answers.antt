use Rattle.hk_edf.proofs.Refusals as law
use Rattle.hk_edf.proofs.laws.no_refusal.Goals as goal

pub returns : goal.returns
returns c = law.no_refusal
