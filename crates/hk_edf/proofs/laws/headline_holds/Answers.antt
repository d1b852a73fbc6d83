use Rattle.hk_edf.proofs.Headline as law
use Rattle.hk_edf.proofs.laws.headline_holds.Goals as goal

pub returns : goal.returns
returns c = law.headline_holds
