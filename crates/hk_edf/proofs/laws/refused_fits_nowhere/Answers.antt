use Rattle.hk_edf.proofs.Refusals as law
use Rattle.hk_edf.proofs.laws.refused_fits_nowhere.Goals as goal

pub returns : goal.returns
returns c = law.refused_fits_nowhere
