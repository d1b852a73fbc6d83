use Rattle.hk_edf.proofs.TooMuch as law
use Rattle.hk_edf.proofs.laws.no_schedule_fits.Goals as goal

pub returns : goal.returns
returns c = law.no_schedule_fits
