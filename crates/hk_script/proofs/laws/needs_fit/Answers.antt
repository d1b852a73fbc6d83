use Rattle.hk_script.proofs.Needs.{need_fits}
use Rattle.hk_script.proofs.laws.needs_fit.Goals as goal

pub returns : goal.returns
returns c = λ limits script walk h. need_fits limits script walk h
