use Rattle.hk_ceiling.proofs.Excluded as law
use Rattle.hk_ceiling.proofs.laws.no_refusal.Goals as goal

pub returns : goal.returns
returns c = law.held_excludes
