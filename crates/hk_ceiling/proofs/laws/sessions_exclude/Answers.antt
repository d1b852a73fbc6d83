use Rattle.hk_ceiling.proofs.Sessions as law
use Rattle.hk_ceiling.proofs.laws.sessions_exclude.Goals as goal

pub returns : goal.returns
returns c = law.one_holder_at_a_time
