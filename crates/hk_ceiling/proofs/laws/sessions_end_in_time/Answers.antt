use Rattle.hk_ceiling.proofs.Sessions as law
use Rattle.hk_ceiling.proofs.laws.sessions_end_in_time.Goals as goal

pub returns : goal.returns
returns c = law.jobs_end_within
