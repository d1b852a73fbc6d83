use Rattle.hk_edf.proofs.Sessions as law
use Rattle.hk_edf.proofs.laws.jobs_end_by_deadlines.Goals as goal

pub returns : goal.returns
returns c = law.jobs_end_by_deadlines
