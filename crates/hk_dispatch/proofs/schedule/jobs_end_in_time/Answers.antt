use Rattle.hk_dispatch.proofs.InTime as law
use Rattle.hk_dispatch.proofs.schedule.jobs_end_in_time.Goals as goal

pub returns : goal.returns
returns c = law.jobs_end_in_time
