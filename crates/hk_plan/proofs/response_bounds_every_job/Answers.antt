use Rattle.hk_plan.proofs.JobBound.{response_bounds_jobs}
use Rattle.hk_plan.proofs.response_bounds_every_job.Goals as goal

pub returns : goal.returns
returns c = response_bounds_jobs
