use Rattle.hk_dispatch.proofs.Promises.{jobs_are_kept, one_low_operation}
use Rattle.hk_dispatch.proofs.laws.jobs_keep_scripts.Goals as goal

pub returns-clause-jobs : goal.returns-clause-jobs
returns-clause-jobs c = jobs_are_kept

pub returns-clause-low : goal.returns-clause-low
returns-clause-low c = one_low_operation
