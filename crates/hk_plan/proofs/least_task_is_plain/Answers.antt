use Rattle.hk_plan.proofs.LeastTask as law
use Rattle.hk_plan.proofs.least_task_is_plain.Goals as goal

pub returns : goal.returns
returns c = law.least_task_is_plain
