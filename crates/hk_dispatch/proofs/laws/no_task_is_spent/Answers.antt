use Rattle.hk_dispatch.proofs.Promises.{no_task_is_spent}
use Rattle.hk_dispatch.proofs.laws.no_task_is_spent.Goals as goal

pub returns : goal.returns
returns c = no_task_is_spent
