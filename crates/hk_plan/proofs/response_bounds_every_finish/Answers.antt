use Rattle.hk_plan.proofs.Bound.{response_bounds}
use Rattle.hk_plan.proofs.response_bounds_every_finish.Goals as goal

pub returns : goal.returns
returns c = response_bounds
