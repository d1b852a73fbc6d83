use Rattle.hk_collect.proofs.Running.{operations_end}
use Rattle.hk_collect.proofs.laws.operations_end.Goals as goal

pub returns : goal.returns
returns c = λ g before later seat call may accepts few. operations_end g before later seat call may accepts few
