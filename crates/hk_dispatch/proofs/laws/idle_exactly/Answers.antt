use Rattle.hk_dispatch.proofs.Promises.{idle_is_exact}
use Rattle.hk_dispatch.proofs.laws.idle_exactly.Goals as goal

pub returns : goal.returns
returns c = idle_is_exact
