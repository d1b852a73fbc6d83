use Rattle.hk_dispatch.proofs.Promises.{live_over_has_cause}
use Rattle.hk_dispatch.proofs.laws.live_over_has_cause.Goals as goal

pub returns : goal.returns
returns c = live_over_has_cause
