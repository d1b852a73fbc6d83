-- No New is refused.
use Rattle.hk_dispatch.proofs.Whole.{no_new_is_refused}
use Rattle.hk_dispatch.proofs.laws.no_new_is_refused.Goals as goal

pub returns : goal.returns
returns c = no_new_is_refused
