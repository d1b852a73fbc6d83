-- All losses.
use Rattle.hk_dispatch.proofs.AllLosses.{losses_are_few}
use Rattle.hk_dispatch.proofs.laws.losses_are_few.Goals as goal

pub returns : goal.returns
returns c = losses_are_few
