use Rattle.hk_edf.proofs.Reserve.{reserve_holds}
use Rattle.hk_edf.proofs.laws.reserve_holds.Goals as goal

pub returns : goal.returns
returns c = reserve_holds
