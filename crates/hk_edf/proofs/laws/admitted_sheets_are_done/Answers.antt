use Rattle.hk_edf.proofs.Done.{admitted_is_done}
use Rattle.hk_edf.proofs.laws.admitted_sheets_are_done.Goals as goal

pub returns : goal.returns
returns c = admitted_is_done
