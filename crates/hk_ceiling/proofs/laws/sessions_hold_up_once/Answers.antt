use Rattle.hk_ceiling.proofs.Sessions as law
use Rattle.hk_ceiling.proofs.laws.sessions_hold_up_once.Goals as goal

pub returns : goal.returns
returns c = law.held_up_by_one_section
