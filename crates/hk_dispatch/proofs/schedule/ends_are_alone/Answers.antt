use Rattle.hk_dispatch.proofs.AloneEnds as law
use Rattle.hk_dispatch.proofs.schedule.ends_are_alone.Goals as goal

pub returns : goal.returns
returns c = law.ends_are_alone
