use Rattle.hk_ceiling.proofs.Raised.{set_in_front}
use Rattle.hk_ceiling.proofs.responses.raised.Goals as goal

pub returns : goal.returns
returns c = set_in_front c.args.tasks.now c.copy_from_slice.new.self _ c.args.i _ c.requires.within c.copy_from_slice.ensures.after
