-- The replay.
use Rattle.hk_dispatch.proofs.Whole.{session_is_replay}
use Rattle.hk_dispatch.proofs.laws.session_is_replay.Goals as goal

pub returns : goal.returns
returns c = session_is_replay
