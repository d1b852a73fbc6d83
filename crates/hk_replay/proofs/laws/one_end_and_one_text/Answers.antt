use Rattle.hk_replay.proofs.OneText.{one_end, one_text}
use Rattle.hk_replay.proofs.laws.one_end_and_one_text.Goals as goal

pub returns-clause-status : goal.returns-clause-status
returns-clause-status c = one_end

pub returns-clause-text : goal.returns-clause-text
returns-clause-text c = one_text
