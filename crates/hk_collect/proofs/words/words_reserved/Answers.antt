use Rattle.hk_collect.proofs.Reserved.{reserved_is_claimed}
use Rattle.hk_collect.proofs.words.words_reserved.Goals as goal

pub returns : goal.returns
returns c = reserved_is_claimed
