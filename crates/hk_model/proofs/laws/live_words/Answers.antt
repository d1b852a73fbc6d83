use Rattle.hk_model.proofs.Lives.{some_live, one_live, within_live}
use Rattle.hk_model.proofs.laws.live_words.Goals as goal

pub returns-clause-some : goal.returns-clause-some
returns-clause-some c = some_live

pub returns-clause-one : goal.returns-clause-one
returns-clause-one c = one_live

pub returns-clause-within : goal.returns-clause-within
returns-clause-within c = within_live
