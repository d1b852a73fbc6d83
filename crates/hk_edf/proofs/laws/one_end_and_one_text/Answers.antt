use Rattle.hk_edf.proofs.OneAnswer.{one_call}
use Rattle.hk_edf.proofs.laws.one_end_and_one_text.Goals as goal

pub returns-clause-status : goal.returns-clause-status
returns-clause-status c = λ words bytes one other text text' a b. (one_call words bytes one other text text' a b).0

pub returns-clause-text : goal.returns-clause-text
returns-clause-text c = λ words bytes one other text text' a b. (one_call words bytes one other text text' a b).1
