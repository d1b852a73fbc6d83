use Rattle.hk_model.proofs.Histories.{length-numbers_born, bearer_is_last, no_bearer, number_of-push_birth, number_of-push_other, bearer-push_birth, bearer-push_other}
use Rattle.hk_model.proofs.laws.numbers_and_bearers.Goals as goal

pub returns-clause-many : goal.returns-clause-many
returns-clause-many c = length-numbers_born

pub returns-clause-last : goal.returns-clause-last
returns-clause-last c = bearer_is_last

pub returns-clause-none : goal.returns-clause-none
returns-clause-none c = no_bearer

pub returns-clause-birth : goal.returns-clause-birth
returns-clause-birth c = λ history e b. (number_of-push_birth history e b, bearer-push_birth history e b)

pub returns-clause-others : goal.returns-clause-others
returns-clause-others c = λ history e b. (number_of-push_other history e b, bearer-push_other history e b)
