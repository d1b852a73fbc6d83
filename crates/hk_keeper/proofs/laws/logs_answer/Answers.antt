use Rattle.hk_keeper.proofs.Answering.{answers_more, answers_none}
use Rattle.hk_keeper.proofs.laws.logs_answer.Goals as goal

pub returns-clause-together : goal.returns-clause-together
returns-clause-together c = λ g before a b. answers_more g before a b

pub returns-clause-seats : goal.returns-clause-seats
returns-clause-seats c = λ g before later none. answers_none g before later none
