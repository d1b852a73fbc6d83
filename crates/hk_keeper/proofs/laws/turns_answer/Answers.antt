use Rattle.hk_keeper.proofs.Together.{more}
use Rattle.hk_keeper.proofs.Telling.{useful_exactly, some_event}
use Rattle.hk_keeper.proofs.laws.turns_answer.Goals as goal

pub returns-clause-useful : goal.returns-clause-useful
returns-clause-useful c = λ g k budget answer events k' o. useful_exactly g k budget answer events k' o

pub returns-clause-some : goal.returns-clause-some
returns-clause-some c = λ g k budget answer events k' o some not-worn. some_event g k budget answer events k' o some not-worn

pub returns-clause-together : goal.returns-clause-together
returns-clause-together c = λ g k k' k'' m n e e' answer a b. more g k k' m e a n answer e' k'' b
