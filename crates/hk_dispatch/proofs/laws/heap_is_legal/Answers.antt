use Rattle.hk_dispatch.proofs.Promises.{run_is_interleaving, legal_in_any_order, history_is_legal, questions_are_answered}
use Rattle.hk_dispatch.proofs.laws.heap_is_legal.Goals as goal

pub returns-clause-run : goal.returns-clause-run
returns-clause-run c = run_is_interleaving

pub returns-clause-orders : goal.returns-clause-orders
returns-clause-orders c = λ g. legal_in_any_order g

pub returns-clause-history : goal.returns-clause-history
returns-clause-history c = history_is_legal

pub returns-clause-questions : goal.returns-clause-questions
returns-clause-questions c = questions_are_answered
