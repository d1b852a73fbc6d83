use Rattle.hk_model.proofs.Histories.{after-push, Legal_from-push, Legal-push}
use Rattle.hk_model.proofs.laws.one_more_entry.Goals as goal

pub returns-clause-heap : goal.returns-clause-heap
returns-clause-heap c = after-push

pub returns-clause-legal : goal.returns-clause-legal
returns-clause-legal c = λ start history e. (Legal_from-push start history e, λ both. Legal-push start history e both.0 both.1)
