use Rattle.hk_collect.proofs.Running.{flights_kept, history_kept}
use Rattle.hk_collect.proofs.laws.collector_keeps_history.Goals as goal

pub returns-clause-history : goal.returns-clause-history
returns-clause-history c = λ r. history_kept r

pub returns-clause-flights : goal.returns-clause-flights
returns-clause-flights c = λ r. flights_kept r
