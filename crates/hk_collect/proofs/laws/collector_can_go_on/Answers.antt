use Rattle.hk_collect.proofs.Fitting.{event_fires, spot_fits}
use Rattle.hk_collect.proofs.Worn.{event_unless_worn}
use Rattle.hk_collect.proofs.laws.collector_can_go_on.Goals as goal

pub returns-clause-fits : goal.returns-clause-fits
returns-clause-fits c = λ state history h. spot_fits state history h

pub returns-clause-can_fire : goal.returns-clause-can_fire
returns-clause-can_fire c = λ state history h. event_fires state history h

pub returns-clause-event : goal.returns-clause-event
returns-clause-event c = λ state history h. event_unless_worn state history h
