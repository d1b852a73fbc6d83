use Rattle.hk_collect.proofs.Pays as pays
use Rattle.hk_collect.proofs.measure.collector_pays.Goals as goal

pub returns-clause-opening : goal.returns-clause-opening
returns-clause-opening c = pays.opening_keeps_heap

pub returns-clause-begins : goal.returns-clause-begins
returns-clause-begins c = pays.begins_keep_heap

pub returns-clause-steps : goal.returns-clause-steps
returns-clause-steps c = pays.steps_keep_heap

pub returns-clause-met : goal.returns-clause-met
returns-clause-met c = pays.met_keeps_heap

pub returns-clause-pays : goal.returns-clause-pays
returns-clause-pays c = pays.collector_pays

pub returns-clause-lost : goal.returns-clause-lost
returns-clause-lost c = pays.lost_is_few
