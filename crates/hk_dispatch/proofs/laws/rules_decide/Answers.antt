use Rattle.hk_dispatch.proofs.TurnFacts.{rules_apply, high_first, rows_rise_law}
use Rattle.hk_dispatch.proofs.ReadyMoments.{ready_moments_rise}
use Rattle.hk_dispatch.proofs.laws.rules_decide.Goals as goal

pub returns-clause-apply : goal.returns-clause-apply
returns-clause-apply c = rules_apply

pub returns-clause-high : goal.returns-clause-high
returns-clause-high c = high_first

pub returns-clause-rows : goal.returns-clause-rows
returns-clause-rows c = rows_rise_law

pub returns-clause-ready : goal.returns-clause-ready
returns-clause-ready c = ready_moments_rise
