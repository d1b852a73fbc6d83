use Rattle.hk_core.specs.View.{flight_at}
use Rattle.hk_core.proofs.Can.{can_step}
use Rattle.hk_core.proofs.Seven.{seat_steps}
use Rattle.hk_core.proofs.kinds.Begin.{lawful_after_begin}
use Rattle.hk_core.proofs.RefusedPlain.{refused_plain}
use Rattle.hk_core.proofs.laws.lawful_states.Goals as goal

pub returns-clause-begin : goal.returns-clause-begin
unfolding flight_at
returns-clause-begin c = lawful_after_begin

pub returns-clause-step : goal.returns-clause-step
unfolding flight_at
returns-clause-step c = λ state history seat below flying h. (seat_steps state history seat below h flying).lawful

pub returns-clause-can_step : goal.returns-clause-can_step
unfolding flight_at
returns-clause-can_step c = λ state history seat below flying h. can_step state history seat below h flying

pub returns-clause-legal : goal.returns-clause-legal
returns-clause-legal c = λ state history h. h.legal

pub returns-clause-plain : goal.returns-clause-plain
unfolding flight_at
returns-clause-plain c = λ state history seat call below idle question fit h. refused_plain state history seat below h idle call question fit
