use Rattle.hk_core.specs.View.{flight_at}
use Rattle.hk_core.proofs.Apart.{stands_apart, writes_own}
use Rattle.hk_core.proofs.Seven.{seat_steps}
use Rattle.hk_core.proofs.laws.inside_an_object.Goals as goal

pub returns-clause-alone : goal.returns-clause-alone
unfolding flight_at
returns-clause-alone c = λ state history seat inside below inside_below flying is_inside h.
    (seat_steps state history seat below h flying).alone inside inside_below is_inside

pub returns-clause-apart : goal.returns-clause-apart
unfolding flight_at
returns-clause-apart c = λ state history inside below is_inside h. stands_apart state history h inside below is_inside

pub returns-clause-place : goal.returns-clause-place
unfolding flight_at
returns-clause-place c = λ state history inside below is_inside h. h.facts.place_known inside below is_inside

pub returns-clause-own : goal.returns-clause-own
unfolding flight_at
returns-clause-own c = λ state history seat inside p below inside_below is_inside h written covered.
    writes_own state history h inside inside_below is_inside seat below p written covered
