use Rattle.hk_core.specs.View.{flight_at}
use Rattle.hk_core.proofs.Unused.{reached_kept, number_is_fresh}
use Rattle.hk_core.proofs.laws.fresh_numbers.Goals as goal

pub returns-clause-kept : goal.returns-clause-kept
returns-clause-kept c = λ state history birth h reach. reached_kept state history h birth reach

pub returns-clause-fresh : goal.returns-clause-fresh
unfolding flight_at
returns-clause-fresh c = λ state history seat dest shape below is_new at room h. number_is_fresh state history h seat dest shape below is_new at room
