use Rattle.hk_core.specs.State.{flight_of}
use Rattle.hk_core.specs.Step.{answer_by}
use Rattle.hk_core.specs.View.{flight_at}
use Rattle.hk_core.proofs.Room.{new_tells, answers_full}
use Rattle.hk_core.proofs.laws.news_without_room.Goals as goal

pub returns-clause-tells : goal.returns-clause-tells
unfolding flight_at
returns-clause-tells c = λ state history seat dest shape below some is_new h. new_tells state history h seat dest shape below is_new some

pub returns-clause-answers : goal.returns-clause-answers
unfolding answer_by
returns-clause-answers c = λ state seat words. answers_full (flight_of state.flights seat) words
