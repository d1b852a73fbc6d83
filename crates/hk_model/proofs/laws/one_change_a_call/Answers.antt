use Rattle.hk_model.proofs.Effects.{view_of-put, view_of-store, view_of-load, view_of-move, view_of-clear, view_of-new}
use Rattle.hk_model.proofs.laws.one_change_a_call.Goals as goal

pub returns-clause-put : goal.returns-clause-put
returns-clause-put c = view_of-put

pub returns-clause-store : goal.returns-clause-store
returns-clause-store c = view_of-store

pub returns-clause-load : goal.returns-clause-load
returns-clause-load c = view_of-load

pub returns-clause-move_effect : goal.returns-clause-move_effect
returns-clause-move_effect c = view_of-move

pub returns-clause-clear : goal.returns-clause-clear
returns-clause-clear c = view_of-clear

pub returns-clause-new : goal.returns-clause-new
returns-clause-new c = view_of-new
