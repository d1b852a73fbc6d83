use Rattle.hk_collect.proofs.Cycles.{opening_is_worked, event_works, worn_is_late, few_events_never_wear}
use Rattle.hk_collect.proofs.measure.cycles_take_events.Goals as goal

pub returns-clause-opening : goal.returns-clause-opening
returns-clause-opening c = opening_is_worked

pub returns-clause-event : goal.returns-clause-event
returns-clause-event c = event_works

pub returns-clause-late : goal.returns-clause-late
returns-clause-late c = worn_is_late

pub returns-clause-few : goal.returns-clause-few
returns-clause-few c = few_events_never_wear
