use Rattle.hk_collect.proofs.MeasureAttempts.{untouched_outside, event_keeps_untouched, attempt_succeeds, lost_closes_attempt, attempts_are_counted, lost_is_bounded}
use Rattle.hk_collect.proofs.MeasureBounds.{objects_are_births}
use Rattle.hk_collect.proofs.measure.untouched_attempts.Goals as goal

pub returns-clause-outside : goal.returns-clause-outside
returns-clause-outside c = untouched_outside

pub returns-clause-keeps : goal.returns-clause-keeps
returns-clause-keeps c = event_keeps_untouched

pub returns-clause-succeeds : goal.returns-clause-succeeds
returns-clause-succeeds c = attempt_succeeds

pub returns-clause-closes : goal.returns-clause-closes
returns-clause-closes c = lost_closes_attempt

pub returns-clause-bounded : goal.returns-clause-bounded
returns-clause-bounded c = lost_is_bounded

pub returns-clause-births : goal.returns-clause-births
returns-clause-births c = objects_are_births

pub returns-clause-counted : goal.returns-clause-counted
returns-clause-counted c = attempts_are_counted
