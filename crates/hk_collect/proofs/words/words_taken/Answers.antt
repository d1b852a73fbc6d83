use Rattle.hk_collect.proofs.Taken.{begins_take_none, steps_take, events_take_none, flips_begin_cycles}
use Rattle.hk_collect.proofs.words.words_taken.Goals as goal

pub returns-clause-begins : goal.returns-clause-begins
returns-clause-begins c = begins_take_none

pub returns-clause-steps : goal.returns-clause-steps
returns-clause-steps c = steps_take

pub returns-clause-events : goal.returns-clause-events
returns-clause-events c = events_take_none

pub returns-clause-flips : goal.returns-clause-flips
returns-clause-flips c = flips_begin_cycles
