use Rattle.hk_collect.proofs.Causes.{has_causes}
use Rattle.hk_collect.proofs.EachLine.{lawful_collected}
use Rattle.hk_collect.proofs.Fitting.{spot_fits, event_fires}
use Rattle.hk_collect.proofs.collector.step.Goals as goal

pub advance-requires-clause-fits : goal.advance-requires-clause-fits
advance-requires-clause-fits c = spot_fits c.args.core.now c.requires.lawful.0 c.requires.lawful.1

pub advance-requires-clause-can_fire : goal.advance-requires-clause-can_fire
advance-requires-clause-can_fire c = event_fires c.args.core.now c.requires.lawful.0 c.requires.lawful.1

pub returns-clause-lawful : goal.returns-clause-lawful
returns-clause-lawful c = λ history h. rw c.advance.ensures.next (lawful_collected c.args.core.now history h)

pub returns-clause-causes : goal.returns-clause-causes
returns-clause-causes c = rw c.advance.ensures.work (has_causes c.args.core.now)
