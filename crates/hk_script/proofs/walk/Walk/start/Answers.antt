use Rattle.hk_script.proofs.Stops.{started_fits}
use Rattle.hk_script.proofs.walk.Walk.start.Goals as goal

pub returns-clause-fits : goal.returns-clause-fits
returns-clause-fits c = λ limits script h. started_fits script c.args.job h
