use Rattle.std.proofs.Common.{refl, ◌∙◌}
use Rattle.hk_script.proofs.Stops.{started_fits}
use Rattle.hk_script.proofs.Potential.{goes_on_fitting}
use Rattle.hk_script.proofs.laws.walks_fit.Goals as goal

pub returns-clause-started : goal.returns-clause-started
returns-clause-started c = λ limits script job h. (started_fits script job h, refl)

pub returns-clause-after : goal.returns-clause-after
returns-clause-after c = λ limits script walk reply h f len. let on = goes_on_fitting script walk reply h f in (on.0, on.1 ∙ len)
