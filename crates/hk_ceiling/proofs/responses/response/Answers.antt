use Rattle.std.proofs.Common.{◌+◌, ap}
use Rattle.hk_rta.specs.Demand.{cost_at}
use Rattle.hk_ceiling.proofs.Raised.{found, late}
use Rattle.hk_ceiling.proofs.responses.response.Goals as goal

pub returns-clause-found : goal.returns-clause-found
returns-clause-found c =
    found c.args.tasks.now _ c.args.sections.now c.args.i _ c.requires.within c.requires.still c.raised-all.ensures
    (ap (λ b. cost_at c.args.tasks.now c.args.i + b) c.block.ensures) c.response.result c.response.ensures.found

pub returns-clause-none : goal.returns-clause-none
returns-clause-none c =
    late c.args.tasks.now _ c.args.sections.now c.args.i _ c.requires.within c.requires.still c.raised-all.ensures
    (ap (λ b. cost_at c.args.tasks.now c.args.i + b) c.block.ensures) c.response.result c.response.ensures.none
