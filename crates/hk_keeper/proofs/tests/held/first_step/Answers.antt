use Rattle.std.proofs.Common.{◌∙◌, ap, sym, subst}
use Rattle.hk_words.specs.declared.geometry.Geometry.{Geometry}
use Rattle.hk_table.specs.Rule.{fresh}
use Rattle.hk_table.specs.Deeds.{Stands, is_rest, the_pass}
use Rattle.hk_table.proofs.Opening.{fresh_fits}
use Rattle.hk_table.proofs.Resting.{first_used}
use Rattle.hk_keeper.proofs.tests.held.first_step.Goals as goal

pub step-requires-clause-stands : goal.step-requires-clause-stands
step-requires-clause-stands g c =
    let h = c.args.heap.now.geometry in
    subst (Stands h) (sym (ap the_pass c.requires.fresh)) (fresh_fits h 0 c.requires.some)

pub step-requires-clause-used : goal.step-requires-clause-used
step-requires-clause-used g c =
    let z = c.geometry-g.result in
    ap (λ (y : Geometry). is_rest y c.begin-flight.result) (sym c.geometry-g.ensures) ∙ first_used z (fresh z 0) c.begin-flight.result c.begin-flight.ensures
