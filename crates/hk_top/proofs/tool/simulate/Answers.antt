-- The report of the sheet that is made for the number.
use Rattle.std.proofs.Common.{◌∙◌}
use Rattle.hk_front.proofs.EndLemmas.{ends_as}
use Rattle.hk_top.specs.declared.report.Form.TheVariants as form
use Rattle.hk_top.specs.Tool.{IsReport, IsSimulation}
use Rattle.hk_top.proofs.tool.simulate.Goals as goal

pub returns-in-Ok-admit-clause-ends : goal.returns-in-Ok-admit-clause-ends
returns-in-Ok-admit-clause-ends g c =
    ends_as (IsReport form.Quiet c.in-Ok-admit.admitted) _ _ _ _ (IsSimulation c.args.number) c.run_admitted.result
    (λ s t report. record { admitted = c.in-Ok-admit.admitted; is = c.in-Ok-admit.ensures ∙ c.in-Ok.ensures.made; answer = report }) c.run_admitted.ensures.ends
