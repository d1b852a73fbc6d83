use Rattle.std.proofs.Common.{codes, ap, sym, ◌∙◌}
use Rattle.std.proofs.lemmas.Result.{err_from_is_err_and}
use Rattle.toml.specs.View.{table_view}
use Rattle.hk_sheet.specs.Rules.{number, needs, time_rules}
use Rattle.hk_sheet.specs.Faults.{fault_of_key, fault_of_keys}
use Rattle.hk_sheet.proofs.FaultOrder.{skip, stop}
use Rattle.hk_sheet.proofs.keys.Keys.times.Goals as goal

pub returns-in_err-deadline : goal.returns-in_err-deadline
unfolding time_rules
returns-in_err-deadline c =
    let path = c.args.self.now.path.now in
    let entries = table_view c.args.self.now.table.now in
    let p = err_from_is_err_and c.from_residual-in_err-deadline.result c.from_residual-in_err-deadline.ensures.1 in
    let high = ap (λ high. fault_of_keys path entries (time_rules high entries)) c.if-high.true in
    let most = ap (λ most. fault_of_key path entries (needs (codes "deadline") (number 1 most))) c.in_ok-period.ensures.value.1 in
    rw (p.1, p.2) (λ other. high ∙ skip c.in_ok-period.ensures.value.0 ∙ stop _ (sym most ∙ c.in_err-deadline.ensures.value other))
