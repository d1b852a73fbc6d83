use Rattle.std.proofs.Common.{◌∙◌}
use Rattle.std.proofs.lemmas.Result.{err_from_is_err_and}
use Rattle.toml.specs.View.{table_view}
use Rattle.hk_sheet.specs.Raw.{raw_task}
use Rattle.hk_sheet.proofs.FaultOrder.{skip, stop}
use Rattle.hk_sheet.proofs.RawFaults.{task_parts}
use Rattle.hk_sheet.proofs.keys.Keys.task.Goals as goal

pub returns-in_err-only-clause-read : goal.returns-in_err-only-clause-read
returns-in_err-only-clause-read c =
    let parts = task_parts c.args.self.now.path.now (table_view c.args.self.now.table.now) c.args.high c.args.run _ _ _ c.first_keys.ensures c.last_keys.ensures c.has.ensures in
    let p = err_from_is_err_and c.from_residual.result c.from_residual.ensures.1 in
    rw (p.1, p.2) (λ other. parts ∙ stop _ (c.in_err-only.ensures other))

pub returns-in_err-name-clause-read : goal.returns-in_err-name-clause-read
returns-in_err-name-clause-read c =
    let parts = task_parts c.args.self.now.path.now (table_view c.args.self.now.table.now) c.args.high c.args.run _ _ _ c.first_keys.ensures c.last_keys.ensures c.has.ensures in
    let p = err_from_is_err_and c.from_residual-in_err-name.result c.from_residual-in_err-name.ensures.1 in
    rw (p.1, p.2) (λ other. parts ∙ skip c.in_ok-only.ensures ∙ stop _ (c.in_err-name.ensures other))

pub returns-in_err-times-clause-read : goal.returns-in_err-times-clause-read
returns-in_err-times-clause-read c =
    let parts = task_parts c.args.self.now.path.now (table_view c.args.self.now.table.now) c.args.high c.args.run _ _ _ c.first_keys.ensures c.last_keys.ensures c.has.ensures in
    let p = err_from_is_err_and c.from_residual-in_err-times.result c.from_residual-in_err-times.ensures.1 in
    rw (p.1, p.2) (λ other. parts ∙ skip c.in_ok-only.ensures ∙ skip c.in_ok-name.ensures.0 ∙ stop _ (c.in_err-times.ensures other))

pub returns-in_err-arrivals-clause-read : goal.returns-in_err-arrivals-clause-read
returns-in_err-arrivals-clause-read c =
    let parts = task_parts c.args.self.now.path.now (table_view c.args.self.now.table.now) c.args.high c.args.run _ _ _ c.first_keys.ensures c.last_keys.ensures c.has.ensures in
    let p = err_from_is_err_and c.from_residual-in_err-arrivals.result c.from_residual-in_err-arrivals.ensures.1 in
    rw (p.1, p.2) (λ other. parts ∙ skip c.in_ok-only.ensures ∙ skip c.in_ok-name.ensures.0 ∙ skip c.in_ok-times.ensures.0 ∙ stop _ (c.in_err-arrivals.ensures.read other))

pub returns-in_err-script-clause-read : goal.returns-in_err-script-clause-read
returns-in_err-script-clause-read c =
    let parts = task_parts c.args.self.now.path.now (table_view c.args.self.now.table.now) c.args.high c.args.run _ _ _ c.first_keys.ensures c.last_keys.ensures c.has.ensures in
    let p = err_from_is_err_and c.from_residual-in_err-script.result c.from_residual-in_err-script.ensures.1 in
    rw (p.1, p.2) (λ other. parts ∙ skip c.in_ok-only.ensures ∙ skip c.in_ok-name.ensures.0 ∙ skip c.in_ok-times.ensures.0 ∙ skip c.in_ok-arrivals.ensures.read.0 ∙ stop _ (c.in_err-script.ensures other))

pub returns-clause-read : goal.returns-clause-read
unfolding raw_task
returns-clause-read c =
    let parts = task_parts c.args.self.now.path.now (table_view c.args.self.now.table.now) c.args.high c.args.run _ _ _ c.first_keys.ensures c.last_keys.ensures c.has.ensures in (
      parts ∙ skip c.in_ok-only.ensures ∙ skip c.in_ok-name.ensures.0 ∙ skip c.in_ok-times.ensures.0 ∙ skip c.in_ok-arrivals.ensures.read.0 ∙ skip c.in_ok-script.ensures.0,
      λ i. record { name = c.in_ok-name.ensures.1 i; times = c.in_ok-times.ensures.1 i; arrivals = c.in_ok-arrivals.ensures.read.1 i; script = c.in_ok-script.ensures.1 i },
    )
