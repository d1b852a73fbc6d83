-- One line behind another.
use Rattle.std.proofs.Common.{◌∙◌}
use Rattle.std.proofs.lemmas.Result.{err_from_is_err_and}
use Rattle.hk_top.specs.Report.{line_of_low}
use Rattle.hk_top.proofs.Parts.{more_front, more_prefix}
use Rattle.hk_top.proofs.ReportLemmas.{low_text}
use Rattle.hk_top.proofs.report.write_low_tasks.Goals as goal

pub returns-in_err-push-clause-prefix : goal.returns-in_err-push-clause-prefix
returns-in_err-push-clause-prefix g c =
    let tasks = c.args.tasks.now in
    let place = c.loop-task.task-index in
    let text = c.bytes.result.now in
    let is = low_text tasks place c.task-item.result c.bytes_of.result.now text c.task-item.is c.bytes_of.ensures (c.bytes.ensures.value ∙ c.low_line.ensures) in
    let p = err_from_is_err_and c.from_residual.result c.from_residual.ensures.1 in
    rw p.1 (more_prefix line_of_low tasks _ _ _ c.args.gather.now c.loop-task.gather text place _ c.loop-task-test.true is
    c.loop-task.invariant.front c.in_err-push.ensures.prefix)

pub loop-task-preserved : goal.loop-task-preserved
loop-task-preserved g c =
    let tasks = c.args.tasks.now in
    let place = c.loop-task.task-index in
    let text = c.bytes.result.now in
    let is = low_text tasks place c.task-item.result c.bytes_of.result.now text c.task-item.is c.bytes_of.ensures (c.bytes.ensures.value ∙ c.low_line.ensures) in
    record {
      front = more_front line_of_low tasks _ _ _ c.args.gather.now c.loop-task.gather text place _ c.loop-task-test.true is _ c.loop-task.invariant.front c.in_ok-push.ensures.ok;
      kept = c.in_ok-push.ensures.cause.kept ∙ c.loop-task.invariant.kept;
    }
