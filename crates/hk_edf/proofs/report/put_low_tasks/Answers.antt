-- One line behind another.
use Rattle.std.proofs.Common.{◌∙◌, ap, subst, arith}
use Rattle.std.proofs.lemmas.Result.{err_from_is_err_and}
use Rattle.hk_sheet.specs.declared.sheet.Low.{Low}
use Rattle.hk_top.specs.Report.{line_of_low}
use Rattle.hk_io.specs.Faults.{Rose}
use Rattle.hk_edf.proofs.Puts.{more_written, more_prefix, low_text}
use Rattle.hk_edf.proofs.report.put_low_tasks.Goals as goal

pub returns-in_err-put_line : goal.returns-in_err-put_line
returns-in_err-put_line g c =
    let tasks = c.args.tasks.now in
    let place = c.loop-task.task-index in
    let is = low_text tasks place c.task-item.result c.deref.result.now c.task-item.is (c.deref.ensures.value ∙ ap (λ (t : Low). t.name) c.task.view_is) in
    let p = err_from_is_err_and c.from_residual.result c.from_residual.ensures.1 in
    rw p.1 (record {
      ok = tt;
      prefix = more_prefix line_of_low tasks _ _ _ place c.task-item.result _ c.loop-task-test.true is c.loop-task.invariant.written c.in_err-put_line.ensures.prefix;
      cause = record { later = omega (arith, c.in_err-put_line.ensures.cause.later, c.loop-task.invariant.kept); failed = subst (λ n. Rose n (g.K.Sink.faults c.put_line.new.sink)) c.loop-task.invariant.kept c.in_err-put_line.ensures.cause.failed; kept = tt };
    })

pub loop-task-preserved : goal.loop-task-preserved
loop-task-preserved g c =
    let tasks = c.args.tasks.now in
    let place = c.loop-task.task-index in
    let is = low_text tasks place c.task-item.result c.deref.result.now c.task-item.is (c.deref.ensures.value ∙ ap (λ (t : Low). t.name) c.task.view_is) in
    record {
      written = more_written line_of_low tasks _ _ _ place c.task-item.result _ c.loop-task-test.true is c.loop-task.invariant.written c.in_ok-put_line.ensures.ok;
      kept = c.in_ok-put_line.ensures.cause.kept ∙ c.loop-task.invariant.kept;
    }
