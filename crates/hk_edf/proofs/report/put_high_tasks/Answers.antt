-- One line behind another.
use Rattle.std.proofs.Common.{◌∙◌, ap, subst, arith}
use Rattle.std.specs.Prelude.{decimal}
use Rattle.std.proofs.lemmas.Result.{err_from_is_err_and}
use Rattle.hk_sheet.specs.declared.sheet.High.{High}
use Rattle.hk_edf.specs.Text.{line_of_deadline}
use Rattle.hk_io.specs.Faults.{Rose}
use Rattle.hk_edf.proofs.Puts.{more_prefix, high_text}
use Rattle.hk_edf.proofs.report.put_high_tasks.Goals as goal

pub returns-in_err-put_line : goal.returns-in_err-put_line
returns-in_err-put_line g c =
    let tasks = c.args.tasks.now in
    let place = c.loop-task.task-index in
    let is = high_text tasks place c.task-item.result c.deref.result.now c.bytes.result.now c.task-item.is (c.deref.ensures.value ∙ ap (λ (t : High). t.name) c.task.view_is)
    (c.bytes.ensures.value ∙ c.digits-deadline.ensures ∙ ap (λ (t : High). decimal t.timing.deadline) c.task.view_is) in
    let p = err_from_is_err_and c.from_residual.result c.from_residual.ensures.1 in
    rw p.1 (record {
      ok = tt;
      prefix = more_prefix line_of_deadline tasks _ _ _ place c.task-item.result _ c.loop-task-test.true is c.loop-task.invariant.written c.in_err-put_line.ensures.prefix;
      cause = record { later = omega (arith, c.in_err-put_line.ensures.cause.later, c.loop-task.invariant.kept); failed = subst (λ n. Rose n (g.K.Sink.faults c.put_line.new.sink)) c.loop-task.invariant.kept c.in_err-put_line.ensures.cause.failed; kept = tt };
    })
