use Rattle.std.proofs.Common.{◌≡◌, ◌∷◌, ◌++◌, [], length, map, ap, sym, ◌∙◌, append-nil, arith}
use Rattle.std.proofs.lemmas.Result.{err_from_is_err_and}
use Rattle.std.specs.Vec.Iter.{into_iter_items}
use Rattle.hk_sheet.specs.declared.raw.RawTask.{RawTask}
use Rattle.hk_sheet.specs.Faults.{first_of}
use Rattle.hk_sheet.specs.Raw.{high_with, low_with, highs_among, lows_among, script_fault}
use Rattle.hk_sheet.proofs.FaultOrder.{skip, stop}
use Rattle.hk_sheet.proofs.Turns.{one_more_given, nothing_left}
use Rattle.hk_sheet.proofs.tasks.judged_tasks.Goals as goal

pub loop-task-preserved : goal.loop-task-preserved
loop-task-preserved c =
    let at = c.loop-task in
    let steps : into_iter_items at.task-iterator ≡ c.in-Some.task ∷ into_iter_items c.next.new.self = c.in-Some.ensures.steps.0 in
    let gone = c.in-Some.ensures.steps.1 in
    let short = ap length steps in
    let few = at.invariant.few in
    record {
      highs = one_more_given (λ (task : RawTask). high_with task task.times) _ _ _ _ c.in-Some.task _ steps c.in_ok-add_task.ensures.highs at.invariant.highs;
      lows = one_more_given (λ (task : RawTask). low_with task task.times) _ _ _ _ c.in-Some.task _ steps c.in_ok-add_task.ensures.lows at.invariant.lows;
      left = sym (skip c.in_ok-add_task.ensures.fault) ∙ ap (λ tasks. first_of (map script_fault tasks)) (sym steps) ∙ at.invariant.left;
      few = omega arith;
    }

pub returns-in_err-add_task : goal.returns-in_err-add_task
returns-in_err-add_task c =
    let at = c.loop-task in
    let p = err_from_is_err_and c.from_residual.result c.from_residual.ensures.1 in
    rw (p.1, p.2) (λ other. sym at.invariant.left ∙ ap (λ tasks. first_of (map script_fault tasks)) c.in-Some.ensures.steps.0 ∙ stop _ (c.in_err-add_task.ensures.fault other))

pub returns : goal.returns
returns c =
    let at = c.loop-task in
    let empty : into_iter_items at.task-iterator ≡ [] = nothing_left _ (sym at.invariant.few ∙ c.in-None.ensures.steps.0) in
    let highs = sym (append-nil at.highs.items) ∙ ap (λ tasks. at.highs.items ++ highs_among tasks) (sym empty) ∙ at.invariant.highs in
    let lows = sym (append-nil at.lows.items) ∙ ap (λ tasks. at.lows.items ++ lows_among tasks) (sym empty) ∙ at.invariant.lows in
    (sym at.invariant.left ∙ ap (λ tasks. first_of (map script_fault tasks)) empty, λ i. (highs i, lows i))
