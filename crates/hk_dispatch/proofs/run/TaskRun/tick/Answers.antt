use Rattle.std.proofs.Common.{◌≡◌, ◌&&◌, ap, sym, subst, ◌∙◌, Option, Some}
use Rattle.hk_core.specs.State.{flight_of}
use Rattle.hk_script.specs.declared.walk.Need.{Need}
use Rattle.hk_script.specs.Walks.{need_of}
use Rattle.hk_dispatch.specs.InStep.{SeatInStep}
use Rattle.hk_dispatch.specs.Turns.{is_operation}
use Rattle.hk_dispatch.specs.TaskRuns.{task_of, wanted, stays}
use Rattle.hk_dispatch.proofs.run.TaskRun.tick.Goals as goal

pub advance-left-requires-clause-in_step : goal.advance-left-requires-clause-in_step
advance-left-requires-clause-in_step c =
    let a = c.args.self.now in
    let is : Some c.in-Some.need ≡ wanted (task_of c.args.task) a = c.in-Some.ensures.need ∙ ap (λ s. need_of s a.walk) c.script-script.ensures in
    subst (λ (o : Option Need). SeatInStep (flight_of c.args.heap.now.flights c.args.seat) o a.spent) (sym is) c.requires.in_step

pub returns-clause-mid_course : goal.returns-clause-mid_course
returns-clause-mid_course c =
    let a = c.args.self.now in
    let is : Some c.in-Some.need ≡ wanted (task_of c.args.task) a = c.in-Some.ensures.need ∙ ap (λ s. need_of s a.walk) c.script-script.ensures in
    c.is_mid_course.ensures ∙ ap (λ (o : Option Need). is_operation o && stays c.advance-left.result) is ∙ sym c.leave.ensures.mid_course
