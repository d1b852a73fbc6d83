use Rattle.std.proofs.Common.{◌<◌, length, arith, subst, sym}
use Rattle.hk_plan.specs.AloneBy.{ready_at}
use Rattle.hk_dispatch.specs.declared.run.TaskRun.{TaskRun}
use Rattle.hk_dispatch.specs.Tasks.{task_at}
use Rattle.hk_dispatch.specs.Moment.{course_at}
use Rattle.hk_dispatch.specs.TaskRuns.{ShowsCourse}
use Rattle.hk_dispatch.specs.Ticks.{after_task}
use Rattle.hk_dispatch.proofs.RosterAfter.{row_is_high}
use Rattle.hk_dispatch.proofs.WentOn.{row_below, row_task, row_within, high_went}
use Rattle.hk_dispatch.proofs.stand.Stand.high_tick.Goals as goal

pub give-done-requires-clause-seat : goal.give-done-requires-clause-seat
give-done-requires-clause-seat c =
    let a = c.requires.at in
    row_below c.args.sheet.now a.0 c.args.tick c.args.self.now a.1 c.args.place c.requires.place c.rows.result.now c.rows.ensures

pub index-run-requires : goal.index-run-requires
index-run-requires c =
    let a = c.requires.at in
    let below = row_below c.args.sheet.now a.0 c.args.tick c.args.self.now a.1 c.args.place c.requires.place c.rows.result.now c.rows.ensures in
    let all = (c.give-done.ensures.gave a.0 a.1.before).courses.all in
    omega (arith, below, all)

pub returns : goal.returns
returns c = λ m h.
    let sheet = c.args.sheet.now in
    let t = c.args.tick in
    let v = c.give-done.new.self in
    let rows = c.rows.result.now in
    let seat = (ready_at rows c.args.place).task in
    let done = c.give-done.result in
    let gave = c.give-done.ensures.gave m h.before in
    let task = row_task sheet m t c.args.self.now h c.args.place rows c.rows.ensures in
    let below = row_below sheet m t c.args.self.now h c.args.place c.requires.place rows c.rows.ensures in
    let within = row_within sheet m t c.args.self.now h c.args.place c.requires.place in
    let high = subst (λ k. k < length sheet.high) task (row_is_high sheet m t c.args.place within) in
    let run = c.index-run.result.now in
    high_went sheet m t c.args.self.now h seat below done v gave c.give-done.ensures.keeps c.tell.result c.tell.ensures c.is_some.result c.is_some.ensures c.high_went.new.self c.args.place high within task
    run (subst (λ (r : TaskRun). ShowsCourse (task_at sheet seat) (course_at (after_task sheet m t seat) seat) r) (sym c.index-run.ensures) (gave.courses.each seat run below)) c.high_went.ensures
