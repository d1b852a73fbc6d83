use Rattle.std.proofs.Common.{◌+◌, ◌*◌, refl, ap}
use Rattle.hk_dispatch.proofs.SeatGiven.{shows_at, seat_gave}
use Rattle.hk_dispatch.proofs.SeatTick.{course_kept, wants_fit, in_step}
use Rattle.hk_dispatch.proofs.stand.Stand.give.Goals as goal

pub tick-done-requires-clause-kept : goal.tick-done-requires-clause-kept
tick-done-requires-clause-kept c =
    let b = c.requires.at.1 in
    course_kept c.args.sheet.now c.requires.at.0 c.args.tick b.may c.args.seat c.requires.seat _ c.task_at-task.ensures c.args.self.now.heap b.shows.heap_is c.index_mut.result.now
    (shows_at c.args.sheet.now c.requires.at.0 c.args.tick c.args.self.now b c.args.seat c.requires.seat c.index_mut.result.now c.index_mut.ensures.value)

pub tick-done-requires-clause-wants : goal.tick-done-requires-clause-wants
tick-done-requires-clause-wants c =
    let b = c.requires.at.1 in
    wants_fit c.args.sheet.now c.requires.at.0 c.args.tick b.may c.args.seat c.requires.seat _ c.task_at-task.ensures c.args.self.now.heap b.shows.heap_is c.index_mut.result.now
    (shows_at c.args.sheet.now c.requires.at.0 c.args.tick c.args.self.now b c.args.seat c.requires.seat c.index_mut.result.now c.index_mut.ensures.value)

pub tick-done-requires-clause-in_step : goal.tick-done-requires-clause-in_step
tick-done-requires-clause-in_step c =
    let b = c.requires.at.1 in
    in_step c.args.sheet.now c.requires.at.0 c.args.tick b.may c.args.seat c.requires.seat _ c.task_at-task.ensures c.args.self.now.heap b.shows.heap_is c.index_mut.result.now
    (shows_at c.args.sheet.now c.requires.at.0 c.args.tick c.args.self.now b c.args.seat c.requires.seat c.index_mut.result.now c.index_mut.ensures.value)

pub returns-clause-gave : goal.returns-clause-gave
returns-clause-gave c = λ m b.
    seat_gave c.args.sheet.now m c.args.tick c.args.self.now b c.args.seat c.requires.seat _ c.task_at-task.ensures c.index_mut.result.now c.index_mut.ensures.value
    c.tick-done.new.self c.tick-done.result c.tick-done.ensures.course c.tick-done.ensures.out c.tick-done.ensures.end c.tick-done.ensures.mid_course c.tick-done.ensures.words c.tick-done.ensures.few
    _ c.tick-done.ensures.heap refl (ap (λ w. c.args.self.now.debt + c.args.sheet.now.heap.rate * w) c.from.ensures)
