use Rattle.std.proofs.Common.{◌-◌, sym, ◌∙◌, arith}
use Rattle.hk_race.specs.Tasks.{of_high, of_low}
use Rattle.hk_race.proofs.Sheets.{high_fits, low_fits, high_arrivals, low_arrivals, is_held, tasks_count}
use Rattle.hk_race.proofs.tasks.task_at.Goals as goal

pub high_task-requires-clause-arrivals : goal.high_task-requires-clause-arrivals
high_task-requires-clause-arrivals c =
    high_arrivals c.args.sheet.now c.args.seat c.ticks.result c.high_at.result.now c.requires.sheet (omega (arith, c.if-seat-high.true, c.high_count-high.ensures)) c.high_at.ensures c.ticks.ensures

pub high_task-requires-clause-short : goal.high_task-requires-clause-short
high_task-requires-clause-short c =
    (high_fits c.args.sheet.now c.args.seat c.ticks.result c.high_at.result.now c.requires.sheet c.requires.short (omega (arith, c.if-seat-high.true, c.high_count-high.ensures)) c.high_at.ensures c.ticks.ensures).short

pub returns-then-seat-high-clause-shown : goal.returns-then-seat-high-clause-shown
returns-then-seat-high-clause-shown c =
    c.high_task.ensures.shown
    ∙ sym (high_fits c.args.sheet.now c.args.seat c.ticks.result c.high_at.result.now c.requires.sheet c.requires.short (omega (arith, c.if-seat-high.true, c.high_count-high.ensures)) c.high_at.ensures c.ticks.ensures).is

pub returns-then-seat-high-clause-holds : goal.returns-then-seat-high-clause-holds
returns-then-seat-high-clause-holds c =
    is_held c.args.sheet.now c.args.seat (of_high c.ticks.result c.high_at.result.now) c.high_task.result
    (high_fits c.args.sheet.now c.args.seat c.ticks.result c.high_at.result.now c.requires.sheet c.requires.short (omega (arith, c.if-seat-high.true, c.high_count-high.ensures)) c.high_at.ensures c.ticks.ensures)
    c.high_task.ensures.shown c.high_task.ensures.cost c.high_task.ensures.jobs c.high_task.ensures.few

pub low_task-requires-clause-arrivals : goal.low_task-requires-clause-arrivals
low_task-requires-clause-arrivals c =
    let count = tasks_count c.args.sheet.now in
    low_arrivals c.args.sheet.now (c.args.seat - c.high_count-high.result) c.ticks-2.result c.low_at.result.now c.requires.sheet
    (omega (arith, c.if-seat-high.false, c.high_count-high.ensures, c.requires.seat, count)) c.low_at.ensures c.ticks-2.ensures

pub low_task-requires-clause-short : goal.low_task-requires-clause-short
low_task-requires-clause-short c =
    let count = tasks_count c.args.sheet.now in
    (low_fits c.args.sheet.now c.args.seat (c.args.seat - c.high_count-high.result) c.ticks-2.result c.low_at.result.now c.requires.sheet c.requires.short
    (omega (arith, c.if-seat-high.false, c.high_count-high.ensures)) (omega (arith, c.if-seat-high.false, c.high_count-high.ensures, c.requires.seat, count)) c.low_at.ensures c.ticks-2.ensures).short

pub returns-clause-shown : goal.returns-clause-shown
returns-clause-shown c =
    let count = tasks_count c.args.sheet.now in
    c.low_task.ensures.shown
    ∙ sym (low_fits c.args.sheet.now c.args.seat (c.args.seat - c.high_count-high.result) c.ticks-2.result c.low_at.result.now c.requires.sheet c.requires.short
    (omega (arith, c.if-seat-high.false, c.high_count-high.ensures)) (omega (arith, c.if-seat-high.false, c.high_count-high.ensures, c.requires.seat, count)) c.low_at.ensures c.ticks-2.ensures).is

pub returns-clause-holds : goal.returns-clause-holds
returns-clause-holds c =
    let count = tasks_count c.args.sheet.now in
    is_held c.args.sheet.now c.args.seat (of_low c.ticks-2.result c.low_at.result.now) c.low_task.result
    (low_fits c.args.sheet.now c.args.seat (c.args.seat - c.high_count-high.result) c.ticks-2.result c.low_at.result.now c.requires.sheet c.requires.short
    (omega (arith, c.if-seat-high.false, c.high_count-high.ensures)) (omega (arith, c.if-seat-high.false, c.high_count-high.ensures, c.requires.seat, count)) c.low_at.ensures c.ticks-2.ensures)
    c.low_task.ensures.shown c.low_task.ensures.cost c.low_task.ensures.jobs c.low_task.ensures.few
