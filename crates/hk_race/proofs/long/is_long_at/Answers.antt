use Rattle.std.proofs.Common.{◌-◌, sym, ◌∙◌, ap, arith}
use Rattle.hk_race.specs.Tasks.{is_long}
use Rattle.hk_race.proofs.Sheets.{high_is, low_is, high_arrivals, low_arrivals, tasks_count}
use Rattle.hk_race.proofs.long.is_long_at.Goals as goal

pub is_high_long-requires-clause-arrivals : goal.is_high_long-requires-clause-arrivals
is_high_long-requires-clause-arrivals c =
    high_arrivals c.args.sheet.now c.args.seat c.ticks.result c.high_at.result.now c.requires.sheet (omega (arith, c.if-seat-high.true, c.high_count-high.ensures)) c.high_at.ensures c.ticks.ensures

pub returns-then-seat-high : goal.returns-then-seat-high
returns-then-seat-high c =
    c.is_high_long.ensures ∙ ap is_long (sym (high_is c.args.sheet.now c.args.seat c.ticks.result c.high_at.result.now (omega (arith, c.if-seat-high.true, c.high_count-high.ensures)) c.high_at.ensures c.ticks.ensures))

pub is_low_long-requires-clause-arrivals : goal.is_low_long-requires-clause-arrivals
is_low_long-requires-clause-arrivals c =
    let count = tasks_count c.args.sheet.now in
    low_arrivals c.args.sheet.now (c.args.seat - c.high_count-high.result) c.ticks-2.result c.low_at.result.now c.requires.sheet
    (omega (arith, c.if-seat-high.false, c.high_count-high.ensures, c.requires.seat, count)) c.low_at.ensures c.ticks-2.ensures

pub returns : goal.returns
returns c =
    let count = tasks_count c.args.sheet.now in
    c.is_low_long.ensures ∙ ap is_long (sym (low_is c.args.sheet.now c.args.seat (c.args.seat - c.high_count-high.result) c.ticks-2.result c.low_at.result.now
    (omega (arith, c.if-seat-high.false, c.high_count-high.ensures)) (omega (arith, c.if-seat-high.false, c.high_count-high.ensures, c.requires.seat, count)) c.low_at.ensures c.ticks-2.ensures))
