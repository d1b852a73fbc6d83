use Rattle.std.proofs.Common.{◌-◌, sym, ◌∙◌, ap, arith, refl}
use Rattle.hk_race.specs.Tasks.{Task}
use Rattle.hk_race.proofs.Sheets.{high_is, low_is, tasks_count}
use Rattle.hk_race.proofs.tasks.name_at.Goals as goal

pub returns-then-seat-high : goal.returns-then-seat-high
returns-then-seat-high c =
    c.high_name.ensures ∙ ap (λ (t : Task). t.name) (sym (high_is c.args.sheet.now c.args.seat c.args.sheet.now.ticks c.high_at.result.now (omega (arith, c.if-seat-high.true, c.high_count-high.ensures)) c.high_at.ensures refl))

pub returns : goal.returns
returns c =
    let count = tasks_count c.args.sheet.now in
    c.low_name.ensures ∙ ap (λ (t : Task). t.name) (sym (low_is c.args.sheet.now c.args.seat (c.args.seat - c.high_count-high.result) c.args.sheet.now.ticks c.low_at.result.now
    (omega (arith, c.if-seat-high.false, c.high_count-high.ensures)) (omega (arith, c.if-seat-high.false, c.high_count-high.ensures, c.requires, count)) c.low_at.ensures refl))
