use Rattle.std.proofs.Common.{◌∙◌, arith, sym, subst}
use Rattle.hk_dispatch.specs.Turns.{Turn}
use Rattle.hk_dispatch.specs.Opened.{Went}
use Rattle.hk_dispatch.proofs.TurnTaken.{rows_rise, some_rows, no_rows, high_turn, operation_turn, operation_is, operation_only, collector_turn, low_turn, low_is, low_only, nobody_turn}
use Rattle.hk_dispatch.proofs.stand.Stand.tick.Goals as goal

pub pick-place-requires-clause-rising : goal.pick-place-requires-clause-rising
pick-place-requires-clause-rising g c = rows_rise (g.P.Pick.choice c.args.pick.now) c.args.sheet.now c.requires.0 c.args.tick c.look.new.self (c.look.ensures c.requires.0 c.requires.1) c.rows-rows.result.now c.rows-rows.ensures

pub returns-then-not-is_empty : goal.returns-then-not-is_empty
returns-then-not-is_empty g c = λ m b.
    let h = c.look.ensures m b in
    let rows = c.rows-rows.result.now in
    subst (λ (o : Turn). Went c.args.sheet.now m c.args.tick o c.high_tick.new.self c.high_tick.result)
    (high_turn (g.P.Pick.choice c.args.pick.now) c.args.sheet.now m c.args.tick c.look.new.self h rows c.rows-rows.ensures (some_rows rows (sym c.is_empty.ensures ∙ c.if-not-is_empty.true)) c.pick-place.result c.pick-place.ensures.chosen)
    (c.high_tick.ensures m h)

pub low_tick-requires-clause-low : goal.low_tick-requires-clause-low
low_tick-requires-clause-low g c =
    let rows = c.rows-rows.result.now in
    (operation_is (g.P.Pick.choice c.args.pick.now) c.args.sheet.now c.requires.0 c.args.tick c.look.new.self (c.look.ensures c.requires.0 c.requires.1) rows c.rows-rows.ensures (no_rows rows (sym c.is_empty.ensures ∙ c.if-not-is_empty.false)) c.in-Some.seat c.in-Some.is).low

pub returns-in-Some : goal.returns-in-Some
returns-in-Some g c = λ m b.
    let h = c.look.ensures m b in
    let rows = c.rows-rows.result.now in
    let none = no_rows rows (sym c.is_empty.ensures ∙ c.if-not-is_empty.false) in
    subst (λ (o : Turn). Went c.args.sheet.now m c.args.tick o c.low_tick.new.self c.low_tick.result)
    (operation_turn (g.P.Pick.choice c.args.pick.now) c.args.sheet.now m c.args.tick c.look.new.self h rows c.rows-rows.ensures none c.in-Some.seat c.in-Some.is)
    (c.low_tick.ensures m h (operation_only (g.P.Pick.choice c.args.pick.now) c.args.sheet.now m c.args.tick c.look.new.self h rows c.rows-rows.ensures none c.in-Some.seat c.in-Some.is))

pub returns-then-self-gt0 : goal.returns-then-self-gt0
returns-then-self-gt0 g c = λ m b.
    let h = c.look.ensures m b in
    let rows = c.rows-rows.result.now in
    let none = no_rows rows (sym c.is_empty.ensures ∙ c.if-not-is_empty.false) in
    subst (λ (o : Turn). Went c.args.sheet.now m c.args.tick o c.collect.new.self c.collect.result)
    (collector_turn (g.P.Pick.choice c.args.pick.now) c.args.sheet.now m c.args.tick c.look.new.self h rows c.rows-rows.ensures none c.in_default.is c.if-self-gt0.true)
    (c.collect.ensures c.args.sheet.now m c.args.tick h)

pub low_tick-requires-in-Some-low-clause-low : goal.low_tick-requires-in-Some-low-clause-low
low_tick-requires-in-Some-low-clause-low g c =
    let rows = c.rows-rows.result.now in
    let not = c.if-self-gt0.false in
    (low_is (g.P.Pick.choice c.args.pick.now) c.args.sheet.now c.requires.0 c.args.tick c.look.new.self (c.look.ensures c.requires.0 c.requires.1) rows c.rows-rows.ensures
    (no_rows rows (sym c.is_empty.ensures ∙ c.if-not-is_empty.false)) c.in_default.is (omega (arith, not)) c.in-Some-low.seat (sym c.low.ensures ∙ c.in-Some-low.is)).low

pub returns-in-Some-low : goal.returns-in-Some-low
returns-in-Some-low g c = λ m b.
    let h = c.look.ensures m b in
    let rows = c.rows-rows.result.now in
    let none = no_rows rows (sym c.is_empty.ensures ∙ c.if-not-is_empty.false) in
    let not = c.if-self-gt0.false in
    subst (λ (o : Turn). Went c.args.sheet.now m c.args.tick o c.low_tick-in-Some-low.new.self c.low_tick-in-Some-low.result)
    (low_turn (g.P.Pick.choice c.args.pick.now) c.args.sheet.now m c.args.tick c.look.new.self h rows c.rows-rows.ensures none c.in_default.is (omega (arith, not)) c.in-Some-low.seat (sym c.low.ensures ∙ c.in-Some-low.is))
    (c.low_tick-in-Some-low.ensures m h (low_only (g.P.Pick.choice c.args.pick.now) c.args.sheet.now m c.args.tick c.look.new.self h rows c.rows-rows.ensures none c.in_default.is (omega (arith, not)) c.in-Some-low.seat))

pub returns : goal.returns
returns g c = λ m b.
    let h = c.look.ensures m b in
    let rows = c.rows-rows.result.now in
    let none = no_rows rows (sym c.is_empty.ensures ∙ c.if-not-is_empty.false) in
    let not = c.if-self-gt0.false in
    subst (λ (o : Turn). Went c.args.sheet.now m c.args.tick o c.pass.new.self c.pass.result)
    (nobody_turn (g.P.Pick.choice c.args.pick.now) c.args.sheet.now m c.args.tick c.look.new.self h rows c.rows-rows.ensures none c.in_default.is (omega (arith, not)) (sym c.low.ensures ∙ c.in_default-low.is))
    (c.pass.ensures c.args.sheet.now m c.args.tick h)

pub high_tick-requires-clause-at : goal.high_tick-requires-clause-at
high_tick-requires-clause-at g c = (c.requires.0, c.look.ensures c.requires.0 c.requires.1)

pub low_tick-requires-clause-at : goal.low_tick-requires-clause-at
low_tick-requires-clause-at g c = (c.requires.0, c.look.ensures c.requires.0 c.requires.1)

pub collect-requires-clause-at : goal.collect-requires-clause-at
collect-requires-clause-at g c = (c.args.sheet.now, c.requires.0, c.args.tick, c.look.ensures c.requires.0 c.requires.1)

pub low_tick-requires-in-Some-low-clause-at : goal.low_tick-requires-in-Some-low-clause-at
low_tick-requires-in-Some-low-clause-at g c = (c.requires.0, c.look.ensures c.requires.0 c.requires.1)

pub pass-requires : goal.pass-requires
pass-requires g c = (c.args.sheet.now, c.requires.0, c.args.tick, c.look.ensures c.requires.0 c.requires.1)
