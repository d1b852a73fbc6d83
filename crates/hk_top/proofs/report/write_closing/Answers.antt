-- The last lines, one behind another.
use Rattle.std.proofs.Common.{refl, ap, ◌∙◌}
use Rattle.std.proofs.lemmas.Result.{err_from_is_err_and, on_ok_weaker, on_err_weaker}
use Rattle.hk_sheet.specs.declared.sheet.Sheet.{Sheet}
use Rattle.hk_dispatch.specs.Session.{state}
use Rattle.hk_top.specs.Report.{closing}
use Rattle.hk_top.specs.Text.{cycles_line, end_line}
use Rattle.hk_top.proofs.Four.{four_first, four_second, four_third, four_last, four_all}
use Rattle.hk_top.proofs.ReportParts.{high_ends, low_ends, closing_is, closing_parts, cycles_by}
use Rattle.hk_top.proofs.report.write_closing.Goals as goal

pub returns-in_err-write_high_ends-clause-prefix : goal.returns-in_err-write_high_ends-clause-prefix
returns-in_err-write_high_ends-clause-prefix g c =
    let s = c.args.session.now in
    let m = state s.geometry (g.P.Pick.choice s.pick) s.sheet s.given in
    let p = err_from_is_err_and c.from_residual.result c.from_residual.ensures.1 in
    rw p.1 (four_first _ _ c.args.gather.now (high_ends s.sheet m) (low_ends s.sheet m) (cycles_line m.flips m.events m.idle) (end_line s.sheet.ticks) (closing s.sheet m) (closing_is s.sheet m)
    c.in_err-write_high_ends.ensures.prefix)

pub returns-in_err-write_low_ends-clause-prefix : goal.returns-in_err-write_low_ends-clause-prefix
returns-in_err-write_low_ends-clause-prefix g c =
    let s = c.args.session.now in
    let m = state s.geometry (g.P.Pick.choice s.pick) s.sheet s.given in
    let p = err_from_is_err_and c.from_residual-in_err-write_low_ends.result c.from_residual-in_err-write_low_ends.ensures.1 in
    rw p.1 (four_second _ _ c.args.gather.now (high_ends s.sheet m) (low_ends s.sheet m) (cycles_line m.flips m.events m.idle) (end_line s.sheet.ticks) (closing s.sheet m) (closing_is s.sheet m)
    _ _ c.in_ok-write_high_ends.ensures.ok c.in_err-write_low_ends.ensures.prefix)

pub returns-in_err-push-clause-prefix : goal.returns-in_err-push-clause-prefix
returns-in_err-push-clause-prefix g c =
    let s = c.args.session.now in
    let m = state s.geometry (g.P.Pick.choice s.pick) s.sheet s.given in
    let cycles = (cycles_by m c.flips.result c.events.result c.idle.result c.bytes.result.now (c.bytes.ensures.value ∙ c.cycles_line-cycles.ensures) c.flips.ensures c.events.ensures c.idle.ensures) in
    let p = err_from_is_err_and c.from_residual-in_err-push.result c.from_residual-in_err-push.ensures.1 in
    rw p.1 (four_third _ _ c.args.gather.now (high_ends s.sheet m) (low_ends s.sheet m) c.bytes.result.now (end_line s.sheet.ticks) (closing s.sheet m)
    (closing_parts s.sheet m c.bytes.result.now (end_line s.sheet.ticks) cycles refl)
    _ _ c.in_ok-write_high_ends.ensures.ok _ _ c.in_ok-write_low_ends.ensures.ok c.in_err-push.ensures.prefix)

pub returns-clause-ok : goal.returns-clause-ok
returns-clause-ok g c =
    let s = c.args.session.now in
    let m = state s.geometry (g.P.Pick.choice s.pick) s.sheet s.given in
    let cycles = (cycles_by m c.flips.result c.events.result c.idle.result c.bytes.result.now (c.bytes.ensures.value ∙ c.cycles_line-cycles.ensures) c.flips.ensures c.events.ensures c.idle.ensures) in
    let end = (c.bytes-2.ensures.value ∙ c.end_line.ensures ∙ ap (λ (x : Sheet). end_line x.ticks) c.checked.ensures.sheet) in
    on_ok_weaker c.push-2.result
    (four_all _ _ c.args.gather.now (high_ends s.sheet m) (low_ends s.sheet m) c.bytes.result.now c.bytes-2.result.now (closing s.sheet m)
    (closing_parts s.sheet m c.bytes.result.now c.bytes-2.result.now cycles end)
    _ _ c.in_ok-write_high_ends.ensures.ok _ _ c.in_ok-write_low_ends.ensures.ok _ _ c.in_ok-push.ensures.ok _)
    c.push-2.ensures.ok

pub returns-clause-prefix : goal.returns-clause-prefix
returns-clause-prefix g c =
    let s = c.args.session.now in
    let m = state s.geometry (g.P.Pick.choice s.pick) s.sheet s.given in
    let cycles = (cycles_by m c.flips.result c.events.result c.idle.result c.bytes.result.now (c.bytes.ensures.value ∙ c.cycles_line-cycles.ensures) c.flips.ensures c.events.ensures c.idle.ensures) in
    let end = (c.bytes-2.ensures.value ∙ c.end_line.ensures ∙ ap (λ (x : Sheet). end_line x.ticks) c.checked.ensures.sheet) in
    on_err_weaker c.push-2.result
    (four_last _ _ c.args.gather.now (high_ends s.sheet m) (low_ends s.sheet m) c.bytes.result.now c.bytes-2.result.now (closing s.sheet m)
    (closing_parts s.sheet m c.bytes.result.now c.bytes-2.result.now cycles end)
    _ _ c.in_ok-write_high_ends.ensures.ok _ _ c.in_ok-write_low_ends.ensures.ok _ _ c.in_ok-push.ensures.ok)
    c.push-2.ensures.prefix
