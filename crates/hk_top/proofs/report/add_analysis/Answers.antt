-- The lines of the analysis, one behind another.
use Rattle.std.proofs.Common.{◌∙◌, refl}
use Rattle.std.proofs.lemmas.Result.{err_from_is_err_and, on_ok_weaker, on_err_weaker}
use Rattle.hk_top.specs.Report.{high_lines, low_lines, analysis}
use Rattle.hk_top.proofs.ReportParts.{analysis_parts}
use Rattle.hk_top.proofs.SheetLemmas.{sheet_named, sheet_low_named}
use Rattle.hk_top.proofs.Three.{three_first, three_second, three_third, three_all}
use Rattle.hk_top.proofs.report.add_analysis.Goals as goal

pub returns-in_err-push-clause-prefix : goal.returns-in_err-push-clause-prefix
returns-in_err-push-clause-prefix g c =
    let a = c.args.checked.now in
    let times = c.args.responses.now in
    let hs = a.sheet.high in
    let ls = a.sheet.low in
    let p = err_from_is_err_and c.from_residual.result c.from_residual.ensures.1 in
    rw p.1 (three_first _ _ c.args.gather.now c.bytes.result.now (high_lines hs times) (low_lines ls) (analysis a.sheet a.work a.attempt a.busy a.debt times)
    (analysis_parts a.sheet a.work a.attempt a.busy a.debt times c.bytes.result.now hs times ls (c.bytes.ensures.value ∙ c.heap_line-heap.ensures) refl refl refl) c.in_err-push.ensures.prefix)

pub write_high_tasks-requires-clause-names : goal.write_high_tasks-requires-clause-names
write_high_tasks-requires-clause-names g c =
    sheet_named c.args.checked.now.sheet c.high_tasks.result.now c.args.checked.now.sound.readable c.high_tasks.ensures

pub returns-in_err-write_high_tasks-clause-prefix : goal.returns-in_err-write_high_tasks-clause-prefix
returns-in_err-write_high_tasks-clause-prefix g c =
    let a = c.args.checked.now in
    let times = c.args.responses.now in
    let ls = a.sheet.low in
    let hs = c.high_tasks.result.now in
    let rs = c.times_of.result.now in
    let p = err_from_is_err_and c.from_residual-in_err-write_high_tasks.result c.from_residual-in_err-write_high_tasks.ensures.1 in
    rw p.1 (three_second _ _ c.args.gather.now c.bytes.result.now (high_lines hs rs) (low_lines ls) (analysis a.sheet a.work a.attempt a.busy a.debt times)
    (analysis_parts a.sheet a.work a.attempt a.busy a.debt times c.bytes.result.now hs rs ls (c.bytes.ensures.value ∙ c.heap_line-heap.ensures) c.high_tasks.ensures c.times_of.ensures refl)
    _ _ c.in_ok-push.ensures.ok c.in_err-write_high_tasks.ensures.prefix)

pub write_low_tasks-requires : goal.write_low_tasks-requires
write_low_tasks-requires g c =
    sheet_low_named c.args.checked.now.sheet c.low_tasks.result.now c.args.checked.now.sound.readable c.low_tasks.ensures

pub returns-clause-ok : goal.returns-clause-ok
returns-clause-ok g c =
    let a = c.args.checked.now in
    let times = c.args.responses.now in
    let hs = c.high_tasks.result.now in
    let rs = c.times_of.result.now in
    let ls = c.low_tasks.result.now in
    on_ok_weaker c.write_low_tasks.result
    (three_all _ _ c.args.gather.now c.bytes.result.now (high_lines hs rs) (low_lines ls) (analysis a.sheet a.work a.attempt a.busy a.debt times)
    (analysis_parts a.sheet a.work a.attempt a.busy a.debt times c.bytes.result.now hs rs ls (c.bytes.ensures.value ∙ c.heap_line-heap.ensures) c.high_tasks.ensures c.times_of.ensures c.low_tasks.ensures)
    _ _ c.in_ok-push.ensures.ok _ _ c.in_ok-write_high_tasks.ensures.ok _)
    c.write_low_tasks.ensures.ok

pub returns-clause-prefix : goal.returns-clause-prefix
returns-clause-prefix g c =
    let a = c.args.checked.now in
    let times = c.args.responses.now in
    let hs = c.high_tasks.result.now in
    let rs = c.times_of.result.now in
    let ls = c.low_tasks.result.now in
    on_err_weaker c.write_low_tasks.result
    (three_third _ _ c.args.gather.now c.bytes.result.now (high_lines hs rs) (low_lines ls) (analysis a.sheet a.work a.attempt a.busy a.debt times)
    (analysis_parts a.sheet a.work a.attempt a.busy a.debt times c.bytes.result.now hs rs ls (c.bytes.ensures.value ∙ c.heap_line-heap.ensures) c.high_tasks.ensures c.times_of.ensures c.low_tasks.ensures)
    _ _ c.in_ok-push.ensures.ok _ _ c.in_ok-write_high_tasks.ensures.ok)
    c.write_low_tasks.ensures.prefix
