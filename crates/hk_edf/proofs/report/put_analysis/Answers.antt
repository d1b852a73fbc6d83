-- The heap, the high tasks and the low ones.
use Rattle.std.proofs.Common.{◌++◌, ◌∙◌, refl, ap}
use Rattle.std.proofs.KnownBytes.{Appends-trans}
use Rattle.std.proofs.lemmas.Result.{err_from_is_err_and}
use Rattle.hk_admit.specs.declared.checked.Checked.{Checked}
use Rattle.hk_front.proofs.WordLemmas.{puts_as}
use Rattle.hk_top.specs.Text.{heap_line}
use Rattle.hk_top.specs.Report.{low_lines}
use Rattle.hk_edf.specs.Text.{deadline_lines}
use Rattle.hk_edf.proofs.Puts.{puts_after, puts_part, analysis_parts, analysis_first}
use Rattle.hk_edf.proofs.report.put_analysis.Goals as goal

pub returns-in_err-put_heap : goal.returns-in_err-put_heap
returns-in_err-put_heap g c =
    let a = c.args.checked.now in
    let p = err_from_is_err_and c.from_residual.result c.from_residual.ensures.1 in
    rw p.1 (puts_as _ _ _ _ _ _ _ (analysis_first a.sheet a.work a.attempt a.busy a.debt a.sheet.high a.sheet.low refl refl)
    (puts_part _ _ _ _ (heap_line a.work a.attempt a.busy a.debt) (deadline_lines a.sheet.high ++ low_lines a.sheet.low) _ _ c.in_err-put_heap.ensures))

pub returns-in_err-put_high_tasks : goal.returns-in_err-put_high_tasks
returns-in_err-put_high_tasks g c =
    let a = c.args.checked.now in
    let high = c.deref.result.now in
    let same = c.deref.ensures.value ∙ ap (λ (x : Checked). x.sheet.high) c.checked.view_is in
    let heap = heap_line a.work a.attempt a.busy a.debt in
    let p = err_from_is_err_and c.from_residual-in_err-put_high_tasks.result c.from_residual-in_err-put_high_tasks.ensures.1 in
    rw p.1 (puts_as _ _ _ _ _ _ _ (analysis_parts a.sheet a.work a.attempt a.busy a.debt high a.sheet.low same refl)
    (puts_part _ _ _ _ (heap ++ deadline_lines high) (low_lines a.sheet.low) _ _
    (puts_after _ _ _ _ _ _ heap (deadline_lines high) c.in_ok-put_heap.ensures.ok c.in_ok-put_heap.ensures.cause.kept _ c.in_err-put_high_tasks.ensures)))

pub returns : goal.returns
returns g c =
    let a = c.args.checked.now in
    let high = c.deref.result.now in
    let low = c.deref-2.result.now in
    let same = c.deref.ensures.value ∙ ap (λ (x : Checked). x.sheet.high) c.checked.view_is in
    let alike = c.deref-2.ensures.value ∙ ap (λ (x : Checked). x.sheet.low) c.checked.view_is in
    let heap = heap_line a.work a.attempt a.busy a.debt in
    puts_as _ _ _ _ _ _ _ (analysis_parts a.sheet a.work a.attempt a.busy a.debt high low same alike)
    (puts_after _ _ _ _ _ _ (heap ++ deadline_lines high) (low_lines low)
    (Appends-trans _ _ _ heap (deadline_lines high) c.in_ok-put_heap.ensures.ok c.in_ok-put_high_tasks.ensures.ok)
    (c.in_ok-put_high_tasks.ensures.cause.kept ∙ c.in_ok-put_heap.ensures.cause.kept) _ c.put_low_tasks.ensures)
