-- One line behind another.
use Rattle.std.proofs.Common.{◌≡◌, ℕ, ◌+◌, ◌<◌, List, length, refl, ap, ◌∙◌, subst, arith}
use Rattle.hk_sheet.specs.declared.sheet.Low.{Low}
use Rattle.std.proofs.lemmas.Result.{err_from_is_err_and}
use Rattle.hk_sheet.specs.declared.sheet.Sheet.{Sheet}
use Rattle.hk_dispatch.specs.Session.{state}
use Rattle.hk_top.specs.Report.{line_of_low_end}
use Rattle.hk_top.proofs.Below.{none_below, front_below, prefix_below, all_below}
use Rattle.hk_top.proofs.Endings.{low_end}
use Rattle.hk_top.proofs.report.write_low_ends.Goals as goal

pub loop-place-init : goal.loop-place-init
loop-place-init g c =
    let s = c.args.session.now in
    record {
      within = omega arith;
      front = none_below (line_of_low_end s.sheet (state s.geometry (g.P.Pick.choice s.pick) s.sheet s.given)) _ c.args.gather.now;
      kept = refl;
    }

pub returns-in_err-push-clause-prefix : goal.returns-in_err-push-clause-prefix
returns-in_err-push-clause-prefix g c =
    let s = c.args.session.now in
    let m = state s.geometry (g.P.Pick.choice s.pick) s.sheet s.given in
    let f = line_of_low_end s.sheet m in
    let same = c.low_tasks-task-items.ensures ∙ ap (λ (x : Sheet). x.low) c.checked.ensures.sheet in
    let is = low_end s.sheet m c.loop-place.place c.seat_of-seat.result c.ended.result c.latest.result c.bytes.result.now c.bytes_of.result.now c.ended.ensures c.latest.ensures
    (c.bytes.ensures.value ∙ c.done_line-line.ensures) c.low_tasks-task-items.result.now c.task-item.result same c.loop-place-test.true c.task-item.is c.bytes_of.ensures (c.seat_of-seat.ensures ∙ ap (λ (n : ℕ). n + c.loop-place.place) (ap length (c.high_tasks-first.ensures ∙ ap (λ (x : Sheet). x.high) c.checked.ensures.sheet))) in
    let within : c.loop-place.place < length s.sheet.low = subst (λ (ts : List Low). c.loop-place.place < length ts) same c.loop-place-test.true in
    let p = err_from_is_err_and c.from_residual.result c.from_residual.ensures.1 in
    rw p.1 (prefix_below f _ _ _ c.args.gather.now c.loop-place.gather c.bytes.result.now c.loop-place.place is (length s.sheet.low) within c.loop-place.invariant.front c.in_err-push.ensures.prefix)

pub loop-place-preserved : goal.loop-place-preserved
loop-place-preserved g c =
    let s = c.args.session.now in
    let m = state s.geometry (g.P.Pick.choice s.pick) s.sheet s.given in
    let f = line_of_low_end s.sheet m in
    let same = c.low_tasks-task-items.ensures ∙ ap (λ (x : Sheet). x.low) c.checked.ensures.sheet in
    let is = low_end s.sheet m c.loop-place.place c.seat_of-seat.result c.ended.result c.latest.result c.bytes.result.now c.bytes_of.result.now c.ended.ensures c.latest.ensures
    (c.bytes.ensures.value ∙ c.done_line-line.ensures) c.low_tasks-task-items.result.now c.task-item.result same c.loop-place-test.true c.task-item.is c.bytes_of.ensures (c.seat_of-seat.ensures ∙ ap (λ (n : ℕ). n + c.loop-place.place) (ap length (c.high_tasks-first.ensures ∙ ap (λ (x : Sheet). x.high) c.checked.ensures.sheet))) in
    let within = c.loop-place-test.true in
    record {
      within = omega (arith, within);
      front = front_below f _ _ _ c.args.gather.now c.loop-place.gather c.bytes.result.now c.loop-place.place is _ c.loop-place.invariant.front c.in_ok-push.ensures.ok;
      kept = c.in_ok-push.ensures.cause.kept ∙ c.loop-place.invariant.kept;
    }

pub returns-clause-ok : goal.returns-clause-ok
returns-clause-ok g c =
    let s = c.args.session.now in
    let same = ap length (c.low_tasks-task-items.ensures ∙ ap (λ (x : Sheet). x.low) c.checked.ensures.sheet) in
    let past = c.loop-place-test.false in
    let within = c.loop-place.invariant.within in
    let end : c.loop-place.place ≡ length s.sheet.low = omega (arith, past, within, same) in
    all_below (line_of_low_end s.sheet (state s.geometry (g.P.Pick.choice s.pick) s.sheet s.given)) _ _ c.args.gather.now c.loop-place.gather c.loop-place.place (length s.sheet.low) end
    c.loop-place.invariant.front
