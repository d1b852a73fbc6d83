-- The names so far, and all of them.
use Rattle.std.proofs.Common.{◌≡◌, ℕ, ◌<◌, length, length-set, slice_index, sym, ap, ◌∙◌, subst, arith}
use Rattle.hk_sheet.specs.declared.sheet.High.{High}
use Rattle.hk_front.proofs.WordLemmas.{put_as}
use Rattle.hk_assign.specs.Sheets.{name_at}
use Rattle.hk_assign.proofs.Named.{name_read, name_more, all_named}
use Rattle.hk_assign.proofs.tool.put_no_order.Goals as goal

pub loop-place-preserved : goal.loop-place-preserved
loop-place-preserved g c =
    let place = c.loop-place.place in
    let within : place < length c.args.set.now = omega (arith, c.loop-place-test.true, c.len-place-end.ensures.count) in
    let same : c.from.result ≡ slice_index c.args.set.now place = c.from.ensures ∙ c.at.ensures in
    let inside : c.from.result < length c.args.tasks.now = subst (λ (n : ℕ). n < length c.args.tasks.now) (sym same) (c.requires place 0 within) in
    let room : c.loop-place.count < length c.loop-place.words = omega (arith, within, c.len-place-end.ensures.count, c.len-place-end.ensures.few, c.loop-place.invariant.counted, c.loop-place.invariant.long) in
    let named : c.as_slice.result.now ≡ name_at c.args.tasks.now (slice_index c.args.set.now place) =
    c.as_slice.ensures.value ∙ ap (λ (task : High). task.name) c.task.view_is ∙ name_read c.args.tasks.now c.from.result (slice_index c.args.set.now place) c.index-tasks-from.result inside c.index-tasks-from.is same in
    record {
      long = length-set c.loop-place.words c.loop-place.count c.as_slice.result ∙ c.loop-place.invariant.long;
      counted = omega (arith, c.loop-place.invariant.counted);
      so_far = name_more c.args.tasks.now c.loop-place.words c.args.set.now place c.loop-place.count c.as_slice.result room within named c.loop-place.invariant.so_far;
    }

pub returns : goal.returns
returns g c =
    put_as _ _ _ _ _ _ _
    (all_named c.args.tasks.now _ c.args.set.now c.loop-place.place (omega (arith, c.loop-place-test.false, c.len-place-end.ensures.count)) c.loop-place.invariant.so_far)
    c.put_line.ensures.ok c.put_line.ensures.prefix c.put_line.ensures.cause
