-- The text of one shape behind another.
use Rattle.std.proofs.Common.{refl, ◌∙◌}
use Rattle.std.proofs.lemmas.Result.{err_from_is_err_and}
use Rattle.hk_chart.specs.Drawing.{part_text}
use Rattle.hk_chart.proofs.Joined.{more_front, more_prefix}
use Rattle.hk_chart.proofs.picture.put_shapes.Goals as goal

pub returns-in_err-put_shape-clause-prefix : goal.returns-in_err-put_shape-clause-prefix
returns-in_err-put_shape-clause-prefix g c =
    let p = err_from_is_err_and c.from_residual.result c.from_residual.ensures.1 in
    rw p.1 (more_prefix (part_text c.args.part c.args.progress.now c.args.tasks.now) c.args.shapes.now _ _ _ c.args.gather.now c.loop-shape.gather _ c.loop-shape.shape-index _ c.loop-shape-test.true refl
    c.loop-shape.invariant.front c.in_err-put_shape.ensures.prefix)

pub loop-shape-preserved : goal.loop-shape-preserved
loop-shape-preserved g c = record {
  front = more_front (part_text c.args.part c.args.progress.now c.args.tasks.now) c.args.shapes.now _ _ _ c.args.gather.now c.loop-shape.gather _ c.loop-shape.shape-index _ c.loop-shape-test.true refl _
      c.loop-shape.invariant.front c.in_ok-put_shape.ensures.ok;
  kept = c.in_ok-put_shape.ensures.cause.kept ∙ c.loop-shape.invariant.kept;
}
