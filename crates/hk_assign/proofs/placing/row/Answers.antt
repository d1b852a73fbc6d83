use Rattle.std.proofs.Common.{◌∙◌, length-set, arith}
use Rattle.hk_assign.proofs.Rows.{timing_more}
use Rattle.hk_assign.proofs.placing.row.Goals as goal

pub loop-place-preserved : goal.loop-place-preserved
loop-place-preserved c = record {
  long = length-set c.loop-place.row c.loop-place.place _ ∙ c.loop-place.invariant.long;
  so_far = timing_more c.args.timings.now c.loop-place.row c.args.tasks.now c.loop-place.place c.from.result (omega arith) (omega arith) c.from.ensures c.loop-place.invariant.so_far;
}
