use Rattle.std.proofs.Common.{◌∙◌, length-set, arith}
use Rattle.hk_assign.proofs.Named.{timing_read}
use Rattle.hk_assign.proofs.tool.timings.Goals as goal

pub loop-place-preserved : goal.loop-place-preserved
loop-place-preserved c = record {
  long = length-set c.loop-place.row c.loop-place.place _ ∙ c.loop-place.invariant.long;
  so_far = timing_read c.args.tasks.now c.loop-place.row c.loop-place.place c.index-tasks-place.result (omega arith) (omega arith) c.index-tasks-place.is c.loop-place.invariant.so_far;
}
