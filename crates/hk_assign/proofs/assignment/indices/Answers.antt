use Rattle.std.proofs.Common.{◌∙◌, length-set, arith}
use Rattle.hk_assign.proofs.Rows.{index_more}
use Rattle.hk_assign.proofs.assignment.indices.Goals as goal

pub loop-place-preserved : goal.loop-place-preserved
loop-place-preserved c = record {
  long = length-set c.loop-place.tasks c.loop-place.place c.loop-place.place ∙ c.loop-place.invariant.long;
  so_far = index_more c.loop-place.tasks c.loop-place.place (omega arith) c.loop-place.invariant.so_far;
}
