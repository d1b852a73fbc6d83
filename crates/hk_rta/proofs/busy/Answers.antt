-- Each next length is still at or below every window that suffices.
use Rattle.std.proofs.Common.{arith}
use Rattle.hk_rta.proofs.Steps.{suffices_above}
use Rattle.hk_rta.proofs.busy.Goals as goal

pub loop-length-preserved : goal.loop-length-preserved
loop-length-preserved c = record {
  positive = omega (arith, c.longer_of_loads-length.ensures.longer);
  below = λ x s.
      let reached = c.loop-length.invariant.below x s in
      c.longer_of_loads-length.ensures.below x reached s.enough
      (omega (arith, c.work.ensures, c.saturating_add-needed.ensures, suffices_above c.args.loads.now c.args.base c.loop-length.length x reached s));
}
