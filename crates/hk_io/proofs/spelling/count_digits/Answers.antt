-- Four digits more, and the last ones.
use Rattle.std.proofs.Common.{arith}
use Rattle.hk_io.proofs.DecimalDigits.{length_more}
use Rattle.hk_io.proofs.LineLemmas.{length-decimal}
use Rattle.hk_io.proofs.spelling.count_digits.Goals as goal

pub overflow_add-count : goal.overflow_add-count
overflow_add-count c = omega (arith, c.loop-left.invariant, length-decimal c.args.value c.ranges.value.fits)

pub loop-left-preserved : goal.loop-left-preserved
loop-left-preserved c = omega (arith, c.loop-left.invariant, length_more c.loop-left.left c.loop-left-test.true c.loop-left.auto.left-fits.fits)

pub overflow_add-result : goal.overflow_add-result
overflow_add-result c = omega (arith, c.loop-left.invariant, c.count_few.ensures, length-decimal c.args.value c.ranges.value.fits)

pub returns-clause-few : goal.returns-clause-few
returns-clause-few c = omega (arith, c.loop-left.invariant, c.count_few.ensures, length-decimal c.args.value c.ranges.value.fits)
