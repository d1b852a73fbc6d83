-- The quotient, rounded up, is at most each window that holds it.
use Rattle.std.proofs.Common.{arith}
use Rattle.hk_rta.proofs.Windows.{least_window}
use Rattle.hk_rta.proofs.ahead.Need.least.Goals as goal

pub returns-else-self-gt-MAX_TICKS : goal.returns-else-self-gt-MAX_TICKS
returns-else-self-gt-MAX_TICKS c =
    λ x h. omega (arith, c.div_ceil.ensures, least_window c.args.self.ticks c.args.self.share x c.if-self-gt-MAX_TICKS.false.0 h)
