-- Its share of a window, and its starts in a shorter one, are no more than what it brings.
use Rattle.std.proofs.Common.{◌+◌, arith}
use Rattle.std.proofs.lemmas.Grind.{div_ceil_times}
use Rattle.hk_rta.specs.Demand.{starts_in}
use Rattle.hk_rta.proofs.Steps.{starts_grow}
use Rattle.hk_rta.proofs.Windows.{by_share, by_starts}
use Rattle.hk_rta.proofs.ahead.Need.add.Goals as goal

pub returns-then-load-fast-clause-holds : goal.returns-then-load-fast-clause-holds
returns-then-load-fast-clause-holds c =
    λ x total reached holds. by_share c.args.self.now.ticks c.args.self.now.share c.share.result x total
    (starts_in (x + c.args.load.jitter) c.args.load.period) c.args.load.work c.args.load.period holds c.share.ensures.part
    (omega (arith, div_ceil_times (x + c.args.load.jitter) c.args.load.period c.requires.load.period.0))

pub returns-else-load-fast-clause-holds : goal.returns-else-load-fast-clause-holds
returns-else-load-fast-clause-holds c =
    λ x total reached holds. by_starts c.args.self.now.ticks c.saturating_add-self.result c.args.self.now.share x total
    (starts_in (x + c.args.load.jitter) c.args.load.period) c.starts.result c.args.load.work holds
    (omega (arith, c.starts.ensures, starts_grow (c.args.window + c.args.load.jitter) (x + c.args.load.jitter) c.args.load.period (omega arith)))
    (omega (arith, c.saturating_add-self.ensures))
