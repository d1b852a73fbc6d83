use Rattle.std.proofs.Common.{◌≡◌, rules, arith}
use Rattle.hk_admit.specs.Analysis.{greatest, high_sizes}
use Rattle.hk_admit.proofs.Sizes.{high_made_le}
use Rattle.hk_admit.proofs.numbers.largest_high.Goals as goal

pub returns-clause-small : goal.returns-clause-small
returns-clause-small c =
    let value : c.fold.result ≡ greatest (high_sizes c.args.tasks.now) = search rules in
    omega (arith, value, high_made_le c.args.tasks.now)
