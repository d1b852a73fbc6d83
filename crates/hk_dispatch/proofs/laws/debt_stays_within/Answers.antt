-- The debt and the quiet moments.
use Rattle.hk_dispatch.proofs.Whole.{debt_within, quiet_again}
use Rattle.hk_dispatch.proofs.laws.debt_stays_within.Goals as goal

pub returns-clause-debt : goal.returns-clause-debt
returns-clause-debt c = debt_within

pub returns-clause-quiet : goal.returns-clause-quiet
returns-clause-quiet c = quiet_again
