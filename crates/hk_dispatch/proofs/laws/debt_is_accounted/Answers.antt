use Rattle.hk_dispatch.proofs.Promises.{debt_is_accounted, used_is_covered}
use Rattle.hk_dispatch.proofs.laws.debt_is_accounted.Goals as goal

pub returns-clause-account : goal.returns-clause-account
returns-clause-account c = debt_is_accounted

pub returns-clause-paid : goal.returns-clause-paid
returns-clause-paid c = used_is_covered
