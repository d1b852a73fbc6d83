use Rattle.hk_dispatch.proofs.Promises.{never_waits, flip_is_useful, useful_is_within}
use Rattle.hk_dispatch.proofs.laws.collector_never_waits.Goals as goal

pub returns-clause-waits : goal.returns-clause-waits
returns-clause-waits c = never_waits

pub returns-clause-useful : goal.returns-clause-useful
returns-clause-useful c = useful_is_within

pub returns-clause-flip : goal.returns-clause-flip
returns-clause-flip c = flip_is_useful
