use Rattle.hk_collect.proofs.LiveCause.{reserved_is_used, live_over_has_live}
use Rattle.hk_collect.proofs.used.reserved_is_live.Goals as goal

pub returns-clause-reserved : goal.returns-clause-reserved
returns-clause-reserved c = reserved_is_used

pub returns-clause-live_over : goal.returns-clause-live_over
returns-clause-live_over c = live_over_has_live
