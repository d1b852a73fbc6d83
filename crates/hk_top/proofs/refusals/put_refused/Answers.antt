-- The words of a short reserve.
use Rattle.std.proofs.Common.{sym, ap}
use Rattle.hk_front.proofs.WordLemmas.{puts_as}
use Rattle.hk_top.specs.Refusals.{refused_line}
use Rattle.hk_top.proofs.refusals.put_refused.Goals as goal

pub returns-in-Reserve : goal.returns-in-Reserve
returns-in-Reserve g c = puts_as _ _ _ _ _ _ _ (ap refused_line (sym c.in-Reserve.is)) c.put_have-in-Reserve.ensures
