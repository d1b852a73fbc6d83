-- The headline.
use Rattle.hk_top.proofs.Headline.{headline}
use Rattle.hk_top.proofs.laws.headline_holds.Goals as goal

pub returns : goal.returns
returns c = headline
