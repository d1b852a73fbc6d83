use Rattle.hk_race.proofs.Ends.{on_some_heap}
use Rattle.hk_race.proofs.tool.race_of.Goals as goal

pub returns : goal.returns
returns g c = on_some_heap _ c.args.sheet.now c.compete.result c.in-Ok.ensures.sizes c.compete.ensures
