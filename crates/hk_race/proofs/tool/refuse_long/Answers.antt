use Rattle.hk_race.proofs.Ends.{long_refused}
use Rattle.hk_race.proofs.tool.refuse_long.Goals as goal

pub returns-clause-ends : goal.returns-clause-ends
returns-clause-ends g c = λ bytes is.
    long_refused _ _ _ _ bytes c.args.sheet.now c.args.seat c.name_at.result.now c.put_long.result c.ended.result is c.requires c.name_at.ensures c.put_long.ensures c.ended.ensures
