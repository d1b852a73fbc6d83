-- The text is that of the race.
use Rattle.hk_race.proofs.Ends.{as_puts, race_written, race_ends}
use Rattle.hk_race.proofs.tool.write_race.Goals as goal

pub returns-clause-ends : goal.returns-clause-ends
returns-clause-ends g c = λ bytes sheet is short of.
    race_written _ _ _ _ bytes sheet c.args.raced c.status_of.result c.as_slice.result.now c.put_all.result c.ended-status.result is short of c.status_of.ensures c.as_slice.ensures.value
    (as_puts _ _ _ _ _ _ c.put_all.ensures.ok c.put_all.ensures.prefix c.put_all.ensures.cause) c.ended-status.ensures

pub returns-clause-race : goal.returns-clause-race
returns-clause-race g c = race_ends c.args.raced.full c.args.raced.live c.status_of.result c.put_all.result c.ended-status.result c.status_of.ensures c.ended-status.ensures
