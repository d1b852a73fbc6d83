-- The race is one of the sheet.
use Rattle.std.proofs.Common.{None, refl}
use Rattle.hk_front.proofs.EndLemmas.{ends_memory}
use Rattle.hk_race.specs.Race.{BytesCallFor}
use Rattle.hk_race.proofs.tool.run_race.Goals as goal

pub returns-in-Ok-clause-ends : goal.returns-in-Ok-clause-ends
returns-in-Ok-clause-ends g c = λ bytes is. c.write_race.ensures.ends bytes c.args.sheet.now is c.requires.short c.in-Ok.ensures

pub returns-in-Err-clause-ends : goal.returns-in-Err-clause-ends
returns-in-Err-clause-ends g c = λ bytes is. ends_memory (BytesCallFor bytes None) _ _ _ _ refl
