use Rattle.hk_sheet.proofs.Plain.{limits_are}
use Rattle.hk_sheet.proofs.keys.Keys.script.Goals as goal

pub parse_in-requires : goal.parse_in-requires
parse_in-requires c = limits_are _ _ c.requires.breadth
