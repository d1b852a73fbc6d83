use Rattle.std.proofs.Common.{append_assoc, rules}
use Rattle.hk_sheet.proofs.paths.task_path.Goals as goal

pub returns : goal.returns
returns c = simp append_assoc (search rules)
