use Rattle.hk_table.proofs.Questions.{tells_so}
use Rattle.hk_table.proofs.laws.refusals_are_plain.Goals as goal

pub returns : goal.returns
returns c = λ g p call stands idle question fit. tells_so g p stands idle call question fit
