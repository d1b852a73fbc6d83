use Rattle.hk_assign.proofs.OneEnd.{one_status, one_text, one_arranged}
use Rattle.hk_assign.proofs.laws.one_end_and_one_text.Goals as goal

pub returns-clause-status : goal.returns-clause-status
returns-clause-status c = one_status

pub returns-clause-text : goal.returns-clause-text
returns-clause-text c = one_text

pub returns-clause-sheet : goal.returns-clause-sheet
returns-clause-sheet c = one_arranged
