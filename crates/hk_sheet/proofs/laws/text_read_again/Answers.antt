use Rattle.hk_sheet.proofs.OneAnswer.{answered}
use Rattle.hk_sheet.proofs.laws.text_read_again.Goals as goal

pub returns : goal.returns
returns c = answered
