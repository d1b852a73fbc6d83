use Rattle.hk_collect.proofs.Running.{fresh_from_opening}
use Rattle.hk_collect.proofs.laws.runs_give_fresh_numbers.Goals as goal

pub returns : goal.returns
returns c = λ g actions seat dest shape below is_new at room. fresh_from_opening g actions seat dest shape below is_new at room
