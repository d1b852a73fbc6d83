use Rattle.hk_script.proofs.Potential.{ticks_within, words_within}
use Rattle.hk_script.proofs.laws.walks_within_cost.Goals as goal

pub returns : goal.returns
returns c = λ limits script job replies h a. (ticks_within script job replies h a, words_within script job replies h a)
