use Rattle.hk_script.proofs.Trees.{greatest_ticks_is, greatest_words_is, largest_is, told_is, untold_is}
use Rattle.hk_script.proofs.laws.costs_of_blocks.Goals as goal

pub returns-clause-ticks : goal.returns-clause-ticks
returns-clause-ticks c = λ script tree h. greatest_ticks_is script tree h

pub returns-clause-words : goal.returns-clause-words
returns-clause-words c = λ script tree h. greatest_words_is script tree h

pub returns-clause-largest : goal.returns-clause-largest
returns-clause-largest c = λ script. largest_is script

pub returns-clause-told : goal.returns-clause-told
returns-clause-told c = λ cost amount. told_is cost amount

pub returns-clause-untold : goal.returns-clause-untold
returns-clause-untold c = λ cost. untold_is cost
