use Rattle.hk_script.proofs.Potential.{ticks_fall, words_fall, ticks_started, words_started}
use Rattle.hk_script.proofs.laws.walks_fall.Goals as goal

pub returns-clause-ticks : goal.returns-clause-ticks
returns-clause-ticks c = λ limits script walk reply h f len. ticks_fall script walk reply h f len

pub returns-clause-words : goal.returns-clause-words
returns-clause-words c = λ limits script walk reply h f len. words_fall script walk reply h f len

pub returns-clause-all_ticks : goal.returns-clause-all_ticks
returns-clause-all_ticks c = λ limits script job h. ticks_started script job h

pub returns-clause-all_words : goal.returns-clause-all_words
returns-clause-all_words c = λ limits script job h. words_started script job h
