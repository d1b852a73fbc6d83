use Rattle.hk_collect.proofs.Attempts.{attempt_begins, attempt_goes_on, header_after_mark}
use Rattle.hk_collect.proofs.laws.events_are_counted.Goals as goal

pub returns-clause-begins : goal.returns-clause-begins
returns-clause-begins c = λ g t old out on. attempt_begins g t old out on

pub returns-clause-goes_on : goal.returns-clause-goes_on
returns-clause-goes_on c = λ g t old fits out on. attempt_goes_on g t old fits out on

pub returns-clause-headers : goal.returns-clause-headers
returns-clause-headers c = λ g t old number. header_after_mark g t old number
