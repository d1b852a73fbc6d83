use Rattle.hk_collect.proofs.Running.{inside_is_apart, inside_stays, place_given_to_none, writes_are_inside}
use Rattle.hk_collect.proofs.laws.inside_stays.Goals as goal

pub returns-clause-stays : goal.returns-clause-stays
returns-clause-stays c = λ g actions action inside below is_inside. inside_stays g actions action inside below is_inside

pub returns-clause-writes : goal.returns-clause-writes
returns-clause-writes c = λ g actions action inside p below is_inside written covered. writes_are_inside g actions action inside p below is_inside written covered

pub returns-clause-given : goal.returns-clause-given
returns-clause-given c = λ g actions action inside other below is_inside differs given. place_given_to_none g actions action inside other below is_inside differs given

pub returns-clause-apart : goal.returns-clause-apart
returns-clause-apart c = λ g actions inside below is_inside. inside_is_apart g actions inside below is_inside
