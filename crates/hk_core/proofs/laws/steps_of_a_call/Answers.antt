use Rattle.hk_core.proofs.Entries.{answers_entry}
use Rattle.hk_core.proofs.Turns.{stands_later, ends_then}
use Rattle.hk_core.proofs.laws.steps_of_a_call.Goals as goal

pub returns-clause-later : goal.returns-clause-later
returns-clause-later c = λ r seat actions sized below some few. stands_later r seat actions sized below some few

pub returns-clause-ends : goal.returns-clause-ends
returns-clause-ends c = λ r seat actions sized below some at. ends_then r seat actions sized below some at

pub returns-clause-answers : goal.returns-clause-answers
returns-clause-answers c = λ r seat call actions lawful below accepts length. answers_entry r seat call actions lawful below accepts length
