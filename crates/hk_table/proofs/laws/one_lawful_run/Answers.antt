use Rattle.std.proofs.Common.{subst}
use Rattle.hk_model.specs.Heap.{opening_of}
use Rattle.hk_model.specs.History.{Legal}
use Rattle.hk_model.proofs.Lasting.{legal_begins}
use Rattle.hk_collect.proofs.Running.{lawful_from_opening, legal_from_opening}
use Rattle.hk_table.proofs.laws.one_lawful_run.Goals as goal

pub returns-clause-words : goal.returns-clause-words
returns-clause-words c = λ g s h. (h.words, lawful_from_opening g h.log, legal_from_opening g h.log)

pub returns-clause-seen : goal.returns-clause-seen
returns-clause-seen c = λ g p stands.
    let saw = stands.stands.saw in
    legal_begins (opening_of g) p.seen saw.0 (subst (Legal (opening_of g)) saw.1 (legal_from_opening g p.log))
