use Rattle.std.proofs.Common.{ℕ, List, refl, sym, subst, ◌∙◌, ap}
use Rattle.hk_words.specs.declared.call.Call.TheVariants.{Clear}
use Rattle.hk_core.specs.State.{State}
use Rattle.hk_core.specs.Lawful.{Lawful}
use Rattle.hk_core.specs.Whole.{whole_history}
use Rattle.hk_core.proofs.ShortRows.{whole_clear_row, clear_fits}
use Rattle.hk_core.proofs.OnePiece.{can_pass_all, left, whole_answers, whole_lawful, whole_refused}
use Rattle.hk_core.proofs.machine.Core.clear.Goals as goal

pub returns-in-Some-clause-state : goal.returns-in-Some-clause-state
returns-in-Some-clause-state c = whole_refused c.args.self.now c.args.seat (Clear c.args.dest) c.in-Some.fault (sym (c.in-Some.ensures.clear c.args.dest))

pub returns-in-Some-clause-lawful : goal.returns-in-Some-clause-lawful
returns-in-Some-clause-lawful c = λ history h.
    subst (λ (d : State). Lawful d (whole_history c.args.self.now c.args.seat (Clear c.args.dest) history)) (sym (returns-in-Some-clause-state c))
    (whole_lawful c.args.self.now c.args.seat (Clear c.args.dest) history 0 c.requires.seat c.requires.idle refl c.requires.registers refl h)

pub clear_through-requires-clause-fits : goal.clear_through-requires-clause-fits
clear_through-requires-clause-fits c = clear_fits c.args.self.now c.args.seat c.args.dest (can_pass_all c.args.self.now c.args.seat (Clear c.args.dest) c.requires.lawful.0 c.requires.seat c.requires.idle refl c.requires.registers (sym (c.in_default.ensures.clear c.args.dest)) c.requires.lawful.1)

pub returns-clause-state : goal.returns-clause-state
returns-clause-state c =
    let now = c.args.self.now in
    left c.args.self.now c.args.seat (Clear c.args.dest) c.requires.lawful.0 c.requires.seat c.requires.idle refl c.requires.registers (sym (c.in_default.ensures.clear c.args.dest)) c.requires.lawful.1
    0 refl _ _
    (c.clear_through.ensures
    ∙ ap (λ (l : List ℕ). record now { row = l }) (sym (whole_clear_row c.args.self.now c.args.seat c.args.dest)))
    c.close.ensures

pub returns-clause-answer : goal.returns-clause-answer
returns-clause-answer c = record {
  begun = sym (c.in_default.ensures.clear c.args.dest);
  ended = whole_answers c.args.self.now c.args.seat (Clear c.args.dest) c.requires.lawful.0 c.requires.seat c.requires.idle refl c.requires.registers (sym (c.in_default.ensures.clear c.args.dest)) c.requires.lawful.1 0 refl;
}

pub returns-clause-lawful : goal.returns-clause-lawful
returns-clause-lawful c = λ history h.
    subst (λ (d : State). Lawful d (whole_history c.args.self.now c.args.seat (Clear c.args.dest) history)) (sym (returns-clause-state c))
    (whole_lawful c.args.self.now c.args.seat (Clear c.args.dest) history 0 c.requires.seat c.requires.idle refl c.requires.registers refl h)
