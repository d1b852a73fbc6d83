use Rattle.std.proofs.Common.{ℕ, List, refl, sym, subst, ◌∙◌, ap}
use Rattle.hk_words.specs.declared.call.Call.TheVariants.{Get}
use Rattle.hk_words.specs.declared.call.Reply.TheVariants.{Num}
use Rattle.hk_core.specs.declared.outcome.Outcome.TheVariants.{Done}
use Rattle.hk_core.specs.declared.outcome.Step.TheVariants.{Ended}
use Rattle.hk_core.specs.State.{State}
use Rattle.hk_core.specs.Lawful.{Lawful}
use Rattle.hk_core.specs.Whole.{whole_history}
use Rattle.hk_core.specs.WholeRows.{number_read, get_row}
use Rattle.hk_core.proofs.ShortRows.{whole_get_row, whole_get_number, get_fits}
use Rattle.hk_core.proofs.OnePiece.{can_pass_all, left, whole_answers, whole_lawful, whole_refused}
use Rattle.hk_core.proofs.machine.Core.get.Goals as goal

pub returns-in-Some-clause-state : goal.returns-in-Some-clause-state
returns-in-Some-clause-state c = whole_refused c.args.self.now c.args.seat (Get c.args.reg c.args.field) c.in-Some.fault (sym c.in-Some.ensures.get)

pub returns-in-Some-clause-lawful : goal.returns-in-Some-clause-lawful
returns-in-Some-clause-lawful c = λ history h.
    subst (λ (d : State). Lawful d (whole_history c.args.self.now c.args.seat (Get c.args.reg c.args.field) history)) (sym (returns-in-Some-clause-state c))
    (whole_lawful c.args.self.now c.args.seat (Get c.args.reg c.args.field) history 2 c.requires.seat c.requires.idle refl c.requires.registers refl h)

pub get_through-number-requires : goal.get_through-number-requires
get_through-number-requires c =
    rw c.register-entered.ensures (get_fits c.args.self.now c.args.seat c.args.reg c.args.field (can_pass_all c.args.self.now c.args.seat (Get c.args.reg c.args.field) c.requires.lawful.0 c.requires.seat c.requires.idle refl c.requires.registers (sym c.in_default.ensures.get) c.requires.lawful.1))

pub returns-clause-state : goal.returns-clause-state
returns-clause-state c =
    let now = c.args.self.now in
    left c.args.self.now c.args.seat (Get c.args.reg c.args.field) c.requires.lawful.0 c.requires.seat c.requires.idle refl c.requires.registers (sym c.in_default.ensures.get) c.requires.lawful.1
    2 refl _ _
    (c.get_through-number.ensures.row
    ∙ ap (λ (r : ℕ). record now { row = get_row now.geometry now.row r c.args.field }) c.register-entered.ensures
    ∙ ap (λ (l : List ℕ). record now { row = l }) (sym (whole_get_row c.args.self.now c.args.seat c.args.reg c.args.field)))
    c.close.ensures

pub returns-clause-answer : goal.returns-clause-answer
returns-clause-answer c = record {
  begun = sym c.in_default.ensures.get;
  ended = whole_answers c.args.self.now c.args.seat (Get c.args.reg c.args.field) c.requires.lawful.0 c.requires.seat c.requires.idle refl c.requires.registers (sym c.in_default.ensures.get) c.requires.lawful.1 2 refl
      ∙ ap (λ (n : ℕ). Ended (Done (Num n))) (whole_get_number c.args.self.now c.args.seat c.args.reg c.args.field
      ∙ ap (λ (r : ℕ). number_read c.args.self.now.geometry c.args.self.now.row r c.args.field) (sym c.register-entered.ensures)
      ∙ sym c.get_through-number.ensures.number);
}

pub returns-clause-lawful : goal.returns-clause-lawful
returns-clause-lawful c = λ history h.
    subst (λ (d : State). Lawful d (whole_history c.args.self.now c.args.seat (Get c.args.reg c.args.field) history)) (sym (returns-clause-state c))
    (whole_lawful c.args.self.now c.args.seat (Get c.args.reg c.args.field) history 2 c.requires.seat c.requires.idle refl c.requires.registers refl h)
