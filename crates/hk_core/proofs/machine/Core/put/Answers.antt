use Rattle.std.proofs.Common.{ℕ, List, refl, sym, subst, ◌∙◌, ap}
use Rattle.hk_words.specs.declared.call.Call.TheVariants.{Put}
use Rattle.hk_core.specs.State.{State}
use Rattle.hk_core.specs.Lawful.{Lawful}
use Rattle.hk_core.specs.Whole.{whole_history}
use Rattle.hk_core.specs.WholeRows.{put_row}
use Rattle.hk_core.proofs.ShortRows.{whole_put_row, put_fits}
use Rattle.hk_core.proofs.OnePiece.{can_pass_all, left, whole_answers, whole_lawful, whole_refused}
use Rattle.hk_core.proofs.machine.Core.put.Goals as goal

pub returns-in-Some-clause-state : goal.returns-in-Some-clause-state
returns-in-Some-clause-state c = whole_refused c.args.self.now c.args.seat (Put c.args.reg c.args.field c.args.value) c.in-Some.fault (sym (c.in-Some.ensures.put c.args.value))

pub returns-in-Some-clause-lawful : goal.returns-in-Some-clause-lawful
returns-in-Some-clause-lawful c = λ history h.
    subst (λ (d : State). Lawful d (whole_history c.args.self.now c.args.seat (Put c.args.reg c.args.field c.args.value) history)) (sym (returns-in-Some-clause-state c))
    (whole_lawful c.args.self.now c.args.seat (Put c.args.reg c.args.field c.args.value) history 2 c.requires.seat c.requires.idle refl c.requires.registers refl h)

pub put_through-requires : goal.put_through-requires
put_through-requires c =
    rw c.register-entered.ensures (put_fits c.args.self.now c.args.seat c.args.reg c.args.field c.args.value (can_pass_all c.args.self.now c.args.seat (Put c.args.reg c.args.field c.args.value) c.requires.lawful.0 c.requires.seat c.requires.idle refl c.requires.registers (sym (c.in_default.ensures.put c.args.value)) c.requires.lawful.1))

pub returns-clause-state : goal.returns-clause-state
returns-clause-state c =
    let now = c.args.self.now in
    left c.args.self.now c.args.seat (Put c.args.reg c.args.field c.args.value) c.requires.lawful.0 c.requires.seat c.requires.idle refl c.requires.registers (sym (c.in_default.ensures.put c.args.value)) c.requires.lawful.1
    2 refl _ _
    (c.put_through.ensures
    ∙ ap (λ (r : ℕ). record now { row = put_row now.geometry now.row r c.args.field c.args.value }) c.register-entered.ensures
    ∙ ap (λ (l : List ℕ). record now { row = l }) (sym (whole_put_row c.args.self.now c.args.seat c.args.reg c.args.field c.args.value)))
    c.close.ensures

pub returns-clause-answer : goal.returns-clause-answer
returns-clause-answer c = record {
  begun = sym (c.in_default.ensures.put c.args.value);
  ended = whole_answers c.args.self.now c.args.seat (Put c.args.reg c.args.field c.args.value) c.requires.lawful.0 c.requires.seat c.requires.idle refl c.requires.registers (sym (c.in_default.ensures.put c.args.value)) c.requires.lawful.1 2 refl;
}

pub returns-clause-lawful : goal.returns-clause-lawful
returns-clause-lawful c = λ history h.
    subst (λ (d : State). Lawful d (whole_history c.args.self.now c.args.seat (Put c.args.reg c.args.field c.args.value) history)) (sym (returns-clause-state c))
    (whole_lawful c.args.self.now c.args.seat (Put c.args.reg c.args.field c.args.value) history 2 c.requires.seat c.requires.idle refl c.requires.registers refl h)
