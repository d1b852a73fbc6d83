use Rattle.std.proofs.Common.{refl, sym, subst}
use Rattle.hk_words.specs.declared.call.Call.TheVariants.{Store}
use Rattle.hk_core.specs.State.{State}
use Rattle.hk_core.specs.Lawful.{Lawful}
use Rattle.hk_core.specs.Whole.{whole_history}
use Rattle.hk_core.proofs.OnePiece.{can_pass_all, left, whole_answers, whole_lawful, whole_refused}
use Rattle.hk_core.proofs.machine.Core.store.Goals as goal

pub returns-in-Some-clause-state : goal.returns-in-Some-clause-state
returns-in-Some-clause-state c = whole_refused c.args.self.now c.args.seat (Store c.args.reg c.args.field c.args.from) c.in-Some.fault (sym (c.in-Some.ensures.store c.args.from))

pub returns-in-Some-clause-lawful : goal.returns-in-Some-clause-lawful
returns-in-Some-clause-lawful c = λ history h.
    subst (λ (d : State). Lawful d (whole_history c.args.self.now c.args.seat (Store c.args.reg c.args.field c.args.from) history)) (sym (returns-in-Some-clause-state c))
    (whole_lawful c.args.self.now c.args.seat (Store c.args.reg c.args.field c.args.from) history 6 c.requires.seat c.requires.idle refl c.requires.registers refl h)

pub store_through-requires-clause-places : goal.store_through-requires-clause-places
store_through-requires-clause-places c =
    can_pass_all c.args.self.now c.args.seat (Store c.args.reg c.args.field c.args.from) c.requires.lawful.0 c.requires.seat c.requires.idle refl c.requires.registers (sym (c.in_default.ensures.store c.args.from)) c.requires.lawful.1

pub returns-clause-state : goal.returns-clause-state
returns-clause-state c =
    left c.args.self.now c.args.seat (Store c.args.reg c.args.field c.args.from) c.requires.lawful.0 c.requires.seat c.requires.idle refl c.requires.registers (sym (c.in_default.ensures.store c.args.from)) c.requires.lawful.1
    6 refl _ _ c.store_through.ensures c.close.ensures

pub returns-clause-answer : goal.returns-clause-answer
returns-clause-answer c = record {
  begun = sym (c.in_default.ensures.store c.args.from);
  ended = whole_answers c.args.self.now c.args.seat (Store c.args.reg c.args.field c.args.from) c.requires.lawful.0 c.requires.seat c.requires.idle refl c.requires.registers (sym (c.in_default.ensures.store c.args.from)) c.requires.lawful.1 6 refl;
}

pub returns-clause-lawful : goal.returns-clause-lawful
returns-clause-lawful c = λ history h.
    subst (λ (d : State). Lawful d (whole_history c.args.self.now c.args.seat (Store c.args.reg c.args.field c.args.from) history)) (sym (returns-clause-state c))
    (whole_lawful c.args.self.now c.args.seat (Store c.args.reg c.args.field c.args.from) history 6 c.requires.seat c.requires.idle refl c.requires.registers refl h)
