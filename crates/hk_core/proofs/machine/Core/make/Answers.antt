use Rattle.std.proofs.Common.{refl, sym, subst, ◌∙◌, ap}
use Rattle.hk_words.specs.declared.call.Call.TheVariants.{New}
use Rattle.hk_core.specs.declared.outcome.Outcome.{Outcome}
use Rattle.hk_core.specs.declared.outcome.Step.TheVariants.{Ended}
use Rattle.hk_core.specs.State.{State}
use Rattle.hk_core.specs.Lawful.{Lawful}
use Rattle.hk_core.specs.Whole.{whole_history}
use Rattle.hk_core.proofs.OnePiece.{can_pass_all, left, whole_answers, whole_lawful, whole_refused}
use Rattle.hk_core.proofs.machine.Core.make.Goals as goal

pub returns-in-Some-clause-state : goal.returns-in-Some-clause-state
returns-in-Some-clause-state c = whole_refused c.args.self.now c.args.seat (New c.args.dest c.args.shape) c.in-Some.fault (sym (c.in-Some.ensures.make c.args.dest c.args.shape))

pub returns-in-Some-clause-lawful : goal.returns-in-Some-clause-lawful
returns-in-Some-clause-lawful c = λ history h.
    subst (λ (d : State). Lawful d (whole_history c.args.self.now c.args.seat (New c.args.dest c.args.shape) history)) (sym (returns-in-Some-clause-state c))
    (whole_lawful c.args.self.now c.args.seat (New c.args.dest c.args.shape) history 6 c.requires.seat c.requires.idle refl c.requires.registers refl h)

pub make_through-outcome-requires-clause-places : goal.make_through-outcome-requires-clause-places
make_through-outcome-requires-clause-places c =
    can_pass_all c.args.self.now c.args.seat (New c.args.dest c.args.shape) c.requires.lawful.0 c.requires.seat c.requires.idle refl c.requires.registers (sym (c.in_default.ensures.make c.args.dest c.args.shape)) c.requires.lawful.1

pub returns-clause-state : goal.returns-clause-state
returns-clause-state c =
    left c.args.self.now c.args.seat (New c.args.dest c.args.shape) c.requires.lawful.0 c.requires.seat c.requires.idle refl c.requires.registers (sym (c.in_default.ensures.make c.args.dest c.args.shape)) c.requires.lawful.1
    6 refl _ _ c.make_through-outcome.ensures.row c.close.ensures

pub returns-clause-answer : goal.returns-clause-answer
returns-clause-answer c = record {
  begun = sym (c.in_default.ensures.make c.args.dest c.args.shape);
  ended = whole_answers c.args.self.now c.args.seat (New c.args.dest c.args.shape) c.requires.lawful.0 c.requires.seat c.requires.idle refl c.requires.registers (sym (c.in_default.ensures.make c.args.dest c.args.shape)) c.requires.lawful.1 6 refl
      ∙ ap (λ (o : Outcome). Ended o) (sym c.make_through-outcome.ensures.outcome);
}

pub returns-clause-lawful : goal.returns-clause-lawful
returns-clause-lawful c = λ history h.
    subst (λ (d : State). Lawful d (whole_history c.args.self.now c.args.seat (New c.args.dest c.args.shape) history)) (sym (returns-clause-state c))
    (whole_lawful c.args.self.now c.args.seat (New c.args.dest c.args.shape) history 6 c.requires.seat c.requires.idle refl c.requires.registers refl h)
