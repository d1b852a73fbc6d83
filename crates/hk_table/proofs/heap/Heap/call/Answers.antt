use Rattle.std.proofs.Common.{◌≡◌, ◌∙◌, ap, sym, subst, refl, ◌+◌, ◌≤◌, None, Some}
use Rattle.hk_words.specs.declared.call.Call.{Call}
use Rattle.hk_words.specs.Bounds.{places_of}
use Rattle.hk_core.specs.declared.flight.Flight.{Flight}
use Rattle.hk_table.specs.Deeds.{refused_with, first_with, refused_by, MayBegin, the_pass}
use Rattle.hk_table.specs.Calls.{Called}
use Rattle.hk_table.specs.Passes.{known}
use Rattle.hk_table.proofs.Refusals.{none_so, call_so}
use Rattle.hk_table.proofs.Questions.{refused_so}
use Rattle.hk_table.proofs.heap.Heap.call.Goals as goal

pub returns-in-Some-clause-refused : goal.returns-in-Some-clause-refused
returns-in-Some-clause-refused g c =
    let h = c.args.self.now.geometry in
    let p = c.args.pass.now in
    let k = known p in
    let refused : refused_by k c.args.call ≡ Some c.in-Some.fault =
    (λ i. refused_with (sym c.requires.pass.registers i) (c.requires.pass.begun i) c.args.call) ∙ sym c.refusal.ensures.refusal ∙ c.in-Some.is in (
      record {
        why = c.in-Some.fault;
        refused = refused;
        is = c.error_of.ensures;
        plain = refused_so h k c.requires.pass.stands c.requires.pass.idle c.args.call c.requires.question c.requires.registers c.in-Some.fault refused;
      },
      refl,
      refl,
    )

pub operate-outcome-requires-clause-may : goal.operate-outcome-requires-clause-may
unfolding first_with
operate-outcome-requires-clause-may g c =
    let h = c.args.self.now.geometry in
    let p = c.args.pass.now in
    let k = known p in
    let call = c.args.call in
    let accepts : refused_with p.registers.items p.begun call ≡ None = sym c.refusal.ensures.refusal ∙ none_so c.refusal.result c.in_default.not-Some in
    let same : first_with p.number p.registers.items call ≡ first_with k.seat k.registers call = λ i. first_with (sym c.requires.pass.number i) (c.requires.pass.registers i) call in
    let whole : MayBegin h k (first_with k.seat k.registers call) = record {
      idle = c.requires.pass.idle;
      question = c.requires.question;
      registers = c.requires.registers;
      accepted = (λ i. refused_with (sym c.requires.pass.registers i) (c.requires.pass.begun i) call) ∙ accepts;
      first = refl;
    } in
    subst (MayBegin h k) (sym (c.first-first.ensures ∙ same)) whole

pub returns-clause-called : goal.returns-clause-called
returns-clause-called g c =
    let same : c.first-first.result.call ≡ c.args.call = ap (λ (f : Flight). f.call) c.first-first.ensures ∙ call_so _ _ c.args.call in
    subst (λ (k : Call). Called c.args.self.now.geometry (known c.args.pass.now) k c.operate-outcome.result (the_pass c.operate-outcome.new.seat.me.0.knows)) same c.operate-outcome.ensures.called

pub returns-clause-steps : goal.returns-clause-steps
returns-clause-steps g c =
    let same : c.first-first.result.call ≡ c.args.call = ap (λ (f : Flight). f.call) c.first-first.ensures ∙ call_so _ _ c.args.call in
    subst (λ (k : Call). c.operate-outcome.new.steps ≤ c.args.steps.now + places_of k) same c.operate-outcome.ensures.steps
