use Rattle.std.proofs.Common.{rules, ◌≡◌, ◌∙◌, ap, sym, subst, true, false, ◌-◌}
use Rattle.hk_core.specs.declared.flight.Flight.{Flight}
use Rattle.hk_table.specs.Deeds.{is_rest, answered, settled, RestsFit}
use Rattle.hk_table.proofs.Resting.{rest_fits, rest_next, settled_next, answered_next, settled_stops, answered_stops, settled_none, answered_none}
use Rattle.hk_table.proofs.rest.+settle.Goals as goal

pub returns-then-fuel-eq0-clause-flight : goal.returns-then-fuel-eq0-clause-flight
returns-then-fuel-eq0-clause-flight t c = settled_none c.args.g.now c.args.flight.now c.args.fuel c.if-fuel-eq0.true

pub returns-then-fuel-eq0-clause-answer : goal.returns-then-fuel-eq0-clause-answer
returns-then-fuel-eq0-clause-answer t c = answered_none c.args.g.now c.args.flight.now c.args.fuel c.args.answer c.if-fuel-eq0.true

pub is_rest-requires : goal.is_rest-requires
is_rest-requires t c = rest_fits c.args.g.now c.args.flight.now c.args.fuel c.if-fuel-eq0.false c.requires

pub returns-then-not-is_rest-clause-flight : goal.returns-then-not-is_rest-clause-flight
returns-then-not-is_rest-clause-flight t c = settled_stops c.args.g.now c.args.flight.now c.args.fuel (let stop : is_rest c.args.g.now c.args.flight.now ≡ false = cc (c.is_rest.ensures, c.if-not-is_rest.true) in stop)

pub returns-then-not-is_rest-clause-answer : goal.returns-then-not-is_rest-clause-answer
returns-then-not-is_rest-clause-answer t c = answered_stops c.args.g.now c.args.flight.now c.args.fuel c.args.answer (let stop : is_rest c.args.g.now c.args.flight.now ≡ false = cc (c.is_rest.ensures, c.if-not-is_rest.true) in stop)

pub settle-requires : goal.settle-requires
settle-requires t c =
    let goes : is_rest c.args.g.now c.args.flight.now ≡ true = sym c.if-not-is_rest.ensures in (
      (let some = c.if-fuel-eq0.false in let d = c.decreases in search rules),
      subst (λ (f : Flight). RestsFit (c.args.fuel - 1) c.args.g.now f) (sym c.took-next.ensures.flight) (rest_next c.args.g.now c.args.flight.now c.args.fuel c.if-fuel-eq0.false goes c.requires),
    )

pub returns-clause-flight : goal.returns-clause-flight
returns-clause-flight t c =
    let goes : is_rest c.args.g.now c.args.flight.now ≡ true = sym c.if-not-is_rest.ensures in
    c.settle.ensures.flight ∙ ap (settled (c.args.fuel - 1) c.args.g.now) c.took-next.ensures.flight ∙ settled_next c.args.g.now c.args.flight.now c.args.fuel c.if-fuel-eq0.false goes

pub returns-clause-answer : goal.returns-clause-answer
returns-clause-answer t c =
    let goes : is_rest c.args.g.now c.args.flight.now ≡ true = sym c.if-not-is_rest.ensures in
    c.settle.ensures.answer ∙ (λ i. answered (c.args.fuel - 1) c.args.g.now (c.took-next.ensures.flight i) (c.took-next.ensures.step i))
    ∙ answered_next c.args.g.now c.args.flight.now c.args.fuel c.args.answer c.if-fuel-eq0.false goes
