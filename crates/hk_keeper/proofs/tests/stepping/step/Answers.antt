use Rattle.std.proofs.Common.{◌≡◌, ◌∙◌, ap, sym, subst, ℕ, ◌<◌, ◌≤◌, arith, false}
use Rattle.hk_words.specs.declared.geometry.Geometry.{Geometry}
use Rattle.hk_core.specs.declared.event.Event.{Event}
use Rattle.hk_core.specs.declared.flight.Flight.{Flight}
use Rattle.hk_core.specs.Event.{word_of, learnt_from}
use Rattle.hk_core.specs.Fits.{Fits}
use Rattle.hk_core.specs.Step.{event_of, took_of}
use Rattle.std.specs.Prelude.{Option, Some}
use Rattle.hk_table.specs.Deeds.{Deed, is_rest, taken, learnt_by}
use Rattle.hk_table.proofs.Resting.{told_goes, does_fit, does_fly, does_within, has_event, rest_fits, settled_stops}
use Rattle.hk_keeper.proofs.tests.stepping.step.Goals as goal

-- the flight that took what was learnt is the one that the deed leaves
taken_so : (z h : Geometry) (d : Deed) (e : Event) (found learnt : ℕ) → z ≡ h → event_of h d.flight ≡ Some e → learnt ≡ learnt_from e found → took_of z d.flight learnt ≡ taken h d found
taken_so z h d e found learnt same asks is = (λ i. took_of (same i) d.flight (is i)) ∙ sym (ap (λ (o : Option Event). took_of h d.flight (learnt_by o found)) asks)

pub event-requires : goal.event-requires
event-requires g c = subst (λ (z : Geometry). Fits z c.args.flight.now) (sym c.geometry-g.ensures) (does_fit c.args.heap.now.geometry _ _ c.requires.stands c.requires.may)

pub unreachable-requires : goal.unreachable-requires
unreachable-requires g c =
    let h = c.args.heap.now.geometry in
    has_event h c.args.flight.now c.event.result c.requires.used (does_fly h _ _ c.requires.stands c.requires.may)
    (c.event.ensures ∙ ap (λ (z : Geometry). event_of z c.args.flight.now) c.geometry-g.ensures) c.in_default.not-Some

pub fire-found-requires-clause-within : goal.fire-found-requires-clause-within
fire-found-requires-clause-within g c =
    let h = c.args.heap.now.geometry in
    subst (λ n. word_of c.in-Some.event < n) (sym c.args.heap.now.words)
    (does_within h _ _ c.requires.stands c.requires.may c.in-Some.event
    (sym (c.event.ensures ∙ ap (λ (z : Geometry). event_of z c.args.flight.now) c.geometry-g.ensures) ∙ c.in-Some.is))

pub is_rest-requires : goal.is_rest-requires
is_rest-requires g c =
    let h = c.args.heap.now.geometry in
    let m = c.args.seat.now.me in
    let t = c.fire-found.ensures.stepped in
    let d : Deed = record { begins = c.args.begins; flight = c.args.flight.now } in
    let asks = sym (c.event.ensures ∙ ap (λ (z : Geometry). event_of z c.args.flight.now) c.geometry-g.ensures) ∙ c.in-Some.is in
    let after = c.took.ensures.flight ∙ taken_so c.geometry-g.result h d c.in-Some.event t.0 c.fire-found.result c.geometry-g.ensures asks t.2 in
    let goes = told_goes h d m.0.knows c.fire-found.new.seat.me.0.knows t.0 c.requires.pass t.1.1 in
    λ flying. subst (λ (z : Geometry). Fits z c.took.new.self) (sym c.geometry-g.ensures)
    (subst (λ (f : Flight). Fits h f) (sym after)
    (rest_fits h (taken h d t.0) 10 (λ e. absurd (omega arith)) goes.fit (subst (λ (f : Flight). 1 ≤ f.place) after flying)))

pub returns-clause-flight : goal.returns-clause-flight
returns-clause-flight g c =
    let h = c.args.heap.now.geometry in
    let m = c.args.seat.now.me in
    let t = c.fire-found.ensures.stepped in
    let d : Deed = record { begins = c.args.begins; flight = c.args.flight.now } in
    let asks = sym (c.event.ensures ∙ ap (λ (z : Geometry). event_of z c.args.flight.now) c.geometry-g.ensures) ∙ c.in-Some.is in
    let after = c.took.ensures.flight ∙ taken_so c.geometry-g.result h d c.in-Some.event t.0 c.fire-found.result c.geometry-g.ensures asks t.2 in
    let goes = told_goes h d m.0.knows c.fire-found.new.seat.me.0.knows t.0 c.requires.pass t.1.1 in
    let none : is_rest c.geometry-g.result c.took.new.self ≡ false = cc (c.is_rest.ensures, c.if-is_rest.false) in
    after ∙ settled_stops h (taken h d t.0) 10 ((λ i. is_rest (sym c.geometry-g.ensures i) (sym after i)) ∙ none) ∙ sym goes.flight

pub returns-clause-used : goal.returns-clause-used
returns-clause-used g c =
    let none : is_rest c.geometry-g.result c.took.new.self ≡ false = cc (c.is_rest.ensures, c.if-is_rest.false) in
    ap (λ (z : Geometry). is_rest z c.took.new.self) (sym c.geometry-g.ensures) ∙ none
