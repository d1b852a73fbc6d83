use Rattle.std.proofs.Common.{◌∙◌, ◌+◌, ap}
use Rattle.hk_dispatch.specs.Told.{told}
use Rattle.hk_dispatch.specs.Opened.{Opened}
use Rattle.hk_dispatch.proofs.StandsFrom.{told_over, told_end, before, told_went, same_geometry, stands_next}
use Rattle.hk_dispatch.proofs.session.SessionBy.tick.Goals as goal

pub returns-in-Some-clause-answer : goal.returns-in-Some-clause-answer
returns-in-Some-clause-answer g c =
    let s = c.self.inside in
    let k = s.checked in
    told_over (g.P.Pick.choice s.pick) k.sheet k.work k.attempt k.busy k.debt s.given s.stand c.self.invariant (g.met.P.Pick.chooses s.pick) k.sound c.in-Some.words c.in-Some.is
    ∙ ap (λ (o : Opened g.row.P.Denot). told o.geometry (g.P.Pick.choice o.pick) o.sheet o.given) c.self.view_is

pub returns-then-tick-self-clause-answer : goal.returns-then-tick-self-clause-answer
returns-then-tick-self-clause-answer g c =
    let s = c.self.inside in
    let k = s.checked in
    told_end (g.P.Pick.choice s.pick) k.sheet k.work k.attempt k.busy k.debt s.given s.stand c.self.invariant (g.met.P.Pick.chooses s.pick) k.sound c.in_default.is c.if-tick-self.true
    ∙ ap (λ (o : Opened g.row.P.Denot). told o.geometry (g.P.Pick.choice o.pick) o.sheet o.given) c.self.view_is

pub tick-requires : goal.tick-requires
tick-requires g c =
    let s = c.self.inside in
    let k = s.checked in
    (_, before (g.P.Pick.choice s.pick) k.sheet k.work k.attempt k.busy k.debt s.given s.stand c.self.invariant (g.met.P.Pick.chooses s.pick) k.sound c.in_default.is c.if-tick-self.false)

pub invariant_of-self : goal.invariant_of-self
invariant_of-self g c =
    let s = c.self.inside in
    let k = s.checked in
    let b = before (g.P.Pick.choice s.pick) k.sheet k.work k.attempt k.busy k.debt s.given s.stand c.self.invariant (g.met.P.Pick.chooses s.pick) k.sound c.in_default.is c.if-tick-self.false in
    stands_next (g.P.Pick.choice s.pick) k.sheet k.work k.attempt k.busy k.debt s.given s.stand c.self.invariant (g.met.P.Pick.chooses s.pick) k.sound c.in_default.is c.if-tick-self.false
    c.tick.new.self c.tick.result (c.tick.ensures _ b)

pub returns-clause-answer : goal.returns-clause-answer
returns-clause-answer g c =
    let s = c.self.inside in
    let k = s.checked in
    let b = before (g.P.Pick.choice s.pick) k.sheet k.work k.attempt k.busy k.debt s.given s.stand c.self.invariant (g.met.P.Pick.chooses s.pick) k.sound c.in_default.is c.if-tick-self.false in
    told_went (g.P.Pick.choice s.pick) k.sheet k.work k.attempt k.busy k.debt s.given s.stand c.self.invariant (g.met.P.Pick.chooses s.pick) k.sound c.in_default.is c.if-tick-self.false
    c.tick.new.self c.tick.result (c.tick.ensures _ b)
    ∙ ap (λ (o : Opened g.row.P.Denot). told o.geometry (g.P.Pick.choice o.pick) o.sheet o.given) c.self.view_is

pub returns-clause-opened : goal.returns-clause-opened
returns-clause-opened g c =
    let s = c.self.inside in
    let k = s.checked in
    let b = before (g.P.Pick.choice s.pick) k.sheet k.work k.attempt k.busy k.debt s.given s.stand c.self.invariant (g.met.P.Pick.chooses s.pick) k.sound c.in_default.is c.if-tick-self.false in
    let same = same_geometry (g.P.Pick.choice s.pick) k.sheet k.work k.attempt k.busy k.debt s.given s.stand c.self.invariant (g.met.P.Pick.chooses s.pick) k.sound c.in_default.is c.if-tick-self.false
    c.tick.new.self c.tick.result (c.tick.ensures _ b) in
    λ i. record {
      sheet = ap (λ (o : Opened g.row.P.Denot). o.sheet) c.self.view_is i;
      work = ap (λ (o : Opened g.row.P.Denot). o.work) c.self.view_is i;
      attempt = ap (λ (o : Opened g.row.P.Denot). o.attempt) c.self.view_is i;
      busy = ap (λ (o : Opened g.row.P.Denot). o.busy) c.self.view_is i;
      debt = ap (λ (o : Opened g.row.P.Denot). o.debt) c.self.view_is i;
      geometry = (same ∙ ap (λ (o : Opened g.row.P.Denot). o.geometry) c.self.view_is) i;
      pick = ap (λ (o : Opened g.row.P.Denot). o.pick) c.self.view_is i;
      given = s.given + 1;
    }
