use Rattle.std.proofs.Common.{rules, ◌≡◌, ◌∙◌, ap, sym, subst, arith, ◌+◌, ◌≤◌, false}
use Rattle.hk_core.specs.declared.flight.Flight.{Flight}
use Rattle.hk_core.specs.declared.outcome.Step.{Step}
use Rattle.hk_core.specs.Step.{step_of}
use Rattle.hk_table.specs.Deeds.{is_rest, the_pass, Goes, answered, most_rests, taken}
use Rattle.hk_table.proofs.Resting.{first_used, first_so}
use Rattle.hk_table.proofs.Calls.{After, after_begin_step, after_step, when_ended, when_going, not_more}
use Rattle.hk_table.proofs.heap.Heap.operate.Goals as goal

pub turn-step-requires-clause-used : goal.turn-step-requires-clause-used
turn-step-requires-clause-used g c = first_used c.args.self.now.geometry _ c.args.first c.requires.may

pub loop-init : goal.loop-init
loop-init g c =
    let h = c.args.self.now.geometry in
    let p = the_pass c.args.seat.now.me.0.knows in
    let w = the_pass c.turn-step.new.seat.me.0.knows in
    let e = c.turn-step.ensures in
    let go = e.goes in
    let first = first_so h p c.args.first c.requires.may in (
      e.table.0,
      e.table.1,
      e.table.2,
      e.pass,
      subst (λ (a : Step). After h p c.args.first.call w a 1) (sym go.2) (after_begin_step h p w c.args.first go.0 first.0 first.1 first.2 c.requires.may.accepted go.1),
      e.flight,
      go.1.stands,
      go.1.used,
      e.steps,
      e.registers,
    )

pub returns-in-Ended-clause-table : goal.returns-in-Ended-clause-table
returns-in-Ended-clause-table g c = let i = c.loop.invariant in (i.0, i.1, i.2)

pub returns-in-Ended-clause-pass : goal.returns-in-Ended-clause-pass
returns-in-Ended-clause-pass g c = c.loop.invariant.3

pub returns-in-Ended-clause-called : goal.returns-in-Ended-clause-called
returns-in-Ended-clause-called g c = (when_ended _ _ c.args.first.call _ c.loop.step _ c.in-Ended.outcome c.loop.invariant.4 c.in-Ended.is).0

pub returns-in-Ended-clause-steps : goal.returns-in-Ended-clause-steps
returns-in-Ended-clause-steps g c =
    let few = (when_ended _ _ c.args.first.call _ c.loop.step _ c.in-Ended.outcome c.loop.invariant.4 c.in-Ended.is).1 in
    let steps = c.loop.invariant.8 in
    omega arith

pub turn-step-requires-in-Going-clause-may : goal.turn-step-requires-in-Going-clause-may
turn-step-requires-in-Going-clause-may g c =
    let i = c.loop.invariant in
    let u = (when_going _ _ c.args.first.call _ c.loop.step _ i.4 c.in-Going.is).2 in
    let place = u.place in
    ((λ e. absurd (cc)), (λ e. record { flight = i.5; flying = subst (λ (f : Flight). 1 ≤ f.place) (sym i.5) (omega arith) }))

pub turn-step-requires-in-Going-clause-used : goal.turn-step-requires-in-Going-clause-used
turn-step-requires-in-Going-clause-used g c = let i = c.loop.invariant in subst (λ (f : Flight). is_rest c.args.self.now.geometry f ≡ false) (sym i.5) i.7

pub loop-preserved : goal.loop-preserved
loop-preserved g c =
    let h = c.args.self.now.geometry in
    let i = c.loop.invariant in
    let p = the_pass c.args.seat.now.me.0.knows in
    let q = the_pass c.loop.seat.me.0.knows in
    let w = the_pass c.turn-step-in-Going.new.seat.me.0.knows in
    let e = c.turn-step-in-Going.ensures in
    let go = e.goes in
    let u = when_going h p c.args.first.call q c.loop.step (c.loop.counter + 1) i.4 c.in-Going.is in
    let goes : Goes h (record { begins = false; flight = q.flight }) q go.0 w = subst (λ (f : Flight). Goes h (record { begins = false; flight = f }) q go.0 w) i.5 go.1 in
    let result = go.2 ∙ ap (λ (f : Flight). answered most_rests h (taken h (record { begins = false; flight = f }) go.0) (step_of f)) i.5 in (
      e.table.0 ∙ i.0,
      e.table.1 ∙ i.1,
      e.table.2 ∙ i.2,
      e.pass,
      subst (λ (a : Step). After h p c.args.first.call w a (c.loop.counter + 1 + 1)) (sym result) (after_step h p q w c.args.first.call u.0 go.0 (c.loop.counter + 1) u.1 c.requires.may.accepted u.2 goes),
      e.flight,
      go.1.stands,
      go.1.used,
      (let a = e.steps in let b = i.8 in omega arith),
      e.registers,
    )

pub unreachable-requires : goal.unreachable-requires
unreachable-requires g c = let over = c.loop-test.false in not_more _ _ c.args.first.call _ c.loop.step (c.loop.counter + 1) (let end = c.loop.auto.counter-end in search rules) c.loop.invariant.4
