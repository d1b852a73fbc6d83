use Rattle.std.proofs.Common.{ap, arith, sym, ◌∙◌, inl, inr}
use Rattle.hk_model.specs.Heap.{opening_of}
use Rattle.hk_race.specs.Course.{stepped}
use Rattle.hk_race.specs.Goes.{course_of}
use Rattle.hk_race.proofs.Going.{goes_stays, goes_once, goes_moved, stopped_still, ended_still, no_some}
use Rattle.hk_race.proofs.Through.{none_wanted, left_after, through_by, not_through}
use Rattle.hk_race.proofs.worker.statements.Goals as goal

pub returns-then-is_some-clause-goes : goal.returns-then-is_some-clause-goes
returns-then-is_some-clause-goes g c =
    goes_stays _ _ c.args.script.now c.loop.counter c.args.cost _ _ c.args.own.now c.loop.own (omega (arith, c.loop.auto.counter-end))
    (λ rest. stopped_still c.args.script.now _ (course_of c.loop.own _ rest) (sym c.is_some.ensures ∙ c.if-is_some.true))
    c.loop.invariant.goes

pub returns-then-is_some-clause-through : goal.returns-then-is_some-clause-through
returns-then-is_some-clause-through g c = inr (sym c.is_some.ensures ∙ c.if-is_some.true)

pub returns-then-is_none-clause-goes : goal.returns-then-is_none-clause-goes
returns-then-is_none-clause-goes g c =
    goes_stays _ _ c.args.script.now c.loop.counter c.args.cost _ _ c.args.own.now c.loop.own (omega (arith, c.loop.auto.counter-end))
    (λ rest. ended_still c.args.script.now _ (course_of c.loop.own _ rest) (sym c.next.ensures.need ∙ no_some c.next.result c.if-is_none.ensures))
    c.loop.invariant.goes

pub returns-then-is_none-clause-through : goal.returns-then-is_none-clause-through
returns-then-is_none-clause-through g c = inl (none_wanted c.args.script.now c.loop.own.walk c.loop.invariant.walks.fits (sym c.next.ensures.need ∙ no_some c.next.result c.if-is_none.ensures))

pub loop-preserved : goal.loop-preserved
loop-preserved g c = record {
  good = c.statement.ensures.good;
  same = g.met.D.Desk.same_trans _ _ _ c.loop.invariant.same c.statement.ensures.same;
  geometry = c.statement.ensures.geometry ∙ c.loop.invariant.geometry;
  seat = c.statement.ensures.seat ∙ c.loop.invariant.seat;
  jobs = c.statement.ensures.jobs ∙ c.loop.invariant.jobs;
  walks = c.statement.ensures.walks;
  left = left_after c.args.script.now c.loop.own c.statement.new.own c.loop.counter c.args.cost c.loop.invariant.left (not_through c.args.script.now c.loop.own c.next.result c.next.ensures.need c.if-is_none.ensures (sym c.is_some.ensures ∙ c.if-is_some.false)) c.in_ok-statement.ensures.falls;
  begun = omega (arith, c.statement.ensures.begun, c.loop.invariant.begun);
  goes = goes_once (opening_of (g.D.Desk.geometry c.args.desk.now)) (g.D.Desk.seat c.args.desk.now) c.args.script.now c.loop.counter _ _ _ c.args.own.now c.loop.own _ c.loop.invariant.goes
      (goes_moved _ _ _ _ (stepped c.args.script.now) _ _ _ _ (ap opening_of c.loop.invariant.geometry) c.loop.invariant.seat c.in_ok-statement.ensures.goes);
}

pub returns-clause-through : goal.returns-clause-through
returns-clause-through g c = through_by _ c.args.script.now c.loop.own c.loop.counter c.args.cost c.requires.script c.loop.invariant.walks c.loop.invariant.left (omega (arith, c.loop-test.false, c.loop.auto.counter-end))
