use Rattle.std.proofs.Common.{ap, arith, sym, ◌∙◌, inl, inr}
use Rattle.hk_model.specs.Heap.{opening_of}
use Rattle.hk_race.specs.Course.{job_done}
use Rattle.hk_race.proofs.Going.{task_told_from, goes_next_job, goes_moved, one_more_cost}
use Rattle.hk_race.proofs.Through.{jobs_after}
use Rattle.hk_race.proofs.worker.work.Goals as goal

pub returns-then-is_some-clause-told : goal.returns-then-is_some-clause-told
returns-then-is_some-clause-told g c =
    task_told_from _ _ c.args.script.now c.args.jobs c.loop.counter _ _ _ c.loop.own c.loop.invariant.first (omega (arith, c.loop.auto.counter-end)) (inr (sym c.is_some.ensures ∙ c.if-is_some.true)) c.loop.invariant.goes

pub returns-then-is_some-clause-ended : goal.returns-then-is_some-clause-ended
returns-then-is_some-clause-ended g c = inr (sym c.is_some.ensures ∙ c.if-is_some.true)

pub loop-preserved : goal.loop-preserved
loop-preserved g c = record {
  good = c.job.ensures.good;
  same = g.met.D.Desk.same_trans _ _ _ c.loop.invariant.same c.job.ensures.same;
  geometry = c.job.ensures.geometry ∙ c.loop.invariant.geometry;
  seat = c.job.ensures.seat ∙ c.loop.invariant.seat;
  first = c.loop.invariant.first;
  ended = jobs_after c.loop.own c.job.new.own c.loop.counter c.loop.invariant.ended (sym c.is_some.ensures ∙ c.if-is_some.false) c.in_ok-job.ensures.ended;
  jobs = omega (arith, c.in_ok-job.ensures.jobs, c.loop.invariant.jobs);
  begun = omega (arith, c.job.ensures.begun, c.loop.invariant.begun, one_more_cost c.loop.counter c.args.cost);
  goes = goes_next_job (opening_of (g.D.Desk.geometry c.args.desk.now)) (g.D.Desk.seat c.args.desk.now) c.args.script.now c.loop.counter _ _ _ _ c.loop.own _ c.loop.invariant.goes
      (goes_moved _ _ _ _ (job_done c.args.script.now) _ _ _ _ (ap opening_of c.loop.invariant.geometry) c.loop.invariant.seat c.in_ok-job.ensures.goes);
}

pub returns-clause-told : goal.returns-clause-told
returns-clause-told g c =
    task_told_from _ _ c.args.script.now c.args.jobs c.loop.counter _ _ _ c.loop.own c.loop.invariant.first (omega (arith, c.loop.auto.counter-end)) (inl (omega (arith, c.loop-test.false, c.loop.auto.counter-end))) c.loop.invariant.goes
