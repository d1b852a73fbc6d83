-- One more task brings what it demands.
use Rattle.std.proofs.Common.{◌+◌, take, arith}
use Rattle.std.proofs.lemmas.List.Sums.{sum_by_more}
use Rattle.hk_rta.specs.Demand.{demand_of, demand, no_timing}
use Rattle.hk_rta.proofs.ahead.need_of_tasks.Goals as goal

pub loop-task-preserved : goal.loop-task-preserved
loop-task-preserved c = record {
  share = omega (arith, c.add.ensures.share, c.loop-task.invariant.share);
  holds = λ x reached. omega (
    arith,
    c.add.ensures.holds x (c.args.own + demand (take c.loop-task.task-index c.args.tasks.now) x) reached (c.loop-task.invariant.holds x reached),
    sum_by_more (demand_of x) c.args.tasks.now c.loop-task.task-index no_timing c.loop-task-test.true,
  );
}
