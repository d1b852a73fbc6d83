-- One more load brings its work.
use Rattle.std.proofs.Common.{◌+◌, take, arith}
use Rattle.std.proofs.lemmas.List.Sums.{sum_by_more}
use Rattle.hk_rta.specs.Demand.{work_of, work_in}
use Rattle.hk_rta.proofs.ahead.need_of_loads.Goals as goal

pub loop-load-preserved : goal.loop-load-preserved
loop-load-preserved c = record {
  share = omega (arith, c.add.ensures.share, c.loop-load.invariant.share);
  holds = λ x reached. omega (
    arith,
    c.add.ensures.holds x (c.args.base + work_in (take c.loop-load.load-index c.args.loads.now) x) reached (c.loop-load.invariant.holds x reached),
    sum_by_more (work_of x) c.args.loads.now c.loop-load.load-index (record { period = 0; jitter = 0; work = 0 }) c.loop-load-test.true,
  );
}
