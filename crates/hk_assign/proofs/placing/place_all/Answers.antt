use Rattle.std.proofs.Common.{refl, ap, ◌-◌, ◌++◌, List, ℕ, drop, arith}
use Rattle.hk_assign.proofs.Filled.{order_length, free_tasks, few_free, started, step, stuck_now, keeps_now, greatest_now}
use Rattle.hk_assign.proofs.placing.place_all.Goals as goal

pub loop-free-init : goal.loop-free-init
loop-free-init c = record { filled = started c.args.timings.now c.args.order.now c.requires.tasks; same = refl }

pub last_fit-requires-clause-few : goal.last_fit-requires-clause-few
last_fit-requires-clause-few c = few_free c.args.timings.now c.loop-free.order c.loop-free.free c.requires.few c.loop-free.invariant.filled

pub last_fit-requires-clause-tasks : goal.last_fit-requires-clause-tasks
last_fit-requires-clause-tasks c = free_tasks c.args.timings.now c.loop-free.order c.loop-free.free c.loop-free.invariant.filled

pub returns-in_default-clause-stuck : goal.returns-in_default-clause-stuck
returns-in_default-clause-stuck c = λ _. stuck_now c.args.timings.now c.loop-free.order c.loop-free.free c.loop-free.invariant.filled c.loop-free-test.true c.in_default.ensures

pub loop-free-preserved : goal.loop-free-preserved
loop-free-preserved c =
    let filled = step c.args.timings.now c.requires.timed c.loop-free.order c.loop-free.free c.loop-free.invariant.filled c.in-Some.place c.in-Some.ensures _ (c.loop-free.free - 1) (ap (λ (l : List ℕ). l ++ drop c.loop-free.free c.loop-free.order) c.to_the_end.ensures) (omega arith) in
    record {
      filled = filled;
      same = omega (arith, order_length _ _ filled.is_order, order_length _ _ c.loop-free.invariant.filled.is_order, c.loop-free.invariant.same);
    }

pub returns-clause-keeps : goal.returns-clause-keeps
returns-clause-keeps c = keeps_now c.args.timings.now c.loop-free.order c.loop-free.free c.loop-free.invariant.filled

pub returns-clause-greatest : goal.returns-clause-greatest
returns-clause-greatest c = greatest_now c.args.timings.now c.loop-free.order c.loop-free.free c.loop-free.invariant.filled
