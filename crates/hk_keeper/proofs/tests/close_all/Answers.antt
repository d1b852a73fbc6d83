use Rattle.std.proofs.Common.{ap, arith}
use Rattle.hk_words.specs.Geometry.{tasks}
use Rattle.hk_keeper.proofs.tests.close_all.Goals as goal

pub close-requires-clause-seats : goal.close-requires-clause-seats
close-requires-clause-seats g c = λ number below.
    let count = c.tasks-tasks.ensures in
    let same = ap tasks c.geometry.ensures in
    let end = c.loop-number-test.false in (
      number,
      (let len = c.len.ensures in omega arith),
      c.loop-number.invariant number (omega arith),
    )
