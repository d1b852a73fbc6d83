use Rattle.std.proofs.Common.{◌∙◌}
use Rattle.hk_core.proofs.Places.{refused_kept}
use Rattle.hk_dispatch.proofs.operation.start.Goals as goal

pub returns-in-Err-clause-heap : goal.returns-in-Err-clause-heap
returns-in-Err-clause-heap c =
    let refused = c.in-Err.ensures.answer in
    rw refused (c.in-Err.ensures.state ∙ refused_kept c.args.heap.now c.args.seat c.args.call c.in-Err.fault refused)
