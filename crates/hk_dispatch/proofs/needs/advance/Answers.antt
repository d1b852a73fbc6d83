use Rattle.std.proofs.Common.{sym, subst, Some}
use Rattle.hk_core.specs.State.{flight_of}
use Rattle.hk_script.specs.declared.walk.Need.{Need}
use Rattle.hk_script.specs.declared.walk.Need.TheVariants as need
use Rattle.hk_dispatch.specs.InStep.{SeatInStep}
use Rattle.hk_dispatch.specs.TaskRuns.{LeavesBy}
use Rattle.hk_dispatch.proofs.Replied.{leaves_by}
use Rattle.hk_dispatch.proofs.needs.advance.Goals as goal

pub operate-requires-clause-in_step : goal.operate-requires-clause-in_step
operate-requires-clause-in_step c =
    subst (λ (n : Need). SeatInStep (flight_of c.args.heap.now.flights c.args.seat) (Some n) c.args.spent) c.in-Heap.is c.requires.in_step

pub returns-in-Heap-clause-leaves : goal.returns-in-Heap-clause-leaves
returns-in-Heap-clause-leaves c =
    let core = c.args.heap.now in
    let in_step = subst (λ (n : Need). SeatInStep (flight_of core.flights c.args.seat) (Some n) c.args.spent) c.in-Heap.is c.requires.in_step in
    subst (λ (n : Need). LeavesBy n c.operate.result) (sym c.in-Heap.is)
    (subst (LeavesBy (need.Heap c.in-Heap.call)) (sym c.operate.ensures.left) (leaves_by core c.args.seat c.requires.sized c.requires.seat (need.Heap c.in-Heap.call) c.args.spent in_step))
