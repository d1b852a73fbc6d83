use Rattle.std.proofs.Common.{◌≡◌, length}
use Rattle.hk_table.specs.Knows.{keeper}
use Rattle.hk_table.specs.Seats.{the_keeper}
use Rattle.hk_table.specs.Passes.{kept}
use Rattle.hk_table.specs.Taken.{TakenIn}
use Rattle.hk_table.proofs.finish.close.Given as goal

abbrev pub invariant-loop-pass : goal.invariant-loop-pass
invariant-loop-pass l =
    (l.seat.table_id ≡ l.heap.table.shared.table_id)
    × (l.seat.me.0.knows ≡ keeper l.heap.geometry (the_keeper l.seat.me.0.knows))
    × TakenIn (kept l.fn.keeper) l.fn.passes.items l.left.items (the_keeper l.seat.me.0.knows)

abbrev pub decreases-loop-pass : goal.decreases-loop-pass
decreases-loop-pass l = length l.left.items
