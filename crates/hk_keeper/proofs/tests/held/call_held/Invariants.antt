use Rattle.std.specs.Prelude.{◌≡◌, false}
use Rattle.hk_table.specs.Knows.{pass}
use Rattle.hk_table.specs.Deeds.{Stands, is_rest, the_pass}
use Rattle.hk_keeper.proofs.tests.held.call_held.Given as goal

abbrev pub invariant-loop-number : goal.invariant-loop-number
invariant-loop-number g l =
    (l.seat.table_id ≡ l.heap.table.shared.table_id)
    × (l.seat.me.0.knows ≡ pass l.heap.geometry (the_pass l.seat.me.0.knows))
    × Stands l.heap.geometry (the_pass l.seat.me.0.knows)
    × (l.flight ≡ (the_pass l.seat.me.0.knows).flight)
    × (is_rest l.heap.geometry l.flight ≡ false)
