use Rattle.std.proofs.Common.{◌≡◌, ℕ, ◌<◌, length}
use Rattle.std.specs.Prelude.{slice_index_or}
use Rattle.hk_table.specs.Knows.{keeper}
use Rattle.hk_table.specs.Seats.{keeper_from}
use Rattle.hk_table.specs.Rule.{fresh}
use Rattle.hk_table.specs.Passes.{IsPassOf, known}
use Rattle.hk_table.specs.declared.pass.Pass.{Pass}
use Rattle.hk_table.proofs.heap.Heap.first_passes.Given as goal

abbrev pub invariant-loop-number : goal.invariant-loop-number
invariant-loop-number l =
    (l.source.table_id ≡ l.fn.source.table_id)
    × (l.source.me.1 ≡ l.fn.source.me.1)
    × (l.source.me.0.knows ≡ keeper l.self.geometry (keeper_from l.number))
    × (length l.passes.items ≡ l.number)
    × ((seat : ℕ) (d : Pass) → seat < l.number → IsPassOf l.self (slice_index_or l.passes.items seat d) × (known (slice_index_or l.passes.items seat d) ≡ fresh l.self.geometry seat))
