use Rattle.std.proofs.Common.{◌≡◌, ◌+◌}
use Rattle.hk_core.specs.declared.spot.Work.TheVariants.{Useful}
use Rattle.hk_table.specs.Passes.{IsKeeperOf, kept}
use Rattle.hk_keeper.specs.Collected.{Collected}
use Rattle.hk_keeper.proofs.turn.collect.Given as goal

abbrev pub invariant-loop : goal.invariant-loop
invariant-loop g l = IsKeeperOf l.heap l.keeper
    × Collected l.heap.geometry (kept l.fn.keeper) l.counter Useful l.counter (kept l.keeper)
    × (l.steps ≡ l.fn.steps + l.counter)
