use Rattle.std.proofs.Common.{◌≡◌, ◌+◌, ◌≤◌, None}
use Rattle.hk_table.specs.Passes.{IsKeeperOf, kept}
use Rattle.hk_race.specs.Lives.{live_of}
use Rattle.hk_race.proofs.collector.collect_all.Given as goal

-- each flip began a cycle, and no event found too many words live
abbrev pub invariant-loop : goal.invariant-loop
invariant-loop g l = record {
  keeper : IsKeeperOf l.heap l.keeper;
  cycle : l.flips + 1 ≤ (kept l.keeper).spot.cycle;
  live : live_of l.heap.geometry (kept l.keeper).log ≡ None;
}
