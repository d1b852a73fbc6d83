use Rattle.std.proofs.Common.{ℕ, ◌+◌, ◌*◌, ◌^◌, ◌≤◌, take}
use Rattle.hk_rta.specs.Ahead.{Holds}
use Rattle.hk_rta.specs.Demand.{work_in}
use Rattle.hk_rta.proofs.ahead.need_of_loads.Given as goal

abbrev pub invariant-loop-load : goal.invariant-loop-load
invariant-loop-load l = record {
  share : l.need.share ≤ l.load-index * 2 ^ 32;
  holds : (x : ℕ) → l.window ≤ x → Holds l.need x (l.base + work_in (take l.load-index l.loads) x);
}
