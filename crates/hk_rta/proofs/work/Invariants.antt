use Rattle.std.proofs.Common.{◌≡◌, ◌-◌, ◌^◌, min, take}
use Rattle.hk_rta.specs.Demand.{work_in}
use Rattle.hk_rta.proofs.work.Given as goal

abbrev pub invariant-loop-load : goal.invariant-loop-load
invariant-loop-load l = l.sum ≡ min (work_in (take l.load-index l.loads) l.window) (2 ^ 64 - 1)
