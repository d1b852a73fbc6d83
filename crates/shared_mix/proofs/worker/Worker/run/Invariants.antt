use Rattle.std.proofs.Common.{◌<◌}
use Rattle.hk_table.specs.Passes.{IsPassOf}
use Rattle.shared_mix.proofs.worker.Worker.run.Given as goal

abbrev pub invariant-loop : goal.invariant-loop
invariant-loop g l = IsPassOf l.heap l.self.pass × (l.self.home < 8)
