use Rattle.std.proofs.Common.{◌<◌}
use Rattle.hk_table.specs.Passes.{IsPassOf}
use Rattle.shared_mix.proofs.worker.Worker.prepare.Given as goal

abbrev pub invariant-loop-field : goal.invariant-loop-field
invariant-loop-field g l = IsPassOf l.heap l.self.pass × (l.self.home < 8)
