use Rattle.std.proofs.Common.{◌≡◌}
use Rattle.hk_table.specs.Passes.{IsPassOf}
use Rattle.shared_mix.proofs.history.player.Player.play.Given as goal

abbrev pub invariant-loop-count : goal.invariant-loop-count
invariant-loop-count g l = IsPassOf l.heap l.self.pass × (l.self.pass.number ≡ l.fn.self.pass.number)
