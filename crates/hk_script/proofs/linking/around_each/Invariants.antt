-- What is around the statements so far, and what is left to nest.
use Rattle.std.proofs.Common.{◌≡◌, ◌++◌, [], drop, Ok}
use Rattle.hk_script.specs.Blocks.{nested}
use Rattle.hk_script.specs.Links.{arounds}
use Rattle.hk_script.proofs.linking.around_each.Given as goal

abbrev pub invariant-loop-statement : goal.invariant-loop-statement
invariant-loop-statement l = (l.place ≡ l.statement-index) × (l.all.items ++ arounds l.blocks l.place (drop l.statement-index l.statements) ≡ arounds [] 0 l.statements) × (nested l.place l.blocks (drop l.statement-index l.statements) ≡ Ok [])
