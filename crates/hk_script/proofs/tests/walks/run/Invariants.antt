-- The walk fits the script.
use Rattle.hk_script.specs.Walks.{Fits}
use Rattle.hk_script.proofs.tests.walks.run.Given as goal

abbrev pub invariant-loop : goal.invariant-loop
invariant-loop l = Fits l.script l.walk
