-- The largest so far.
use Rattle.std.proofs.Common.{◌≡◌, take}
use Rattle.hk_script.specs.Cost.{largest_of}
use Rattle.hk_script.proofs.costs.largest.Given as goal

abbrev pub invariant-loop-statement : goal.invariant-loop-statement
invariant-loop-statement l = l.largest ≡ largest_of (take l.statement-index l.statement-items)
