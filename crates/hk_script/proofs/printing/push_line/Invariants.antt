-- The name and the arguments so far.
use Rattle.std.proofs.Common.{◌≡◌, ◌++◌, map, take}
use Rattle.hk_script.specs.Arguments.{piece_of}
use Rattle.hk_script.specs.Printing.{spaced}
use Rattle.hk_script.proofs.printing.push_line.Given as goal

abbrev pub invariant-loop-argument : goal.invariant-loop-argument
invariant-loop-argument l = l.out.items ≡ l.fn.out.items ++ (l.name ++ spaced (map piece_of (take l.argument-index l.arguments)))
