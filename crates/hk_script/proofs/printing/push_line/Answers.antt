use Rattle.std.proofs.Common.{arith, append_assoc}
use Rattle.hk_script.specs.declared.printing.Argument.TheVariants as argument
use Rattle.hk_script.proofs.Printed.{one_more}
use Rattle.hk_script.proofs.printing.push_line.Goals as goal

pub loop-argument-preserved : goal.loop-argument-preserved
loop-argument-preserved c =
    let e = c.in_ok-push_argument.ensures in
    let m = one_more c.args.arguments.now c.loop-argument.argument-index (argument.Variable 0) (omega arith) in
    rw (e, c.loop-argument.invariant, m) (simp append_assoc)
