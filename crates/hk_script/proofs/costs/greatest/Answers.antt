use Rattle.std.proofs.Common.{sym, subst, arith}
use Rattle.hk_script.specs.Limits.{widest}
use Rattle.hk_script.specs.Blocks.{IsScript}
use Rattle.hk_script.specs.Cost.{weight_of}
use Rattle.hk_script.specs.Sums.{seen}
use Rattle.hk_script.proofs.Totals.{room_is, step_is}
use Rattle.hk_script.proofs.costs.greatest.Goals as goal

pub put_in_front-requires-clause-room : goal.put_in_front-requires-clause-room
put_in_front-requires-clause-room c =
    let all = c.statements-statements.ensures in
    let script = subst (IsScript widest) (sym all.statements) all.script in
    room_is (weight_of c.args.measure) c.statements-statements.result.now c.loop-place.place c.index-statements-place.result (seen c.loop-place.sums) script (omega arith) (omega arith) c.index-statements-place.is c.loop-place.invariant.1

pub loop-place-preserved : goal.loop-place-preserved
loop-place-preserved c =
    let all = c.statements-statements.ensures in
    let script = subst (IsScript widest) (sym all.statements) all.script in
    (omega arith, step_is (weight_of c.args.measure) c.statements-statements.result.now c.loop-place.place c.index-statements-place.result (seen c.loop-place.sums) script (omega arith) (omega arith) c.index-statements-place.is c.loop-place.invariant.1 c.weight.result (seen c.put_in_front.new.self) c.weight.ensures.value c.put_in_front.ensures)
