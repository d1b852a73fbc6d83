use Rattle.std.proofs.Common.{arith}
use Rattle.std.proofs.lemmas.List.FromFn.{map-range_with_len_more}
use Rattle.hk_core.specs.State.{opening_register}
use Rattle.hk_table.proofs.open.first_registers.Goals as goal

pub loop-reg-preserved : goal.loop-reg-preserved
loop-reg-preserved c =
    let e = map-range_with_len_more (opening_register c.args.g.now) 0 c.loop-reg.reg c.loop-reg.reg (omega arith) in
    cc (e, c.in_ok-push.ensures.items)
