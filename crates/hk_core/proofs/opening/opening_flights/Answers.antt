use Rattle.std.proofs.Common.{arith}
use Rattle.std.proofs.lemmas.List.FromFn.{map-range_with_len_more}
use Rattle.hk_core.specs.State.{idle}
use Rattle.hk_core.proofs.opening.opening_flights.Goals as goal

pub loop-seat-preserved : goal.loop-seat-preserved
loop-seat-preserved c =
    let e = map-range_with_len_more idle 0 c.loop-seat.seat c.loop-seat.seat (omega arith) in
    cc (e, c.in_ok-push.ensures.items)
