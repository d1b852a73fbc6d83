-- The heap has the sizes of the one that is meant, so it is that one.
use Rattle.hk_replay.proofs.ToolLemmas.{made_is}
use Rattle.hk_replay.proofs.make.heap.Goals as goal

pub returns : goal.returns
returns c =
    let s = c.laid_out.ensures in
    made_is _ s.live s.alloc s.reserve s.high s.low s.refs s.nums s.registers
