use Rattle.hk_replay.proofs.Shapes.{any_shape_of_is}
use Rattle.hk_replay.proofs.reading.any_shape.Goals as goal

pub returns : goal.returns
returns c = any_shape_of_is _ _ _ c.new.ensures.none c.new.ensures.refs c.new.ensures.nums
