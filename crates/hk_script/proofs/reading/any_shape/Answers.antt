use Rattle.hk_script.proofs.Shapes.{any_shape_is}
use Rattle.hk_script.proofs.reading.any_shape.Goals as goal

pub returns : goal.returns
returns c = any_shape_is _ _ _ c.new.ensures.none c.new.ensures.refs c.new.ensures.nums
