use Rattle.hk_words.proofs.sizes.one_geometry.Goals as goal
use Rattle.hk_words.proofs.OneGeometry.{one_geometry}

pub returns : goal.returns
returns c = one_geometry
