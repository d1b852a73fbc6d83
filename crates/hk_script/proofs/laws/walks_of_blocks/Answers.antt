use Rattle.hk_script.proofs.Courses.{walk_follows}
use Rattle.hk_script.proofs.laws.walks_of_blocks.Goals as goal

pub returns : goal.returns
returns c = λ limits script tree job h is. walk_follows script tree job h is
