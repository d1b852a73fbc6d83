use Rattle.hk_replay.specs.Tool.{judged}
use Rattle.hk_replay.proofs.tool.check.Goals as goal

pub returns : goal.returns
returns c = judged c.requires c.in_ok-verdict.verdict c.in_ok-verdict.ensures c.by.ensures c.verdict_line.ensures
