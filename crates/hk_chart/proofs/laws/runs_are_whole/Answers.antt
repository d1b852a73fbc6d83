use Rattle.hk_chart.proofs.WholeRuns as law
use Rattle.hk_chart.proofs.laws.runs_are_whole.Goals as goal

pub returns : goal.returns
returns c = law.runs_are_whole
