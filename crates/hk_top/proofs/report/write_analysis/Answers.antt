-- What waits goes out.
use Rattle.std.proofs.lemmas.Result.{on_err_weaker}
use Rattle.hk_io.proofs.BytesLemmas.{AppendsPrefix-rest}
use Rattle.hk_top.specs.Report.{analysis}
use Rattle.hk_top.proofs.Written.{front_alone}
use Rattle.hk_top.proofs.report.write_analysis.Goals as goal

pub returns-clause-prefix : goal.returns-clause-prefix
returns-clause-prefix g c =
    let k = c.args.checked.now in
    let text = analysis k.sheet k.work k.attempt k.busy k.debt c.args.responses.now in
    let whole = front_alone _ _ c.new-gather.result text _ c.new-gather.ensures c.in_ok-add_analysis.ensures.ok in
    on_err_weaker c.flush.result (AppendsPrefix-rest _ _ _ text c.add_analysis.new.gather whole) c.flush.ensures.prefix
