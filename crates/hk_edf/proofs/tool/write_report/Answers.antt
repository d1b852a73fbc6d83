-- The analysis, and the text of the run.
use Rattle.std.proofs.Common.{subst}
use Rattle.std.proofs.lemmas.Result.{err_from_is_err_and, on_err_weaker}
use Rattle.std.specs.Io.KnownBytes.{Appends}
use Rattle.hk_io.specs.Bytes.{AppendsPrefix}
use Rattle.hk_io.proofs.BytesLemmas.{AppendsPrefix-append}
use Rattle.hk_front.proofs.WordLemmas.{prefix_after}
use Rattle.hk_edf.specs.Earliest.{earliest_row}
use Rattle.hk_edf.specs.Text.{edf_analysis}
use Rattle.hk_edf.proofs.RunText.{some_run, analysis_same}
use Rattle.hk_edf.proofs.tool.write_report.Goals as goal

pub returns-in_err-put_analysis-clause-prefix : goal.returns-in_err-put_analysis-clause-prefix
returns-in_err-put_analysis-clause-prefix g c =
    let s = c.args.session.now in
    let run = some_run s.geometry earliest_row s.sheet in
    let same = analysis_same c.checked.result.now s.sheet s.work s.attempt s.busy s.debt c.checked.ensures.sheet c.checked.ensures.numbers in
    let part = subst (AppendsPrefix (g.K.Sink.taken c.args.sink.now) (g.K.Sink.taken c.put_analysis.new.sink)) same c.in_err-put_analysis.ensures.prefix in
    let p = err_from_is_err_and c.from_residual.result c.from_residual.ensures.1 in
    rw p.1 (run.0, run.1, run.2, AppendsPrefix-append _ _ (edf_analysis s.sheet s.work s.attempt s.busy s.debt) run.1 part)

pub returns-clause-prefix : goal.returns-clause-prefix
returns-clause-prefix g c =
    let s = c.args.session.now in
    let same = analysis_same c.checked.result.now s.sheet s.work s.attempt s.busy s.debt c.checked.ensures.sheet c.checked.ensures.numbers in
    let written = subst (Appends (g.K.Sink.taken c.args.sink.now) (g.K.Sink.taken c.put_analysis.new.sink)) same c.in_ok-put_analysis.ensures.ok in
    on_err_weaker c.write_run.result (λ h. (h.0, h.1, h.2, prefix_after _ _ _ (edf_analysis s.sheet s.work s.attempt s.busy s.debt) h.1 written h.3)) c.write_run.ensures.prefix
