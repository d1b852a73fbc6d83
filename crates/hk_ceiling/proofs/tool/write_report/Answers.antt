-- The analysis, and the text of the run behind it.
use Rattle.std.proofs.Common.{ℕ, List, ◌++◌, subst}
use Rattle.std.specs.Io.KnownBytes.{Appends}
use Rattle.std.proofs.lemmas.Result.{err_from_is_err_and, on_err_weaker}
use Rattle.hk_io.specs.Bytes.{AppendsPrefix}
use Rattle.hk_io.proofs.BytesLemmas.{AppendsFront-behind, AppendsPrefix-append, AppendsPrefix-rest}
use Rattle.hk_top.specs.Report.{analysis}
use Rattle.hk_top.proofs.ToolLemmas.{analysis_by}
use Rattle.hk_ceiling.proofs.RunLemmas.{some_run}
use Rattle.hk_ceiling.proofs.tool.write_report.Goals as goal

pub returns-in_err-write_analysis-clause-prefix : goal.returns-in_err-write_analysis-clause-prefix
returns-in_err-write_analysis-clause-prefix g c =
    let k = c.checked.result.now in
    let by = c.args.session.now in
    let responses = c.args.responses.now in
    let n = c.checked.ensures.numbers in
    let same = analysis_by k.sheet by.sheet k.work by.work k.attempt by.attempt k.busy by.busy k.debt by.debt responses c.checked.ensures.sheet n.0 n.1 n.2 n.3 in
    let text = analysis by.sheet by.work by.attempt by.busy by.debt responses in
    let part = subst (λ (x : List ℕ). AppendsPrefix (g.K.Sink.taken c.args.sink.now) (g.K.Sink.taken c.write_analysis.new.sink) x) same c.in_err-write_analysis.ensures.prefix in
    let run = some_run by.geometry by.pick by.sheet in
    let p = err_from_is_err_and c.from_residual.result c.from_residual.ensures.1 in
    rw p.1 (run.0, run.1, run.2, AppendsPrefix-append _ _ text run.1 part)

pub returns-clause-prefix : goal.returns-clause-prefix
returns-clause-prefix g c =
    let k = c.checked.result.now in
    let by = c.args.session.now in
    let responses = c.args.responses.now in
    let n = c.checked.ensures.numbers in
    let same = analysis_by k.sheet by.sheet k.work by.work k.attempt by.attempt k.busy by.busy k.debt by.debt responses c.checked.ensures.sheet n.0 n.1 n.2 n.3 in
    let text = analysis by.sheet by.work by.attempt by.busy by.debt responses in
    let whole = subst (λ (x : List ℕ). Appends (g.K.Sink.taken c.args.sink.now) (g.K.Sink.taken c.write_analysis.new.sink) x) same c.in_ok-write_analysis.ensures.ok in
    on_err_weaker c.write_run.result
    (λ x. (x.0, x.1, x.2, AppendsPrefix-rest _ _ _ (text ++ x.1) x.1 (AppendsFront-behind _ _ text x.1 whole) x.3))
    c.write_run.ensures.prefix
