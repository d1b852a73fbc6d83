use Rattle.std.proofs.Common.{sym, ◌∙◌, subst}
use Rattle.std.proofs.lemmas.Result.{err_from_is_err_and}
use Rattle.hk_script.specs.Texts.{Refuses}
use Rattle.hk_script.specs.Progress.{progress_of}
use Rattle.hk_script.proofs.Texts.{end_found, goes_on, stops, last_line}
use Rattle.hk_script.proofs.parsing.read_lines.Goals as goal

pub returns-in_err-read_line : goal.returns-in_err-read_line
returns-in_err-read_line c =
    let p = err_from_is_err_and c.from_residual.result c.from_residual.ensures.1 in
    let end = end_found c.loop-end.rest.now c.in-Some.end c.in-Some.ensures.0 c.in-Some.ensures.1 in
    rw (p.1, p.2) (subst (Refuses c.in_err-read_line.field-0.0) c.loop-end.invariant
    (stops c.args.limits c.loop-end.line c.in-Some.end (progress_of c.loop-end.reading) c.loop-end.rest.now c.cut.result.0.now c.in_err-read_line.field-0.0 end c.in-Some.ensures.0.high c.cut.ensures.before c.in_err-read_line.ensures))

pub loop-end-preserved : goal.loop-end-preserved
loop-end-preserved c =
    let end = end_found c.loop-end.rest.now c.in-Some.end c.in-Some.ensures.0 c.in-Some.ensures.1 in
    let on = goes_on c.args.limits c.loop-end.line c.in-Some.end (progress_of c.loop-end.reading) (progress_of c.read_line.new.reading) c.loop-end.rest.now c.cut.result.0.now c.cut.result.1.now end c.in-Some.ensures.0.high c.cut.ensures.before c.cut.ensures.after c.in_ok-read_line.ensures in
    rw c.saturating_add-line.ensures (sym on ∙ c.loop-end.invariant)

pub returns-in_err-read_line-2 : goal.returns-in_err-read_line-2
returns-in_err-read_line-2 c =
    let p = err_from_is_err_and c.from_residual-in_err-read_line-2.result c.from_residual-in_err-read_line-2.ensures.1 in
    let last = last_line c.args.limits c.loop-end.line (progress_of c.loop-end.reading) c.loop-end.rest.now c.in_default.ensures in
    rw (p.1, p.2) (subst (Refuses c.in_err-read_line-2.field-0.0) (sym last ∙ c.loop-end.invariant) c.in_err-read_line-2.ensures)

pub returns : goal.returns
returns c =
    let last = last_line c.args.limits c.loop-end.line (progress_of c.loop-end.reading) c.loop-end.rest.now c.in_default.ensures in
    sym c.loop-end.invariant ∙ last ∙ c.in_ok-read_line-2.ensures
