-- The report, by how the session ended.
use Rattle.std.proofs.Common.{Ok, ap, ◌∙◌}
use Rattle.hk_edf.proofs.RunText.{run_ends, to_end, to_live, to_fault}
use Rattle.hk_edf.proofs.tool.run_checked.Goals as goal

pub returns-in-Ok-AtEnd-clause-ends : goal.returns-in-Ok-AtEnd-clause-ends
returns-in-Ok-AtEnd-clause-ends g c =
    let s = c.in-Ok.session in
    let w = c.write_report.ensures in
    run_ends c.args.checked c.requires s.geometry s.sheet s.work s.attempt s.busy s.debt c.in-Ok.ensures.sheet c.in-Ok.ensures.numbers c.in-Ok.ensures.sizes _ _ _ _
    c.write_report.result _ w.ok w.prefix w.cause (to_end c.write_report.result (c.in-Ok-AtEnd.is ∙ ap (λ x. Ok x) c.in-Ok-AtEnd.field-0-is))

pub returns-in-Ok-Live-clause-ends : goal.returns-in-Ok-Live-clause-ends
returns-in-Ok-Live-clause-ends g c =
    let s = c.in-Ok.session in
    let w = c.write_report.ensures in
    run_ends c.args.checked c.requires s.geometry s.sheet s.work s.attempt s.busy s.debt c.in-Ok.ensures.sheet c.in-Ok.ensures.numbers c.in-Ok.ensures.sizes _ _ _ _
    c.write_report.result _ w.ok w.prefix w.cause (to_live c.write_report.result _ (c.in-Ok-Live.is ∙ ap (λ x. Ok x) c.in-Ok-Live.field-0-is))

pub returns-clause-ends : goal.returns-clause-ends
returns-clause-ends g c =
    let s = c.in-Ok.session in
    let w = c.write_report.ensures in
    run_ends c.args.checked c.requires s.geometry s.sheet s.work s.attempt s.busy s.debt c.in-Ok.ensures.sheet c.in-Ok.ensures.numbers c.in-Ok.ensures.sizes _ _ _ _
    c.write_report.result _ w.ok w.prefix w.cause (to_fault c.write_report.result _ c.in-Err-write_report.is)
