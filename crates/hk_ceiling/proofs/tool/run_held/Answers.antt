-- The report that was written, whole or in part, is that of the admitted sheet.
use Rattle.std.proofs.Common.{refl, sym, ap, ◌∙◌}
use Rattle.hk_io.specs.declared.Status.TheVariants as status
use Rattle.hk_front.proofs.EndLemmas.{ends_whole, ends_cut}
use Rattle.hk_top.specs.Tool.{status_of}
use Rattle.hk_ceiling.specs.Tool.{IsReport}
use Rattle.hk_ceiling.proofs.RunLemmas.{own_report}
use Rattle.hk_ceiling.proofs.tool.run_held.Goals as goal

pub returns-in-Ok-AtEnd-clause-ends : goal.returns-in-Ok-AtEnd-clause-ends
returns-in-Ok-AtEnd-clause-ends g c =
    let s = c.in-Ok.session in
    let e = c.in-Ok.ensures in
    let held = c.args.held in
    let report = own_report held s.sheet s.work s.attempt s.busy s.debt s.pick s.geometry e.sheet e.numbers.0 e.numbers.1 e.numbers.2 e.numbers.3 (e.pick ∙ c.of-pick.ensures) e.sizes in
    let ok = c.in-Ok-AtEnd.ensures.ok in
    ends_whole (IsReport held) _ _ _ _ status.Done _ (report status.Done c.in-Ok-AtEnd.field-0 ok.0 (sym (ap status_of c.in-Ok-AtEnd.field-0-is)) ok.1) tt ok.2 c.in-Ok-AtEnd.ensures.cause.kept

pub returns-in-Ok-Live-clause-ends : goal.returns-in-Ok-Live-clause-ends
returns-in-Ok-Live-clause-ends g c =
    let s = c.in-Ok.session in
    let e = c.in-Ok.ensures in
    let held = c.args.held in
    let report = own_report held s.sheet s.work s.attempt s.busy s.debt s.pick s.geometry e.sheet e.numbers.0 e.numbers.1 e.numbers.2 e.numbers.3 (e.pick ∙ c.of-pick.ensures) e.sizes in
    let ok = c.in-Ok-Live.ensures.ok in
    ends_whole (IsReport held) _ _ _ _ status.Live _ (report status.Live c.in-Ok-Live.field-0 ok.0 (sym (ap status_of c.in-Ok-Live.field-0-is)) ok.1) tt ok.2 c.in-Ok-Live.ensures.cause.kept

pub returns-clause-ends : goal.returns-clause-ends
returns-clause-ends g c =
    let s = c.in-Ok.session in
    let e = c.in-Ok.ensures in
    let held = c.args.held in
    let report = own_report held s.sheet s.work s.attempt s.busy s.debt s.pick s.geometry e.sheet e.numbers.0 e.numbers.1 e.numbers.2 e.numbers.3 (e.pick ∙ c.of-pick.ensures) e.sizes in
    let cut = c.in-Err-write_report.ensures.prefix in
    ends_cut (IsReport held) _ _ _ _ (status_of cut.0) _ (report (status_of cut.0) cut.0 cut.1 refl cut.2) cut.3 c.in-Err-write_report.ensures.cause.failed c.in-Err-write_report.ensures.cause.later
