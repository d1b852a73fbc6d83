-- What the bytes are is what is answered.
use Rattle.std.proofs.Common.{Some, None, sym, subst}
use Rattle.hk_front.specs.Input.{IsSheetOf}
use Rattle.hk_front.proofs.EndLemmas.{ends_as, ends_unread}
use Rattle.hk_front.proofs.InputLemmas.{read_sheet}
use Rattle.hk_top.specs.Tool.{IsAnalysis, IsReport, answer_for, BytesCallFor}
use Rattle.hk_top.proofs.ToolLemmas.{analysis_calls, report_calls}
use Rattle.hk_top.proofs.tool.answer.Goals as goal

pub returns-in-Err-clause-ends : goal.returns-in-Err-clause-ends
returns-in-Err-clause-ends g c =
    let bytes = c.args.bytes.now in
    ends_unread (BytesCallFor (answer_for c.args.form) bytes) bytes _ _ _ _ c.refuse_sheet.result (λ t unread. unread) (c.refuse_sheet.ensures.ends bytes c.requires c.in-Err.ensures.answer)

pub returns-in-Err-admit-clause-ends : goal.returns-in-Err-admit-clause-ends
returns-in-Err-admit-clause-ends g c =
    let bytes = c.args.bytes.now in
    c.refuse_admission.ensures.ends c.args.form bytes c.in-Ok.sheet (read_sheet bytes c.in-Ok.sheet c.requires c.in-Ok.ensures.answer) c.in-Err-admit.ensures

pub returns-in-Some-clause-ends : goal.returns-in-Some-clause-ends
returns-in-Some-clause-ends g c =
    let bytes = c.args.bytes.now in
    let a = c.in-Ok-admit.admitted in
    let is = subst (IsSheetOf bytes) (sym c.in-Ok-admit.ensures) (read_sheet bytes c.in-Ok.sheet c.requires c.in-Ok.ensures.answer) in
    rw c.in-Some.is (ends_as (IsReport c.in-Some.form a) _ _ _ _ (BytesCallFor (answer_for (Some c.in-Some.form)) bytes) c.run_admitted.result
    (report_calls c.in-Some.form bytes a is) c.run_admitted.ensures.ends)

pub returns-in-None-clause-ends : goal.returns-in-None-clause-ends
returns-in-None-clause-ends g c =
    let bytes = c.args.bytes.now in
    let a = c.in-Ok-admit.admitted in
    let is = subst (IsSheetOf bytes) (sym c.in-Ok-admit.ensures) (read_sheet bytes c.in-Ok.sheet c.requires c.in-Ok.ensures.answer) in
    rw c.in-None.is (ends_as (IsAnalysis a) _ _ _ _ (BytesCallFor (answer_for None) bytes) c.check_admitted.result (analysis_calls bytes a is) c.check_admitted.ensures.ends)
