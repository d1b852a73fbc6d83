-- What the bytes are is what is answered.
use Rattle.std.proofs.Common.{sym, subst}
use Rattle.hk_front.specs.Input.{IsSheetOf}
use Rattle.hk_front.proofs.EndLemmas.{ends_as, ends_unread}
use Rattle.hk_front.proofs.InputLemmas.{read_sheet}
use Rattle.hk_sheet.specs.declared.sheet.Sheet.{Sheet}
use Rattle.hk_edf.specs.Refusals.{MeetsDemand}
use Rattle.hk_edf.specs.Tool.{IsReport, BytesCallFor}
use Rattle.hk_edf.proofs.ToolLemmas.{answer_calls}
use Rattle.hk_edf.proofs.tool.answer.Goals as goal

pub returns-in-Err-clause-ends : goal.returns-in-Err-clause-ends
returns-in-Err-clause-ends g c =
    let bytes = c.args.bytes.now in
    ends_unread (BytesCallFor bytes) bytes _ _ _ _ c.refuse_sheet.result (λ t unread. unread) (c.refuse_sheet.ensures.ends bytes c.requires c.in-Err.ensures.answer)

pub returns-in-Ok-admit_edf-clause-ends : goal.returns-in-Ok-admit_edf-clause-ends
returns-in-Ok-admit_edf-clause-ends g c =
    let bytes = c.args.bytes.now in
    let checked = c.in-Ok-admit_edf.checked in
    let same = c.in-Ok-admit_edf.ensures.0 in
    let is = subst (IsSheetOf bytes) (sym same) (read_sheet bytes c.in-Ok.sheet c.requires c.in-Ok.ensures.answer) in
    let meets = subst (λ (s : Sheet). MeetsDemand s checked.busy) (sym same) c.in-Ok-admit_edf.ensures.1 in
    ends_as (IsReport checked) _ _ _ _ (BytesCallFor bytes) c.run_checked.result (answer_calls bytes checked is meets) c.run_checked.ensures.ends

pub returns-in-Err-admit_edf-clause-ends : goal.returns-in-Err-admit_edf-clause-ends
returns-in-Err-admit_edf-clause-ends g c =
    let bytes = c.args.bytes.now in
    c.refuse_admission.ensures.ends bytes c.in-Ok.sheet (read_sheet bytes c.in-Ok.sheet c.requires c.in-Ok.ensures.answer) c.in-Err-admit_edf.ensures
