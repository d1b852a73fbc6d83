-- What the bytes are is what is answered.
use Rattle.std.proofs.Common.{◌≡◌, List, sym, subst, ◌∙◌}
use Rattle.hk_front.specs.Input.{IsSheetOf}
use Rattle.hk_front.proofs.EndLemmas.{ends_as, ends_unread}
use Rattle.hk_front.proofs.InputLemmas.{read_sheet}
use Rattle.hk_ceiling.specs.declared.told.Section.{Section}
use Rattle.hk_ceiling.specs.Admission.{IsCeilRefusal}
use Rattle.hk_ceiling.specs.Tool.{IsReport, BytesCallFor}
use Rattle.hk_ceiling.proofs.RunLemmas.{report_calls}
use Rattle.hk_ceiling.proofs.tool.answer.Goals as goal

pub returns-in-Err-clause-ends : goal.returns-in-Err-clause-ends
returns-in-Err-clause-ends g c =
    let bytes = c.args.bytes.now in
    ends_unread (BytesCallFor c.args.sections.now bytes) bytes _ _ _ _ c.refuse_sheet.result (λ t unread. unread)
    (c.refuse_sheet.ensures.ends bytes c.requires.short c.in-Err.ensures.answer)

pub returns-in-Err-admit_ceiling-clause-ends : goal.returns-in-Err-admit_ceiling-clause-ends
returns-in-Err-admit_ceiling-clause-ends g c =
    let bytes = c.args.bytes.now in
    let same : c.deref.result.now ≡ c.args.sections.now = c.deref.ensures.value ∙ c.sections.view_is in
    let refusal = subst (λ (told : List Section). IsCeilRefusal c.in-Ok.sheet told c.in-Err-admit_ceiling.refused) same c.in-Err-admit_ceiling.ensures in
    c.refuse_admission.ensures.ends c.args.sections.now bytes c.in-Ok.sheet (read_sheet bytes c.in-Ok.sheet c.requires.short c.in-Ok.ensures.answer) refusal

pub returns-in-Ok-admit_ceiling-clause-ends : goal.returns-in-Ok-admit_ceiling-clause-ends
returns-in-Ok-admit_ceiling-clause-ends g c =
    let bytes = c.args.bytes.now in
    let held = c.in-Ok-admit_ceiling.held in
    let same : c.deref.result.now ≡ c.args.sections.now = c.deref.ensures.value ∙ c.sections.view_is in
    let is = subst (IsSheetOf bytes) (sym c.in-Ok-admit_ceiling.ensures.0) (read_sheet bytes c.in-Ok.sheet c.requires.short c.in-Ok.ensures.answer) in
    ends_as (IsReport held) _ _ _ _ (BytesCallFor c.args.sections.now bytes) c.run_held.result (report_calls c.args.sections.now bytes held (c.in-Ok-admit_ceiling.ensures.1 ∙ same) is) c.run_held.ensures.ends
