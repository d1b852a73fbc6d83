-- Want of memory, or the line of the refusal.
use Rattle.hk_front.proofs.EndLemmas.{sheet_refused}
use Rattle.hk_front.proofs.ends.refuse_sheet.Goals as goal

pub returns-in_default-clause-ends : goal.returns-in_default-clause-ends
returns-in_default-clause-ends g c = λ bytes short answers.
    sheet_refused _ _ _ _ bytes c.args.error.now c.put_sheet_error.result c.ended.result short answers c.in_default.not-Memory c.put_sheet_error.ensures c.ended.ensures
