-- Want of memory, or the line of the refusal.
use Rattle.hk_edf.proofs.ToolLemmas.{admission_refused}
use Rattle.hk_edf.proofs.tool.refuse_admission.Goals as goal

pub returns-in_default-clause-ends : goal.returns-in_default-clause-ends
returns-in_default-clause-ends g c = λ bytes sheet is refusal.
    admission_refused _ _ _ _ bytes sheet c.args.refused.now c.put_edf_refused.result c.ended.result is refusal c.in_default.not-Memory c.put_edf_refused.ensures c.ended.ensures
