-- Want of memory, or the line of the refusal.
use Rattle.hk_ceiling.proofs.RunLemmas.{admission_refused}
use Rattle.hk_ceiling.proofs.tool.refuse_admission.Goals as goal

pub returns-in_default-clause-ends : goal.returns-in_default-clause-ends
returns-in_default-clause-ends g c = λ sections bytes sheet is refusal.
    admission_refused _ _ _ _ sections bytes sheet c.args.refused.now c.put_ceil_refused.result c.ended.result is refusal c.in_default.not-Memory c.put_ceil_refused.ensures c.ended.ensures
