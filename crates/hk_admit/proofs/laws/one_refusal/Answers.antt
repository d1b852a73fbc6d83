use Rattle.hk_admit.proofs.Unique.{one_heap_refusal, one_refusal}
use Rattle.hk_admit.proofs.laws.one_refusal.Goals as goal

pub returns : goal.returns
returns c = record { heap = one_heap_refusal; whole = one_refusal }
