use Rattle.hk_admit.proofs.Excluded.{checked_excludes, admitted_excludes}
use Rattle.hk_admit.proofs.laws.no_refusal.Goals as goal

pub returns : goal.returns
returns c = record { checked = checked_excludes; admitted = admitted_excludes }
