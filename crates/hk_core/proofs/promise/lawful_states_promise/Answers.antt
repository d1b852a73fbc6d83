use Rattle.hk_core.proofs.Promised.{lawful_promises}
use Rattle.hk_core.proofs.promise.lawful_states_promise.Goals as goal

pub returns : goal.returns
returns c = record { promises = lawful_promises }
