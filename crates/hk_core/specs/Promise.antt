-- What a lawful state promises, as a law over the definitions alone.
use Rattle.hk_model.specs.History.{History}
use Rattle.hk_core.specs.State.{State}
use Rattle.hk_core.specs.Lawful.{Lawful}
use Rattle.hk_core.specs.Stands.{Promises}

-- a state that is lawful for a history promises for it all that Promises says, of what can be reached
abbrev pub LawfulKeepsPromises : Type 0
LawfulKeepsPromises = (c : State) (history : History) → Lawful c history → Promises c history
