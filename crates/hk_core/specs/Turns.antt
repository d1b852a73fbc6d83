-- How many steps a call takes, whatever comes between them.
use Rattle.std.specs.Prelude.{◌≡◌, ℕ, ◌+◌, ◌==◌, List, [], ◌∷◌, if◌then◌else◌}
use Rattle.hk_core.specs.declared.flight.Flight.{Flight}
use Rattle.hk_core.specs.Run.{Action, begin, step, collect}

-- how many steps of a seat an action is, and how many of them a list of actions has
unfoldable pub step_count : ℕ → Action → ℕ
step_count seat (begin other call) = 0
step_count seat (step other) = if other == seat then 1 else 0
step_count seat collect = 0

unfoldable pub steps_of : ℕ → List Action → ℕ
steps_of seat [] = 0
steps_of seat (action ∷ actions) = step_count seat action + steps_of seat actions

-- the same call stands so many places later
pub record StandsLater (before after : Flight) (steps : ℕ) : Type 0 where
  pub place : after.place ≡ before.place + steps
  pub call : after.call ≡ before.call
