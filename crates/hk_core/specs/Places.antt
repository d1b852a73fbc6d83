-- How a seat goes along the places of its call's row.
use Rattle.std.specs.Prelude.{◌≡◌, ◌≢◌, ℕ, ◌+◌}
use Rattle.hk_words.specs.declared.call.Call.TheVariants.{Get, Put, Load, Store, Move, Clear, New}
use Rattle.hk_words.specs.declared.shape.Shape.{Shape}
use Rattle.hk_core.specs.declared.flight.Flight.{Flight}
use Rattle.hk_core.specs.declared.outcome.Step.{Step}
use Rattle.hk_core.specs.declared.outcome.Step.TheVariants.{Going, Ended}
use Rattle.hk_core.specs.State.{State, flight_of}
use Rattle.hk_words.specs.Bounds.{places_of}
use Rattle.hk_core.specs.Step.{outcome_at}

-- the same call stands at its next place and goes through the same object, and the step answers that it has places left
pub record GoesOn (before after : Flight) (answer : Step) : Type 0 where
  pub place : after.place ≡ before.place + 1
  pub call : after.call ≡ before.call
  pub entered : after.entered ≡ before.entered
  pub answers : answer ≡ Going

-- the seat is idle, and the step answers how the call ended
pub record Ends (before after : Flight) (answer : Step) : Type 0 where
  pub place : after.place ≡ 0
  pub answers : answer ≡ Ended (outcome_at before before.call)

-- the flights of all other seats are the same in two states
abbrev pub KeepsOthers : (before after : State) → (seat : ℕ) → Type 0
KeepsOthers before after seat = (other : ℕ) → other ≢ seat → flight_of after.flights other ≡ flight_of before.flights other

-- the places of each call's row, by number
pub record RowLengths : Type 0 where
  pub get : (reg field : ℕ) → places_of (Get reg field) ≡ 3
  pub put : (reg field value : ℕ) → places_of (Put reg field value) ≡ 3
  pub load : (dest reg field : ℕ) → places_of (Load dest reg field) ≡ 10
  pub store : (reg field from : ℕ) → places_of (Store reg field from) ≡ 7
  pub move : (dest from : ℕ) → places_of (Move dest from) ≡ 3
  pub clear : (dest : ℕ) → places_of (Clear dest) ≡ 1
  pub new : (dest : ℕ) (shape : Shape) → places_of (New dest shape) ≡ 7
