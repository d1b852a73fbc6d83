-- A number that is nowhere in use.
use Rattle.std.specs.Prelude.{◌≡◌, ◌≢◌, ℕ, ◌<◌, ◌≤◌, true}
use Rattle.hk_words.specs.Geometry.{tasks}
use Rattle.hk_words.specs.Layout.{reference_number}
use Rattle.hk_model.specs.Heap.{opening_of}
use Rattle.hk_model.specs.History.{History, after, number_of}
use Rattle.hk_core.specs.State.{State, flight_of}
use Rattle.hk_core.specs.Begin.{register_word}
use Rattle.hk_core.specs.Flights.{has_item, has_number}
use Rattle.hk_core.specs.Reach.{Reached}

-- a number that a seat is given is in use nowhere else in a state after a history
pub record IsFresh (c : State) (history : History) (seat n : ℕ) : Type 0 where
  -- no register word names it
  pub registers : (s r : ℕ) → s < tasks c.geometry → r < c.geometry.registers → register_word c s r ≢ 0 → reference_number (register_word c s r) ≢ n
  -- no call in flight goes through its object, nor has a reference to it that it has read, stores or moves
  pub entered : (s : ℕ) → s < tasks c.geometry → 1 ≤ (flight_of c.flights s).place → (flight_of c.flights s).entered ≢ 0
      → reference_number (flight_of c.flights s).entered ≢ n
  pub items : (s : ℕ) → s < tasks c.geometry → has_item (flight_of c.flights s) ≡ true → (flight_of c.flights s).item ≢ 0
      → reference_number (flight_of c.flights s).item ≢ n
  -- no other New in flight holds it
  pub news : (s : ℕ) → s < tasks c.geometry → s ≢ seat → has_number (flight_of c.flights s) ≡ true → (flight_of c.flights s).number ≢ n
  -- no birth of the plain heap that can be reached bears it
  pub reached : (birth : ℕ) → Reached c.geometry (after (opening_of c.geometry) history) birth → number_of history birth ≢ n
