-- What a step does to an object that a call is inside.
use Rattle.std.specs.Prelude.{◌≡◌, ◌≢◌, ℕ, ◌<◌, ◌==◌, Bool, true, Option, Some, None, if◌then◌else◌}
use Rattle.hk_words.specs.declared.call.Call.{Call}
use Rattle.hk_words.specs.declared.call.Call.TheVariants.{Get, Put, Load, Store, Move, Clear, New, Same, IsNull}
use Rattle.hk_core.specs.declared.flight.Flight.{Flight}
use Rattle.hk_core.specs.Step.{number_cell, reference_cell, new_place}
use Rattle.hk_core.specs.Flights.{is_making, has_header, new_size}
use Rattle.hk_words.specs.Geometry.{tasks}
use Rattle.hk_model.specs.History.{History}
use Rattle.hk_core.specs.State.{State}
use Rattle.hk_core.specs.View.{Words, words_of, names_of, flight_at, size_at}
use Rattle.hk_core.specs.Colours.{shades_of, Apart, Covers}

-- the place of the cell that a call writes at the place of its row, if it writes one there: a Put at its second place
-- and a Store at its sixth
abbrev pub cell_written_at : Flight → Call → Option ℕ
cell_written_at f (Get reg field) = None
cell_written_at f (Put reg field value) = if f.place == 2 then Some (number_cell f field) else None
cell_written_at f (Load dest reg field) = None
cell_written_at f (Store reg field from) = if f.place == 6 then Some (reference_cell f field) else None
cell_written_at f (Move dest from) = None
cell_written_at f (Clear dest) = None
cell_written_at f (New dest shape) = None
cell_written_at f (Same a b) = None
cell_written_at f (IsNull reg) = None

unfoldable pub cell_written : Flight → Option ℕ
cell_written f = cell_written_at f f.call

-- a step leaves the object of a number alone: the place in its header stays, and so does each of its words but the cell
-- that the step writes
pub record IsLeftAlone (before after : Words) (size : ℕ) (written : Option ℕ) (n : ℕ) : Type 0 where
  pub place : after.place n ≡ before.place n
  pub words : (p : ℕ) → Covers (before.place n) size p → written ≢ Some p → after.cell p ≡ before.cell p

-- the numbers that are kept in a state after a history, and the words of the object that bears a number
abbrev pub kept_in : State → History → ℕ → Bool
kept_in c history = (shades_of c.geometry (words_of c.geometry c.row) (flight_at c) c.spot.line (names_of c.geometry history)).kept

abbrev pub size_in : State → History → ℕ → ℕ
size_in c history = size_at (names_of c.geometry history)

-- the object of a number is kept, its words are apart from those of every other kept number and from those that a New in
-- flight was given, and no number to which a New in flight has given a header has its place
pub record StandsApart (c : State) (history : History) (n : ℕ) : Type 0 where
  pub is_kept : kept_in c history n ≡ true
  pub apart : (m : ℕ) → kept_in c history m ≡ true → m ≢ n
      → Apart ((words_of c.geometry c.row).place m) (size_in c history m) ((words_of c.geometry c.row).place n) (size_in c history n)
  pub news : (s : ℕ) → s < tasks c.geometry → is_making (flight_at c s) ≡ true
      → Apart ((words_of c.geometry c.row).place n) (size_in c history n) (new_place c.geometry (flight_at c s)) (new_size (flight_at c s))
  pub headers : (s : ℕ) → s < tasks c.geometry → has_header (flight_at c s) ≡ true
      → (words_of c.geometry c.row).place (flight_at c s).number ≢ (words_of c.geometry c.row).place n
