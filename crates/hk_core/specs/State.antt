-- The state of the heap's machine.
use Rattle.std.specs.Prelude.{◌≡◌, ℕ, ◌+◌, ◌*◌, length, nat_lt, nat_eq, false, List, map, replicate, slice_index_or, if◌then◌else◌}
use Rattle.std.specs.List.{range_with_len}
use Rattle.hk_words.specs.declared.geometry.Geometry.{Geometry}
use Rattle.hk_words.specs.declared.call.Call.TheVariants.{Clear}
use Rattle.hk_words.specs.Geometry.{tasks, list_length, row_length}
use Rattle.hk_words.specs.Layout.{pack_w0, pack_header, pack_reference}
use Rattle.hk_words.specs.Row.{Slot, W0, W1, Header, Mark, Frame, Register, Entry, Space, place_at, slot_at}
use Rattle.hk_core.specs.declared.flight.Flight.{Flight}
use Rattle.hk_core.specs.declared.spot.Spot.{Spot}
use Rattle.hk_core.specs.declared.spot.Line.TheVariants.{Rest}

-- the geometry, which nothing changes, the row of words, the flight and the begun calls of each seat, and where the
-- collector is
pub record State : Type 0 where
  pub geometry : Geometry
  pub row : List ℕ
  pub flights : List Flight
  pub begun : List ℕ
  pub spot : Spot

-- the parts of a state have the lengths of its geometry
pub record IsSized (c : State) : Type 0 where
  pub row : length c.row ≡ row_length c.geometry
  pub flights : length c.flights ≡ tasks c.geometry
  pub begun : length c.begun ≡ tasks c.geometry

-- the flight of a seat that has no call in flight
unfoldable pub idle : ℕ → Flight
idle seat = record {
  seat = seat;
  call = Clear 0;
  place = 0;
  entered = 0;
  at = 0;
  word = 0;
  item = 0;
  claimer = false;
  offset = 0;
  number = 0;
  full = false;
  raised = false;
}

-- the flight of a seat
unfoldable pub flight_of : List Flight → ℕ → Flight
flight_of flights seat = slice_index_or flights seat (idle seat)

-- The opening state: the cycle is 1, no word is used, and space 1 holds the board alone.

-- the reference of the board, which has number 0
abbrev pub board_reference : Geometry → ℕ
board_reference g = pack_reference 0 g.board.refs g.board.nums

-- the board stands at the first word of space 1, and the other numbers have no place
unfoldable pub opening_header : Geometry → ℕ → ℕ
opening_header g number = if nat_eq number 0 then pack_header 0 (place_at g 1 0) 0 else 0

-- the board is marked for cycle 1, as are the numbers of its list; those of list 0 are marked for cycle 2
unfoldable pub opening_mark : Geometry → ℕ → ℕ
opening_mark g number = if nat_lt number (list_length g + 1) then 1 else if nat_lt number (2 * list_length g + 1) then 2 else 0

-- list 1 has the numbers after the board, and list 0 those after them
unfoldable pub opening_entry : Geometry → ℕ → ℕ → ℕ
opening_entry g list entry = if nat_eq list 1 then entry + 1 else list_length g + entry + 1

-- register 0 of each task holds the board, and the others are null
unfoldable pub opening_register : Geometry → ℕ → ℕ
opening_register g reg = if nat_eq reg 0 then board_reference g else 0

-- each word of the row at the start
unfoldable pub opening_word : Geometry → Slot → ℕ
opening_word g W0 = pack_w0 0 0 1
opening_word g W1 = 0
opening_word g (Header number) = opening_header g number
opening_word g (Mark number) = opening_mark g number
opening_word g (Frame seat) = 0
opening_word g (Register seat reg) = opening_register g reg
opening_word g (Entry list entry) = opening_entry g list entry
opening_word g (Space place) = 0

unfoldable pub opening_row : Geometry → List ℕ
opening_row g = map (λ index. opening_word g (slot_at g index)) (range_with_len 0 (row_length g))

-- the collector at the start
unfoldable pub opening_spot : Spot
opening_spot = record { line = Rest; cycle = 1; scan = 0; entries = 0; first = 0; item = 0; cell = 0; offset = 0; spent = 0 }

-- the state at the start: no seat has begun a call
unfoldable pub opening : Geometry → State
opening g = record {
  geometry = g;
  row = opening_row g;
  flights = map idle (range_with_len 0 (tasks g));
  begun = replicate (tasks g) 0;
  spot = opening_spot;
}
