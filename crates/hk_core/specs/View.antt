-- What the words of a row say, as columns: functions from a number, a seat, an entry or a place to what stands there.
-- A column is 0 where the row has no such word. A step changes few columns, each at one index, and a fact that reads
-- none of these is the same fact before and after it.
use Rattle.std.specs.Prelude.{ℕ, ◌+◌, ◌*◌, nat_lt, nat_le, Bool, ◌&&◌, List, slice_index, Option, option_map, unwrap_or, None, Some, if◌then◌else◌}
use Rattle.hk_words.specs.declared.geometry.Geometry.{Geometry}
use Rattle.hk_words.specs.Geometry.{tasks, numbers, list_length, space_words}
use Rattle.hk_words.specs.Layout as layout
use Rattle.hk_words.specs.Row.{Slot, W0, W1, Header, Mark, Frame, Register, Entry, Space, word_of}
use Rattle.hk_model.specs.Heap as heap
use Rattle.hk_model.specs.History.{History, number_of, bearer, after}
use Rattle.hk_core.specs.declared.flight.Flight.{Flight}
use Rattle.hk_core.specs.State.{State, flight_of}

-- The words of a row.

-- the packed words
pub record Raw : Type 0 where
  pub w0 : ℕ
  pub w1 : ℕ
  pub header : ℕ → ℕ
  pub mark : ℕ → ℕ
  pub frame : ℕ → ℕ
  pub register : ℕ → ℕ → ℕ
  pub entry : ℕ → ℕ → ℕ
  pub cell : ℕ → ℕ

-- the word of a slot, and 0 where a test says that the row has no such slot
unfoldable pub word_if : Geometry → List ℕ → Bool → Slot → ℕ
word_if g row test slot = if test then word_of g row slot else 0

-- the packed words of a row
unfoldable pub raw : Geometry → List ℕ → Raw
raw g row = record {
  w0 = word_of g row W0;
  w1 = word_of g row W1;
  header = λ n. word_if g row (nat_lt n (numbers g)) (Header n);
  mark = λ n. word_if g row (nat_lt n (numbers g)) (Mark n);
  frame = λ s. word_if g row (nat_lt s (tasks g)) (Frame s);
  register = λ s r. word_if g row (nat_lt s (tasks g) && nat_lt r g.registers) (Register s r);
  entry = λ l j. word_if g row (nat_lt l 2 && nat_lt j (list_length g)) (Entry l j);
  cell = λ p. word_if g row (nat_lt 0 p && nat_le p (2 * space_words g)) (Space p);
}

-- what the words say: of W0 the words used, the objects made and the cycle; the words reserved; of each number the
-- accessors, the place and the version of its header, and its mark; of each frame the accessors, the cycle in which it
-- was last blackened and the version; each register, each entry of the two lists, and the word at each place
pub record Words : Type 0 where
  pub used : ℕ
  pub objects : ℕ
  pub cycle : ℕ
  pub reserved : ℕ
  pub accessors : ℕ → ℕ
  pub place : ℕ → ℕ
  pub version : ℕ → ℕ
  pub mark : ℕ → ℕ
  pub frame_accessors : ℕ → ℕ
  pub frame_cycle : ℕ → ℕ
  pub frame_version : ℕ → ℕ
  pub register : ℕ → ℕ → ℕ
  pub entry : ℕ → ℕ → ℕ
  pub cell : ℕ → ℕ

unfoldable pub decoded : Raw → Words
decoded r = record {
  used = layout.w0_words r.w0;
  objects = layout.w0_objects r.w0;
  cycle = layout.w0_cycle r.w0;
  reserved = r.w1;
  accessors = λ n. layout.header_accessors (r.header n);
  place = λ n. layout.header_place (r.header n);
  version = λ n. layout.header_version (r.header n);
  mark = r.mark;
  frame_accessors = λ s. layout.frame_accessors (r.frame s);
  frame_cycle = λ s. layout.frame_cycle (r.frame s);
  frame_version = λ s. layout.frame_version (r.frame s);
  register = r.register;
  entry = r.entry;
  cell = r.cell;
}

unfoldable pub words_of : Geometry → List ℕ → Words
words_of g row = decoded (raw g row)

-- The plain heap that a history leads to.

-- what only a birth changes: the last birth of each number, and of each birth its number and its shape
pub record Names : Type 0 where
  pub bearer : ℕ → Option ℕ
  pub number : ℕ → ℕ
  pub refs : ℕ → ℕ
  pub nums : ℕ → ℕ

-- what is in the registers and cells of the plain heap: null or a birth, and numbers
pub record Contents : Type 0 where
  pub register : ℕ → ℕ → Option ℕ
  pub link : ℕ → ℕ → Option ℕ
  pub value : ℕ → ℕ → ℕ

unfoldable pub names_of : Geometry → History → Names
names_of g history = record {
  bearer = bearer history;
  number = number_of history;
  refs = heap.refs (after (heap.opening_of g) history);
  nums = heap.nums (after (heap.opening_of g) history);
}

unfoldable pub contents_of : Geometry → History → Contents
contents_of g history = record {
  register = heap.register (after (heap.opening_of g) history);
  link = heap.link (after (heap.opening_of g) history);
  value = heap.value (after (heap.opening_of g) history);
}

-- the reference by which null or a birth is shown: that of the number of the birth, with its shape
unfoldable pub shown : Names → Option ℕ → ℕ
shown names None = 0
shown names (Some birth) = layout.pack_reference (names.number birth) (names.refs birth) (names.nums birth)

-- of a number, the fields of the object that bears it, its words, and the reference by which it is shown
unfoldable pub refs_at : Names → ℕ → ℕ
refs_at names n = unwrap_or (option_map names.refs (names.bearer n)) 0

unfoldable pub nums_at : Names → ℕ → ℕ
nums_at names n = unwrap_or (option_map names.nums (names.bearer n)) 0

unfoldable pub size_at : Names → ℕ → ℕ
size_at names n = 1 + refs_at names n + nums_at names n

unfoldable pub reference_at : Names → ℕ → ℕ
reference_at names n = layout.pack_reference n (refs_at names n) (nums_at names n)

-- The flights.

-- the flight and the begun calls of each seat
unfoldable pub flight_at : State → ℕ → Flight
flight_at c seat = flight_of c.flights seat

unfoldable pub begun_at : State → ℕ → ℕ
begun_at c seat = slice_index c.begun seat
