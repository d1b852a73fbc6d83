-- The row after the places of a New, event by event.
use Rattle.std.specs.Prelude.{ℕ, ◌+◌, ◌%◌, ◌<◌, List}
use Rattle.hk_words.specs.declared.geometry.Geometry.{Geometry}
use Rattle.hk_words.specs.declared.shape.Shape.{Shape}
use Rattle.hk_words.specs.Geometry.{numbers, list_length}
use Rattle.hk_words.specs.Shape.{size}
use Rattle.hk_words.specs.Layout.{pack_reference, pack_header, w0_words, w0_objects, w0_cycle, entering, leaving, raise_by}
use Rattle.hk_words.specs.Row.{w0_at, header_at, frame_at, register_at, entry_at, place_at}
use Rattle.hk_core.specs.declared.event.Event.TheVariants.{Load, Write, Add, Sub}
use Rattle.hk_core.specs.Event.{CanFire, fired, old_of}

-- W0 is loaded
unfoldable pub asked_row : Geometry → List ℕ → List ℕ
asked_row g row = fired row (Load (w0_at g))

unfoldable pub asked_word : Geometry → List ℕ → ℕ
asked_word g row = old_of row (Load (w0_at g))

-- the frame is entered, and W0 is raised by an object of the shape
unfoldable pub opened_row : Geometry → List ℕ → (seat : ℕ) → List ℕ
opened_row g row seat = fired row (Add (frame_at g seat) entering)

unfoldable pub raised_row : Geometry → List ℕ → (seat : ℕ) → Shape → List ℕ
raised_row g row seat shape = fired (opened_row g row seat) (Add (w0_at g) (raise_by (size shape)))

unfoldable pub raised_word : Geometry → List ℕ → (seat : ℕ) → Shape → ℕ
raised_word g row seat shape = old_of (opened_row g row seat) (Add (w0_at g) (raise_by (size shape)))

pub record RaiseFits (g : Geometry) (row : List ℕ) (seat : ℕ) (shape : Shape) : Type 0 where
  pub frame : CanFire row (Add (frame_at g seat) entering)
  pub raise : CanFire (opened_row g row seat) (Add (w0_at g) (raise_by (size shape)))

-- the frame is left
unfoldable pub shut_row : Geometry → List ℕ → (seat : ℕ) → List ℕ
shut_row g row seat = fired row (Sub (frame_at g seat) leaving)

-- the entry that the raise of W0 gave is loaded, the header is written and the register is written
abbrev pub side : ℕ → ℕ
side word = w0_cycle word % 2

unfoldable pub given_row : Geometry → List ℕ → (word : ℕ) → List ℕ
given_row g row word = fired row (Load (entry_at g (side word) (w0_objects word)))

unfoldable pub given_number : Geometry → List ℕ → (word : ℕ) → ℕ
given_number g row word = old_of row (Load (entry_at g (side word) (w0_objects word)))

abbrev pub header_word : Geometry → (word : ℕ) → ℕ
header_word g word = pack_header 0 (place_at g (side word) (g.live + w0_words word)) 0

unfoldable pub headed_row : Geometry → List ℕ → (word : ℕ) → List ℕ
headed_row g row word = fired (given_row g row word) (Write (header_at g (given_number g row word)) (header_word g word))

unfoldable pub made_row : Geometry → List ℕ → (seat dest : ℕ) → Shape → (word : ℕ) → List ℕ
made_row g row seat dest shape word =
    fired (headed_row g row word) (Write (register_at g seat dest) (pack_reference (given_number g row word) shape.refs shape.nums))

pub record MadeFits (g : Geometry) (row : List ℕ) (seat dest : ℕ) (shape : Shape) (word : ℕ) : Type 0 where
  pub entry : w0_objects word < list_length g
  pub words : w0_words word < g.alloc
  pub number : given_number g row word < numbers g
  pub loads : CanFire row (Load (entry_at g (side word) (w0_objects word)))
  pub heads : CanFire (given_row g row word) (Write (header_at g (given_number g row word)) (header_word g word))
  pub writes : CanFire (headed_row g row word) (Write (register_at g seat dest) (pack_reference (given_number g row word) shape.refs shape.nums))
