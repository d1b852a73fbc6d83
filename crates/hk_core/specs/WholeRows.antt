-- The row after the places of a Get, a Put, a Move and a Clear, event by event.
use Rattle.std.specs.Prelude.{ℕ, ◌+◌, List}
use Rattle.hk_words.specs.declared.geometry.Geometry.{Geometry}
use Rattle.hk_words.specs.Layout.{reference_number, reference_refs, header_place, entering, leaving}
use Rattle.hk_words.specs.Row.{header_at, frame_at, register_at, space_at}
use Rattle.hk_core.specs.declared.event.Event.{Event}
use Rattle.hk_core.specs.declared.event.Event.TheVariants.{Load, Write, Add, Sub}
use Rattle.hk_core.specs.Event.{CanFire, fired, old_of}
use Rattle.hk_core.specs.Fits.{NamesNumber, IsInSpaces}

-- the object that a reference names is entered, and left
abbrev pub enters : Geometry → (reference : ℕ) → Event
enters g reference = Add (header_at g (reference_number reference)) entering

abbrev pub leaves : Geometry → (reference : ℕ) → Event
leaves g reference = Sub (header_at g (reference_number reference)) leaving

unfoldable pub inside_row : Geometry → List ℕ → (reference : ℕ) → List ℕ
inside_row g row reference = fired row (enters g reference)

-- the place of a number field of the object, as entering it tells
unfoldable pub number_place : Geometry → List ℕ → (reference field : ℕ) → ℕ
number_place g row reference field = header_place (old_of row (enters g reference)) + 1 + reference_refs reference + field

-- A Get: the object is entered, the number is read, and the object is left.
abbrev pub reads : Geometry → List ℕ → (reference field : ℕ) → Event
reads g row reference field = Load (space_at g (number_place g row reference field))

unfoldable pub read_row : Geometry → List ℕ → (reference field : ℕ) → List ℕ
read_row g row reference field = fired (inside_row g row reference) (reads g row reference field)

unfoldable pub number_read : Geometry → List ℕ → (reference field : ℕ) → ℕ
number_read g row reference field = old_of (inside_row g row reference) (reads g row reference field)

unfoldable pub get_row : Geometry → List ℕ → (reference field : ℕ) → List ℕ
get_row g row reference field = fired (read_row g row reference field) (leaves g reference)

pub record GetFits (g : Geometry) (row : List ℕ) (reference field : ℕ) : Type 0 where
  pub number : NamesNumber g reference
  pub within : IsInSpaces g (number_place g row reference field)
  pub entry : CanFire row (enters g reference)
  pub read : CanFire (inside_row g row reference) (reads g row reference field)
  pub exit : CanFire (read_row g row reference field) (leaves g reference)

-- A Put: the object is entered, the number is written, and the object is left.
abbrev pub writes : Geometry → List ℕ → (reference field value : ℕ) → Event
writes g row reference field value = Write (space_at g (number_place g row reference field)) value

unfoldable pub written_row : Geometry → List ℕ → (reference field value : ℕ) → List ℕ
written_row g row reference field value = fired (inside_row g row reference) (writes g row reference field value)

unfoldable pub put_row : Geometry → List ℕ → (reference field value : ℕ) → List ℕ
put_row g row reference field value = fired (written_row g row reference field value) (leaves g reference)

pub record PutFits (g : Geometry) (row : List ℕ) (reference field value : ℕ) : Type 0 where
  pub number : NamesNumber g reference
  pub within : IsInSpaces g (number_place g row reference field)
  pub entry : CanFire row (enters g reference)
  pub write : CanFire (inside_row g row reference) (writes g row reference field value)
  pub exit : CanFire (written_row g row reference field value) (leaves g reference)

-- A Move: the frame is entered, the register is written, and the frame is left.
unfoldable pub framed_row : Geometry → List ℕ → (seat : ℕ) → List ℕ
framed_row g row seat = fired row (Add (frame_at g seat) entering)

unfoldable pub moved_row : Geometry → List ℕ → (seat dest item : ℕ) → List ℕ
moved_row g row seat dest item = fired (framed_row g row seat) (Write (register_at g seat dest) item)

unfoldable pub move_row : Geometry → List ℕ → (seat dest item : ℕ) → List ℕ
move_row g row seat dest item = fired (moved_row g row seat dest item) (Sub (frame_at g seat) leaving)

pub record MoveFits (g : Geometry) (row : List ℕ) (seat dest item : ℕ) : Type 0 where
  pub entry : CanFire row (Add (frame_at g seat) entering)
  pub write : CanFire (framed_row g row seat) (Write (register_at g seat dest) item)
  pub exit : CanFire (moved_row g row seat dest item) (Sub (frame_at g seat) leaving)

-- A Clear: the register is written.
unfoldable pub clear_row : Geometry → List ℕ → (seat dest : ℕ) → List ℕ
clear_row g row seat dest = fired row (Write (register_at g seat dest) 0)
