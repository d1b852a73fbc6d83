-- The row after the places of a Load and of a Store, event by event.
use Rattle.std.specs.Prelude.{◌≢◌, ℕ, ◌+◌, ◌==◌, List, false, Option}
use Rattle.hk_words.specs.declared.geometry.Geometry.{Geometry}
use Rattle.hk_words.specs.declared.call.Call.TheVariants.{Clear}
use Rattle.hk_words.specs.Layout.{header_place, entering, leaving}
use Rattle.hk_words.specs.Row.{w0_at, frame_at, register_at, space_at}
use Rattle.hk_core.specs.declared.event.Event.{Event}
use Rattle.hk_core.specs.declared.event.Event.TheVariants.{Load, Write, Add, Sub}
use Rattle.hk_core.specs.declared.flight.Flight.{Flight}
use Rattle.hk_core.specs.Event.{CanFire, CanFireIf, fired, fired_if, old_of, learnt}
use Rattle.hk_core.specs.Step.{claim, claims, reserve, link, load_w0, unless}
use Rattle.hk_core.specs.Fits.{NamesNumber, IsInSpaces}
use Rattle.hk_core.specs.WholeRows.{enters, leaves, inside_row, framed_row}

-- a flight that holds a reference and a W0, and has done nothing with them yet
abbrev pub holding : (item word : ℕ) → Flight
holding item word = record {
  seat = 0;
  call = Clear 0;
  place = 0;
  entered = 0;
  at = 0;
  word = word;
  item = item;
  claimer = false;
  offset = 0;
  number = 0;
  full = false;
  raised = false;
}

-- the flight after the claim, and after the reserve
abbrev pub after_claim : Geometry → List ℕ → (item word : ℕ) → Flight
after_claim g row item word = let f = holding item word in record f { claimer = claims f (learnt row (claim g f)) }

-- the row after the claim of what a reference names, for the cycle of a W0
unfoldable pub claimed_row : Geometry → List ℕ → (item word : ℕ) → List ℕ
claimed_row g row item word = fired_if row (claim g (holding item word))

-- the row after the reserve, which is a rest where this wasn't the first claim
unfoldable pub reserved_row : Geometry → List ℕ → (item word : ℕ) → List ℕ
reserved_row g row item word = fired_if (claimed_row g row item word) (reserve g (after_claim g row item word))

abbrev pub after_reserve : Geometry → List ℕ → (item word : ℕ) → Flight
after_reserve g row item word =
    let f = after_claim g row item word in record f { offset = learnt (claimed_row g row item word) (reserve g f) }

-- the row after the link word is written, where the place fits
unfoldable pub linked_row : Geometry → List ℕ → (item word : ℕ) → List ℕ
linked_row g row item word = fired_if (reserved_row g row item word) (link g (after_reserve g row item word))

-- these three can be done
pub record ClaimFits (g : Geometry) (row : List ℕ) (item word : ℕ) : Type 0 where
  pub number : item ≢ 0 → NamesNumber g item
  pub claims : CanFireIf row (claim g (holding item word))
  pub reserves : CanFireIf (claimed_row g row item word) (reserve g (after_claim g row item word))
  pub links : CanFireIf (reserved_row g row item word) (link g (after_reserve g row item word))

-- A Load, up to the read of the cell: its frame and the object are entered, W0 is loaded, and the cell is read.
unfoldable pub entered_row : Geometry → List ℕ → (seat reference : ℕ) → List ℕ
entered_row g row seat reference = fired (framed_row g row seat) (enters g reference)

unfoldable pub cell_of : Geometry → List ℕ → (seat reference field : ℕ) → ℕ
cell_of g row seat reference field = header_place (old_of (framed_row g row seat) (enters g reference)) + 1 + field

unfoldable pub cycle_row : Geometry → List ℕ → (seat reference : ℕ) → List ℕ
cycle_row g row seat reference = fired (entered_row g row seat reference) (Load (w0_at g))

unfoldable pub cycle_read : Geometry → List ℕ → (seat reference : ℕ) → ℕ
cycle_read g row seat reference = old_of (entered_row g row seat reference) (Load (w0_at g))

unfoldable pub item_row : Geometry → List ℕ → (seat reference field : ℕ) → List ℕ
item_row g row seat reference field = fired (cycle_row g row seat reference) (Load (space_at g (cell_of g row seat reference field)))

unfoldable pub item_read : Geometry → List ℕ → (seat reference field : ℕ) → ℕ
item_read g row seat reference field = old_of (cycle_row g row seat reference) (Load (space_at g (cell_of g row seat reference field)))

-- these four can be done
pub record ReadFits (g : Geometry) (row : List ℕ) (seat reference field : ℕ) : Type 0 where
  pub number : NamesNumber g reference
  pub within : IsInSpaces g (cell_of g row seat reference field)
  pub frame : CanFire row (Add (frame_at g seat) entering)
  pub entry : CanFire (framed_row g row seat) (enters g reference)
  pub cycle : CanFire (entered_row g row seat reference) (Load (w0_at g))
  pub reads : CanFire (cycle_row g row seat reference) (Load (space_at g (cell_of g row seat reference field)))

-- its other places, on the row that it has read: what was read is claimed and linked, the register is written, and the
-- object and the frame are left
unfoldable pub loaded_row : Geometry → List ℕ → (seat dest reference item word : ℕ) → List ℕ
loaded_row g row seat dest reference item word = fired (linked_row g row item word) (Write (register_at g seat dest) item)

unfoldable pub load_row : Geometry → List ℕ → (seat dest reference item word : ℕ) → List ℕ
load_row g row seat dest reference item word =
    fired (fired (loaded_row g row seat dest reference item word) (leaves g reference)) (Sub (frame_at g seat) leaving)

pub record LoadFits (g : Geometry) (row : List ℕ) (seat dest reference item word : ℕ) : Type 0 where
  pub claims : ClaimFits g row item word
  pub writes : CanFire (linked_row g row item word) (Write (register_at g seat dest) item)
  pub exit : CanFire (loaded_row g row seat dest reference item word) (leaves g reference)
  pub frame : CanFire (fired (loaded_row g row seat dest reference item word) (leaves g reference)) (Sub (frame_at g seat) leaving)

-- A Store: the object is entered, W0 is loaded where the reference isn't null, the reference is claimed and linked, the cell
-- is written, and the object is left.
unfoldable pub cell_inside : Geometry → List ℕ → (reference field : ℕ) → ℕ
cell_inside g row reference field = header_place (old_of row (enters g reference)) + 1 + field

abbrev pub cycle_event : Geometry → (item : ℕ) → Option Event
cycle_event g item = unless (item == 0) (load_w0 g)

unfoldable pub seen_row : Geometry → List ℕ → (item : ℕ) → List ℕ
seen_row g row item = fired_if row (cycle_event g item)

unfoldable pub seen_word : Geometry → List ℕ → (item : ℕ) → ℕ
seen_word g row item = learnt row (cycle_event g item)

unfoldable pub stored_row : Geometry → List ℕ → (reference field item : ℕ) → List ℕ
stored_row g row reference field item =
    let met = inside_row g row reference in
    fired (linked_row g (seen_row g met item) item (seen_word g met item)) (Write (space_at g (cell_inside g row reference field)) item)

unfoldable pub store_row : Geometry → List ℕ → (reference field item : ℕ) → List ℕ
store_row g row reference field item = fired (stored_row g row reference field item) (leaves g reference)

pub record StoreFits (g : Geometry) (row : List ℕ) (reference field item : ℕ) : Type 0 where
  pub number : NamesNumber g reference
  pub within : IsInSpaces g (cell_inside g row reference field)
  pub entry : CanFire row (enters g reference)
  pub cycle : CanFireIf (inside_row g row reference) (cycle_event g item)
  pub claims : ClaimFits g (seen_row g (inside_row g row reference) item) item (seen_word g (inside_row g row reference) item)
  pub writes : CanFire (linked_row g (seen_row g (inside_row g row reference) item) item (seen_word g (inside_row g row reference) item)) (Write (space_at g (cell_inside g row reference field)) item)
  pub exit : CanFire (stored_row g row reference field item) (leaves g reference)
