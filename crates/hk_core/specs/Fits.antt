-- What the step of a seat asks of its flight: the numbers that the event of its place is made of are of the geometry. In
-- a lawful state every flight fits.
use Rattle.std.specs.Prelude.{◌≡◌, ◌≢◌, ℕ, ◌*◌, ◌^◌, ◌<◌, ◌≤◌, false, ⊤}
use Rattle.hk_words.specs.declared.geometry.Geometry.{Geometry}
use Rattle.hk_words.specs.declared.call.Call.{Call}
use Rattle.hk_words.specs.declared.call.Call.TheVariants.{Get, Put, Load, Store, Move, Clear, New, Same, IsNull}
use Rattle.hk_words.specs.Geometry.{tasks, numbers, list_length, space_words}
use Rattle.hk_words.specs.Layout.{NamesObject, reference_number, w0_words, w0_objects}
use Rattle.hk_core.specs.declared.flight.Flight.{Flight}
use Rattle.hk_core.specs.Event.{CanFireIf}
use Rattle.hk_core.specs.State.{State, flight_of}
use Rattle.hk_core.specs.Step.{reference_cell, number_cell, event_by, found_by}

-- a word names an object whose number is of the geometry
pub record NamesNumber (g : Geometry) (word : ℕ) : Type 0 where
  pub some : NamesObject word
  pub within : reference_number word < numbers g

-- a place is one of the spaces
abbrev pub IsInSpaces : Geometry → ℕ → Type 0
IsInSpaces g place = place ≤ 2 * space_words g

-- what the places of a call ask: the number of the entered object, the register that is written, the place of the cell,
-- the number of the object that is claimed, and of a New the entry, the number and the words that it was given
abbrev pub CallFits : Geometry → Flight → Call → Type 0
CallFits g f (Get reg field) = NamesNumber g f.entered × (f.place ≡ 2 → IsInSpaces g (number_cell f field))
CallFits g f (Put reg field value) = NamesNumber g f.entered × (f.place ≡ 2 → IsInSpaces g (number_cell f field))
CallFits g f (Move dest from) = dest < g.registers
CallFits g f (Clear dest) = dest < g.registers
CallFits g f (Load dest reg field) =
    (dest < g.registers) × NamesNumber g f.entered
    × (f.place ≡ 4 → IsInSpaces g (reference_cell f field))
    × (f.place ≡ 5 → f.item ≢ 0 → NamesNumber g f.item)
CallFits g f (Store reg field from) =
    NamesNumber g f.entered
    × (f.place ≡ 3 → f.item ≢ 0 → NamesNumber g f.item)
    × (f.place ≡ 6 → IsInSpaces g (reference_cell f field))
CallFits g f (New dest shape) =
    (dest < g.registers)
    × (f.place ≡ 4 → f.full ≡ false → w0_objects f.word < list_length g)
    × (f.place ≡ 5 → f.full ≡ false → (f.number < numbers g) × (w0_words f.word < g.alloc))
    × (f.place ≡ 6 → f.full ≡ false → f.number < numbers g)
CallFits g f (Same a b) = ⊤
CallFits g f (IsNull reg) = ⊤

-- a flight fits
pub record Fits (g : Geometry) (f : Flight) : Type 0 where
  pub seat : f.seat < tasks g
  pub call : CallFits g f f.call

-- what a New finds in its list entry is small enough for a number
abbrev pub FindsNumber : Flight → Call → ℕ → Type 0
FindsNumber f (Get reg field) old = ⊤
FindsNumber f (Put reg field value) old = ⊤
FindsNumber f (Move dest from) old = ⊤
FindsNumber f (Clear dest) old = ⊤
FindsNumber f (Load dest reg field) old = ⊤
FindsNumber f (Store reg field from) old = ⊤
FindsNumber f (New dest shape) old = f.place ≡ 4 → old < 2 ^ 32
FindsNumber f (Same a b) old = ⊤
FindsNumber f (IsNull reg) old = ⊤

-- a seat of a state can step: its flight fits, its event may be fired, and it finds a number where it looks for one
pub record CanStep (c : State) (seat : ℕ) : Type 0 where
  pub flight : Fits c.geometry (flight_of c.flights seat)
  pub event : CanFireIf c.row (event_by c seat)
  pub finds : FindsNumber (flight_of c.flights seat) (flight_of c.flights seat).call (found_by c seat)
