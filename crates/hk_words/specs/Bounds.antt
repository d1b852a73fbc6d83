-- How long calls, attempts and collection cycles are.
use Rattle.std.specs.Prelude.{ℕ, ◌+◌, ◌-◌, ◌*◌}
use Rattle.hk_words.specs.declared.call.Call.{Call}
use Rattle.hk_words.specs.declared.call.Call.TheVariants.{Get, Put, Load, Store, Move, Clear, New, Same, IsNull}

-- The places of a call: the steps from its begin to its end, one for each word that it may go to. A place that turns out
-- to need no word is a step all the same. A question has none: it asks for registers of its own task alone.
abbrev pub places_of : Call → ℕ
places_of (Get reg field) = 3
places_of (Put reg field value) = 3
places_of (Load dest reg field) = 10
places_of (Store reg field from) = 7
places_of (Move dest from) = 3
places_of (Clear dest) = 1
places_of (New dest shape) = 7
places_of (Same a b) = 0
places_of (IsNull reg) = 0

-- the most places that a call has: those of a load
abbrev pub most_places : ℕ
most_places = 10

-- The most events of an attempt to blacken the frame of a task with so many registers: the load of the frame word, for each
-- register a load, a claim, a reservation and a link, and the exchange.
abbrev pub frame_events : (registers : ℕ) → ℕ
frame_events registers = 2 + 4 * registers

-- The most events of an attempt to move an object of so many words: the load of its header, for each cell a load, a claim,
-- a reservation, a link and a write, and the exchange. The link word is no cell.
abbrev pub object_events : (words : ℕ) → ℕ
object_events words = 2 + 5 * (words - 1)

-- An upper bound on the useful events of a collection cycle of a heap with so many registers for each of so many tasks, and
-- so many words for evacuation and for allocation: the flip, an attempt for each frame, the loads and copies of what is
-- live, the pass over the marks, the sweep, the clearing of the old space, and the end. It isn't the least one.
abbrev pub cycle_events : (registers tasks live alloc : ℕ) → ℕ
cycle_events registers tasks live alloc = 3 + frame_events registers * tasks + 9 * live + 7 * alloc
