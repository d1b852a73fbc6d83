-- Which actions take words for allocation, and how many.
use Rattle.std.specs.Prelude.{◌≡◌, ◌≢◌, ℕ, ◌+◌, ◌<◌, nat_eq, not, ◌&&◌, if◌then◌else◌}
use Rattle.hk_words.specs.declared.call.Call.{Call}
use Rattle.hk_words.specs.declared.call.Call.TheVariants.{Get, Put, Load, Store, Move, Clear, New, Same, IsNull}
use Rattle.hk_words.specs.Geometry.{tasks}
use Rattle.hk_words.specs.Layout.{w0_words, w0_cycle}
use Rattle.hk_words.specs.Row.{W0, word_of}
use Rattle.hk_words.specs.Shape.{size}
use Rattle.hk_model.specs.History.{History}
use Rattle.hk_core.specs.declared.flight.Flight.{Flight}
use Rattle.hk_core.specs.declared.spot.Work.TheVariants.{Flipped}
use Rattle.hk_core.specs.State.{State, flight_of}
use Rattle.hk_core.specs.Step.{next}
use Rattle.hk_core.specs.Begin.{after_begin}
use Rattle.hk_core.specs.Collect.{next_collected, work_by_collector}
use Rattle.hk_core.specs.Lawful.{Lawful}

-- the words used for allocation since the last flip, and the cycle, which W0 holds
abbrev pub used_in : State → ℕ
used_in c = w0_words (word_of c.geometry c.row W0)

abbrev pub cycle_in : State → ℕ
cycle_in c = w0_cycle (word_of c.geometry c.row W0)

-- the words that the next step of a seat takes: a New takes those of its object at its third place, but where it found too few
unfoldable pub taken_at : Flight → Call → ℕ
taken_at f (Get reg field) = 0
taken_at f (Put reg field value) = 0
taken_at f (Load dest reg field) = 0
taken_at f (Store reg field from) = 0
taken_at f (Move dest from) = 0
taken_at f (Clear dest) = 0
taken_at f (New dest shape) = if nat_eq f.place 3 && not f.full then size shape else 0
taken_at f (Same a b) = 0
taken_at f (IsNull reg) = 0

abbrev pub taken_by : State → (seat : ℕ) → ℕ
taken_by c seat = let f = flight_of c.flights seat in taken_at f f.call

-- so many words more are used after an action, in the same cycle
pub record Takes (before after : State) (words : ℕ) : Type 0 where
  pub used : used_in after ≡ used_in before + words
  pub cycle : cycle_in after ≡ cycle_in before

-- after the flip no words are used, in the next cycle
pub record BeginsCycle (before after : State) : Type 0 where
  pub used : used_in after ≡ 0
  pub cycle : cycle_in after ≡ cycle_in before + 1

-- THE LAWS

-- a begin takes no words, and a step of a seat those of a New at its third place
abbrev pub BeginsTakeNone : Type 0
BeginsTakeNone = (c : State) (seat : ℕ) (call : Call) → Takes c (after_begin c seat call) 0

abbrev pub StepsTake : Type 0
StepsTake = (c : State) (history : History) (seat : ℕ) → seat < tasks c.geometry → Lawful c history → Takes c (next c seat) (taken_by c seat)

-- an event of the collector takes none, and the flip begins to count them anew
abbrev pub EventsTakeNone : Type 0
EventsTakeNone = (c : State) (history : History) → Lawful c history → work_by_collector c ≢ Flipped → Takes c (next_collected c) 0

abbrev pub FlipsBeginCycles : Type 0
FlipsBeginCycles = (c : State) (history : History) → Lawful c history → work_by_collector c ≡ Flipped → BeginsCycle c (next_collected c)
