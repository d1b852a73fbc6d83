-- How many events the collector needs for its cycles: each cycle clears the words of a space, one event for each. So a run in
-- which the collector has few events has cycles enough.
use Rattle.std.specs.Prelude.{◌≢◌, ℕ, ◌+◌, ◌-◌, ◌*◌, ◌^◌, ◌<◌, ◌≤◌}
use Rattle.hk_words.specs.declared.geometry.Geometry.{Geometry}
use Rattle.hk_words.specs.Geometry.{space_words}
use Rattle.hk_model.specs.History.{History}
use Rattle.hk_core.specs.declared.spot.Spot.{Spot}
use Rattle.hk_core.specs.declared.spot.Work.TheVariants.{Worn}
use Rattle.hk_core.specs.State.{State, opening}
use Rattle.hk_core.specs.Collect.{next_collected, work_by_collector}
use Rattle.hk_core.specs.Lines.{cleared}
use Rattle.hk_core.specs.Lawful.{Lawful}

-- So many events are enough for the cycles so far, the first of which begins with the first flip: for each that ended the words
-- of a space, and for the present one those that it has cleared. The spot counts a cycle before the first flip, which has
-- cleared all.
abbrev pub IsWorked : Geometry → Spot → (events : ℕ) → Type 0
IsWorked g t events = t.cycle * space_words g + cleared g t.line ≤ events + 2 * space_words g

-- THE LAWS

-- none are needed at the start
abbrev pub OpeningIsWorked : Type 0
OpeningIsWorked = (g : Geometry) → IsWorked g (opening g).spot 0

-- each event counts as one more
abbrev pub EventWorks : Type 0
EventWorks = (c : State) (history : History) (events : ℕ) → Lawful c history → IsWorked c.geometry c.spot events
    → IsWorked c.geometry (next_collected c).spot (events + 1)

-- with fewer events than the words of 2^20 - 2 spaces the cycles never end; so with 16 million
abbrev pub WornIsLate : Type 0
WornIsLate = (c : State) (history : History) (events : ℕ) → Lawful c history → IsWorked c.geometry c.spot events
    → events < (2 ^ 20 - 2) * space_words c.geometry → work_by_collector c ≢ Worn

abbrev pub FewEventsNeverWear : Type 0
FewEventsNeverWear = (c : State) (history : History) (events : ℕ) → Lawful c history → IsWorked c.geometry c.spot events
    → events ≤ 2 ^ 24 → work_by_collector c ≢ Worn
