-- Whether the collector ended at more live words than were declared.
use Rattle.std.specs.Prelude.{ℕ, List, [], ◌∷◌, Bool, true, false, Option, Some, None}
use Rattle.hk_words.specs.declared.geometry.Geometry.{Geometry}
use Rattle.hk_words.specs.Row.{W1, word_of}
use Rattle.hk_core.specs.declared.spot.Work.{Work}
use Rattle.hk_core.specs.declared.spot.Work.TheVariants as work
use Rattle.hk_core.specs.Run.{Action, run_from_opening}
use Rattle.hk_keeper.specs.Collected.{answers}

-- the words that an answer of the collector finds live, where they are too many
abbrev pub live_in : Work → Option ℕ
live_in (work.LiveOver words) = Some words
live_in other = None

-- the collector can't go on after this answer
abbrev pub is_last : Work → Bool
is_last (work.LiveOver words) = true
is_last work.Worn = true
is_last other = false

abbrev pub last_live : List Work → Option ℕ
last_live [] = None
last_live (answer ∷ []) = live_in answer
last_live (answer ∷ next ∷ later) = last_live (next ∷ later)

-- the words that the last event of the collector found live, where they are too many: what the last `collect` of a log answers, by
-- the step table at the run up to it
unfoldable pub live_of : Geometry → List Action → Option ℕ
live_of g log = last_live (answers g [] log)

-- the words that are reserved for evacuation after a log
abbrev pub reserved_by : Geometry → List Action → ℕ
reserved_by g log = word_of g (run_from_opening g log).core.row W1
