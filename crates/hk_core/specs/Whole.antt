-- A call in one piece: it is begun, and its seat does all places of its row, with nothing between them.
use Rattle.std.specs.Prelude.{◌≡◌, ℕ, zero, suc, ◌-◌, Option, Some, None}
use Rattle.hk_words.specs.declared.call.Call.{Call}
use Rattle.hk_words.specs.Bounds.{places_of}
use Rattle.hk_model.specs.History.{History}
use Rattle.hk_core.specs.declared.outcome.Fault.{Fault}
use Rattle.hk_core.specs.declared.outcome.Outcome.{Outcome}
use Rattle.hk_core.specs.declared.outcome.Step.{Step}
use Rattle.hk_core.specs.declared.outcome.Step.TheVariants.{Ended}
use Rattle.hk_core.specs.State.{State}
use Rattle.hk_core.specs.Step.{next, answer_by, history_after}
use Rattle.hk_core.specs.Begin.{refusal, accepted, begun_or}

-- the state after so many steps of a seat, one after another
unfoldable pub stepped : ℕ → State → ℕ → State
stepped zero c seat = c
stepped (suc steps) c seat = next (stepped steps c seat) seat

-- the state after a call in one piece; one that is refused changes nothing
unfoldable pub whole : State → ℕ → Call → State
whole c seat call = begun_or (refusal c seat call) (stepped (places_of call) (accepted c seat call) seat) c

-- what the step at its last place answers
unfoldable pub last_answer : State → ℕ → Call → Step
last_answer c seat call = answer_by (stepped (places_of call - 1) (accepted c seat call) seat) seat

-- the call is begun, and ends so
pub record EndsAs (c : State) (seat : ℕ) (call : Call) (outcome : Outcome) : Type 0 where
  pub begun : refusal c seat call ≡ None
  pub ended : last_answer c seat call ≡ Ended outcome

-- the history after so many steps of a seat, and after a call in one piece
unfoldable pub stepped_history : ℕ → State → ℕ → History → History
stepped_history zero c seat history = history
stepped_history (suc steps) c seat history = history_after (stepped steps c seat) seat (stepped_history steps c seat history)

abbrev pub history_or : Option Fault → History → History → History
history_or None after before = after
history_or (Some fault) after before = before

unfoldable pub whole_history : State → ℕ → Call → History → History
whole_history c seat call history = history_or (refusal c seat call) (stepped_history (places_of call) (accepted c seat call) seat history) history
