-- What a call answers, and what its entry in the history says.
use Rattle.std.specs.Prelude.{◌≡◌, ℕ, ◌++◌, [], ◌∷◌, if◌then◌else◌}
use Rattle.hk_words.specs.declared.call.Call.{Call}
use Rattle.hk_model.specs.History.{Entry, History, is_full, of_seat}
use Rattle.hk_core.specs.declared.outcome.Outcome.{Outcome}
use Rattle.hk_core.specs.declared.outcome.Step.TheVariants.{Ended}
use Rattle.hk_core.specs.declared.outcome.Outcome.TheVariants.{Done, Full}
use Rattle.hk_core.specs.State.{State}
use Rattle.hk_core.specs.Step.{answer_by, history_after}

-- how the call of an entry ended, as the entry says
abbrev pub outcome_of : Entry → Outcome
outcome_of e = if is_full e.reply then Full e.number else Done e.reply

-- a seat has one entry more in a history than it had before: that of a call, which says how the call ended
pub record AddsOne (history earlier : History) (seat : ℕ) (call' : Call) (outcome : Outcome) : Type 0 where
  pub entry : Entry
  pub last : of_seat history seat ≡ earlier ++ entry ∷ []
  pub call : entry.call ≡ call'
  pub says : outcome_of entry ≡ outcome

-- a step answers how the call ended, and with its entry, if it adds one, the seat has one entry more in the history than it
-- had before: that of the call, which says the same
pub record AnswersEntry (c : State) (history earlier : History) (seat : ℕ) (call' : Call) : Type 0 where
  pub outcome : Outcome
  pub answers : answer_by c seat ≡ Ended outcome
  pub adds : AddsOne (history_after c seat history) earlier seat call' outcome
