-- What a call of a pass says, over the history that the pass has seen.
use Rattle.std.specs.Prelude.{◌≡◌, ℕ, true, [], ◌∷◌, ◌++◌}
use Rattle.hk_words.specs.declared.call.Call.{Call}
use Rattle.hk_words.specs.declared.call.Reply.{Reply}
use Rattle.hk_words.specs.declared.call.Reply.TheVariants as reply
use Rattle.hk_model.specs.Heap.{Heap}
use Rattle.hk_model.specs.History.{Entry, History, after, of_seat, is_full}
use Rattle.hk_model.specs.Replies.{reply_of}
use Rattle.hk_core.specs.Faults.{FindsField}
use Rattle.hk_script.specs.Walks.{AnswersCall}
use Rattle.hk_race.specs.declared.desk.Said.{Said}
use Rattle.hk_race.specs.declared.desk.Said.TheVariants as said

-- the pass has one entry more, with which what it has seen now ends
pub record Saw (start : Heap) (seat : ℕ) (call : Call) (before now : History) : Type 0 where
  pub others : History
  pub entry : Entry
  pub seat_is : entry.seat ≡ seat
  pub call_is : entry.call ≡ call
  -- between what it had seen and the new entry stand entries of other seats
  pub seen : now ≡ (before ++ others) ++ entry ∷ []
  pub none : of_seat others seat ≡ []
  -- on the plain heap after what it had seen the call finds its object and its field
  pub finds : FindsField (reply_of (after start before) seat call)

-- the entry has this reply, which fits the call
pub record Replied (start : Heap) (seat : ℕ) (call : Call) (before now : History) (r : Reply) : Type 0 where
  pub saw : Saw start seat call before now
  pub reply_is : saw.entry.reply ≡ r
  pub fits : AnswersCall call r

-- the entry is a call that found so many words used, and no room
pub record FoundFull (start : Heap) (seat : ℕ) (call : Call) (before now : History) (words : ℕ) : Type 0 where
  pub saw : Saw start seat call before now
  pub full : is_full saw.entry.reply ≡ true
  pub words_are : saw.entry.number ≡ words

-- what a call says, by its answer: Nil and Field are those of the plain heap after what was seen, and leave that as it was
abbrev pub Tells : Heap → (seat : ℕ) → Call → (before now : History) → Said → Type 0
Tells start seat call before now (said.Done r) = Replied start seat call before now r
Tells start seat call before now (said.Full words) = FoundFull start seat call before now words
Tells start seat call before now said.Nil = (now ≡ before) × (reply_of (after start before) seat call ≡ reply.Nil)
Tells start seat call before now said.Field = (now ≡ before) × (reply_of (after start before) seat call ≡ reply.Field)
