-- Events: one atomic access to one word of the row.
use Rattle.std.specs.Prelude.{ℕ, ◌+◌, ◌-◌, ◌^◌, ◌<◌, ◌≤◌, ◌==◌, max, List, length, slice_index, slice_set, ⊤, Option, Some, None, if◌then◌else◌}
use Rattle.hk_core.specs.declared.event.Event.{Event}
use Rattle.hk_core.specs.declared.event.Event.TheVariants.{Load, Write, Swap, Add, Sub, Max, Trade}

-- the index in the row of the word that an event is about
abbrev pub word_of : Event → ℕ
word_of (Load word) = word
word_of (Write word value) = word
word_of (Swap word value) = word
word_of (Add word amount) = word
word_of (Sub word amount) = word
word_of (Max word value) = word
word_of (Trade word current new) = word

-- what the word is after an event, from what it was
abbrev pub word_after : Event → ℕ → ℕ
word_after (Load word) old = old
word_after (Write word value) old = value
word_after (Swap word value) old = value
word_after (Add word amount) old = old + amount
word_after (Sub word amount) old = old - amount
word_after (Max word value) old = max old value
word_after (Trade word current new) old = if old == current then new else old

-- the word that an event is about, as it was before the event
unfoldable pub old_of : List ℕ → Event → ℕ
old_of row event = slice_index row (word_of event)

-- the row after an event: the word that it is about is changed, and no other word
unfoldable pub fired : List ℕ → Event → List ℕ
fired row event = slice_set row (word_of event) (word_after event (old_of row event))

-- the amount of an event, taken from or added to what the word was, gives a word
abbrev pub AmountFits : Event → ℕ → Type 0
AmountFits (Load word) old = ⊤
AmountFits (Write word value) old = ⊤
AmountFits (Swap word value) old = ⊤
AmountFits (Add word amount) old = old + amount < 2 ^ 64
AmountFits (Sub word amount) old = amount ≤ old
AmountFits (Max word value) old = ⊤
AmountFits (Trade word current new) old = ⊤

-- an event may be fired on a row: its word is one of the row, and neither a sum nor a difference leaves the range
pub record CanFire (row : List ℕ) (event : Event) : Type 0 where
  pub within : word_of event < length row
  pub amount : AmountFits event (old_of row event)

-- an event that may be left out: a rest is no event
unfoldable pub fired_if : List ℕ → Option Event → List ℕ
fired_if row None = row
fired_if row (Some event) = fired row event

-- what whoever does an event learns from it: what the word was, but 0 from a write, which reads nothing, and 0 from
-- a rest
abbrev pub learnt_from : Event → ℕ → ℕ
learnt_from (Load word) old = old
learnt_from (Write word value) old = 0
learnt_from (Swap word value) old = old
learnt_from (Add word amount) old = old
learnt_from (Sub word amount) old = old
learnt_from (Max word value) old = old
learnt_from (Trade word current new) old = old

unfoldable pub learnt : List ℕ → Option Event → ℕ
learnt row None = 0
learnt row (Some event) = learnt_from event (old_of row event)

-- each event that isn't left out may be fired
abbrev pub CanFireIf : List ℕ → Option Event → Type 0
CanFireIf row None = ⊤
CanFireIf row (Some event) = CanFire row event
