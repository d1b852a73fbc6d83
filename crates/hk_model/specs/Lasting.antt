-- What lasts as a history grows.
use Rattle.std.specs.Prelude.{◌≡◌, ℕ, ◌<◌, ◌≤◌}
use Rattle.hk_words.specs.declared.call.Call.{Call}
use Rattle.hk_words.specs.declared.call.Call.TheVariants.{Get, Put, Load, Store, Move, Clear, New, Same, IsNull}
use Rattle.hk_words.specs.Shape.{size}
use Rattle.hk_model.specs.Heap.{Heap, born, refs, nums}
use Rattle.hk_model.specs.History.{Entry}

-- the births of a heap are births of another, with the same shapes
pub record Lasts (old new : Heap) : Type 0 where
  pub births : born old ≤ born new
  pub refs : (birth : ℕ) → birth < born old → refs new birth ≡ refs old birth
  pub nums : (birth : ℕ) → birth < born old → nums new birth ≡ nums old birth

-- the words of the object that a call makes, and 0 where it makes none
abbrev pub words_made : Call → ℕ
words_made (Get reg field) = 0
words_made (Put reg field number) = 0
words_made (Load dest reg field) = 0
words_made (Store reg field from) = 0
words_made (Move dest from) = 0
words_made (Clear dest) = 0
words_made (New dest shape) = size shape
words_made (Same a b) = 0
words_made (IsNull reg) = 0

-- the call of an entry makes no object of more than so many words
abbrev pub MakesAtMost : ℕ → Entry → Type 0
MakesAtMost most e = words_made e.call ≤ most
