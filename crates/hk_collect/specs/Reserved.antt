-- What the words reserved for evacuation are: those of the objects that got a place in this cycle, each once.
use Rattle.std.specs.Prelude.{◌≡◌, ◌≢◌, ℕ, ◌<◌, true, List, length, slice_index, Contains, sum_by}
use Rattle.hk_words.specs.Geometry.{numbers}
use Rattle.hk_words.specs.Row.{W1, word_of}
use Rattle.hk_model.specs.History.{History}
use Rattle.hk_core.specs.State.{State}
use Rattle.hk_core.specs.View.{names_of, size_at}
use Rattle.hk_core.specs.Lawful.{Lawful}
use Rattle.hk_collect.specs.Used.{is_claimed}

-- W1 counts the words of some numbers, each once, all of which were claimed in this cycle
pub record CountsClaimed (c : State) (history : History) (reserved : ℕ) : Type 0 where
  pub objects : List ℕ
  pub distinct : (i j : ℕ) → i < j → j < length objects → slice_index objects i ≢ slice_index objects j
  pub within : (n : ℕ) → Contains objects n → n < numbers c.geometry
  pub claimed : (n : ℕ) → Contains objects n → is_claimed c n ≡ true
  pub counts : reserved ≡ sum_by (size_at (names_of c.geometry history)) objects

-- the law, of a lawful state
abbrev pub ReservedIsClaimed : Type 0
ReservedIsClaimed = (c : State) (history : History) → Lawful c history → CountsClaimed c history (word_of c.geometry c.row W1)
