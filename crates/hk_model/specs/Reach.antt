-- What of a plain heap can be reached, and how many words that is.
use Rattle.std.specs.Prelude.{◌≡◌, ◌≢◌, ◌↔◌, ℕ, ◌+◌, ◌<◌, List, length, slice_index, Contains, sum_by, Option, Some}
use Rattle.hk_model.specs.Heap.{Heap, register, refs, nums, link}

-- The births that can be reached, for so many tasks with so many registers each: the least set that has every birth in a
-- register, and every birth in a reference field of one of its members. `refs` is how many reference fields a birth has.
pub data Reach (tasks count : ℕ) (refs : ℕ → ℕ) (register link : ℕ → ℕ → Option ℕ) : ℕ → Type 0 where
  in_register : {birth : ℕ} (seat reg : ℕ) → seat < tasks → reg < count → register seat reg ≡ Some birth
      → Reach tasks count refs register link birth
  in_cell : {birth : ℕ} (holder field : ℕ) → Reach tasks count refs register link holder → field < refs holder → link holder field ≡ Some birth
      → Reach tasks count refs register link birth

-- a birth of a heap can be reached
abbrev pub Reached : (tasks count : ℕ) → Heap → ℕ → Type 0
Reached tasks count h birth = Reach tasks count (refs h) (register h) (link h) birth

-- the words of the object of a birth
abbrev pub words_of_birth : Heap → ℕ → ℕ
words_of_birth h birth = 1 + refs h birth + nums h birth

-- a list has each birth that can be reached, once, and no other
pub record ListsReached (tasks count : ℕ) (h : Heap) (births : List ℕ) : Type 0 where
  pub distinct : (i j : ℕ) → i < j → j < length births → slice_index births i ≢ slice_index births j
  pub each : (birth : ℕ) → Reached tasks count h birth ↔ Contains births birth

-- so many words of a heap are live: those of the births that can be reached
pub record Live (tasks count : ℕ) (h : Heap) (words : ℕ) : Type 0 where
  pub births : List ℕ
  pub lists : ListsReached tasks count h births
  pub counts : words ≡ sum_by (words_of_birth h) births
