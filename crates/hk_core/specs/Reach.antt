-- What of the plain heap can be reached, and how many words that is, for the tasks and the registers of a geometry.
use Rattle.std.specs.Prelude.{ℕ, Option}
use Rattle.hk_words.specs.declared.geometry.Geometry.{Geometry}
use Rattle.hk_words.specs.Geometry.{tasks}
use Rattle.hk_model.specs.Heap.{Heap}
use Rattle.hk_model.specs.Reach as plain
pub use Rattle.hk_model.specs.Reach.{in_register, in_cell, words_of_birth}

-- a birth can be reached, where registers and reference cells hold so much
abbrev pub Reach : Geometry → (refs : ℕ → ℕ) → (register link : ℕ → ℕ → Option ℕ) → ℕ → Type 0
Reach g refs register link birth = plain.Reach (tasks g) g.registers refs register link birth

-- a birth of a plain heap can be reached
abbrev pub Reached : Geometry → Heap → ℕ → Type 0
Reached g h birth = plain.Reached (tasks g) g.registers h birth

-- so many words of a plain heap are live: those of the births that can be reached
abbrev pub Live : Geometry → Heap → (words : ℕ) → Type 0
Live g h words = plain.Live (tasks g) g.registers h words
