-- The row of a heap has a first word.
use Rattle.std.proofs.Common.{◌≡◌, ℕ, ◌<◌, arith}
use Rattle.hk_words.specs.declared.geometry.Geometry.{Geometry}
use Rattle.hk_words.specs.Geometry.{row_length}

pub first_word : (g : Geometry) (words : ℕ) → words ≡ row_length g → 0 < words
first_word g words is = omega (arith, is)
