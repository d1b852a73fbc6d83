-- The shape of an object.
use Rattle.std.specs.Prelude.{ℕ, ◌+◌, ◌<◌, ◌≤◌}
use Rattle.hk_words.specs.declared.shape.Shape.{Shape}

-- so many reference fields and number fields are a shape: there is a field, and there are not too many
abbrev pub IsShape : ℕ → ℕ → Type 0
IsShape refs nums = (0 < refs + nums) × (refs + nums ≤ 254)

-- the words of an object of a shape: its link word, its reference fields and its number fields
abbrev pub size : Shape → ℕ
size shape = 1 + shape.refs + shape.nums
