-- The shape of so many fields.
use Rattle.std.specs.Prelude.{ℕ, ◌+◌, ◌<◌, ◌≤◌, nat_le, Option, Some, None, if◌then◌else◌}
use native.Mathlib.Decide.{dec_le, dec_lt}
use Rattle.hk_words.specs.declared.shape.Shape.{Shape}

-- the shape, where there is a field and there are not too many for any object
abbrev pub shape_by : (refs nums : ℕ) → Dec (0 < refs + nums) → Dec (refs + nums ≤ 254) → Option Shape
shape_by refs nums (yes some) (yes few) = Some (record { refs = refs; nums = nums; some = some; few = few })
shape_by refs nums (yes some) (no many) = None
shape_by refs nums (no none) few = None

-- the shape of so many reference fields and number fields, where there is one
unfoldable pub any_shape : (refs nums : ℕ) → Option Shape
any_shape refs nums = shape_by refs nums (dec_lt 0 (refs + nums)) (dec_le (refs + nums) 254)

-- the shape of so many reference fields and number fields, where there is one of at most so many fields in all
unfoldable pub shape_of : (fields refs nums : ℕ) → Option Shape
shape_of fields refs nums = if nat_le (refs + nums) fields then any_shape refs nums else None
