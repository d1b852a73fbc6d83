-- The shape of so many fields.
use Rattle.std.specs.Prelude.{ℕ, ◌+◌, ◌<◌, ◌≤◌, nat_le, Option, Some, None, if◌then◌else◌}
use native.Mathlib.Decide.{dec_le, dec_lt}
use Rattle.hk_words.specs.declared.shape.Shape.{Shape}
use Rattle.hk_words.specs.declared.shape.TheConstants.{MAX_FIELDS, USUAL_FIELDS}

-- the shape, where there is a field and there are not too many
abbrev pub shape_by : (refs nums : ℕ) → Dec (0 < refs + nums) → Dec (refs + nums ≤ MAX_FIELDS) → Option Shape
shape_by refs nums (yes some) (yes few) = Some (record { refs = refs; nums = nums; some = some; few = few })
shape_by refs nums (yes some) (no many) = None
shape_by refs nums (no none) few = None

-- the shape of so many reference fields and number fields, where there is one
unfoldable pub any_shape_of : ℕ → ℕ → Option Shape
any_shape_of refs nums = shape_by refs nums (dec_lt 0 (refs + nums)) (dec_le (refs + nums) MAX_FIELDS)

-- the same with the usual number of fields at most
unfoldable pub shape_of : ℕ → ℕ → Option Shape
shape_of refs nums = if nat_le (refs + nums) USUAL_FIELDS then any_shape_of refs nums else None
