-- Where the end of a block leads back to.
use Rattle.std.specs.Prelude.{ℕ, List, [], ◌∷◌, Option, Some, None}
use Rattle.hk_script.specs.declared.blocks.Open.{Open}
use Rattle.hk_script.specs.declared.blocks.Part.{Part}
use Rattle.hk_script.specs.declared.blocks.Part.TheVariants as part

-- the place of the innermost block, where it is a `repeat`
abbrev pub again_by : Part → ℕ → Option ℕ
again_by part.Turns place = Some place
again_by part.Then place = None
again_by part.Otherwise place = None

abbrev pub again_of : List Open → Option ℕ
again_of [] = None
again_of (b ∷ outer) = again_by b.part b.mark
