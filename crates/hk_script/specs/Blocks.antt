-- How the blocks of a script nest.
use Rattle.std.specs.Prelude.{◌≡◌, ℕ, ◌+◌, ◌<◌, ◌≤◌, List, [], ◌∷◌, length, nat_lt, if◌then◌else◌, Result, Ok, Err}
use Rattle.std.specs.List.{AllByRecursion}
use Rattle.hk_script.specs.declared.blocks.Open.{Open}
use Rattle.hk_script.specs.declared.blocks.Part.{Part}
use Rattle.hk_script.specs.declared.blocks.Part.TheVariants as part
use Rattle.hk_script.specs.declared.error.Fault.{Fault}
use Rattle.hk_script.specs.declared.error.Fault.TheVariants as fault
use Rattle.hk_script.specs.declared.limits.Limits.{Limits}
use Rattle.hk_script.specs.declared.statement.Statement.{Statement}
use Rattle.hk_script.specs.declared.statement.Statement.TheVariants as statement
use Rattle.hk_script.specs.Reading.{◌>>=◌}
use Rattle.hk_script.specs.Spelling.{IsStatement}

-- a block with a mark of where it began
abbrev pub open_block : Part → ℕ → Open
open_block p m = record { part = p; mark = m }

-- a block begins, inside at most 15 others
abbrev pub begun : Part → ℕ → List Open → Result (List Open) Fault
begun p mark blocks = if nat_lt (length blocks) 16 then Ok (open_block p mark ∷ blocks) else Err fault.Deep

-- an `else` parts an `if` that has none
abbrev pub parted_by : Part → ℕ → List Open → Result (List Open) Fault
parted_by part.Then mark outer = Ok (open_block part.Otherwise mark ∷ outer)
parted_by part.Otherwise mark outer = Err fault.Block
parted_by part.Turns mark outer = Err fault.Block

abbrev pub parted : List Open → Result (List Open) Fault
parted [] = Err fault.Block
parted (block ∷ outer) = parted_by block.part block.mark outer

-- an `end` ends the innermost block
abbrev pub ended : List Open → Result (List Open) Fault
ended [] = Err fault.Block
ended (block ∷ outer) = Ok outer

-- the open blocks, innermost first, after a statement; mark says where a block that it begins began
unfoldable pub nest : ℕ → List Open → Statement → Result (List Open) Fault
nest mark blocks (statement.If t) = begun part.Then mark blocks
nest mark blocks (statement.Repeat count) = begun part.Turns mark blocks
nest mark blocks statement.Else = parted blocks
nest mark blocks statement.End = ended blocks
nest mark blocks s = Ok blocks

-- the open blocks after statements of which the first has this place; a block's mark is its place
abbrev pub nested : ℕ → List Open → List Statement → Result (List Open) Fault
nested place blocks [] = Ok blocks
nested place blocks (s ∷ rest) = nest place blocks s >>= λ after. nested (place + 1) after rest

-- a script of these limits: 1 to 1,024 statements whose arguments are in range, and whose blocks nest and are all ended
pub record IsScript (limits : Limits) (s : List Statement) : Type 0 where
  pub each : AllByRecursion (IsStatement limits) s
  pub blocks : nested 0 [] s ≡ Ok []
  pub some : 0 < length s
  pub few : length s ≤ 1024
