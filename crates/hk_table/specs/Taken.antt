-- How the keeper takes in the passes as a heap is closed.
use Rattle.std.specs.Prelude.{◌≡◌, ◌≤◌, ⊤, List, [], ◌∷◌, ◌++◌, length}
use Rattle.hk_words.specs.declared.geometry.Geometry.{Geometry}
use Rattle.hk_words.specs.Geometry.{tasks}
use Rattle.hk_core.specs.Run.{run_from_opening}
use Rattle.hk_table.specs.Actions.{SeatsBelow}
use Rattle.hk_table.specs.Knows.{Closing, KeeperView}
use Rattle.hk_table.specs.Rule.{KeeperFits}
use Rattle.hk_table.specs.Seats.{closing}
use Rattle.hk_table.specs.Passes.{known}
use Rattle.hk_table.specs.declared.pass.Pass.{Pass}

-- what is left of passes that were taken in, the last of them first
abbrev pub closings : List Pass → List Closing
closings [] = []
closings (p ∷ done) = closings done ++ closing (known p) ∷ []

-- once a pass was taken in, the longest log is no shorter than the keeper's
abbrev pub IsLong : List Pass → KeeperView → Type 0
IsLong [] k = ⊤
IsLong (p ∷ done) k = length k.log ≤ length k.longest

-- of all passes some are left, and the keeper took in the others
pub record TakenIn (start : KeeperView) (all left : List Pass) (k : KeeperView) : Type 0 where
  pub done : List Pass
  pub parts : all ≡ left ++ done
  pub log : k.log ≡ start.log
  pub closed : k.closed ≡ closings done
  pub long : IsLong done k

-- the keeper knows the whole run
pub record KnowsAll (g : Geometry) (k : KeeperView) : Type 0 where
  pub fits : KeeperFits g k.longest (run_from_opening g k.longest) k
  pub seats : SeatsBelow (tasks g) k.longest
