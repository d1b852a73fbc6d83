-- Where a walk of a script goes on from each place.
use Rattle.std.specs.Prelude.{ℕ, ◌+◌, List, [], ◌∷◌, length, unwrap_or, Result, Ok, Err}
use Rattle.hk_script.specs.declared.beyond.Beyond.{Beyond}
use Rattle.hk_script.specs.declared.blocks.Open.{Open}
use Rattle.hk_script.specs.declared.error.Fault.{Fault}
use Rattle.hk_script.specs.declared.linking.Around.{Around}
use Rattle.hk_script.specs.declared.linking.Link.{Link}
use Rattle.hk_script.specs.declared.statement.Statement.{Statement}
use Rattle.hk_script.specs.declared.statement.Statement.TheVariants as statement
use Rattle.hk_script.specs.Again.{again_of}
use Rattle.hk_script.specs.Blocks.{nest}
use Rattle.hk_script.specs.Cost.{beyond, nearest, outer_of}

-- what is around a place: how many blocks, and the place of the innermost, where it is a `repeat`
abbrev pub around : List Open → Around
around blocks = record { level = length blocks; again = again_of blocks }

-- the open blocks behind a statement
abbrev pub left_open : Result (List Open) Fault → List Open
left_open (Ok blocks) = blocks
left_open (Err e) = []

-- what is around each statement, where these blocks are open around the first and it has this place
abbrev pub arounds : List Open → ℕ → List Statement → List Around
arounds blocks place [] = []
arounds blocks place (s ∷ rest) = around blocks ∷ arounds (left_open (nest place blocks s)) (place + 1) rest

-- where a walk goes on that comes to a place, and for each block around it, the innermost first, where one goes on
-- that skips to the block's other part, and behind the block's end
pub record Ways : Type 0 where
  pub on : ℕ
  pub blocks : List Beyond

-- one statement more in front: a walk stays at a statement that takes a tick; an `else` leads behind its block's end,
-- and an `end` back to its `repeat`, or on where it ends an `if`
abbrev pub leads : Around → ℕ → Statement → Ways → Ways
leads a place (statement.If t) w = record { on = place; blocks = outer_of w.blocks }
leads a place (statement.Repeat n) w = record { on = place; blocks = outer_of w.blocks }
leads a place statement.Else w = record { on = (nearest w.blocks).after; blocks = beyond w.on (nearest w.blocks).after ∷ outer_of w.blocks }
leads a place statement.End w = record { on = unwrap_or a.again w.on; blocks = beyond w.on w.on ∷ w.blocks }
leads a place s w = record { on = place; blocks = w.blocks }

-- the ways from a place on
abbrev pub ways : List Around → ℕ → List Statement → Ways
ways all place [] = record { on = place; blocks = [] }
ways [] place (s ∷ rest) = record { on = place; blocks = [] }
ways (a ∷ all) place (s ∷ rest) = leads a place s (ways all (place + 1) rest)

-- where a walk goes on that skips the part behind a statement: a `repeat` is left, and an `if` goes on in its other part
abbrev pub past_of : Statement → Beyond → ℕ
past_of (statement.Repeat n) b = b.after
past_of s b = b.other

-- the link of a statement, where these are the ways behind it
abbrev pub link : Around → Statement → Ways → Link
link a s w = record { on = w.on; past = past_of s (nearest w.blocks); level = a.level }

-- the links of statements
abbrev pub links : List Around → ℕ → List Statement → List Link
links all place [] = []
links [] place (s ∷ rest) = []
links (a ∷ all) place (s ∷ rest) = link a s (ways all (place + 1) rest) ∷ links all (place + 1) rest

-- the links of a script
unfoldable pub links_of : List Statement → List Link
links_of s = links (arounds [] 0 s) 0 s
