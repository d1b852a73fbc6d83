-- What is left of a walk: the most that it may still take from where it stands.
use Rattle.std.specs.Prelude.{ℕ, zero, suc, ◌+◌, ◌-◌, ◌*◌, List, [], ◌∷◌, length, drop, slice_index, slice_index_or}
use Rattle.hk_script.specs.declared.beyond.Beyond.{Beyond}
use Rattle.hk_script.specs.declared.blocks.Open.{Open}
use Rattle.hk_script.specs.declared.blocks.Part.{Part}
use Rattle.hk_script.specs.declared.blocks.Part.TheVariants as part
use Rattle.hk_script.specs.declared.statement.Statement.{Statement}
use Rattle.hk_script.specs.declared.statement.Statement.TheVariants as statement
use Rattle.hk_script.specs.declared.walk.Walk.{Walk}
use Rattle.hk_script.specs.Blocks.{nest}
use Rattle.hk_script.specs.Cost.{Ahead, nearest, ahead, ticks_of, words_of}
use Rattle.hk_script.specs.Links.{left_open}

-- the statement at a place, an `end` behind the last
abbrev pub statement_at : List Statement → ℕ → Statement
statement_at s place = slice_index_or s place statement.End

-- the blocks that are open at a place, the innermost first
unfoldable pub open_at : List Statement → ℕ → List Open
open_at s zero = []
open_at s (suc place) = left_open (nest place (open_at s place) (statement_at s place))

-- the turns of a `repeat`
abbrev pub count_of : Statement → ℕ
count_of (statement.Repeat n) = n
count_of x = 0

-- the sums from a place on, where weight is what each statement takes
abbrev pub ahead_at : (weight : Statement → ℕ) → List Statement → ℕ → Ahead
ahead_at weight s place = ahead weight (drop place s)

-- the sum of what follows each of some blocks, up to the end of the next one
unfoldable pub following : List Beyond → ℕ
following [] = 0
following (b ∷ outer) = b.after + following outer

-- the turns of the `repeat` at a place that are left where so many were begun, and its last test
unfoldable pub turns_left : (weight : Statement → ℕ) → List Statement → (place begun : ℕ) → ℕ
turns_left weight s place begun =
    (count_of (statement_at s place) - begun) * (weight (statement_at s place) + (ahead_at weight s (place + 1)).here) + weight (statement_at s place)

abbrev pub turns_left_by : (weight : Statement → ℕ) → List Statement → Part → (place begun : ℕ) → ℕ
turns_left_by weight s part.Turns place begun = turns_left weight s place begun
turns_left_by weight s part.Then place begun = 0
turns_left_by weight s part.Otherwise place begun = 0

-- the turns that are left of open blocks, where these were begun, by level
unfoldable pub all_turns_left : (weight : Statement → ℕ) → List Statement → List Open → List ℕ → ℕ
all_turns_left weight s [] turns = 0
all_turns_left weight s (b ∷ outer) turns = turns_left_by weight s b.part b.mark (slice_index turns (length outer)) + all_turns_left weight s outer turns

-- what is left of the part that a walk stands in, up to the part's end, from the statement that it stands at
abbrev pub part_left_by : (weight : Statement → ℕ) → List Statement → Statement → ℕ → List ℕ → ℕ
part_left_by weight s (statement.Repeat n) place turns = turns_left weight s place (slice_index turns (length (open_at s place))) + (nearest (ahead_at weight s (place + 1)).blocks).after
part_left_by weight s x place turns = (ahead_at weight s place).here

abbrev pub part_left : (weight : Statement → ℕ) → List Statement → ℕ → List ℕ → ℕ
part_left weight s place turns = part_left_by weight s (statement_at s place) place turns

-- what is left of a script at a place, where these turns were begun: of the part, of what follows each block around it,
-- and of the turns of these blocks
abbrev pub left_at : (weight : Statement → ℕ) → List Statement → ℕ → List ℕ → ℕ
left_at weight s place turns = part_left weight s place turns + following (ahead_at weight s place).blocks + all_turns_left weight s (open_at s place) turns

-- the ticks that a walk may still take, and the words that it may still allocate
unfoldable pub ticks_left : List Statement → Walk → ℕ
ticks_left s w = left_at ticks_of s w.place w.turns

unfoldable pub words_left : List Statement → Walk → ℕ
words_left s w = left_at words_of s w.place w.turns
