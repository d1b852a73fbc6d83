-- Scripts as trees of blocks: the statements that a tree is laid out as, and what a tree costs.
use Rattle.std.specs.Prelude.{◌≡◌, ◌⊎◌, ℕ, ◌+◌, ◌*◌, ◌≤◌, max, List, [], ◌∷◌, ◌++◌, Contains}
use Rattle.hk_words.specs.Shape.{size}
use Rattle.hk_words.specs.declared.shape.Shape.{Shape}
use Rattle.hk_script.specs.declared.statement.Statement.{Statement}
use Rattle.hk_script.specs.declared.statement.Statement.TheVariants as statement
use Rattle.hk_script.specs.declared.statement.Test.{Test}
use Rattle.hk_script.specs.Cost.{ticks_of, words_of}

-- nothing, or an item and the tree of what follows it. An item is a statement that stands by itself, an `if` with one
-- part or with two, or a `repeat` of a block.
pub data Tree : Type 0 where
  Nothing : Tree
  Does : Statement → (rest : Tree) → Tree
  When : Test → (part rest : Tree) → Tree
  Chooses : Test → (part other rest : Tree) → Tree
  Repeats : ℕ → (block rest : Tree) → Tree

-- ---- the statements of a tree

-- a statement that begins, parts and ends no block
abbrev pub IsPlain : Statement → Type 0
IsPlain (statement.If t) = ⊥
IsPlain statement.Else = ⊥
IsPlain (statement.Repeat n) = ⊥
IsPlain statement.End = ⊥
IsPlain s = Unit {0}

-- each statement that stands by itself is plain
abbrev pub IsTree : Tree → Type 0
IsTree Nothing = Unit {0}
IsTree (Does s rest) = IsPlain s × IsTree rest
IsTree (When t part rest) = IsTree part × IsTree rest
IsTree (Chooses t part other rest) = IsTree part × IsTree other × IsTree rest
IsTree (Repeats n block rest) = IsTree block × IsTree rest

-- the statements that a tree is laid out as
abbrev pub layout : Tree → List Statement
layout Nothing = []
layout (Does s rest) = s ∷ layout rest
layout (When t part rest) = statement.If t ∷ layout part ++ (statement.End ∷ layout rest)
layout (Chooses t part other rest) = statement.If t ∷ layout part ++ (statement.Else ∷ layout other ++ (statement.End ∷ layout rest))
layout (Repeats n block rest) = statement.Repeat n ∷ layout block ++ (statement.End ∷ layout rest)

-- the tree of a script
pub record IsTreeOf (s : List Statement) (tree : Tree) : Type 0 where
  pub plain : IsTree tree
  pub laid_out : layout tree ≡ s

-- ---- what a tree costs

-- the ticks of the dearest way through a tree: an `if` takes one and the dearer of its parts, and a `repeat` its block n
-- times and n + 1 tests
abbrev pub tree_ticks : Tree → ℕ
tree_ticks Nothing = 0
tree_ticks (Does s rest) = ticks_of s + tree_ticks rest
tree_ticks (When t part rest) = 1 + tree_ticks part + tree_ticks rest
tree_ticks (Chooses t part other rest) = 1 + max (tree_ticks part) (tree_ticks other) + tree_ticks rest
tree_ticks (Repeats n block rest) = n * tree_ticks block + (n + 1) + tree_ticks rest

-- the words that the dearest way through a tree allocates: an `if` those of the dearer of its parts, and a `repeat` those
-- of its block n times
abbrev pub tree_words : Tree → ℕ
tree_words Nothing = 0
tree_words (Does s rest) = words_of s + tree_words rest
tree_words (When t part rest) = tree_words part + tree_words rest
tree_words (Chooses t part other rest) = max (tree_words part) (tree_words other) + tree_words rest
tree_words (Repeats n block rest) = n * tree_words block + tree_words rest

-- a statement makes an object of this size
pub record Makes (s : List Statement) (n : ℕ) : Type 0 where
  pub dest : ℕ
  pub shape : Shape
  pub there : Contains s (statement.New dest shape)
  pub sized : size shape ≡ n

-- the greatest size of an object that statements make, 0 where they make none
pub record IsGreatestMade (s : List Statement) (n : ℕ) : Type 0 where
  pub bound : (m : ℕ) → Makes s m → m ≤ n
  pub made : (n ≡ 0) ⊎ Makes s n
