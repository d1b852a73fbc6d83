-- The canonical text: one statement per line, its words parted by one space, numbers without leading zeros.
use Rattle.std.specs.Prelude.{ℕ, List, [], ◌∷◌, ◌++◌}
use Rattle.std.specs.List.{flat_map}
use Rattle.std.specs.Fmt.{decimal}
use Rattle.hk_script.specs.declared.statement.Statement.{Statement}
use Rattle.hk_script.specs.declared.statement.Statement.TheVariants as statement
use Rattle.hk_script.specs.Spelling.{Piece, Exactly, Numeral, pieces}

-- the one word of a piece
abbrev pub word_of : Piece → List ℕ
word_of (Exactly name) = name
word_of (Numeral n) = decimal n

-- words, each behind a space
abbrev pub spaced : List Piece → List ℕ
spaced [] = []
spaced (p ∷ ps) = 32 ∷ word_of p ++ spaced ps

-- the first word without a space, and a newline at the end
abbrev pub line_from : List Piece → List ℕ
line_from [] = 10 ∷ []
line_from (p ∷ ps) = word_of p ++ spaced ps ++ 10 ∷ []

-- the line of a statement
unfoldable pub line_of : Statement → List ℕ
line_of s = line_from (pieces s)

-- the line of a statement on the heap
abbrev pub heap_line : Statement → List ℕ
heap_line (statement.Get v reg field) = line_of (statement.Get v reg field)
heap_line (statement.Put reg field v) = line_of (statement.Put reg field v)
heap_line (statement.Load dest reg field) = line_of (statement.Load dest reg field)
heap_line (statement.Store reg field from) = line_of (statement.Store reg field from)
heap_line (statement.Move dest from) = line_of (statement.Move dest from)
heap_line (statement.Clear dest) = line_of (statement.Clear dest)
heap_line (statement.New dest shape) = line_of (statement.New dest shape)
heap_line s = []

-- the text of a script
abbrev pub text_of : List Statement → List ℕ
text_of s = flat_map line_of s
