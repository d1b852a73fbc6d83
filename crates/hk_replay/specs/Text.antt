-- The lines of a text, and the words of a line.
use Rattle.std.specs.Prelude.{ℕ, List, [], ◌∷◌, ◌==◌, if◌then◌else◌}
use Rattle.std.specs.List.{slice_split}

-- a byte before what follows it: a newline ends a line, and any other byte begins the line that follows, or a last line of
-- its own where nothing follows
abbrev pub before_line : ℕ → List (List ℕ) → List (List ℕ)
before_line byte [] = (byte ∷ []) ∷ []
before_line byte (line ∷ lines) = (byte ∷ line) ∷ lines

-- the lines of a text, without their newlines: each ends with a newline, which the last one may lack
unfoldable pub lines_of : List ℕ → List (List ℕ)
lines_of [] = []
lines_of (byte ∷ bytes) = if byte == 10 then [] ∷ lines_of bytes else before_line byte (lines_of bytes)

-- the words of a line: each space parts two of them, so two spaces in a row have a word without bytes between them
abbrev pub words_of : List ℕ → List (List ℕ)
words_of line = slice_split (λ byte. byte == 32) line
