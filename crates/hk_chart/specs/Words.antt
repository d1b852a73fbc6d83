-- The words of a line, and the lines that are written.
use Rattle.std.specs.Prelude.{ℕ, List, [], ◌==◌, fold}
use Rattle.std.specs.List.{slice_split}
use Rattle.hk_io.specs.Line.{with_word, with_end}

-- the words of a line: each space parts two of them, so two spaces in a row have a word without bytes between them
abbrev pub words_of : List ℕ → List (List ℕ)
words_of line = slice_split (λ byte. byte == 32) line

-- a line of these words, parted by single spaces, with its newline
abbrev pub line : List (List ℕ) → List ℕ
line words = with_end (fold with_word [] words)
