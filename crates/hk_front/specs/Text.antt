-- A line of words.
use Rattle.std.specs.Prelude.{ℕ, List, [], fold}
use Rattle.hk_io.specs.Line.{with_word, with_end}

-- a line of these words, parted by single spaces, with its newline
abbrev pub line : List (List ℕ) → List ℕ
line words = with_end (fold with_word [] words)
