-- A line of words parted by single spaces.
use Rattle.std.specs.Prelude.{ℕ, List, [], ◌∷◌, ◌++◌}
use Rattle.std.specs.Fmt.{decimal}

-- a line with one more word, behind a space where the line isn't empty
abbrev pub with_word : List ℕ → List ℕ → List ℕ
with_word [] word = word
with_word (first ∷ line) word = first ∷ line ++ 32 ∷ word

-- a line with one more word, the decimal digits of a number
abbrev pub with_number : List ℕ → ℕ → List ℕ
with_number line value = with_word line (decimal value)

-- a line with its newline
abbrev pub with_end : List ℕ → List ℕ
with_end line = line ++ 10 ∷ []
