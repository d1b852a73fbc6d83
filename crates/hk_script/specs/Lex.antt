-- The words of a line, and what a word spells.
use Rattle.std.specs.Prelude.{ℕ, ◌^◌, Bool, false, not, List, [], ◌∷◌, length, filter, Option, Some, None, nat_lt, nat_le, ◌==◌, ◌&&◌, ◌||◌, if◌then◌else◌}
use Rattle.std.specs.List.{before_first, slice_split, list_all}
use Rattle.std.specs.Char.{is_ascii_digit}
use Rattle.std.specs.Str.Parse.{digits_value}

-- a space, a tab or a carriage return
abbrev pub is_blank : ℕ → Bool
is_blank byte = byte == 32 || byte == 9 || byte == 13

-- the line up to its first `#`, which begins the comment
abbrev pub before_comment : List ℕ → List ℕ
before_comment line = before_first (λ byte. byte == 35) line

-- a word ends before a blank or a comment
abbrev pub ends_word : ℕ → Bool
ends_word byte = is_blank byte || byte == 35

-- the words of a line: what blanks part, up to the comment
abbrev pub words : List ℕ → List (List ℕ)
words line = filter (λ word. nat_lt 0 (length word)) (slice_split is_blank (before_comment line))

-- the lines of a text, without their newlines; a last line without one counts too
abbrev pub lines : List ℕ → List (List ℕ)
lines text = slice_split (λ byte. byte == 10) text

-- 1 to 20 decimal digits, of a number below 2 ^ 64
abbrev pub is_number : List ℕ → Bool
is_number word = nat_lt 0 (length word) && nat_le (length word) 20 && list_all is_ascii_digit word && nat_lt (digits_value 10 word) (2 ^ 64)

-- the number that a word spells
abbrev pub number_of : List ℕ → Option ℕ
number_of word = if is_number word then Some (digits_value 10 word) else None

-- the number, where it is below the limit
abbrev pub below : ℕ → Option ℕ → Option ℕ
below limit None = None
below limit (Some n) = if nat_lt n limit then Some n else None

-- the digits begin with a 0 that could be left out
abbrev pub has_leading_zero : List ℕ → Bool
has_leading_zero [] = false
has_leading_zero (digit ∷ []) = false
has_leading_zero (first ∷ digit ∷ digits) = first == 48

-- the number in a name: a letter, and a number below the limit without leading zeros
abbrev pub index_of : ℕ → ℕ → List ℕ → Option ℕ
index_of letter limit [] = None
index_of letter limit (first ∷ digits) = if first == letter && not (has_leading_zero digits) then below limit (number_of digits) else None
