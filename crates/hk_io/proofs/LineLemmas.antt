-- Digits and words of a line.
use Rattle.std.proofs.Common.{◌≡◌, ℕ, ◌+◌, ◌^◌, ◌<◌, ◌≤◌, List, [], ◌∷◌, length, arith, length-append}
use Rattle.std.specs.Fmt.{decimal}
use Rattle.std.proofs.lemmas.Fmt.{length-decimal-le}
use Rattle.hk_io.specs.Line.{with_word, with_number, with_end}

-- a number of 64 bits has at most 20 digits
pub length-decimal : (n : ℕ) → n < 2 ^ 64 → length (decimal n) ≤ 20
length-decimal n fits = length-decimal-le 20 n (omega arith) (omega arith) fits

-- a word takes its bytes, and a space where the line isn't empty
pub length-with_word : (line word : List ℕ) → length (with_word line word) ≤ length line + 1 + length word
length-with_word [] word = omega arith
length-with_word (first ∷ line) word = omega (arith, length-append line (32 ∷ word))

pub length-with_number : (line : List ℕ) (n : ℕ) → n < 2 ^ 64 → length (with_number line n) ≤ length line + 21
length-with_number line n fits = omega (arith, length-with_word line (decimal n), length-decimal n fits)

pub length-with_end : (line : List ℕ) → length (with_end line) ≡ length line + 1
length-with_end line = length-append line (10 ∷ [])

-- how long lines get
pub ruleset line_lengths = (length-with_word, length-with_number, length-with_end, length-decimal)
