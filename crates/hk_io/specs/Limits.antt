-- How long an input and a line are at most, in bytes.
use Rattle.std.specs.Prelude.{ℕ}

-- the longest input; with one byte more it is too long
abbrev pub longest_input : ℕ
longest_input = 1048576

-- the longest line, with its newline
abbrev pub longest_line : ℕ
longest_line = 160
