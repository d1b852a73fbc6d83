-- The grammar: which words spell a statement, and which texts spell a script.
use Rattle.std.specs.Prelude.{◌≡◌, ℕ, ◌+◌, ◌^◌, ◌<◌, ◌≤◌, List, [], ◌∷◌, length, codes}
use Rattle.std.specs.Fmt.{decimal}
use Rattle.std.specs.List.{AllZip}
use Rattle.std.specs.Str.Parse.{IsNumeral, digits_value}
use Rattle.hk_words.specs.declared.shape.Shape.{Shape}
use Rattle.hk_script.specs.declared.limits.Limits.{Limits}
use Rattle.hk_script.specs.declared.statement.Statement.{Statement}
use Rattle.hk_script.specs.declared.statement.Statement.TheVariants as statement
use Rattle.hk_script.specs.declared.statement.Test.{Test}
use Rattle.hk_script.specs.declared.statement.Test.TheVariants as test

-- a word of a statement: one that stands so, or any numeral of a number
pub data Piece : Type 0 where
  Exactly : List ℕ → Piece
  Numeral : ℕ → Piece

-- the name of a variable: v and its number without leading zeros
abbrev pub variable : ℕ → Piece
variable v = Exactly (118 ∷ decimal v)

-- the name of a register: r and its number without leading zeros
abbrev pub register : ℕ → Piece
register r = Exactly (114 ∷ decimal r)

-- the words of an `if`
abbrev pub test_pieces : Test → List Piece
test_pieces (test.Less left right) = variable left ∷ Exactly (codes "<") ∷ variable right ∷ []
test_pieces (test.Equal left right) = variable left ∷ Exactly (codes "=") ∷ variable right ∷ []
test_pieces (test.Null reg) = Exactly (codes "null") ∷ register reg ∷ []
test_pieces (test.Same left right) = Exactly (codes "same") ∷ register left ∷ register right ∷ []

-- the words of a statement, in order
abbrev pub pieces : Statement → List Piece
pieces (statement.Work ticks) = Exactly (codes "work") ∷ Numeral ticks ∷ []
pieces (statement.Set v value) = Exactly (codes "set") ∷ variable v ∷ Numeral value ∷ []
pieces (statement.Copy v other) = Exactly (codes "copy") ∷ variable v ∷ variable other ∷ []
pieces (statement.Add v other) = Exactly (codes "add") ∷ variable v ∷ variable other ∷ []
pieces (statement.Sub v other) = Exactly (codes "sub") ∷ variable v ∷ variable other ∷ []
pieces (statement.Job v) = Exactly (codes "job") ∷ variable v ∷ []
pieces (statement.Out v) = Exactly (codes "out") ∷ variable v ∷ []
pieces (statement.Get v reg field) = Exactly (codes "get") ∷ variable v ∷ register reg ∷ Numeral field ∷ []
pieces (statement.Put reg field v) = Exactly (codes "put") ∷ register reg ∷ Numeral field ∷ variable v ∷ []
pieces (statement.Load dest reg field) = Exactly (codes "load") ∷ register dest ∷ register reg ∷ Numeral field ∷ []
pieces (statement.Store reg field from) = Exactly (codes "store") ∷ register reg ∷ Numeral field ∷ register from ∷ []
pieces (statement.Move dest from) = Exactly (codes "move") ∷ register dest ∷ register from ∷ []
pieces (statement.Clear dest) = Exactly (codes "clear") ∷ register dest ∷ []
pieces (statement.New dest shape) = Exactly (codes "new") ∷ register dest ∷ Numeral shape.refs ∷ Numeral shape.nums ∷ []
pieces (statement.If t) = Exactly (codes "if") ∷ test_pieces t
pieces statement.Else = Exactly (codes "else") ∷ []
pieces (statement.Repeat count) = Exactly (codes "repeat") ∷ Numeral count ∷ []
pieces statement.End = Exactly (codes "end") ∷ []

-- a word spells a piece; a numeral is 1 to 20 decimal digits, and leading zeros are allowed
abbrev pub SpellsPiece : List ℕ → Piece → Type 0
SpellsPiece word (Exactly name) = word ≡ name
SpellsPiece word (Numeral n) = IsNumeral 10 word × (length word ≤ 20) × (digits_value 10 word ≡ n)

-- words spell a statement: each word its piece
abbrev pub SpellsStatement : List (List ℕ) → Statement → Type 0
SpellsStatement ws s = AllZip SpellsPiece ws (pieces s)

-- the ranges of the arguments
abbrev pub IsVariable : ℕ → Type 0
IsVariable v = v < 8

abbrev pub IsRegister : Limits → ℕ → Type 0
IsRegister limits reg = reg < limits.registers

-- a register that may be written: any but register 0
abbrev pub IsTarget : Limits → ℕ → Type 0
IsTarget limits reg = (0 < reg) × (reg < limits.registers)

abbrev pub IsField : Limits → ℕ → Type 0
IsField limits field = field < limits.fields

-- the shape of an object that has no more fields than it may have
abbrev pub IsSmall : Limits → Shape → Type 0
IsSmall limits shape = shape.refs + shape.nums ≤ limits.fields

-- a number of ticks or of turns
abbrev pub IsCount : ℕ → Type 0
IsCount n = (1 ≤ n) × (n ≤ 65535)

abbrev pub IsTest : Limits → Test → Type 0
IsTest limits (test.Less left right) = IsVariable left × IsVariable right
IsTest limits (test.Equal left right) = IsVariable left × IsVariable right
IsTest limits (test.Null reg) = IsRegister limits reg
IsTest limits (test.Same left right) = IsRegister limits left × IsRegister limits right

-- each argument of a statement is in its range
abbrev pub IsStatement : Limits → Statement → Type 0
IsStatement limits (statement.Work ticks) = IsCount ticks
IsStatement limits (statement.Set v value) = IsVariable v × (value < 2 ^ 64)
IsStatement limits (statement.Copy v other) = IsVariable v × IsVariable other
IsStatement limits (statement.Add v other) = IsVariable v × IsVariable other
IsStatement limits (statement.Sub v other) = IsVariable v × IsVariable other
IsStatement limits (statement.Job v) = IsVariable v
IsStatement limits (statement.Out v) = IsVariable v
IsStatement limits (statement.Get v reg field) = IsVariable v × IsRegister limits reg × IsField limits field
IsStatement limits (statement.Put reg field v) = IsRegister limits reg × IsField limits field × IsVariable v
IsStatement limits (statement.Load dest reg field) = IsTarget limits dest × IsRegister limits reg × IsField limits field
IsStatement limits (statement.Store reg field from) = IsRegister limits reg × IsField limits field × IsRegister limits from
IsStatement limits (statement.Move dest from) = IsTarget limits dest × IsRegister limits from
IsStatement limits (statement.Clear dest) = IsTarget limits dest
IsStatement limits (statement.New dest shape) = IsTarget limits dest × IsSmall limits shape
IsStatement limits (statement.If t) = IsTest limits t
IsStatement limits statement.Else = Unit {0}
IsStatement limits (statement.Repeat count) = IsCount count
IsStatement limits statement.End = Unit {0}
