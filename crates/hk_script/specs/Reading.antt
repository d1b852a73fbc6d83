-- One statement from the words of its line, or the first fault: whether the words have the form of a statement,
-- then each argument from the left, then the shape.
use Rattle.std.specs.Prelude.{ℕ, ◌-◌, ◌^◌, List, [], ◌∷◌, nat_le, ◌==◌, ◌&&◌, if◌then◌else◌, Option, Some, None, Result, Ok, Err, codes}
use Rattle.std.specs.Str.{bytes_eq}
use Rattle.std.specs.Option.{ok_or}
use Rattle.hk_script.specs.declared.limits.Limits.{Limits}
use Rattle.hk_script.specs.declared.statement.Statement.{Statement}
use Rattle.hk_script.specs.declared.statement.Statement.TheVariants as statement
use Rattle.hk_script.specs.declared.statement.Test.TheVariants as test
use Rattle.hk_script.specs.declared.error.Fault.{Fault}
use Rattle.hk_script.specs.declared.error.Fault.TheVariants as fault
use Rattle.hk_script.specs.Lex.{number_of, below, index_of}
use Rattle.hk_script.specs.Shapes.{shape_of}

infixl 10 ◌>>=◌
abbrev pub ◌>>=◌ : {A B : Type 0} → Result A Fault → (A → Result B Fault) → Result B Fault
(Ok x) >>= f = f x
(Err e) >>= f = Err e

-- the number, where it is in this range
abbrev pub in_range : ℕ → ℕ → Option ℕ → Result ℕ Fault
in_range low high None = Err fault.Number
in_range low high (Some n) = if nat_le low n && nat_le n high then Ok n else Err fault.Number

-- a number of this range
unfoldable pub number_in : ℕ → ℕ → List ℕ → Result ℕ Fault
number_in low high word = in_range low high (number_of word)

-- a number of ticks or of turns
abbrev pub count_of : List ℕ → Result ℕ Fault
count_of word = number_in 1 65535 word

-- any number
abbrev pub value_of : List ℕ → Result ℕ Fault
value_of word = number_in 0 (2 ^ 64 - 1) word

-- the number of a field
unfoldable pub field_of : Limits → List ℕ → Result ℕ Fault
field_of limits word = ok_or (below limits.fields (number_of word)) fault.Number

-- how many fields of a kind an object has
abbrev pub size_of : List ℕ → Result ℕ Fault
size_of word = number_in 0 255 word

-- a variable
unfoldable pub variable_of : List ℕ → Result ℕ Fault
variable_of word = ok_or (index_of 118 8 word) fault.Variable

-- a register that is read
unfoldable pub register_of : Limits → List ℕ → Result ℕ Fault
register_of limits word = ok_or (index_of 114 limits.registers word) fault.Register

-- a register that is written: any but register 0
unfoldable pub target_of : Limits → List ℕ → Result ℕ Fault
target_of limits word = do
  reg ← register_of limits word
  if reg == 0 then Err fault.Register else Ok reg

-- the statement of a line of one word
unfoldable pub one_word : List ℕ → Result Statement Fault
one_word name =
    if bytes_eq name (codes "else") then Ok statement.Else
    else if bytes_eq name (codes "end") then Ok statement.End
    else Err fault.Word

-- the statement of a line of two words
unfoldable pub two_words : Limits → List ℕ → List ℕ → Result Statement Fault
two_words limits name a =
    if bytes_eq name (codes "work") then (count_of a >>= λ ticks. Ok (statement.Work ticks))
    else if bytes_eq name (codes "job") then (variable_of a >>= λ variable. Ok (statement.Job variable))
    else if bytes_eq name (codes "out") then (variable_of a >>= λ variable. Ok (statement.Out variable))
    else if bytes_eq name (codes "clear") then (target_of limits a >>= λ dest. Ok (statement.Clear dest))
    else if bytes_eq name (codes "repeat") then (count_of a >>= λ count. Ok (statement.Repeat count))
    else Err fault.Word

-- two variables, from the left
abbrev pub variables_of : {B : Type 0} → List ℕ → List ℕ → (ℕ → ℕ → B) → Result B Fault
variables_of a b make = variable_of a >>= λ left. variable_of b >>= λ right. Ok (make left right)

-- the statement of a line of three words
unfoldable pub three_words : Limits → List ℕ → List ℕ → List ℕ → Result Statement Fault
three_words limits name a b =
    if bytes_eq name (codes "set") then (variable_of a >>= λ variable. value_of b >>= λ value. Ok (statement.Set variable value))
    else if bytes_eq name (codes "copy") then variables_of a b statement.Copy
    else if bytes_eq name (codes "add") then variables_of a b statement.Add
    else if bytes_eq name (codes "sub") then variables_of a b statement.Sub
    else if bytes_eq name (codes "move") then (target_of limits a >>= λ dest. register_of limits b >>= λ from. Ok (statement.Move dest from))
    else if bytes_eq name (codes "if") && bytes_eq a (codes "null") then (register_of limits b >>= λ reg. Ok (statement.If (test.Null reg)))
    else Err fault.Word

-- a new object, whose shape is looked at last
unfoldable pub new_of : Limits → List ℕ → List ℕ → List ℕ → Result Statement Fault
new_of limits a b c = do
  dest ← target_of limits a
  refs ← size_of b
  nums ← size_of c
  shape ← ok_or (shape_of limits.fields refs nums) fault.Shape
  Ok (statement.New dest shape)

-- the test of an `if` line of four words: the third word is looked at before the second
unfoldable pub test_of : Limits → List ℕ → List ℕ → List ℕ → Result Statement Fault
test_of limits a b c =
    if bytes_eq b (codes "<") then variables_of a c (λ left right. statement.If (test.Less left right))
    else if bytes_eq b (codes "=") then variables_of a c (λ left right. statement.If (test.Equal left right))
    else if bytes_eq a (codes "same") then (register_of limits b >>= λ left. register_of limits c >>= λ right. Ok (statement.If (test.Same left right)))
    else Err fault.Word

-- the statement of a line of four words
unfoldable pub four_words : Limits → List ℕ → List ℕ → List ℕ → List ℕ → Result Statement Fault
four_words limits name a b c =
    if bytes_eq name (codes "get") then (variable_of a >>= λ variable. register_of limits b >>= λ reg. field_of limits c >>= λ field. Ok (statement.Get variable reg field))
    else if bytes_eq name (codes "put") then (register_of limits a >>= λ reg. field_of limits b >>= λ field. variable_of c >>= λ variable. Ok (statement.Put reg field variable))
    else if bytes_eq name (codes "load") then (target_of limits a >>= λ dest. register_of limits b >>= λ reg. field_of limits c >>= λ field. Ok (statement.Load dest reg field))
    else if bytes_eq name (codes "store") then (register_of limits a >>= λ reg. field_of limits b >>= λ field. register_of limits c >>= λ from. Ok (statement.Store reg field from))
    else if bytes_eq name (codes "new") then new_of limits a b c
    else if bytes_eq name (codes "if") then test_of limits a b c
    else Err fault.Word

-- the statement of a line, of these words
unfoldable pub statement_of : Limits → List (List ℕ) → Result Statement Fault
statement_of limits (name ∷ []) = one_word name
statement_of limits (name ∷ a ∷ []) = two_words limits name a
statement_of limits (name ∷ a ∷ b ∷ []) = three_words limits name a b
statement_of limits (name ∷ a ∷ b ∷ c ∷ []) = four_words limits name a b c
statement_of limits words = Err fault.Word
