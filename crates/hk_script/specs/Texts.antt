-- Which texts spell a script, and the first reason why a text spells none.
use Rattle.std.specs.Prelude.{◌≡◌, ℕ, Bool, true, false, ◌+◌, ◌-◌, ◌^◌, min, List, [], ◌∷◌, ◌++◌, length, map, filter, nat_lt, if◌then◌else◌, Result, Ok, Err}
use Rattle.std.specs.List.{AllZip}
use Rattle.hk_script.specs.declared.blocks.Open.{Open}
use Rattle.hk_script.specs.declared.error.Fault.{Fault}
use Rattle.hk_script.specs.declared.error.Fault.TheVariants as fault
use Rattle.hk_script.specs.declared.error.ScriptError.{ScriptError}
use Rattle.hk_script.specs.declared.error.ScriptError.TheVariants as error
use Rattle.hk_script.specs.declared.limits.Limits.{Limits}
use Rattle.hk_script.specs.declared.statement.Statement.{Statement}
use Rattle.hk_script.specs.Lex.{words, lines}
use Rattle.hk_script.specs.Reading.{◌>>=◌, statement_of}
use Rattle.hk_script.specs.Spelling.{SpellsStatement}
use Rattle.hk_script.specs.Blocks.{nest, IsScript}

-- a line has words
abbrev pub has_words : List (List ℕ) → Bool
has_words [] = false
has_words (w ∷ ws) = true

-- the lines of a text that have words, each as its words
abbrev pub statement_lines : List ℕ → List (List (List ℕ))
statement_lines text = filter has_words (map words (lines text))

-- a text spells a script of these limits: each line with words spells its statement
pub record Spells (limits : Limits) (text : List ℕ) (s : List Statement) : Type 0 where
  pub lines : AllZip SpellsStatement (statement_lines text) s
  pub script : IsScript limits s

-- what was read so far: the statements, and the open blocks with their lines
pub record Progress : Type 0 where
  pub statements : List Statement
  pub blocks : List Open

-- nothing was read
abbrev pub nothing_read : Progress
nothing_read = record { statements = []; blocks = [] }

-- one more statement: its blocks come first, and then the number of statements
abbrev pub added : Progress → Statement → List Open → Result Progress Fault
added p s blocks = if nat_lt (length p.statements) 1024 then Ok (record { statements = p.statements ++ s ∷ []; blocks = blocks }) else Err fault.Long

unfoldable pub placed : ℕ → Progress → Statement → Result Progress Fault
placed line p s = nest line p.blocks s >>= added p s

-- a line of these words was read
abbrev pub line_read : Limits → ℕ → Progress → List (List ℕ) → Result Progress Fault
line_read limits line p [] = Ok p
line_read limits line p (w ∷ ws) = statement_of limits (w ∷ ws) >>= placed line p

-- a fault in this line
abbrev pub fault_at : ℕ → Fault → ScriptError
fault_at line fault.Word = error.Word line
fault_at line fault.Number = error.Number line
fault_at line fault.Register = error.Register line
fault_at line fault.Variable = error.Variable line
fault_at line fault.Shape = error.Shape line
fault_at line fault.Block = error.Block line
fault_at line fault.Deep = error.Deep line
fault_at line fault.Long = error.Long

-- what comes after a line, which may have a fault
abbrev pub then_at : {A B : Type 0} → ℕ → Result A Fault → (A → Result B ScriptError) → Result B ScriptError
then_at line (Ok x) f = f x
then_at line (Err e) f = Err (fault_at line e)

-- nothing comes after
abbrev pub done : {A : Type 0} → A → Result A ScriptError
done x = Ok x

-- the number of the next line; a line past the last number has that number
abbrev pub next_line : ℕ → ℕ
next_line line = min (line + 1) (2 ^ 32 - 1)

-- lines of these words were read, of which the first has this number, up to the first fault
abbrev pub lines_read : Limits → ℕ → Progress → List (List (List ℕ)) → Result Progress ScriptError
lines_read limits line p [] = Ok p
lines_read limits line p (ws ∷ more) = then_at line (line_read limits line p ws) (λ q. lines_read limits (next_line line) q more)

-- the end of the text: a block that is open is looked at first, the innermost one, and then whether there is a statement
abbrev pub finished : List Open → List Statement → Result (List Statement) ScriptError
finished (block ∷ outer) statements = Err (error.Block block.mark)
finished [] [] = Err error.Empty
finished [] (s ∷ more) = Ok (s ∷ more)

abbrev pub finish : Result Progress ScriptError → Result (List Statement) ScriptError
finish (Ok p) = finished p.blocks p.statements
finish (Err e) = Err e

-- the script of a text, by these limits, or the first reason why there is none
unfoldable pub script_of : Limits → List ℕ → Result (List Statement) ScriptError
script_of limits text = finish (lines_read limits 1 nothing_read (map words (lines text)))

-- what a call returned is the result of reading, unless memory ran out
abbrev pub Refuses : {B : Type 0} → ScriptError → Result B ScriptError → Type 0
Refuses error.Memory read = Unit {0}
Refuses (error.Word line) read = read ≡ Err (error.Word line)
Refuses (error.Number line) read = read ≡ Err (error.Number line)
Refuses (error.Register line) read = read ≡ Err (error.Register line)
Refuses (error.Variable line) read = read ≡ Err (error.Variable line)
Refuses (error.Shape line) read = read ≡ Err (error.Shape line)
Refuses (error.Block line) read = read ≡ Err (error.Block line)
Refuses (error.Deep line) read = read ≡ Err (error.Deep line)
Refuses error.Long read = read ≡ Err error.Long
Refuses error.Empty read = read ≡ Err error.Empty

-- an Ok is the one of the reading, and an Err its refusal
abbrev pub Gives : {A B : Type 0} → (A → B) → Result A ScriptError → Result B ScriptError → Type 0
Gives view (Ok x) read = read ≡ Ok (view x)
Gives view (Err e) read = Refuses e read
