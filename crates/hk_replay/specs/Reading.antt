-- The line that words spell, by the number of the words and the names among them.
use Rattle.std.specs.Prelude.{◌≡◌, ◌≢◌, ℕ, ◌^◌, List, [], ◌∷◌, nat_lt, ◌==◌, if◌then◌else◌, Option, Some, None, codes}
use Rattle.std.specs.Option.{option_and_then}
use Rattle.std.specs.Str.{bytes_eq}
use Rattle.hk_words.specs.declared.call.Call.{Call}
use Rattle.hk_words.specs.declared.call.Call.TheVariants as call
use Rattle.hk_words.specs.declared.geometry.Geometry.{Geometry}
use Rattle.hk_words.specs.declared.geometry.TheConstants.{REGISTERS}
use Rattle.hk_words.specs.Geometry.{Sizes, first_error, HasSizes}
use Rattle.hk_words.specs.declared.shape.TheConstants.{USUAL_FIELDS}
use Rattle.hk_replay.specs.declared.log_line.Reason.{Reason}
use Rattle.hk_replay.specs.declared.log_line.Reason.TheVariants as reason
use Rattle.hk_replay.specs.declared.log_line.Ending.TheVariants as ending
use Rattle.hk_replay.specs.declared.log_line.Answer.{Answer}
use Rattle.hk_replay.specs.declared.log_line.Answer.TheVariants as answer
use Rattle.hk_replay.specs.declared.log_line.Heading.{Heading}
use Rattle.hk_replay.specs.declared.log_line.LogLine.{LogLine}
use Rattle.hk_replay.specs.declared.log_line.LogLine.TheVariants as line
use Rattle.hk_replay.specs.Shapes.{shape_of}
use Rattle.hk_io.specs.Number.{number_of}

infixl 10 ◌>>=◌
abbrev pub ◌>>=◌ : {A B : Type 0} → Option A → (A → Option B) → Option B
o >>= f = option_and_then f o

-- a number, where it is below a limit
abbrev pub if_below : ℕ → ℕ → Option ℕ
if_below limit n = if nat_lt n limit then Some n else None

unfoldable pub below : ℕ → List ℕ → Option ℕ
below limit word = number_of word >>= if_below limit

-- a register that is read
abbrev pub register_of : List ℕ → Option ℕ
register_of word = below REGISTERS word

-- a register that is written: any but register 0
abbrev pub if_writable : ℕ → Option ℕ
if_writable reg = if reg == 0 then None else Some reg

unfoldable pub target_of : List ℕ → Option ℕ
target_of word = below REGISTERS word >>= if_writable

-- the number of a field
abbrev pub field_of : List ℕ → Option ℕ
field_of word = below USUAL_FIELDS word

-- how many fields of a kind an object has
abbrev pub size_of : List ℕ → Option ℕ
size_of word = below 256 word

-- the call of two words
unfoldable pub call_of_two : List ℕ → List ℕ → Option Call
call_of_two name a = if bytes_eq name (codes "clear") then (target_of a >>= λ dest. Some (call.Clear dest)) else None

-- the call of three words
unfoldable pub call_of_three : List ℕ → List ℕ → List ℕ → Option Call
call_of_three name a b =
    if bytes_eq name (codes "get") then (register_of a >>= λ reg. field_of b >>= λ field. Some (call.Get reg field))
    else if bytes_eq name (codes "move") then (target_of a >>= λ dest. register_of b >>= λ from. Some (call.Move dest from))
    else None

-- a new object
unfoldable pub new_of : List ℕ → List ℕ → List ℕ → Option Call
new_of a b c = target_of a >>= λ dest. size_of b >>= λ refs. size_of c >>= λ nums. shape_of refs nums >>= λ shape. Some (call.New dest shape)

-- the call of four words
unfoldable pub call_of_four : List ℕ → List ℕ → List ℕ → List ℕ → Option Call
call_of_four name a b c =
    if bytes_eq name (codes "put") then (register_of a >>= λ reg. field_of b >>= λ field. number_of c >>= λ value. Some (call.Put reg field value))
    else if bytes_eq name (codes "load") then (target_of a >>= λ dest. register_of b >>= λ reg. field_of c >>= λ field. Some (call.Load dest reg field))
    else if bytes_eq name (codes "store") then (register_of a >>= λ reg. field_of b >>= λ field. register_of c >>= λ from. Some (call.Store reg field from))
    else if bytes_eq name (codes "new") then new_of a b c
    else None

-- why a call was refused
unfoldable pub reason_of : List ℕ → Option Reason
reason_of word =
    if bytes_eq word (codes "nil") then Some reason.Nil
    else if bytes_eq word (codes "field") then Some reason.Field
    else None

-- a call that a seat began
unfoldable pub begin_of : (tasks : ℕ) → List ℕ → Option Call → Option LogLine
begin_of tasks seat call = below tasks seat >>= λ s. call >>= λ c. Some (line.Begin s c)

-- a call of a seat that was refused
unfoldable pub fault_of : (tasks : ℕ) → List ℕ → Option Call → List ℕ → Option LogLine
fault_of tasks seat call why = below tasks seat >>= λ s. call >>= λ c. reason_of why >>= λ r. Some (line.Fault s c r)

-- what an event of the collector did: one word
unfoldable pub plain_answer_of : List ℕ → Option Answer
plain_answer_of name =
    if bytes_eq name (codes "useful") then Some answer.Useful
    else if bytes_eq name (codes "flip") then Some answer.Flip
    else if bytes_eq name (codes "worn") then Some answer.Worn
    else None

-- a word with a number
unfoldable pub answer_of : (tasks : ℕ) → List ℕ → List ℕ → Option Answer
answer_of tasks name a =
    if bytes_eq name (codes "lost") then (number_of a >>= λ n. Some (answer.Lost n))
    else if bytes_eq name (codes "frame") then (below tasks a >>= λ seat. Some (answer.Frame seat))
    else if bytes_eq name (codes "object") then (number_of a >>= λ n. Some (answer.Object n))
    else if bytes_eq name (codes "unlinked") then (number_of a >>= λ n. Some (answer.Unlinked n))
    else if bytes_eq name (codes "grey") then (number_of a >>= λ n. Some (answer.Grey n))
    else if bytes_eq name (codes "live") then (number_of a >>= λ n. Some (answer.Live n))
    else None

-- the line of two words
unfoldable pub two_words : (tasks : ℕ) → List ℕ → List ℕ → Option LogLine
two_words tasks name a =
    if bytes_eq name (codes "step") then (below tasks a >>= λ seat. Some (line.Step seat))
    else if bytes_eq name (codes "gc") then (plain_answer_of a >>= λ answer. Some (line.Collect answer))
    else None

-- the line of three words
unfoldable pub three_words : (tasks : ℕ) → List ℕ → List ℕ → List ℕ → Option LogLine
three_words tasks name a b =
    if bytes_eq name (codes "end") then (if bytes_eq b (codes "unit") then (below tasks a >>= λ seat. Some (line.End seat ending.Unit)) else None)
    else if bytes_eq name (codes "gc") then (answer_of tasks a b >>= λ answer. Some (line.Collect answer))
    else None

-- the end of a call that answers a number
unfoldable pub end_of : (tasks : ℕ) → List ℕ → List ℕ → List ℕ → Option LogLine
end_of tasks a b c =
    if bytes_eq b (codes "num") then (below tasks a >>= λ seat. number_of c >>= λ n. Some (line.End seat (ending.Num n)))
    else if bytes_eq b (codes "full") then (below tasks a >>= λ seat. number_of c >>= λ n. Some (line.End seat (ending.Full n)))
    else None

-- the line of four words
unfoldable pub four_words : (tasks : ℕ) → List ℕ → List ℕ → List ℕ → List ℕ → Option LogLine
four_words tasks name a b c =
    if bytes_eq name (codes "begin") then begin_of tasks a (call_of_two b c)
    else if bytes_eq name (codes "end") then end_of tasks a b c
    else None

-- the line of five words
unfoldable pub five_words : (tasks : ℕ) → List ℕ → List ℕ → List ℕ → List ℕ → List ℕ → Option LogLine
five_words tasks name a b c d =
    if bytes_eq name (codes "begin") then begin_of tasks a (call_of_three b c d)
    else if bytes_eq name (codes "fault") then fault_of tasks a (call_of_two b c) d
    else None

-- the line of six words
unfoldable pub six_words : (tasks : ℕ) → List ℕ → List ℕ → List ℕ → List ℕ → List ℕ → List ℕ → Option LogLine
six_words tasks name a b c d e =
    if bytes_eq name (codes "begin") then begin_of tasks a (call_of_four b c d e)
    else if bytes_eq name (codes "fault") then fault_of tasks a (call_of_three b c d) e
    else None

-- the line of seven words
unfoldable pub seven_words : (tasks : ℕ) → List ℕ → List ℕ → List ℕ → List ℕ → List ℕ → List ℕ → List ℕ → Option LogLine
seven_words tasks name a b c d e f = if bytes_eq name (codes "fault") then fault_of tasks a (call_of_four b c d e) f else None

-- the line of these words, in a log of a heap with so many tasks
unfoldable pub line_of : (tasks : ℕ) → List (List ℕ) → Option LogLine
line_of tasks (name ∷ a ∷ []) = two_words tasks name a
line_of tasks (name ∷ a ∷ b ∷ []) = three_words tasks name a b
line_of tasks (name ∷ a ∷ b ∷ c ∷ []) = four_words tasks name a b c
line_of tasks (name ∷ a ∷ b ∷ c ∷ d ∷ []) = five_words tasks name a b c d
line_of tasks (name ∷ a ∷ b ∷ c ∷ d ∷ e ∷ []) = six_words tasks name a b c d e
line_of tasks (name ∷ a ∷ b ∷ c ∷ d ∷ e ∷ f ∷ []) = seven_words tasks name a b c d e f
line_of tasks ws = None

-- THE FIRST LINE

-- its numbers, behind its name
unfoldable pub heading_by : List ℕ → List ℕ → List ℕ → List ℕ → List ℕ → List ℕ → List ℕ → Option Heading
heading_by a b c d e f g =
    below (2 ^ 32) a >>= λ live. below (2 ^ 32) b >>= λ alloc. below (2 ^ 32) c >>= λ reserve.
    size_of d >>= λ high. size_of e >>= λ low. size_of f >>= λ refs. size_of g >>= λ nums.
    Some (record { live = live; alloc = alloc; reserve = reserve; high = high; low = low; refs = refs; nums = nums })

unfoldable pub heading_of : List (List ℕ) → Option Heading
heading_of (name ∷ a ∷ b ∷ c ∷ d ∷ e ∷ f ∷ g ∷ []) = if bytes_eq name (codes "heap") then heading_by a b c d e f g else None
heading_of ws = None

-- the sizes that it says
unfoldable pub sizes_in : Heading → Sizes
sizes_in h = record { live = h.live; alloc = h.alloc; reserve = h.reserve; high = h.high; low = h.low; refs = h.refs; nums = h.nums; registers = REGISTERS }

-- a geometry is the one of a first line, if there is one
abbrev pub IsOfHeading : Heading → Option Geometry → Type 0
IsOfHeading h None = first_error USUAL_FIELDS (sizes_in h) ≢ None
IsOfHeading h (Some g) = (first_error USUAL_FIELDS (sizes_in h) ≡ None) × HasSizes g (sizes_in h)
