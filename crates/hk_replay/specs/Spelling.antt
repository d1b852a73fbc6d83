-- The grammar of a log: which words spell a line.
use Rattle.std.specs.Prelude.{◌≡◌, ℕ, ◌+◌, ◌^◌, ◌<◌, ◌≤◌, List, [], ◌∷◌, ◌++◌, length, codes}
use Rattle.std.specs.List.{AllZip}
use Rattle.std.specs.Str.Parse.{IsNumeral, digits_value}
use Rattle.hk_words.specs.declared.call.Call.{Call}
use Rattle.hk_words.specs.declared.call.Call.TheVariants as call
use Rattle.hk_words.specs.declared.geometry.Geometry.{Geometry}
use Rattle.hk_words.specs.declared.geometry.TheConstants.{REGISTERS}
use Rattle.hk_words.specs.declared.shape.TheConstants.{USUAL_FIELDS}
use Rattle.hk_replay.specs.declared.log_line.Reason.{Reason}
use Rattle.hk_replay.specs.declared.log_line.Reason.TheVariants as reason
use Rattle.hk_replay.specs.declared.log_line.Ending.{Ending}
use Rattle.hk_replay.specs.declared.log_line.Ending.TheVariants as ending
use Rattle.hk_replay.specs.declared.log_line.Answer.{Answer}
use Rattle.hk_replay.specs.declared.log_line.Answer.TheVariants as answer
use Rattle.hk_replay.specs.declared.log_line.LogLine.{LogLine}
use Rattle.hk_replay.specs.declared.log_line.LogLine.TheVariants as line
use Rattle.hk_replay.specs.Text.{words_of}

-- a word of a line: one that stands so, or any numeral of a number
pub data Piece : Type 0 where
  Exactly : List ℕ → Piece
  Numeral : ℕ → Piece

-- a word spells a piece; a numeral is 1 to 20 decimal digits, and leading zeros are allowed
abbrev pub SpellsPiece : List ℕ → Piece → Type 0
SpellsPiece word (Exactly name) = word ≡ name
SpellsPiece word (Numeral n) = IsNumeral 10 word × (length word ≤ 20) × (digits_value 10 word ≡ n)

-- THE FIRST LINE

-- its words: the words for evacuation, those for allocation and the reserve among them, the high and the low tasks, and
-- the board's reference and number fields
abbrev pub geometry_pieces : Geometry → List Piece
geometry_pieces g =
    Exactly (codes "heap") ∷ Numeral g.live ∷ Numeral g.alloc ∷ Numeral g.reserve ∷ Numeral g.high ∷ Numeral g.low
    ∷ Numeral g.board.refs ∷ Numeral g.board.nums ∷ []

-- a line opens a log of a heap: it spells the geometry, whose tasks have 8 registers, and whose board has 62 fields at most
pub record Opens (text : List ℕ) (g : Geometry) : Type 0 where
  pub spelled : AllZip SpellsPiece (words_of text) (geometry_pieces g)
  pub registers : g.registers ≡ REGISTERS
  pub fields : g.board.refs + g.board.nums ≤ USUAL_FIELDS

-- THE OTHER LINES

-- the words of a call: its name, and its registers, field, value or fields. No line has a question
abbrev pub call_pieces : Call → List Piece
call_pieces (call.Get reg field) = Exactly (codes "get") ∷ Numeral reg ∷ Numeral field ∷ []
call_pieces (call.Put reg field value) = Exactly (codes "put") ∷ Numeral reg ∷ Numeral field ∷ Numeral value ∷ []
call_pieces (call.Load dest reg field) = Exactly (codes "load") ∷ Numeral dest ∷ Numeral reg ∷ Numeral field ∷ []
call_pieces (call.Store reg field from) = Exactly (codes "store") ∷ Numeral reg ∷ Numeral field ∷ Numeral from ∷ []
call_pieces (call.Move dest from) = Exactly (codes "move") ∷ Numeral dest ∷ Numeral from ∷ []
call_pieces (call.Clear dest) = Exactly (codes "clear") ∷ Numeral dest ∷ []
call_pieces (call.New dest shape) = Exactly (codes "new") ∷ Numeral dest ∷ Numeral shape.refs ∷ Numeral shape.nums ∷ []
call_pieces (call.Same a b) = []
call_pieces (call.IsNull reg) = []

-- the word for why a call was refused
abbrev pub reason_word : Reason → List ℕ
reason_word reason.Nil = codes "nil"
reason_word reason.Field = codes "field"

-- the words for how a call ended
abbrev pub ending_pieces : Ending → List Piece
ending_pieces ending.Unit = Exactly (codes "unit") ∷ []
ending_pieces (ending.Num n) = Exactly (codes "num") ∷ Numeral n ∷ []
ending_pieces (ending.Full n) = Exactly (codes "full") ∷ Numeral n ∷ []

-- the words for what the collector did
abbrev pub answer_pieces : Answer → List Piece
answer_pieces answer.Useful = Exactly (codes "useful") ∷ []
answer_pieces answer.Flip = Exactly (codes "flip") ∷ []
answer_pieces (answer.Lost n) = Exactly (codes "lost") ∷ Numeral n ∷ []
answer_pieces (answer.Frame seat) = Exactly (codes "frame") ∷ Numeral seat ∷ []
answer_pieces (answer.Object n) = Exactly (codes "object") ∷ Numeral n ∷ []
answer_pieces (answer.Unlinked n) = Exactly (codes "unlinked") ∷ Numeral n ∷ []
answer_pieces (answer.Grey n) = Exactly (codes "grey") ∷ Numeral n ∷ []
answer_pieces (answer.Live n) = Exactly (codes "live") ∷ Numeral n ∷ []
answer_pieces answer.Worn = Exactly (codes "worn") ∷ []

-- the words of a line
abbrev pub pieces : LogLine → List Piece
pieces (line.Begin seat call) = Exactly (codes "begin") ∷ Numeral seat ∷ call_pieces call
pieces (line.Fault seat call why) = Exactly (codes "fault") ∷ Numeral seat ∷ call_pieces call ++ Exactly (reason_word why) ∷ []
pieces (line.Step seat) = Exactly (codes "step") ∷ Numeral seat ∷ []
pieces (line.End seat end) = Exactly (codes "end") ∷ Numeral seat ∷ ending_pieces end
pieces (line.Collect what) = Exactly (codes "gc") ∷ answer_pieces what

-- THE RANGES OF NUMBERS

abbrev pub IsRegister : ℕ → Type 0
IsRegister reg = reg < REGISTERS

-- a register that may be written: any but register 0
abbrev pub IsTarget : ℕ → Type 0
IsTarget reg = (0 < reg) × (reg < REGISTERS)

abbrev pub IsField : ℕ → Type 0
IsField field = field < USUAL_FIELDS

-- a number of 64 bits
abbrev pub IsWord : ℕ → Type 0
IsWord n = n < 2 ^ 64

abbrev pub IsCall : Call → Type 0
IsCall (call.Get reg field) = IsRegister reg × IsField field
IsCall (call.Put reg field value) = IsRegister reg × IsField field × IsWord value
IsCall (call.Load dest reg field) = IsTarget dest × IsRegister reg × IsField field
IsCall (call.Store reg field from) = IsRegister reg × IsField field × IsRegister from
IsCall (call.Move dest from) = IsTarget dest × IsRegister from
IsCall (call.Clear dest) = IsTarget dest
IsCall (call.New dest shape) = IsTarget dest × (shape.refs + shape.nums ≤ USUAL_FIELDS)
IsCall (call.Same a b) = ⊥
IsCall (call.IsNull reg) = ⊥

abbrev pub IsEnding : Ending → Type 0
IsEnding ending.Unit = Unit {0}
IsEnding (ending.Num n) = IsWord n
IsEnding (ending.Full n) = IsWord n

abbrev pub IsAnswer : (tasks : ℕ) → Answer → Type 0
IsAnswer tasks answer.Useful = Unit {0}
IsAnswer tasks answer.Flip = Unit {0}
IsAnswer tasks (answer.Lost n) = IsWord n
IsAnswer tasks (answer.Frame seat) = seat < tasks
IsAnswer tasks (answer.Object n) = IsWord n
IsAnswer tasks (answer.Unlinked n) = IsWord n
IsAnswer tasks (answer.Grey n) = IsWord n
IsAnswer tasks (answer.Live n) = IsWord n
IsAnswer tasks answer.Worn = Unit {0}

-- a line of a heap with so many tasks: each number is in its range, and the seat is one of the tasks'
abbrev pub IsLine : (tasks : ℕ) → LogLine → Type 0
IsLine tasks (line.Begin seat call) = (seat < tasks) × IsCall call
IsLine tasks (line.Fault seat call why) = (seat < tasks) × IsCall call
IsLine tasks (line.Step seat) = seat < tasks
IsLine tasks (line.End seat end) = (seat < tasks) × IsEnding end
IsLine tasks (line.Collect what) = IsAnswer tasks what

-- a text spells a line of a heap with so many tasks
pub record SpellsLine (tasks : ℕ) (text : List ℕ) (said : LogLine) : Type 0 where
  pub spelled : AllZip SpellsPiece (words_of text) (pieces said)
  pub ranges : IsLine tasks said
