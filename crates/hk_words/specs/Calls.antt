-- The registers of a call.
use Rattle.std.specs.Prelude.{ℕ, ◌<◌, List, [], ◌∷◌, Option, Some, None}
use Rattle.hk_words.specs.declared.call.Call.{Call}
use Rattle.hk_words.specs.declared.call.Call.TheVariants.{Get, Put, Load, Store, Move, Clear, New, Same, IsNull}

-- the register whose object the call goes through
abbrev pub entered : Call → Option ℕ
entered (Get reg field) = Some reg
entered (Put reg field value) = Some reg
entered (Load dest reg field) = Some reg
entered (Store reg field from) = Some reg
entered (Move dest from) = None
entered (Clear dest) = None
entered (New dest shape) = None
entered (Same a b) = None
entered (IsNull reg) = None

-- the register that the call writes
abbrev pub target : Call → Option ℕ
target (Get reg field) = None
target (Put reg field value) = None
target (Load dest reg field) = Some dest
target (Store reg field from) = None
target (Move dest from) = Some dest
target (Clear dest) = Some dest
target (New dest shape) = Some dest
target (Same a b) = None
target (IsNull reg) = None

-- the registers that the call reads
abbrev pub sources : Call → List ℕ
sources (Get reg field) = reg ∷ []
sources (Put reg field value) = reg ∷ []
sources (Load dest reg field) = reg ∷ []
sources (Store reg field from) = reg ∷ from ∷ []
sources (Move dest from) = from ∷ []
sources (Clear dest) = []
sources (New dest shape) = []
sources (Same a b) = a ∷ b ∷ []
sources (IsNull reg) = reg ∷ []

-- a register that a call may write: not register 0, which holds the board for good
abbrev pub IsWritable : (registers reg : ℕ) → Type 0
IsWritable registers reg = (0 < reg) × (reg < registers)

-- each register of the call is one of so many, and the one that it writes isn't register 0
abbrev pub RegistersFit : (registers : ℕ) → Call → Type 0
RegistersFit registers (Get reg field) = reg < registers
RegistersFit registers (Put reg field value) = reg < registers
RegistersFit registers (Load dest reg field) = IsWritable registers dest × (reg < registers)
RegistersFit registers (Store reg field from) = (reg < registers) × (from < registers)
RegistersFit registers (Move dest from) = IsWritable registers dest × (from < registers)
RegistersFit registers (Clear dest) = IsWritable registers dest
RegistersFit registers (New dest shape) = IsWritable registers dest
RegistersFit registers (Same a b) = (a < registers) × (b < registers)
RegistersFit registers (IsNull reg) = reg < registers
