-- The row of words: what stands where.
use Rattle.std.specs.Prelude.{ℕ, ◌+◌, ◌-◌, ◌*◌, ◌/◌, ◌%◌, ◌<◌, ◌≤◌, List, slice_index, slice_set, nat_lt, if◌then◌else◌}
use Rattle.hk_words.specs.declared.geometry.Geometry.{Geometry}
use Rattle.hk_words.specs.Geometry.{tasks, numbers, list_length, space_words, marks_from, frames_from, registers_from, lists_from, spaces_from}

-- a word of the row: W0, W1, the header or the mark of a number, the frame of a seat, a register of a seat, an
-- entry of a list, or the word at a place of the spaces
pub data Slot : Type 0 where
  W0 : Slot
  W1 : Slot
  Header : ℕ → Slot
  Mark : ℕ → Slot
  Frame : ℕ → Slot
  Register : ℕ → ℕ → Slot
  Entry : ℕ → ℕ → Slot
  Space : ℕ → Slot

-- a seat with a register of its own
abbrev pub IsRegister : Geometry → ℕ → ℕ → Type 0
IsRegister g seat reg = (seat < tasks g) × (reg < g.registers)

-- an entry of one of the two lists
abbrev pub IsEntry : Geometry → ℕ → ℕ → Type 0
IsEntry g list entry = (list < 2) × (entry < list_length g)

-- a place of one of the two spaces; 0 is no place
abbrev pub IsPlace : Geometry → ℕ → Type 0
IsPlace g place = (0 < place) × (place ≤ 2 * space_words g)

-- the numbers of a slot are of the geometry
abbrev pub InRow : Geometry → Slot → Type 0
InRow g W0 = Unit {0}
InRow g W1 = Unit {0}
InRow g (Header number) = number < numbers g
InRow g (Mark number) = number < numbers g
InRow g (Frame seat) = seat < tasks g
InRow g (Register seat reg) = IsRegister g seat reg
InRow g (Entry list entry) = IsEntry g list entry
InRow g (Space place) = IsPlace g place

-- the index in the row of each kind of word
abbrev pub w0_at : Geometry → ℕ
w0_at g = 0

abbrev pub w1_at : Geometry → ℕ
w1_at g = 1

abbrev pub header_at : Geometry → ℕ → ℕ
header_at g number = 2 + number

abbrev pub mark_at : Geometry → ℕ → ℕ
mark_at g number = marks_from g + number

abbrev pub frame_at : Geometry → ℕ → ℕ
frame_at g seat = frames_from g + seat

-- the registers stand seat by seat
abbrev pub register_at : Geometry → ℕ → ℕ → ℕ
register_at g seat reg = registers_from g + (seat * g.registers + reg)

abbrev pub entry_at : Geometry → ℕ → ℕ → ℕ
entry_at g list entry = lists_from g + (list * list_length g + entry)

abbrev pub space_at : Geometry → ℕ → ℕ
space_at g place = spaces_from g + (place - 1)

-- the index of a slot
abbrev pub index_of : Geometry → Slot → ℕ
index_of g W0 = w0_at g
index_of g W1 = w1_at g
index_of g (Header number) = header_at g number
index_of g (Mark number) = mark_at g number
index_of g (Frame seat) = frame_at g seat
index_of g (Register seat reg) = register_at g seat reg
index_of g (Entry list entry) = entry_at g list entry
index_of g (Space place) = space_at g place

-- the slot at an index of the row
unfoldable pub slot_at : Geometry → ℕ → Slot
slot_at g index =
    if nat_lt index 1 then W0
    else if nat_lt index 2 then W1
    else if nat_lt index (marks_from g) then Header (index - 2)
    else if nat_lt index (frames_from g) then Mark (index - marks_from g)
    else if nat_lt index (registers_from g) then Frame (index - frames_from g)
    else if nat_lt index (lists_from g) then
    Register ((index - registers_from g) / g.registers) ((index - registers_from g) % g.registers)
    else if nat_lt index (spaces_from g) then
    Entry ((index - lists_from g) / list_length g) ((index - lists_from g) % list_length g)
    else Space (index - spaces_from g + 1)

-- the word of a slot
abbrev pub word_of : Geometry → List ℕ → Slot → ℕ
word_of g row slot = slice_index row (index_of g slot)

-- the row with another word at a slot
abbrev pub with_word : Geometry → List ℕ → Slot → ℕ → List ℕ
with_word g row slot word = slice_set row (index_of g slot) word

-- the place of a word of a space
abbrev pub place_at : Geometry → (space word : ℕ) → ℕ
place_at g space word = 1 + space * space_words g + word

-- a word of one of the two spaces
abbrev pub IsSpaceWord : Geometry → (space word : ℕ) → Type 0
IsSpaceWord g space word = (space < 2) × (word < space_words g)
