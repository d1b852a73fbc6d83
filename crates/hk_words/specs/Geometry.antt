-- The sizes of a heap.
use Rattle.std.specs.Prelude.{◌≡◌, ℕ, ◌+◌, ◌*◌, ◌/◌, ◌%◌, ◌||◌, ◌==◌, nat_lt, not, Option, Some, None, if◌then◌else◌}
use Rattle.hk_words.specs.declared.geometry.Geometry.{Geometry}
use Rattle.hk_words.specs.declared.geometry.GeoError.{GeoError}
use Rattle.hk_words.specs.declared.geometry.GeoError.TheVariants.{Odd, Small, Large, Reserve, Tasks, Board, Registers}

-- what a geometry is made of: the words for evacuation, those for allocation and the reserve among them, the
-- high and the low tasks, the board's reference fields and number fields, and the registers of a task
pub record Sizes : Type 0 where
  pub live : ℕ
  pub alloc : ℕ
  pub reserve : ℕ
  pub high : ℕ
  pub low : ℕ
  pub refs : ℕ
  pub nums : ℕ
  pub registers : ℕ

-- the first reason, in the stated order, why sizes are no geometry whose board has at most so many fields
abbrev pub first_error : (fields : ℕ) → Sizes → Option GeoError
first_error fields s =
    if not (s.live % 2 == 0) || not (s.alloc % 2 == 0) then Some Odd
    else if nat_lt s.live (1 + s.refs + s.nums) || nat_lt s.alloc 16 then Some Small
    else if nat_lt 65536 s.live || nat_lt 65536 s.alloc then Some Large
    else if nat_lt s.alloc s.reserve then Some Reserve
    else if s.high + s.low == 0 || nat_lt 31 (s.high + s.low) then Some Tasks
    else if s.refs + s.nums == 0 || nat_lt fields (s.refs + s.nums) then Some Board
    else if nat_lt s.registers 2 || nat_lt 32 s.registers then Some Registers
    else None

-- a geometry is made of these sizes
pub record HasSizes (g : Geometry) (s : Sizes) : Type 0 where
  pub live : g.live ≡ s.live
  pub alloc : g.alloc ≡ s.alloc
  pub reserve : g.reserve ≡ s.reserve
  pub high : g.high ≡ s.high
  pub low : g.low ≡ s.low
  pub refs : g.board.refs ≡ s.refs
  pub nums : g.board.nums ≡ s.nums
  pub registers : g.registers ≡ s.registers

-- the tasks, each with a seat of its number
abbrev pub tasks : Geometry → ℕ
tasks g = g.high + g.low

-- the numbers of objects: each object that can stand in a space at once has one
abbrev pub numbers : Geometry → ℕ
numbers g = g.live / 2 + g.alloc

-- the free numbers that a list holds: each object has two words or more
abbrev pub list_length : Geometry → ℕ
list_length g = g.alloc / 2

-- the words of a space
abbrev pub space_words : Geometry → ℕ
space_words g = g.live + g.alloc

-- where each part of the row begins, in the order of the row
abbrev pub marks_from : Geometry → ℕ
marks_from g = 2 + numbers g

abbrev pub frames_from : Geometry → ℕ
frames_from g = marks_from g + numbers g

abbrev pub registers_from : Geometry → ℕ
registers_from g = frames_from g + tasks g

abbrev pub lists_from : Geometry → ℕ
lists_from g = registers_from g + g.registers * tasks g

abbrev pub spaces_from : Geometry → ℕ
spaces_from g = lists_from g + 2 * list_length g

-- the words of the row
abbrev pub row_length : Geometry → ℕ
row_length g = spaces_from g + 2 * space_words g
