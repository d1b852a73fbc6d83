-- The heap that never collects: every object that was ever made, in order of birth, and the registers of the tasks.
use Rattle.std.specs.Prelude.{◌≡◌, ℕ, ◌-◌, ◌<◌, List, [], ◌∷◌, length, replicate, slice_get, slice_index, slice_index_or, Option, Some, None, unwrap_or, option_map}
use Rattle.hk_words.specs.declared.geometry.Geometry.{Geometry}
use Rattle.hk_words.specs.declared.shape.Shape.{Shape}
use Rattle.hk_words.specs.Geometry.{tasks}

-- an object: its shape, its reference cells and its number cells; a reference cell holds null or a birth
pub record Object : Type 0 where
  pub shape : Shape
  pub refs : List (Option ℕ)
  pub nums : List ℕ

-- the objects in order of birth, so that a birth is a place in this list, and for each task the list of its
-- registers; a register holds null or a birth
pub record Heap : Type 0 where
  pub objects : List Object
  pub registers : List (List (Option ℕ))

-- how many objects were born: the next birth
unfoldable pub born : Heap → ℕ
born h = length h.objects

-- what a register of a seat holds
unfoldable pub register : Heap → ℕ → ℕ → Option ℕ
register h seat reg = slice_index_or (slice_index_or h.registers seat []) reg None

-- how many registers the task of a seat has
unfoldable pub register_count : Heap → ℕ → ℕ
register_count h seat = length (slice_index_or h.registers seat [])

-- what is read from the object of a birth, and the given value where there is no such birth
unfoldable pub of_object : {A : Type 0} → A → (Object → A) → Heap → ℕ → A
of_object absent read h birth = unwrap_or (option_map read (slice_get h.objects birth)) absent

-- how many reference fields the object of a birth has
unfoldable pub refs : Heap → ℕ → ℕ
refs = of_object 0 (λ object. object.shape.refs)

-- how many number fields it has
unfoldable pub nums : Heap → ℕ → ℕ
nums = of_object 0 (λ object. object.shape.nums)

-- what a reference field of the object of a birth holds
unfoldable pub link : Heap → ℕ → ℕ → Option ℕ
link h birth field = of_object None (λ object. slice_index_or object.refs field None) h birth

-- what a number field of the object of a birth holds
unfoldable pub value : Heap → ℕ → ℕ → ℕ
value h birth field = of_object 0 (λ object. slice_index object.nums field) h birth

-- an object as it is made: its cells are null and 0
unfoldable pub made : Shape → Object
made shape = record { shape = shape; refs = replicate shape.refs None; nums = replicate shape.nums 0 }

-- the registers of a task at the start: register 0 refers to the board, which is birth 0, and the others are null
unfoldable pub first_registers : ℕ → List (Option ℕ)
first_registers count = Some 0 ∷ replicate (count - 1) None

-- the heap at the start: the board alone, for so many tasks with so many registers each
unfoldable pub opening : ℕ → ℕ → Shape → Heap
opening tasks count board = record { objects = made board ∷ []; registers = replicate tasks (first_registers count) }

-- the heap at the start that a geometry stands for
unfoldable pub opening_of : Geometry → Heap
opening_of g = opening (tasks g) g.registers g.board

-- what every call keeps of a heap for so many tasks with so many registers each
pub record IsHeap (tasks count : ℕ) (h : Heap) : Type 0 where
  -- each task has a list of registers, of the same length
  pub tasks_are : length h.registers ≡ tasks
  pub registers_are : (seat : ℕ) → seat < tasks → register_count h seat ≡ count
  -- there is a board
  pub has_board : 0 < born h
  -- what a register or a reference cell refers to was born
  pub register_born : (seat reg birth : ℕ) → register h seat reg ≡ Some birth → birth < born h
  pub link_born : (owner field birth : ℕ) → link h owner field ≡ Some birth → birth < born h
  -- each object has the cells of its shape
  pub refs_are : (birth : ℕ) → of_object 0 (λ object. length object.refs) h birth ≡ refs h birth
  pub nums_are : (birth : ℕ) → of_object 0 (λ object. length object.nums) h birth ≡ nums h birth

-- the same of a heap that itself says how many tasks there are, and by its first task how many registers each has
abbrev pub IsPlain : Heap → Type 0
IsPlain h = IsHeap (length h.registers) (register_count h 0) h

-- register 0 of each of so many tasks refers to the board
abbrev pub HoldsBoard : (tasks : ℕ) → Heap → Type 0
HoldsBoard tasks h = (seat : ℕ) → seat < tasks → register h seat 0 ≡ Some 0

-- the tasks of two heaps are as many, and each has as many registers
abbrev pub KeepsTasks : (old new : Heap) → Type 0
KeepsTasks old new = (length new.registers ≡ length old.registers) × ((seat : ℕ) → register_count new seat ≡ register_count old seat)
