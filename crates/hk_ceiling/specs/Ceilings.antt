-- Critical sections, told over the ticks that a job gets, and what they make of its priority.
use Rattle.std.specs.Prelude.{◌≡◌, ℕ, zero, suc, ◌+◌, ◌-◌, ◌<◌, ◌≤◌, Bool, ◌&&◌, nat_eq, nat_lt, nat_le, if◌then◌else◌, List, Option, Some, None, length, slice_index_or}
use Rattle.hk_ceiling.specs.declared.ceilings.TaskSection.{TaskSection}

-- a section of no tick, which stands for a place where there is none
abbrev pub no_section : TaskSection
no_section = record { task = 0; res = 0; start = 0; len = 0 }

-- the section at a place
abbrev pub section_at : List TaskSection → ℕ → TaskSection
section_at sections q = slice_index_or sections q no_section

-- a job of this task that has had so many ticks is inside the section: it has had its first tick and not its last
abbrev pub is_inside : TaskSection → ℕ → ℕ → Bool
is_inside s task done = nat_eq s.task task && (nat_lt s.start done && nat_lt done (s.start + s.len))

-- the lesser of two numbers
abbrev pub lesser : ℕ → ℕ → ℕ
lesser a b = if nat_lt a b then a else b

-- the least of a number and of the tasks that have a section of the resource, at places below n
unfoldable pub ceiling_below : List TaskSection → ℕ → ℕ → ℕ → ℕ
ceiling_below sections res task zero = task
ceiling_below sections res task (suc n) =
    let before = ceiling_below sections res task n in
    if nat_eq (section_at sections n).res res then lesser (section_at sections n).task before else before

-- the ceiling of the resource of the section at a place: the least task with a section of it
abbrev pub ceiling : List TaskSection → ℕ → ℕ
ceiling sections q = ceiling_below sections (section_at sections q).res (section_at sections q).task (length sections)

-- the section below n that a job is inside
unfoldable pub inside_below : List TaskSection → (task done : ℕ) → ℕ → Option ℕ
inside_below sections task done zero = None
inside_below sections task done (suc n) = if is_inside (section_at sections n) task done then Some n else inside_below sections task done n

abbrev pub inside_at : List TaskSection → (task done : ℕ) → Option ℕ
inside_at sections task done = inside_below sections task done (length sections)

-- the level of a job: the ceiling of the resource that it is inside of, and its task where it is inside none
abbrev pub level_of : List TaskSection → ℕ → Option ℕ → ℕ
level_of sections task None = task
level_of sections task (Some q) = ceiling sections q

abbrev pub level : List TaskSection → (task done : ℕ) → ℕ
level sections task done = level_of sections task (inside_at sections task done)

-- a later task's section of a resource whose ceiling is at most this task
abbrev pub can_block : List TaskSection → (task place : ℕ) → Bool
can_block sections i q = nat_lt i (section_at sections q).task && nat_le (ceiling sections q) i

abbrev pub greater : ℕ → ℕ → ℕ
greater a b = if nat_lt a b then b else a

-- the greatest len - 1 of such a section, at places below n
unfoldable pub block_below : List TaskSection → ℕ → ℕ → ℕ
block_below sections i zero = 0
block_below sections i (suc n) =
    let before = block_below sections i n in
    if can_block sections i n then greater before ((section_at sections n).len - 1) else before

-- how long a later task's section may hold a job of this task up
abbrev pub block : List TaskSection → ℕ → ℕ
block sections i = block_below sections i (length sections)

-- the sections of each task don't overlap
pub record AreApart (sections : List TaskSection) : Type 0 where
  pub apart : (p q : ℕ) → p < q → q < length sections → (section_at sections p).task ≡ (section_at sections q).task → (section_at sections p).start + (section_at sections p).len ≤ (section_at sections q).start

-- a job of this task that has had so many ticks is inside the section at a place
pub record Inside (sections : List TaskSection) (task done place : ℕ) : Type 0 where
  pub listed : place < length sections
  pub its : (section_at sections place).task ≡ task
  pub begun : (section_at sections place).start < done
  pub more : done < (section_at sections place).start + (section_at sections place).len
