-- The task sheet that is made for a number.
use Rattle.std.specs.Prelude.{ℕ, zero, suc, ◌+◌, ◌*◌, ◌/◌, ◌%◌, ◌^◌, List, [], ◌∷◌, ◌++◌, codes, decimal}
use Rattle.std.proofs.Common.{refl, ltb-true, leb-true}
use Rattle.hk_words.specs.declared.shape.Shape.{Shape}
use Rattle.hk_words.specs.Draws.{next, draw}
use Rattle.hk_script.specs.declared.statement.Statement.{Statement}
use Rattle.hk_script.specs.declared.statement.Statement.TheVariants.{Job, New, Put, Get, Load, Store, If, Else, End, Add, Out, Clear, Work}
use Rattle.hk_script.specs.declared.statement.Test.TheVariants.{Null}
use Rattle.hk_sheet.specs.declared.arrivals.Arrivals.TheVariants.{Every}
use Rattle.hk_sheet.specs.declared.sheet.HeapKeys.{HeapKeys}
use Rattle.hk_sheet.specs.declared.sheet.High.{High}
use Rattle.hk_sheet.specs.declared.sheet.Low.{Low}
use Rattle.hk_sheet.specs.declared.sheet.Sheet.{Sheet}

-- DRAWS

-- the state after so many draws
abbrev pub after : (draws state : ℕ) → ℕ
after zero state = state
after (suc draws) state = next (after draws state)

-- SCRIPTS. Each job makes an object that refers to that of the job before, takes its place in field i of the board, and
-- cuts it off from the one before it, by register 3, which is never written and so is null: a chain has two objects at most.

-- an object of a reference field and two number fields, and one of a reference field and three number fields
abbrev pub high_shape : Shape
high_shape = record { refs = 1; nums = 2; some = ltb-true 0 3 refl; few = leb-true 3 254 refl }

abbrev pub low_shape : Shape
low_shape = record { refs = 1; nums = 3; some = ltb-true 0 4 refl; few = leb-true 4 254 refl }

-- The script of a high task, which works for so many ticks at its end: `job v0`, `new r1 1 2`, `put r1 0 v0`,
-- `load r2 r0 i`, `if null r2`, `else`, `store r2 0 r3`, `get v1 r2 0`, `end`, `store r1 0 r2`, `store r0 i r1`,
-- `add v0 v1`, `out v0`, `clear r1`, `clear r2`, `work w`
abbrev pub high_script : (i work : ℕ) → List Statement
high_script i work =
    Job 0
    ∷ New 1 high_shape
    ∷ Put 1 0 0
    ∷ Load 2 0 i
    ∷ If (Null 2)
    ∷ Else
    ∷ Store 2 0 3
    ∷ Get 1 2 0
    ∷ End
    ∷ Store 1 0 2
    ∷ Store 0 i 1
    ∷ Add 0 1
    ∷ Out 0
    ∷ Clear 1
    ∷ Clear 2
    ∷ Work work
    ∷ []

-- The script of a low task: `job v0`, `new r1 1 3`, `put r1 0 v0`, `load r2 r0 i`, `if null r2`, `else`, `store r2 0 r3`,
-- `end`, `store r1 0 r2`, `store r0 i r1`, `clear r1`, `clear r2`
abbrev pub low_script : (i : ℕ) → List Statement
low_script i =
    Job 0
    ∷ New 1 low_shape
    ∷ Put 1 0 0
    ∷ Load 2 0 i
    ∷ If (Null 2)
    ∷ Else
    ∷ Store 2 0 3
    ∷ End
    ∷ Store 1 0 2
    ∷ Store 0 i 1
    ∷ Clear 1
    ∷ Clear 2
    ∷ []

-- TASKS

-- the high task i by its numbers: the ticks of its last statement, its period, which is its deadline too, and its first
-- arrival
abbrev pub high_task : (i work period first : ℕ) → High
high_task i work period first = record {
  name = codes "h" ++ decimal i;
  timing = record { cost = 50 + work; period = period; deadline = period; jitter = 0 };
  words = 4;
  lag = 0;
  arrivals = Every first period;
  script = high_script i work;
}

-- the low task i, whose field of the board is that of task 3 + i, by its numbers: its period and its first arrival
abbrev pub low_task : (i period first : ℕ) → Low
low_task i period first = record {
  name = codes "l" ++ decimal i;
  arrivals = Every first period;
  script = low_script (3 + i);
}

-- the high task i of three draws from a state: work of 1 to 20 ticks; a period of 400 to 499 ticks for task 0, of 800 to
-- 999 for task 1 and of 1600 to 1999 for task 2; and a first arrival below 100
abbrev pub high_drawn : (i state : ℕ) → High
high_drawn i state = high_task i (1 + draw 20 state) (400 * 2 ^ i + draw (100 * 2 ^ i) (after 1 state)) (draw 100 (after 2 state))

-- the low task i of two draws from a state: a period of 900 to 1199 ticks, and a first arrival below 100
abbrev pub low_drawn : (i state : ℕ) → Low
low_drawn i state = low_task i (900 + draw 300 state) (draw 100 (after 1 state))

-- THE SHEET

-- the heap: 256 words for evacuation, 2,048 for allocation with 64 of them in reserve, nine events for a word, and a
-- board of five reference fields, one for each task, and a number field
abbrev pub made_heap : HeapKeys
made_heap = record { live = 256; alloc = 2048; reserve = 64; rate = 9; refs = 5; nums = 1; registers = 8; fields = 62 }

-- a run of 200,000 ticks with this heap and some tasks
abbrev pub sheet_of : List High → List Low → Sheet
sheet_of high low = record { ticks = 200000; heap = made_heap; high = high; low = low }

-- The sheet for a number, which is the first state: three high tasks of three draws each, and then two low ones of two
unfoldable pub made : (number : ℕ) → Sheet
made number =
    sheet_of
    (high_drawn 0 number ∷ high_drawn 1 (after 3 number) ∷ high_drawn 2 (after 6 number) ∷ [])
    (low_drawn 0 (after 9 number) ∷ low_drawn 1 (after 11 number) ∷ [])
