-- The log that is made for a number: actions that are drawn one after another, each with its answer.
use Rattle.std.specs.Prelude.{ℕ, zero, suc, ◌+◌, ◌==◌, nat_lt, List, [], ◌∷◌, ◌++◌, codes, decimal, Option, Some, None, if◌then◌else◌}
use Rattle.std.proofs.Common.{refl, arith}
use Rattle.hk_words.specs.declared.call.Call.{Call}
use Rattle.hk_words.specs.declared.call.Call.TheVariants as call
use Rattle.hk_words.specs.declared.geometry.Geometry.{Geometry}
use Rattle.hk_words.specs.declared.shape.Shape.{Shape}
use Rattle.hk_words.specs.Draws.{next, drawn}
use Rattle.hk_core.specs.State.{State, opening}
use Rattle.hk_core.specs.Run.{Action, begin, step, collect, is_busy}
use Rattle.hk_replay.specs.declared.log_line.LogLine.{LogLine}
use Rattle.hk_replay.specs.Answers.{answered, core_after}
use Rattle.hk_replay.specs.Printing.{text_of_words, text_of}

-- a shape of below 3 reference fields, and 1 or 2 number fields
unfoldable pub drawn_shape : (refs nums : ℕ) → Shape
drawn_shape refs nums = record { refs = drawn 3 refs; nums = 1 + drawn 2 nums; some = omega arith; few = omega arith }

-- A CALL, by its kind and the states after the draws of its words, in their order
unfoldable pub call_by : (kind first second third : ℕ) → Call
call_by kind first second third =
    if kind == 0 then call.Get (drawn 4 first) (drawn 2 second)
    else if kind == 1 then call.Put (drawn 4 first) (drawn 2 second) (drawn 1000 third)
    else if kind == 2 then call.Load (1 + drawn 3 first) (drawn 4 second) (drawn 2 third)
    else if kind == 3 then call.Store (drawn 4 first) (drawn 2 second) (drawn 4 third)
    else if kind == 4 then call.Move (1 + drawn 3 first) (drawn 4 second)
    else if kind == 5 then call.Clear (1 + drawn 3 first)
    else call.New (1 + drawn 3 first) (drawn_shape second third)

-- and the state after its last draw
unfoldable pub state_by : (kind first second third : ℕ) → ℕ
state_by kind first second third =
    if kind == 0 then second
    else if kind == 4 then second
    else if kind == 5 then first
    else third

-- what a state draws: the call, and the state after it
unfoldable pub call_drawn : ℕ → Call
call_drawn x =
    let kind = next x in let first = next kind in let second = next first in
    call_by (drawn 7 kind) first second (next second)

unfoldable pub after_call : ℕ → ℕ
after_call x =
    let kind = next x in let first = next kind in let second = next first in
    state_by (drawn 7 kind) first second (next second)

-- AN ACTION. Of five numbers, two are the collector's, and three a seat's, which steps where it has a call in flight and
-- else begins one
abbrev pub seat_action : State → (seat x : ℕ) → Action
seat_action c seat x = if is_busy c seat then step seat else begin seat (call_drawn x)

abbrev pub after_seat : State → (seat x : ℕ) → ℕ
after_seat c seat x = if is_busy c seat then x else after_call x

unfoldable pub action_drawn : State → ℕ → Action
action_drawn c x = if nat_lt (drawn 5 (next x)) 3 then seat_action c (drawn 5 (next x)) (next x) else collect

unfoldable pub after_action : State → ℕ → ℕ
after_action c x = if nat_lt (drawn 5 (next x)) 3 then after_seat c (drawn 5 (next x)) (next x) else next x

-- THE LOG

-- the text of a line, if there is one
abbrev pub text_if : Option LogLine → List ℕ
text_if None = []
text_if (Some line) = text_of line

-- the lines of so many actions, each drawn in the state that the ones before it left
unfoldable pub made_lines : (count : ℕ) → State → (x : ℕ) → List ℕ
made_lines zero c x = []
made_lines (suc count) c x = text_if (answered c (action_drawn c x)) ++ made_lines count (core_after c (action_drawn c x)) (after_action c x)

-- the heap: 64 words for evacuation, 64 for allocation with 16 of them in reserve, two high tasks and a low one
abbrev pub made_board : Shape
made_board = record { refs = 2; nums = 1; some = omega arith; few = omega arith }

abbrev pub made_geometry : Geometry
made_geometry = record {
  live = 64;
  alloc = 64;
  reserve = 16;
  high = 2;
  low = 1;
  registers = 8;
  board = made_board;
  first_mark = 98;
  first_frame = 194;
  first_register = 197;
  first_entry = 221;
  first_word = 285;
  live_even = refl;
  alloc_even = refl;
  board_fits = omega arith;
  alloc_enough = omega arith;
  live_few = omega arith;
  alloc_few = omega arith;
  reserve_within = omega arith;
  tasks_some = omega arith;
  tasks_few = omega arith;
  registers_some = omega arith;
  registers_few = omega arith;
  marks_begin = refl;
  frames_begin = refl;
  registers_begin = refl;
  entries_begin = refl;
  words_begin = refl;
}

abbrev pub made_heading : List ℕ
made_heading = text_of_words (codes "heap" ∷ decimal 64 ∷ decimal 64 ∷ decimal 16 ∷ decimal 2 ∷ decimal 1 ∷ decimal 2 ∷ decimal 1 ∷ [])

abbrev pub made_actions : ℕ
made_actions = 20000

-- the log for a number, which is the first state of the draws
unfoldable pub made_log : ℕ → List ℕ
made_log n = made_heading ++ made_lines made_actions (opening made_geometry) n
