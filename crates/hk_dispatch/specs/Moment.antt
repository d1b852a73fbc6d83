-- Where a session stands between two ticks. Ticks count from 0; tick t lies between the moments t and t + 1.
use Rattle.std.specs.Prelude.{ℕ, List, length, replicate, slice_index_or, Option, None}
use Rattle.hk_words.specs.declared.geometry.Geometry.{Geometry}
use Rattle.hk_model.specs.Heap.{Heap, opening_of}
use Rattle.hk_model.specs.History.{History, after}
use Rattle.hk_core.specs.State.{State}
use Rattle.hk_collect.specs.Taken.{used_in}
use Rattle.hk_collect.specs.Used.{Trace, trace_opening}
use Rattle.hk_script.specs.declared.walk.Need.{Need}
use Rattle.hk_script.specs.declared.walk.Walk.{Walk}
use Rattle.hk_script.specs.Walks.{started, need_of}
use Rattle.hk_sheet.specs.declared.sheet.Sheet.{Sheet}
use Rattle.hk_dispatch.specs.Tasks.{tasks_of, task_at}

-- A TASK. Where a task stands: the number of the job that is under way or comes next, which is how many have ended; that
-- job's walk, the ticks that it has had of the statement at which the walk is, and the ticks and the words that it has had
-- in all; and the most ticks from the arrival of an ended job to its end.
pub record Course : Type 0 where
  pub job : ℕ
  pub walk : Walk
  pub spent : ℕ
  pub had : ℕ
  pub took : ℕ
  pub latest : ℕ

abbrev pub no_course : Course
no_course = record { job = 0; walk = started 0; spent = 0; had = 0; took = 0; latest = 0 }

-- A MOMENT. The run of the heap so far, with the history at the last flip; the course of each seat; the events that the
-- collector owes, and the useful ones of this cycle; the flips, the events and the ticks of nobody so far; the words that
-- were taken so far, the events of all lost attempts, and the objects for which low tasks took words; and the words that
-- the collector found reserved, once these were more than the space has for evacuation.
pub record Moment : Type 0 where
  pub trace : Trace
  pub courses : List Course
  pub debt : ℕ
  pub useful : ℕ
  pub flips : ℕ
  pub events : ℕ
  pub idle : ℕ
  pub taken : ℕ
  pub lost : ℕ
  pub low_objects : ℕ
  pub over : Option ℕ

unfoldable pub opening : Geometry → Sheet → Moment
opening g sheet = record {
  trace = trace_opening g;
  courses = replicate (length (tasks_of sheet)) no_course;
  debt = 0;
  useful = 0;
  flips = 0;
  events = 0;
  idle = 0;
  taken = 0;
  lost = 0;
  low_objects = 0;
  over = None;
}

-- the machine of the heap, and the calls that were done on it, with what each answered
abbrev pub core_of : Moment → State
core_of m = m.trace.running.core

abbrev pub history_of : Moment → History
history_of m = m.trace.running.history

-- the words used for allocation since the last flip
abbrev pub used_at : Moment → ℕ
used_at m = used_in (core_of m)

-- the heap that never collects, after the calls so far, and as it was at the last flip
abbrev pub plain_heap : Geometry → Moment → Heap
plain_heap g m = after (opening_of g) (history_of m)

abbrev pub flip_heap : Geometry → Moment → Heap
flip_heap g m = after (opening_of g) m.trace.at_flip

-- the course of a seat, and what the statement at which its walk is wants
abbrev pub course_at : Moment → (seat : ℕ) → Course
course_at m seat = slice_index_or m.courses seat no_course

abbrev pub need_at : Sheet → Moment → (seat : ℕ) → Option Need
need_at sheet m seat = need_of (task_at sheet seat).script (course_at m seat).walk
