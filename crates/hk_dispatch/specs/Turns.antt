-- Who gets a tick.
use Rattle.std.specs.Prelude.{ℕ, ◌+◌, Bool, true, false, ◌&&◌, nat_lt, List, [], ◌∷◌, find, length, Option, Some, None, if◌then◌else◌}
use Rattle.std.specs.List.{range_with_len}
use Rattle.hk_script.specs.declared.walk.Need.{Need}
use Rattle.hk_script.specs.declared.walk.Need.TheVariants as need
use Rattle.hk_sheet.specs.declared.sheet.High.{High}
use Rattle.hk_sheet.specs.declared.sheet.Sheet.{Sheet}
use Rattle.hk_sheet.specs.Arrivals.{arrival_of}
use Rattle.hk_plan.specs.declared.Ready.{Ready}
use Rattle.hk_dispatch.specs.Tasks.{Task, task_at, high_at, is_by}
use Rattle.hk_dispatch.specs.Moment.{Course, Moment, course_at, need_at}
use Rattle.hk_plan.specs.AloneBy.{rows_below, chosen_task}

-- a tick goes to the task of a seat, to the collector, or to nobody
pub data Turn : Type 0 where
  to_task : ℕ → Turn
  to_collector : Turn
  to_nobody : Turn

-- READY JOBS

-- a task has a ready job at a tick: its job that comes next has become ready by then. Jobs of one task run one after the
-- other
abbrev pub is_ready : Task → Course → (tick : ℕ) → Bool
is_ready task course tick = is_by (task.ready course.job) tick

-- the ready job of a high task as the choice sees it
abbrev pub arrived : Option ℕ → ℕ
arrived None = 0
arrived (Some arrival) = arrival

abbrev pub row_of : (seat : ℕ) → High → Course → Ready
row_of seat task course =
    let arrival = arrived (arrival_of task.arrivals course.job) in
    record { task = seat; job = course.job; arrival = arrival; deadline = arrival + task.timing.deadline; done = course.had }

-- the ready jobs of the high tasks, one for each task that has one, in the order of the sheet
abbrev pub ready_row : Sheet → Moment → (tick seat : ℕ) → List Ready
ready_row sheet m tick seat = if is_ready (task_at sheet seat) (course_at m seat) tick then row_of seat (high_at sheet seat) (course_at m seat) ∷ [] else []

unfoldable pub ready_rows : Sheet → Moment → (tick : ℕ) → List Ready
ready_rows sheet m tick = rows_below (ready_row sheet m tick) (length sheet.high)

-- OPERATIONS IN MID-COURSE

-- what a job wants is an operation on the heap
abbrev pub is_operation : Option Need → Bool
is_operation (Some (need.Heap c)) = true
is_operation (Some (need.Ask c)) = false
is_operation (Some (need.Work n)) = false
is_operation (Some need.Local) = false
is_operation (Some (need.Out value)) = false
is_operation None = false

-- an operation is in mid-course: its first place was done, and its last one wasn't
unfoldable pub in_mid_course : Sheet → Moment → (seat : ℕ) → Bool
in_mid_course sheet m seat = is_operation (need_at sheet m seat) && nat_lt 0 (course_at m seat).spent

-- the first low seat, in the order of the sheet, of which a test holds
unfoldable pub first_low : Sheet → (ℕ → Bool) → Option ℕ
first_low sheet test = find test (range_with_len (length sheet.high) (length sheet.low))

-- THE FIVE RULES

-- the tick goes to the task of this seat, or else
abbrev pub or_else : Option ℕ → Turn → Turn
or_else (Some seat) other = to_task seat
or_else None other = other

-- A tick goes, by the first rule that applies:
-- 1. to the high task with a ready job that the choice names;
-- 2. to the low operation that is in mid-course;
-- 3. to the collector, where it owes an event;
-- 4. to the first low task with a ready job;
-- 5. to nobody.
unfoldable pub turn : (List Ready → ℕ) → Sheet → Moment → (tick : ℕ) → Turn
turn choice sheet m tick =
    or_else (chosen_task choice (ready_rows sheet m tick))
    (or_else (first_low sheet (in_mid_course sheet m))
    (if nat_lt 0 m.debt then to_collector
    else or_else (first_low sheet (λ seat. is_ready (task_at sheet seat) (course_at m seat) tick)) to_nobody))
