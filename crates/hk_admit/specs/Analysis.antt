-- The numbers of the analysis of a sheet. Events are steps of the collector, one a tick; sizes are in words, times in ticks.
use Rattle.std.specs.Prelude.{ℕ, ◌+◌, ◌-◌, ◌*◌, ◌^◌, ◌≤◌, max, Bool, true, false, ◌||◌, ◌==◌, if◌then◌else◌, List, length, map, fold, sum_by}
use Rattle.std.specs.List.{list_any}
use Rattle.hk_words.specs.Bounds.{most_places, frame_events, object_events, cycle_events}
use Rattle.hk_rta.specs.declared.Timing.{Timing}
use Rattle.hk_rta.specs.declared.Load.{Load}
use Rattle.hk_rta.specs.Busy.{Busy}
use Rattle.hk_rta.specs.Demand.{starts_in}
use Rattle.hk_script.specs.declared.statement.Statement.{Statement}
use Rattle.hk_script.specs.declared.statement.Statement.TheVariants as statement
use Rattle.hk_script.specs.Cost.{largest_of}
use Rattle.hk_sheet.specs.declared.sheet.HeapKeys.{HeapKeys}
use Rattle.hk_sheet.specs.declared.sheet.High.{High}
use Rattle.hk_sheet.specs.declared.sheet.Low.{Low}
use Rattle.hk_sheet.specs.declared.sheet.Sheet.{Sheet}

-- the times of the high tasks, in sheet order
abbrev pub timings_of : List High → List Timing
timings_of tasks = map (λ (task : High). task.timing) tasks

-- THE CYCLE

-- an upper bound on the events of a whole collection cycle of a sheet's heap and tasks
abbrev pub cycle_work : Sheet → ℕ
cycle_work sheet = cycle_events sheet.heap.registers (length sheet.high + length sheet.low) sheet.heap.live sheet.heap.alloc

-- OBJECTS

-- the greatest of some sizes, 0 where there is none
abbrev pub greatest : List ℕ → ℕ
greatest sizes = fold max 0 sizes

-- the size of the largest object that each high task makes, and each low one, 0 where it makes none
abbrev pub high_sizes : List High → List ℕ
high_sizes tasks = map (λ (task : High). largest_of task.script) tasks

abbrev pub low_sizes : List Low → List ℕ
low_sizes tasks = map (λ (task : Low). largest_of task.script) tasks

-- the size of the largest object that a low task makes
abbrev pub largest_low : Sheet → ℕ
largest_low sheet = greatest (low_sizes sheet.low)

-- the size of the board: its link word and its fields
abbrev pub board_size : HeapKeys → ℕ
board_size heap = 1 + heap.refs + heap.nums

-- the size of the largest object that there can be: the board, or one that a task makes
abbrev pub largest_object : Sheet → ℕ
largest_object sheet = max (board_size sheet.heap) (max (greatest (high_sizes sheet.high)) (largest_low sheet))

-- a script makes an object
abbrev pub is_new : Statement → Bool
is_new (statement.New dest shape) = true
is_new s = false

abbrev pub makes : List Statement → Bool
makes script = list_any is_new script

-- some script of a task, high or low, makes an object
abbrev pub some_makes : Sheet → Bool
some_makes sheet = list_any (λ (task : High). makes task.script) sheet.high || list_any (λ (task : Low). makes task.script) sheet.low

-- THE ATTEMPT

-- The most events of an attempt that a job can spoil: the collector blackens a frame, or copies an object word by word,
-- and begins anew where a task has entered it meanwhile. Where nothing is made the collector owes nothing, so that
-- there is no attempt.
abbrev pub attempt_events : Sheet → ℕ
attempt_events sheet =
    if some_makes sheet then max (frame_events sheet.heap.registers) (object_events (largest_object sheet)) else 0

-- THE BUSY PERIOD

-- the events that a job of a high task can make the collector owe: the rate for each word that the task declares, and
-- an attempt that it spoils
abbrev pub job_events : (rate attempt : ℕ) → High → ℕ
job_events rate attempt task = rate * task.words + attempt

-- what a high task brings at each arrival, or up to its jitter later: its cost and the events of a job
abbrev pub load_of : (rate attempt : ℕ) → High → Load
load_of rate attempt task = record {
  period = task.timing.period;
  jitter = task.timing.jitter;
  work = task.timing.cost + job_events rate attempt task;
}

abbrev pub loads : Sheet → List Load
loads sheet = map (load_of sheet.heap.rate (attempt_events sheet)) sheet.high

-- a number that counts only where there is a low task
abbrev pub if_low : Sheet → ℕ → ℕ
if_low sheet n = if length sheet.low == 0 then 0 else n

-- the events that a low task can make the collector owe as a busy period begins, by the one operation that is then in
-- mid-course: the rate for each word of an object, and an attempt
abbrev pub low_events : Sheet → ℕ
low_events sheet = if_low sheet (sheet.heap.rate * largest_low sheet + attempt_events sheet)

-- the ticks that can wait as a busy period begins: those of the longest operation, and the low task's events
abbrev pub base : Sheet → ℕ
base sheet = if_low sheet (most_places + (sheet.heap.rate * largest_low sheet + attempt_events sheet))

-- x is the length of the busy period in ticks, and is at most 2^24: the least window that has room for what waits as it
-- begins and for all that the high tasks bring in it
pub record IsBusy (sheet : Sheet) (x : ℕ) : Type 0 where
  pub least : Busy (loads sheet) (base sheet) x
  pub short : x ≤ 2 ^ 24

-- THE DEBT

-- the events that the jobs of a high task which become ready in a window can make the collector owe: these jobs arrived
-- in it, or in the jitter before
abbrev pub events_in : (rate attempt window : ℕ) → High → ℕ
events_in rate attempt window task = starts_in (window + task.timing.jitter) task.timing.period * job_events rate attempt task

-- the most events that the collector can owe in a busy period of this length
abbrev pub most_owed : Sheet → ℕ → ℕ
most_owed sheet x = low_events sheet + sum_by (events_in sheet.heap.rate (attempt_events sheet) x) sheet.high

-- WHAT THE HEAP HAS ROOM FOR

-- the events that the collector does while the words outside the reserve are taken, but for those of one object
abbrev pub events_outside : Sheet → ℕ
events_outside sheet = sheet.heap.rate * (sheet.heap.alloc - sheet.heap.reserve - largest_low sheet)

-- the events that the words of the reserve stand for
abbrev pub events_in_reserve : Sheet → ℕ
events_in_reserve sheet = sheet.heap.rate * sheet.heap.reserve
