-- A session as contracts see it, and how its fields show where it stands.
use Rattle.std.specs.Prelude.{◌≡◌, ℕ, suc, ◌*◌, ◌^◌, ◌<◌, ◌≤◌, min, Bool, true, false, List, length, slice_index_or, slice_set, Option, Some, None}
use Rattle.std.specs.List.{remove, slice_range}
use Rattle.hk_words.specs.declared.geometry.Geometry.{Geometry}
use Rattle.hk_words.specs.Geometry.{HasSizes, tasks}
use Rattle.hk_core.specs.State.{IsSized}
use Rattle.hk_plan.specs.declared.Ready.{Ready}
use Rattle.hk_plan.specs.AloneBy.{ready_at}
use Rattle.hk_sheet.specs.declared.sheet.High.{High}
use Rattle.hk_sheet.specs.declared.sheet.Sheet.{Sheet}
use Rattle.hk_sheet.specs.Faults.{sizes_of}
use Rattle.hk_sheet.specs.Valid.{IsSheet}
use Rattle.hk_dispatch.specs.declared.run.TaskRun.{TaskRun}
use Rattle.hk_dispatch.specs.declared.roster.Roster.{Roster}
use Rattle.hk_dispatch.specs.declared.run.Done.{Done}
use Rattle.hk_dispatch.specs.declared.stand.Stand.{Stand}
use Rattle.hk_dispatch.specs.declared.tick.Tick.{Tick}
use Rattle.hk_dispatch.specs.Tasks.{IsLowSeat, tasks_of, no_high, task_at}
use Rattle.hk_dispatch.specs.Moment.{Moment, no_course, core_of, course_at, need_at}
use Rattle.hk_dispatch.specs.Turns.{Turn, is_ready, arrived, ready_rows, first_low, in_mid_course}
use Rattle.hk_dispatch.specs.Kept.{OneLow}
use Rattle.hk_dispatch.specs.Jobs.{JobsKept}
use Rattle.hk_dispatch.specs.Ticks.{after_task, after_turn, left_by}
use Rattle.hk_dispatch.specs.Told.{out_of, end_of, told_turn}
use Rattle.hk_dispatch.specs.Session.{state}
use Rattle.hk_dispatch.specs.TaskRuns.{ShowsCourse}

-- what a session was opened with, which is a checked sheet with its numbers and a choice; its geometry; and how many ticks it
-- was given
pub record Opened (A : Type 0) : Type 0 where
  pub sheet : Sheet
  pub work : ℕ
  pub attempt : ℕ
  pub busy : ℕ
  pub debt : ℕ
  pub geometry : Geometry
  pub pick : A
  pub given : ℕ

-- THE TASKS

-- the runs of all tasks, the high ones first
pub record ShowsCourses (sheet : Sheet) (m : Moment) (runs : List TaskRun) : Type 0 where
  pub all : length runs ≡ length (tasks_of sheet)
  pub each : (seat : ℕ) (d : TaskRun) → seat < length (tasks_of sheet) → ShowsCourse (task_at sheet seat) (course_at m seat) (slice_index_or runs seat d)

-- before the first tick
pub record ShowsStart (sheet : Sheet) (runs : List TaskRun) : Type 0 where
  pub all : length runs ≡ length (tasks_of sheet)
  pub each : (seat : ℕ) (d : TaskRun) → seat < length (tasks_of sheet) → ShowsCourse (task_at sheet seat) no_course (slice_index_or runs seat d)

-- THE READY JOBS

-- what the roster looks at: at most 31 tasks, the high ones first, whose deadlines and moments fit 64 bits
pub record MayLook (high : List High) (runs : List TaskRun) (tick : ℕ) : Type 0 where
  pub few : length runs ≤ 31
  pub high_first : length high ≤ length runs
  pub deadline : (seat : ℕ) → seat < length high → (slice_index_or high seat no_high).timing.deadline ≤ 2 ^ 24
  pub arrival : (seat : ℕ) (d : TaskRun) (ready : ℕ) → seat < length runs → (slice_index_or runs seat d).ready ≡ Some ready → arrived (slice_index_or runs seat d).arrival ≤ ready
  pub early : tick < 2 ^ 24

-- the rows that stand in a roster: of those that were found, all but the first ones, which are gone
abbrev pub rows_of : Roster → List Ready
rows_of roster = slice_range roster.rows roster.gone roster.count

-- no more are gone than were found, and those are at most 31
pub record HasRoom (roster : Roster) : Type 0 where
  pub gone : roster.gone ≤ roster.count
  pub few : roster.count ≤ 31

-- the roster has the rows of the high jobs that are ready at a tick and the first low task with a ready job, and knows when
-- the next look is due
pub record ShowsReady (sheet : Sheet) (m : Moment) (tick : ℕ) (roster : Roster) : Type 0 where
  pub rows : rows_of roster ≡ ready_rows sheet m tick
  pub low : roster.low ≡ first_low sheet (λ seat. is_ready (task_at sheet seat) (course_at m seat) tick)
  pub later : (seat ready : ℕ) → seat < length (tasks_of sheet) → (task_at sheet seat).ready (course_at m seat).job ≡ Some ready
      → tick < ready → roster.stale_from ≤ ready

-- where a tick ended a low job, the tasks are looked through at the next one
abbrev pub roster_after : (ended : Bool) → Roster → Roster
roster_after false roster = roster
roster_after true roster = record roster { stale_from = 0 }

-- where a tick ended the high job of a row, the row is gone; else the row counts the ticks that the job has had
abbrev pub rows_after : (ended : Bool) → (place had : ℕ) → List Ready → List Ready
rows_after false place had rows = slice_set rows place (record (ready_at rows place) { done = had })
rows_after true place had rows = remove rows place

-- a look is due no later than a job becomes ready, where there is that job
abbrev pub due_by : (next : Option ℕ) → (due : ℕ) → ℕ
due_by None due = due
due_by (Some ready) due = min due ready

-- and where the tick ended the high job, a look is due no later than its task's next job becomes ready
abbrev pub due_after : (ended : Bool) → (next : Option ℕ) → (due : ℕ) → ℕ
due_after false next due = due
due_after true next due = due_by next due

-- the high job of a row had a tick, after which its task stands so
pub record HighWent (place : ℕ) (run : TaskRun) (ended : Bool) (before after : Roster) : Type 0 where
  pub room : HasRoom after
  pub rows : rows_of after ≡ rows_after ended place run.had (rows_of before)
  pub low : after.low ≡ before.low
  pub due : after.stale_from ≡ due_after ended run.ready before.stale_from

-- THE WHOLE

-- the fields show a moment, after which a tick is the next
pub record Shows (sheet : Sheet) (m : Moment) (tick : ℕ) (s : Stand) : Type 0 where
  pub heap_is : s.heap ≡ core_of m
  pub courses : ShowsCourses sheet m s.tasks.items
  pub roster_room : HasRoom s.roster
  pub roster_is : tick < s.roster.stale_from → ShowsReady sheet m tick s.roster
  pub in_mid_is : m.over ≡ None → s.in_mid_course ≡ first_low sheet (in_mid_course sheet m)
  pub debt_is : s.debt ≡ m.debt
  pub flips_is : s.flips ≡ m.flips
  pub events_is : s.events ≡ m.events
  pub idle_is : s.idle ≡ m.idle
  pub over_is : s.over ≡ m.over

-- the numbers fit 64 bits: each tick adds at most one to the counts, and less than 2 ^ 33 events to the debt
pub record Fit (given : ℕ) (s : Stand) : Type 0 where
  pub debt_few : s.debt ≤ given * 2 ^ 33
  pub flips_few : s.flips ≤ given
  pub events_few : s.events ≤ given
  pub idle_few : s.idle ≤ given

-- where a session stands: it was given at most the ticks of its sheet
pub record Stands (choice : List Ready → ℕ) (sheet : Sheet) (given : ℕ) (s : Stand) : Type 0 where
  pub sizes : HasSizes s.heap.geometry (sizes_of sheet)
  pub within : given ≤ sheet.ticks
  pub shows : Shows sheet (state s.heap.geometry choice sheet given) given s
  pub fit : Fit given s

-- A TICK

-- what is known of a moment after which a tick is given
pub record MayGo (sheet : Sheet) (m : Moment) (tick : ℕ) : Type 0 where
  pub readable : IsSheet sheet
  pub within : tick < sheet.ticks
  pub going : m.over ≡ None
  pub seats : tasks (core_of m).geometry ≡ length (tasks_of sheet)
  pub registers : sheet.heap.registers ≡ (core_of m).geometry.registers
  pub sized : IsSized (core_of m)
  pub jobs : JobsKept sheet m tick
  pub one_low : OneLow sheet m

-- the fields show it
pub record Before (sheet : Sheet) (m : Moment) (tick : ℕ) (s : Stand) : Type 0 where
  pub may : MayGo sheet m tick
  pub shows : Shows sheet m tick s
  pub fit : Fit tick s

-- and the roster was looked through where that was due
pub record AtTurn (sheet : Sheet) (m : Moment) (tick : ℕ) (s : Stand) : Type 0 where
  pub before : Before sheet m tick s
  pub ready : ShowsReady sheet m tick s.roster

-- no other low operation is in mid-course
abbrev pub OnlyLow : Sheet → Moment → (seat : ℕ) → Type 0
OnlyLow sheet m seat = (other : ℕ) → IsLowSeat sheet other → in_mid_course sheet m other ≡ true → other ≡ seat

-- the job of a seat had the tick: what it did, and what it left
pub record Gave (sheet : Sheet) (m : Moment) (tick seat : ℕ) (s : Stand) (done : Done) : Type 0 where
  pub heap_is : s.heap ≡ core_of (after_task sheet m tick seat)
  pub courses : ShowsCourses sheet (after_task sheet m tick seat) s.tasks.items
  pub debt_is : s.debt ≡ (after_task sheet m tick seat).debt
  pub debt_few : s.debt ≤ suc tick * 2 ^ 33
  pub out_is : done.out ≡ out_of (need_at sheet m seat)
  pub end_is : done.end ≡ end_of (task_at sheet seat) (course_at m seat).job (course_at m seat).walk tick (left_by (core_of m) seat (course_at m seat).spent (need_at sheet m seat))
  pub mid_course_is : done.mid_course ≡ in_mid_course sheet (after_task sheet m tick seat) seat

-- somebody had the tick: what it answers, and what it left
pub record Went (sheet : Sheet) (m : Moment) (tick : ℕ) (turn : Turn) (s : Stand) (answer : Tick) : Type 0 where
  pub answer_is : answer ≡ told_turn sheet m tick turn
  pub shows : Shows sheet (after_turn sheet m tick turn) (suc tick) s
  pub fit : Fit (suc tick) s
