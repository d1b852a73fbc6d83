-- What a tick of a session answers.
use Rattle.std.specs.Prelude.{ℕ, ◌+◌, ◌-◌, Bool, true, false, nat_lt, List, length, Option, Some, None, if◌then◌else◌}
use Rattle.hk_words.specs.declared.geometry.Geometry.{Geometry}
use Rattle.hk_core.specs.declared.outcome.Fault.{Fault}
use Rattle.hk_core.specs.declared.outcome.Fault.TheVariants as refused
use Rattle.hk_core.specs.declared.spot.Work.{Work}
use Rattle.hk_core.specs.declared.spot.Work.TheVariants as work
use Rattle.hk_core.specs.Collect.{work_by_collector}
use Rattle.hk_script.specs.declared.walk.Need.{Need}
use Rattle.hk_script.specs.declared.walk.Need.TheVariants as need
use Rattle.hk_script.specs.declared.walk.Walk.{Walk}
use Rattle.hk_script.specs.Walks.{walk_after}
use Rattle.hk_sheet.specs.declared.sheet.Sheet.{Sheet}
use Rattle.hk_plan.specs.declared.Ready.{Ready}
use Rattle.hk_dispatch.specs.declared.operation.Left.{Left}
use Rattle.hk_dispatch.specs.declared.operation.Left.TheVariants as left
use Rattle.hk_dispatch.specs.declared.tick.Chore.{Chore}
use Rattle.hk_dispatch.specs.declared.tick.Chore.TheVariants as chore
use Rattle.hk_dispatch.specs.declared.tick.Who.{Who}
use Rattle.hk_dispatch.specs.declared.tick.Who.TheVariants as who
use Rattle.hk_dispatch.specs.declared.tick.JobFault.{JobFault}
use Rattle.hk_dispatch.specs.declared.tick.End.{End}
use Rattle.hk_dispatch.specs.declared.tick.Tick.{Tick}
use Rattle.hk_dispatch.specs.declared.tick.Tick.TheVariants as tick
use Rattle.hk_dispatch.specs.Tasks.{Task, task_at, is_high}
use Rattle.hk_dispatch.specs.Moment.{Moment, core_of, course_at, need_at}
use Rattle.hk_dispatch.specs.Turns.{Turn, to_task, to_collector, to_nobody, turn}
use Rattle.hk_dispatch.specs.Ticks.{stay, is_over, left_by, over_in}
use Rattle.hk_dispatch.specs.Session.{state}

-- what the tick of a job puts out, by what the job wants
abbrev pub out_of : Option Need → Option ℕ
out_of (Some (need.Out value)) = Some value
out_of (Some (need.Work n)) = None
out_of (Some need.Local) = None
out_of (Some (need.Heap c)) = None
out_of (Some (need.Ask c)) = None
out_of None = None

-- the end of a job with a tick; its ticks count from its arrival
abbrev pub ended : (job : ℕ) → (arrival : Option ℕ) → (at : ℕ) → Option JobFault → Option End
ended job arrival at fault = Some (record { job = job; ticks = stay arrival at; fault = fault })

-- a fault at the statement at which a walk is: the entered register was null, or the object had no such field. Statements
-- count from 1
abbrev pub is_nil : Fault → Bool
is_nil refused.Nil = true
is_nil refused.Field = false
is_nil refused.Spent = false

abbrev pub fault_at : Walk → Fault → JobFault
fault_at walk fault = record { statement = walk.place + 1; nil = is_nil fault }

-- the end that a tick brings, by how it leaves the job: past the last statement of its script, or with a fault
abbrev pub end_past : Task → (job : ℕ) → (at : ℕ) → Walk → Option End
end_past task job at walk = if is_over task walk then ended job (task.arrival job) at None else None

abbrev pub end_of : Task → (job : ℕ) → Walk → (at : ℕ) → Left → Option End
end_of task job walk at left.Stays = None
end_of task job walk at (left.Passes r) = end_past task job at (walk_after task.script walk r)
end_of task job walk at (left.Faults fault) = ended job (task.arrival job) at (Some (fault_at walk fault))

-- the task of a seat, by its place in its list of the sheet
abbrev pub who_is : Sheet → (seat : ℕ) → Who
who_is sheet seat = if is_high sheet seat then who.Hi seat else who.Lo (seat - length sheet.high)

-- what the collector's event was: the flip, the end of an attempt that was lost, or another
abbrev pub chore_of : Work → Chore
chore_of work.Flipped = chore.Flip
chore_of (work.Lost events) = chore.Lost events
chore_of work.Useful = chore.Step
chore_of (work.BusyFrame seat) = chore.Step
chore_of (work.BusyObject number) = chore.Step
chore_of (work.Unlinked place) = chore.Step
chore_of (work.Grey number) = chore.Step
chore_of (work.LiveOver words) = chore.Step
chore_of work.Worn = chore.Step

abbrev pub told_event : Work → Option ℕ → Tick
told_event done (Some words) = tick.LiveOver words
told_event done None = tick.Ran (who.Gc (chore_of done)) None None

-- what the tick answers, by who gets it
abbrev pub told_turn : Sheet → Moment → (at : ℕ) → Turn → Tick
told_turn sheet m at (to_task seat) =
    let course = course_at m seat in
    let wants = need_at sheet m seat in
    tick.Ran (who_is sheet seat) (out_of wants)
    (end_of (task_at sheet seat) course.job course.walk at (left_by (core_of m) seat course.spent wants))
told_turn sheet m at to_collector = told_event (work_by_collector (core_of m)) (over_in (work_by_collector (core_of m)))
told_turn sheet m at to_nobody = tick.Ran who.Idle None None

-- once the collector found too many words reserved it answers that again; else, from the horizon on, that the run is over
abbrev pub told_by : (List Ready → ℕ) → Sheet → Moment → (at : ℕ) → Option ℕ → Tick
told_by choice sheet m at (Some words) = tick.LiveOver words
told_by choice sheet m at None = if nat_lt at sheet.ticks then told_turn sheet m at (turn choice sheet m at) else tick.Over

-- what a call at a moment answers
unfoldable pub told : Geometry → (List Ready → ℕ) → Sheet → (at : ℕ) → Tick
told g choice sheet at = told_by choice sheet (state g choice sheet at) at (state g choice sheet at).over

-- what an answer says was put out, and which end it brought
abbrev pub out_in : Tick → Option ℕ
out_in (tick.Ran w out end) = out
out_in (tick.LiveOver words) = None
out_in tick.Over = None

abbrev pub end_in : Tick → Option End
end_in (tick.Ran w out end) = end
end_in (tick.LiveOver words) = None
end_in tick.Over = None
