-- The report of a sheet: the analysis, what each tick of its session says, and what the session came to.
use Rattle.std.specs.Prelude.{◌≡◌, ℕ, zero, suc, ◌+◌, ◌-◌, List, [], ◌++◌, codes, flat_map, length, zip, slice_index_or, Option, Some, None}
use Rattle.hk_words.specs.declared.geometry.Geometry.{Geometry}
use Rattle.hk_plan.specs.declared.Ready.{Ready}
use Rattle.hk_sheet.specs.declared.arrivals.Arrivals.TheVariants as arrivals
use Rattle.hk_sheet.specs.declared.sheet.High.{High}
use Rattle.hk_sheet.specs.declared.sheet.Low.{Low}
use Rattle.hk_sheet.specs.declared.sheet.Sheet.{Sheet}
use Rattle.hk_dispatch.specs.declared.tick.Chore.{Chore}
use Rattle.hk_dispatch.specs.declared.tick.Chore.TheVariants as chore
use Rattle.hk_dispatch.specs.declared.tick.Who.{Who}
use Rattle.hk_dispatch.specs.declared.tick.Who.TheVariants as who
use Rattle.hk_dispatch.specs.declared.tick.End.{End}
use Rattle.hk_dispatch.specs.declared.tick.JobFault.{JobFault}
use Rattle.hk_dispatch.specs.declared.tick.Tick.{Tick}
use Rattle.hk_dispatch.specs.declared.tick.Tick.TheVariants as tick
use Rattle.hk_dispatch.specs.Tasks.{high_at}
use Rattle.hk_dispatch.specs.Moment.{Moment, course_at}
use Rattle.hk_dispatch.specs.Session.{state, IsTick}
use Rattle.hk_dispatch.specs.Told.{told}
use Rattle.hk_top.specs.declared.report.Form.{Form}
use Rattle.hk_top.specs.declared.report.Form.TheVariants as form
use Rattle.hk_top.specs.declared.report.Finish.{Finish}
use Rattle.hk_top.specs.declared.report.Finish.TheVariants as finish
use Rattle.hk_top.specs.Text.{heap_line, high_line, low_line, out_line, fault_line, ended_line, task_line, event_line, lost_line, idle_line, done_line, cycles_line, end_line, live_line}

-- THE ANALYSIS: the response time and the deadline of each high task, and the low tasks
abbrev pub line_of_response : High × ℕ → List ℕ
line_of_response (task, response) = high_line task.name response task.timing.deadline

abbrev pub high_lines : List High → (responses : List ℕ) → List ℕ
high_lines tasks responses = flat_map line_of_response (zip tasks responses)

abbrev pub line_of_low : Low → List ℕ
line_of_low task = low_line task.name

abbrev pub low_lines : List Low → List ℕ
low_lines tasks = flat_map line_of_low tasks

unfoldable pub analysis : Sheet → (work attempt busy debt : ℕ) → (responses : List ℕ) → List ℕ
analysis sheet work attempt busy debt responses = heap_line work attempt busy debt ++ high_lines sheet.high responses ++ low_lines sheet.low

-- A TICK

-- the low task at a place of the sheet
abbrev pub no_low : Low
no_low = record { name = []; arrivals = arrivals.List []; script = [] }

abbrev pub low_at : Sheet → (place : ℕ) → Low
low_at sheet place = slice_index_or sheet.low place no_low

-- the name of the task that got a tick
abbrev pub name_of : Sheet → Who → List ℕ
name_of sheet (who.Hi place) = (high_at sheet place).name
name_of sheet (who.Lo place) = (low_at sheet place).name
name_of sheet (who.Gc c) = []
name_of sheet who.Idle = []

-- who got it
abbrev pub event_text : (at : ℕ) → Chore → List ℕ
event_text at chore.Step = event_line at (codes "step")
event_text at chore.Flip = event_line at (codes "flip")
event_text at (chore.Lost events) = lost_line at events

abbrev pub who_text : Sheet → (at : ℕ) → Who → List ℕ
who_text sheet at (who.Hi place) = task_line at (codes "high") (high_at sheet place).name
who_text sheet at (who.Lo place) = task_line at (codes "low") (low_at sheet place).name
who_text sheet at (who.Gc c) = event_text at c
who_text sheet at who.Idle = idle_line at

-- what it put out, the fault that it met, and the end of a job that it brought
abbrev pub out_text : (at : ℕ) → (name : List ℕ) → Option ℕ → List ℕ
out_text at name None = []
out_text at name (Some value) = out_line at name value

abbrev pub fault_in : (at : ℕ) → (name : List ℕ) → (job : ℕ) → Option JobFault → List ℕ
fault_in at name job None = []
fault_in at name job (Some fault) = fault_line at name job fault.statement fault.nil

abbrev pub fault_text : (at : ℕ) → (name : List ℕ) → Option End → List ℕ
fault_text at name None = []
fault_text at name (Some end) = fault_in at name end.job end.fault

abbrev pub ended_text : (at : ℕ) → (name : List ℕ) → Option End → List ℕ
ended_text at name None = []
ended_text at name (Some end) = ended_line at name end.job end.ticks

-- a trace says who got each tick and which job ended with it; outputs and faults are left out where the form is quiet
abbrev pub traced : Form → List ℕ → List ℕ
traced form.Trace text = text
traced form.Plain text = []
traced form.Quiet text = []

abbrev pub voiced : Form → List ℕ → List ℕ
voiced form.Trace text = text
voiced form.Plain text = text
voiced form.Quiet text = []

unfoldable pub text_of_tick : Form → Sheet → (at : ℕ) → Tick → List ℕ
text_of_tick f sheet at (tick.Ran who out end) =
    traced f (who_text sheet at who)
    ++ voiced f (out_text at (name_of sheet who) out)
    ++ voiced f (fault_text at (name_of sheet who) end)
    ++ traced f (ended_text at (name_of sheet who) end)
text_of_tick f sheet at (tick.LiveOver words) = traced f (event_line at (codes "live"))
text_of_tick f sheet at tick.Over = []

-- the words that a tick found reserved, where these were too many
abbrev pub live_in : Tick → Option ℕ
live_in (tick.LiveOver words) = Some words
live_in (tick.Ran who out end) = None
live_in tick.Over = None

-- the texts of the numbers below a bound, in order
unfoldable pub texts_below : (ℕ → List ℕ) → (bound : ℕ) → List ℕ
texts_below text zero = []
texts_below text (suc n) = texts_below text n ++ text n

-- the first ticks of a session
abbrev pub ticks_text : Form → Geometry → (List Ready → ℕ) → Sheet → (ticks : ℕ) → List ℕ
ticks_text f g choice sheet ticks = texts_below (λ at. text_of_tick f sheet at (told g choice sheet at)) ticks

-- THE LAST LINES. At the horizon: of each task how many jobs ended, and the most ticks from an arrival to its end; then the
-- collector's cycles and ticks, and those of nobody
abbrev pub line_of_high_end : Sheet → Moment → (place : ℕ) → List ℕ
line_of_high_end sheet m place = done_line (high_at sheet place).name (course_at m place).job (course_at m place).latest

abbrev pub line_of_low_end : Sheet → Moment → (place : ℕ) → List ℕ
line_of_low_end sheet m place = done_line (low_at sheet place).name (course_at m (length sheet.high + place)).job (course_at m (length sheet.high + place)).latest

unfoldable pub closing : Sheet → Moment → List ℕ
closing sheet m =
    texts_below (line_of_high_end sheet m) (length sheet.high)
    ++ texts_below (line_of_low_end sheet m) (length sheet.low)
    ++ cycles_line m.flips m.events m.idle
    ++ end_line sheet.ticks

-- A session ends with the tick before its horizon, or with the one at which the collector found more words reserved than the
-- space has for evacuation: so many ticks were given.
pub data EndsSo (g : Geometry) (choice : List Ready → ℕ) (sheet : Sheet) : Finish → (ticks : ℕ) → Type 0 where
  at_horizon : (state g choice sheet sheet.ticks).over ≡ None → EndsSo g choice sheet finish.AtEnd sheet.ticks
  live_over : (at words : ℕ) → IsTick g choice sheet at → told g choice sheet at ≡ tick.LiveOver words → EndsSo g choice sheet (finish.Live words) (suc at)

-- the last lines, after so many ticks
unfoldable pub last_lines : Geometry → (List Ready → ℕ) → Sheet → Finish → (ticks : ℕ) → List ℕ
last_lines g choice sheet finish.AtEnd ticks = closing sheet (state g choice sheet ticks)
last_lines g choice sheet (finish.Live words) ticks = live_line (ticks - 1) words sheet.heap.live

-- THE TEXT OF A RUN
pub record IsRunText (f : Form) (g : Geometry) (choice : List Ready → ℕ) (sheet : Sheet) (end : Finish) (text : List ℕ) : Type 0 where
  pub ticks : ℕ
  pub ends : EndsSo g choice sheet end ticks
  pub is : text ≡ ticks_text f g choice sheet ticks ++ last_lines g choice sheet end ticks
