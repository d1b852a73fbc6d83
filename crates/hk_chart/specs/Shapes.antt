-- WHAT IS DRAWN of each line of a trace.
use Rattle.std.specs.Prelude.{ℕ, ◌+◌, ◌-◌, Bool, true, false, ◌&&◌, nat_le, ◌==◌, if◌then◌else◌, List, [], ◌∷◌, ◌++◌, slice_index_or, Option, Some, None}
use Rattle.hk_chart.specs.declared.shape.Lane.{Lane}
use Rattle.hk_chart.specs.declared.shape.Lane.TheVariants as lane
use Rattle.hk_chart.specs.declared.shape.Bar.{Bar}
use Rattle.hk_chart.specs.declared.shape.Shape.{Shape}
use Rattle.hk_chart.specs.declared.shape.Shape.TheVariants as shape
use Rattle.hk_chart.specs.declared.task.Task.{Task}
use Rattle.hk_chart.specs.declared.trace_line.Who.{Who}
use Rattle.hk_chart.specs.declared.trace_line.Who.TheVariants as who
use Rattle.hk_chart.specs.declared.trace_line.TraceLine.{TraceLine}
use Rattle.hk_chart.specs.declared.trace_line.TraceLine.TheVariants as line
use Rattle.hk_chart.specs.declared.window.Window.{Window}

-- two lanes are the same
abbrev pub is_same : Lane → Lane → Bool
is_same (lane.Task a) (lane.Task b) = a == b
is_same lane.Collector lane.Collector = true
is_same lane.Lost lane.Lost = true
is_same lane.Nobody lane.Nobody = true
is_same a b = false

-- the lane of a tick
abbrev pub lane_of : Who → Lane
lane_of (who.High place) = lane.Task place
lane_of (who.Low place) = lane.Task place
lane_of who.Step = lane.Collector
lane_of who.Flip = lane.Collector
lane_of who.Live = lane.Collector
lane_of (who.Lost events) = lane.Lost
lane_of who.Idle = lane.Nobody

-- THE RECTANGLES: each is a run of ticks of one lane, as long as there are more of them

-- a tick that is drawn
abbrev pub is_within : Window → (tick : ℕ) → Bool
is_within w tick = nat_le w.first tick && nat_le tick w.last

-- the rectangle of the tick of a line
abbrev pub bar_of : Window → TraceLine → Option Bar
bar_of w (line.Tick tick got) = if is_within w tick then Some (record { lane = lane_of got; first = tick; last = tick }) else None
bar_of w other = None

-- the open rectangle after one more: it gets longer, or another one begins
abbrev pub open_after : Option Bar → Option Bar → Option Bar
open_after current None = current
open_after None (Some bar) = Some bar
open_after (Some current) (Some bar) = if is_same current.lane bar.lane then Some (record current { last = bar.last }) else Some bar

-- and the one that is done
abbrev pub closed_by : Option Bar → Option Bar → Option Bar
closed_by (Some current) (Some bar) = if is_same current.lane bar.lane then None else Some current
closed_by current bar = None

-- THE MARKS

-- a moment that is drawn: the last one is the end of the last tick
abbrev pub is_moment : Window → (moment : ℕ) → Bool
is_moment w moment = nat_le w.first moment && nat_le moment (w.last + 1)

abbrev pub mark_of_tick : (tick : ℕ) → Who → Option Shape
mark_of_tick tick (who.Lost events) = Some (shape.Lost tick events)
mark_of_tick tick other = None

-- the mark of a line, if it has one: an attempt that was lost, what a job put out, its fault, its end
abbrev pub mark_of : Window → TraceLine → Option Shape
mark_of w (line.Tick tick got) = if is_within w tick then mark_of_tick tick got else None
mark_of w (line.Out tick place value) = if is_within w tick then Some (shape.Out tick place value) else None
mark_of w (line.Fault tick place job statement why) = if is_within w tick then Some (shape.Fault tick place job statement why) else None
mark_of w (line.Ended tick place job ticks) = if is_moment w (tick + 1) then Some (shape.End tick place job ticks) else None
mark_of w other = None

-- a job's arrival, told by its end: a job that ended with a tick ended at the moment after that
abbrev pub arrival : (tick ticks : ℕ) → ℕ
arrival tick ticks = tick + 1 - ticks

abbrev pub arrival_of : Window → TraceLine → Option Shape
arrival_of w (line.Ended tick place job ticks) = if is_moment w (arrival tick ticks) then Some (shape.Arrival (arrival tick ticks) place job) else None
arrival_of w other = None

-- no task has this place
abbrev pub no_task : Task
no_task = record { name = []; deadline = None }

abbrev pub task_at : List Task → (place : ℕ) → Task
task_at tasks place = slice_index_or tasks place no_task

-- a job's deadline, where its task has one
abbrev pub deadline_by : Window → Option ℕ → (tick place job ticks : ℕ) → Option Shape
deadline_by w None tick place job ticks = None
deadline_by w (Some deadline) tick place job ticks =
    if is_moment w (arrival tick ticks + deadline) then Some (shape.Deadline (arrival tick ticks + deadline) place job) else None

abbrev pub deadline_of : Window → List Task → TraceLine → Option Shape
deadline_of w tasks (line.Ended tick place job ticks) = deadline_by w (task_at tasks place).deadline tick place job ticks
deadline_of w tasks other = None

-- the shape of a rectangle, and shapes with one more where there is one
abbrev pub with_shape : List Shape → Option Shape → List Shape
with_shape shapes None = shapes
with_shape shapes (Some one) = shapes ++ one ∷ []

abbrev pub with_bar : List Shape → Option Bar → List Shape
with_bar shapes None = shapes
with_bar shapes (Some bar) = shapes ++ shape.Bar bar ∷ []

-- the tasks with the one that a line names
abbrev pub with_task : List Task → (name : List ℕ) → TraceLine → List Task
with_task tasks name (line.High deadline) = tasks ++ record { name = name; deadline = Some deadline } ∷ []
with_task tasks name line.Low = tasks ++ record { name = name; deadline = None } ∷ []
with_task tasks name other = tasks
