-- WHICH LINE MAY FOLLOW WHICH, and how far a trace has come.
use Rattle.std.specs.Prelude.{ℕ, ◌+◌, Bool, true, false, ◌&&◌, ◌||◌, nat_lt, nat_le, ◌==◌, if◌then◌else◌, Option, Some, None}
use Rattle.hk_chart.specs.declared.task.TheConstants.{MAX_TASKS}
use Rattle.hk_chart.specs.declared.progress.TheConstants.{MAX_TICKS}
use Rattle.hk_chart.specs.declared.progress.Progress.{Progress}
use Rattle.hk_chart.specs.declared.progress.Stage.{Stage}
use Rattle.hk_chart.specs.declared.progress.Stage.TheVariants as stage
use Rattle.hk_chart.specs.declared.trace_line.Who.{Who}
use Rattle.hk_chart.specs.declared.trace_line.Who.TheVariants as who
use Rattle.hk_chart.specs.declared.trace_line.TraceLine.{TraceLine}
use Rattle.hk_chart.specs.declared.trace_line.TraceLine.TheVariants as line

-- no line was read
abbrev pub opening : Progress
opening = record { stage = stage.Start; high = 0; tasks = 0; done = 0; ticks = 0; turn = None; debt = 0; collector = 0; idle = 0 }

-- the last line was of this kind
abbrev pub is_highs : Stage → Bool
is_highs stage.Highs = true
is_highs other = false

abbrev pub is_lows : Stage → Bool
is_lows stage.Lows = true
is_lows other = false

abbrev pub is_start : Stage → Bool
is_start stage.Start = true
is_start other = false

abbrev pub is_tick : Stage → Bool
is_tick stage.Tick = true
is_tick other = false

abbrev pub is_out : Stage → Bool
is_out stage.Out = true
is_out other = false

abbrev pub is_fault : Stage → Bool
is_fault stage.Fault = true
is_fault other = false

abbrev pub is_standing : Stage → Bool
is_standing stage.Standing = true
is_standing other = false

abbrev pub is_counted : Stage → Bool
is_counted stage.Counted = true
is_counted other = false

-- the last line was read
abbrev pub is_over : Stage → Bool
is_over stage.Over = true
is_over other = false

-- the line of a tick may follow: behind the analysis and the other ticks, but a job that met a fault ends first
abbrev pub begins_ticks : Stage → Bool
begins_ticks stage.Highs = true
begins_ticks stage.Lows = true
begins_ticks stage.Tick = true
begins_ticks stage.Out = true
begins_ticks stage.Ended = true
begins_ticks other = false

-- the last lines may follow, or go on
abbrev pub goes_on : Stage → Bool
goes_on stage.Tick = true
goes_on stage.Out = true
goes_on stage.Ended = true
goes_on stage.Closing = true
goes_on other = false

-- a task is of its kind: the high ones come first
abbrev pub fits : (high : ℕ) → Who → Bool
fits high (who.High lane) = nat_lt lane high
fits high (who.Low lane) = nat_le high lane
fits high other = true

-- the task that has a tick
abbrev pub turn_of : Who → Option ℕ
turn_of (who.High lane) = Some lane
turn_of (who.Low lane) = Some lane
turn_of other = None

-- what the line of a tick is: behind a tick that found too much live, the run stands still
abbrev pub stage_after_tick : Who → Stage
stage_after_tick who.Live = stage.Standing
stage_after_tick other = stage.Tick

-- a task is the one that had the last tick, which is this one
abbrev pub is_of : Option ℕ → (ticks tick lane : ℕ) → Bool
is_of (Some turn) ticks tick lane = turn == lane && ticks == tick + 1
is_of None ticks tick lane = false

abbrev pub is_of_turn : Progress → (tick lane : ℕ) → Bool
is_of_turn p tick lane = is_of p.turn p.ticks tick lane

unfoldable pub after_high : Progress → Option Progress
after_high p = if is_highs p.stage && nat_lt p.tasks MAX_TASKS then Some (record p { high = p.tasks + 1; tasks = p.tasks + 1 }) else None

unfoldable pub after_low : Progress → Option Progress
after_low p = if (is_highs p.stage || is_lows p.stage) && nat_lt p.tasks MAX_TASKS then Some (record p { stage = stage.Lows; tasks = p.tasks + 1 }) else None

-- ticks come in their order, from 0
unfoldable pub after_tick : Progress → (tick : ℕ) → Who → Option Progress
after_tick p tick got =
    if begins_ticks p.stage && tick == p.ticks && nat_lt tick MAX_TICKS && fits p.high got
    then Some (record p { stage = stage_after_tick got; ticks = tick + 1; turn = turn_of got })
    else None

-- behind a tick, in this order, and of the task that had it: what its job put out, its fault, its end
unfoldable pub after_out : Progress → (tick lane : ℕ) → Option Progress
after_out p tick lane = if is_tick p.stage && is_of_turn p tick lane then Some (record p { stage = stage.Out }) else None

unfoldable pub after_fault : Progress → (tick lane : ℕ) → Option Progress
after_fault p tick lane = if (is_tick p.stage || is_out p.stage) && is_of_turn p tick lane then Some (record p { stage = stage.Fault }) else None

-- a job takes a tick at least, and arrives at tick 0 at the earliest
unfoldable pub after_ended : Progress → (tick lane ticks : ℕ) → Option Progress
after_ended p tick lane ticks =
    if (is_tick p.stage || is_out p.stage || is_fault p.stage) && is_of_turn p tick lane && nat_lt 0 ticks && nat_le ticks p.ticks
    then Some (record p { stage = stage.Ended })
    else None

-- the tasks are counted in their order
unfoldable pub after_done : Progress → (lane : ℕ) → Option Progress
after_done p lane = if goes_on p.stage && lane == p.done && nat_lt lane p.tasks then Some (record p { stage = stage.Closing; done = lane + 1 }) else None

unfoldable pub after_cycles : Progress → (collector idle : ℕ) → Option Progress
after_cycles p collector idle =
    if goes_on p.stage && p.done == p.tasks then Some (record p { stage = stage.Counted; collector = collector; idle = idle }) else None

unfoldable pub after_live : Progress → (tick : ℕ) → Option Progress
after_live p tick = if is_standing p.stage && p.ticks == tick + 1 then Some (record p { stage = stage.Over }) else None

abbrev pub after_heap : Progress → (debt : ℕ) → Option Progress
after_heap p debt = if is_start p.stage then Some (record p { stage = stage.Highs; debt = debt }) else None

abbrev pub after_end : Progress → (ticks : ℕ) → Option Progress
after_end p ticks = if is_counted p.stage && ticks == p.ticks then Some (record p { stage = stage.Over }) else None

-- how far a trace has come after one more line, where that may follow
unfoldable pub after_line : Progress → TraceLine → Option Progress
after_line p (line.Heap debt) = after_heap p debt
after_line p (line.High deadline) = after_high p
after_line p line.Low = after_low p
after_line p (line.Tick tick got) = after_tick p tick got
after_line p (line.Out tick lane value) = after_out p tick lane
after_line p (line.Fault tick lane job statement why) = after_fault p tick lane
after_line p (line.Ended tick lane job ticks) = after_ended p tick lane ticks
after_line p (line.Done lane) = after_done p lane
after_line p (line.Cycles collector idle) = after_cycles p collector idle
after_line p (line.End ticks) = after_end p ticks
after_line p (line.Live tick) = after_live p tick
