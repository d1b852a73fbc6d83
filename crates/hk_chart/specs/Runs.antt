-- THE RECTANGLES ARE THE WHOLE RUNS of the ticks that a trace gives: what the drawing of its lines comes to, said of the trace
-- and of the finished rectangles alone.
use Rattle.std.specs.Prelude.{◌≡◌, ℕ, ◌+◌, ◌<◌, ◌≤◌, ◌==◌, true, false, if◌then◌else◌, List, [], ◌∷◌, ◌++◌, Option, Some, None, Ok, slice_get}
use Rattle.std.specs.List.{flat_map}
use Rattle.hk_chart.specs.declared.chart.Chart.{Chart}
use Rattle.hk_chart.specs.declared.shape.Bar.{Bar}
use Rattle.hk_chart.specs.declared.shape.Lane.{Lane}
use Rattle.hk_chart.specs.declared.shape.Shape.{Shape}
use Rattle.hk_chart.specs.declared.shape.Shape.TheVariants as shape
use Rattle.hk_chart.specs.declared.task.Task.{Task}
use Rattle.hk_chart.specs.declared.trace_line.TraceLine.{TraceLine}
use Rattle.hk_chart.specs.declared.trace_line.TraceLine.TheVariants as line
use Rattle.hk_chart.specs.declared.window.Window.{Window}
use Rattle.hk_chart.specs.Words.{words_of}
use Rattle.hk_chart.specs.Trace.{line_of}
use Rattle.hk_chart.specs.Shapes.{is_same, lane_of, is_within, with_task}
use Rattle.hk_chart.specs.Chart.{second_of}
use Rattle.hk_chart.specs.Reading.{opening_reader, read_on}

-- THE TICKS OF A TRACE

-- the lines of a text of which these bytes of the first one were read; each ends with its newline
unfoldable pub lines_from : (begun : List ℕ) → List ℕ → List (List ℕ)
lines_from begun [] = []
lines_from begun (byte ∷ bytes) = if byte == 10 then begun ∷ lines_from [] bytes else lines_from (begun ++ byte ∷ []) bytes

-- the lane of the tick that a line tells, if it tells one
abbrev pub given_by : Option TraceLine → List Lane
given_by (Some (line.Tick tick got)) = lane_of got ∷ []
given_by other = []

-- the tasks with the one that a line names, if it names one
abbrev pub named_by : List Task → (name : List ℕ) → Option TraceLine → List Task
named_by tasks name (Some said) = with_task tasks name said
named_by tasks name None = tasks

-- the lane of each tick that some lines tell, in their order, where these tasks were named before
unfoldable pub lanes_given : List Task → List (List ℕ) → List Lane
lanes_given tasks [] = []
lanes_given tasks (text ∷ texts) =
    given_by (line_of tasks (words_of text)) ++ lanes_given (named_by tasks (second_of (words_of text)) (line_of tasks (words_of text))) texts

-- THE RECTANGLES OF A PICTURE

-- the rectangle of a shape, if it is one
abbrev pub bar_in : Shape → List Bar
bar_in (shape.Bar bar) = bar ∷ []
bar_in other = []

abbrev pub bars_of : List Shape → List Bar
bars_of shapes = flat_map bar_in shapes

-- a rectangle has a tick
abbrev pub HasTick : Bar → (tick : ℕ) → Type 0
HasTick bar tick = (bar.first ≤ tick) × (tick ≤ bar.last)

-- a rectangle stands behind another: they share no tick, and where they touch, they are of two lanes
abbrev pub IsBehind : (before : Bar) → Bar → Type 0
IsBehind before bar = (before.last < bar.first) × (before.last + 1 ≡ bar.first → is_same before.lane bar.lane ≡ false)

-- a tick lies in one of some rectangles
pub record IsDrawn (bars : List Bar) (tick : ℕ) : Type 0 where
  pub place : ℕ
  pub bar : Bar
  pub stands : slice_get bars place ≡ Some bar
  pub has : HasTick bar tick

-- the rectangles are the whole runs of the drawn ones of these ticks, whose lanes are given from tick 0 on
pub record AreWholeRuns (w : Window) (lanes : List Lane) (bars : List Bar) : Type 0 where
  -- each has a tick
  pub some : (place : ℕ) (bar : Bar) → slice_get bars place ≡ Some bar → bar.first ≤ bar.last
  -- each of its ticks is to be drawn, and was given to its lane
  pub own : (place tick : ℕ) (bar : Bar) → slice_get bars place ≡ Some bar → HasTick bar tick → (is_within w tick ≡ true) × (slice_get lanes tick ≡ Some bar.lane)
  -- each tick that was given and is to be drawn lies in one
  pub all : (tick : ℕ) (lane : Lane) → slice_get lanes tick ≡ Some lane → is_within w tick ≡ true → IsDrawn bars tick
  -- they stand in the order of the ticks, and no run is parted
  pub apart : (i j : ℕ) (before bar : Bar) → i < j → slice_get bars i ≡ Some before → slice_get bars j ≡ Some bar → IsBehind before bar

-- THE LAW: where a trace comes to a picture, the rectangles of the picture are the whole runs of the trace's ticks
abbrev pub RunsAreWhole : Type 0
RunsAreWhole =
    (w : Window) (bytes : List ℕ) (chart : Chart) → read_on w opening_reader bytes ≡ Ok chart → AreWholeRuns w (lanes_given [] (lines_from [] bytes)) (bars_of chart.shapes)
