-- A PICTURE, as far as the lines of a trace have come.
use Rattle.std.specs.Prelude.{◌≡◌, ℕ, Bool, true, false, List, [], ◌∷◌, Option, Some, None}
use Rattle.hk_chart.specs.declared.chart.Chart.{Chart}
use Rattle.hk_chart.specs.declared.progress.Progress.{Progress}
use Rattle.hk_chart.specs.declared.trace_line.TraceLine.{TraceLine}
use Rattle.hk_chart.specs.declared.window.Window.{Window}
use Rattle.hk_chart.specs.Trace.{◌>>=◌, line_of}
use Rattle.hk_chart.specs.Progress.{opening, after_line}
use Rattle.hk_chart.specs.Shapes.{bar_of, open_after, closed_by, mark_of, arrival_of, deadline_of, with_shape, with_bar, with_task}

-- no line was read
abbrev pub opening_chart : Chart
opening_chart = record { progress = opening; tasks = []; shapes = []; current = None }

-- the second word of a line, which is the name where the line names a new task
abbrev pub second_of : List (List ℕ) → List ℕ
second_of (first ∷ second ∷ rest) = second
second_of words = []

-- the picture with what a line draws: first the rectangle that is done with it, and then a job's arrival and deadline, which
-- its end tells, and the mark of the line itself
unfoldable pub with_line : Window → Chart → (name : List ℕ) → TraceLine → Progress → Chart
with_line w chart name said progress = record {
  progress = progress;
  tasks = with_task chart.tasks name said;
  shapes = with_shape (with_shape (with_shape (with_bar chart.shapes (closed_by chart.current (bar_of w said))) (arrival_of w said)) (deadline_of w chart.tasks said)) (mark_of w said);
  current = open_after chart.current (bar_of w said);
}

-- the picture after a line of these words, where a trace has that line there
unfoldable pub chart_after : Window → Chart → List (List ℕ) → Option Chart
chart_after w chart words = line_of chart.tasks words >>= λ said. after_line chart.progress said >>= λ progress. Some (with_line w chart (second_of words) said progress)

-- a trace has that line there, and then this is the picture; or it hasn't
abbrev pub Follows : Window → (before : Chart) → List (List ℕ) → (after : Chart) → Bool → Type 0
Follows w before words after true = chart_after w before words ≡ Some after
Follows w before words after false = chart_after w before words ≡ None
