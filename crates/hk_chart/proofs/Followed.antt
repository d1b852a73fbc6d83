-- A line that is taken, and what the picture is then.
use Rattle.std.proofs.Common.{◌≡◌, ℕ, List, map, Option, Some, None, refl, ap, ◌∙◌}
use denote.Ref.{Bor}
use Rattle.hk_chart.specs.declared.chart.Chart.{Chart}
use Rattle.hk_chart.specs.declared.progress.Progress.{Progress}
use Rattle.hk_chart.specs.declared.shape.Bar.{Bar}
use Rattle.hk_chart.specs.declared.shape.Shape.{Shape}
use Rattle.hk_chart.specs.declared.task.Task.{Task}
use Rattle.hk_chart.specs.declared.trace_line.TraceLine.{TraceLine}
use Rattle.hk_chart.specs.declared.window.Window.{Window}
use Rattle.hk_chart.specs.Trace.{line_of}
use Rattle.hk_chart.specs.Progress.{after_line}
use Rattle.hk_chart.specs.Chart.{second_of, with_line, chart_after}
use Rattle.hk_chart.specs.Shapes.{bar_of, open_after, closed_by, mark_of, arrival_of, deadline_of, with_shape, with_bar, with_task}

-- the line that was read is that of the words
pub said_is : (shown tasks : List Task) (slice items : List (Bor (List ℕ))) (words : List (List ℕ)) (said : Option TraceLine)
    → said ≡ line_of shown (map (λ word. word.now) slice) → shown ≡ tasks → slice ≡ items → map (λ word. word.now) items ≡ words → said ≡ line_of tasks words
said_is shown tasks slice items words said is same lent all =
    is ∙ ap (λ (t : List Task). line_of t (map (λ word. word.now) slice)) same
    ∙ ap (λ (s : List (Bor (List ℕ))). line_of tasks (map (λ word. word.now) s)) lent ∙ ap (line_of tasks) all

pub second_is : (slice items : List (Bor (List ℕ))) (words : List (List ℕ)) (name : List ℕ)
    → name ≡ second_of (map (λ word. word.now) slice) → slice ≡ items → map (λ word. word.now) items ≡ words → name ≡ second_of words
second_is slice items words name is lent all = is ∙ ap (λ (s : List (Bor (List ℕ))). second_of (map (λ word. word.now) s)) lent ∙ ap second_of all

module _ (w : Window) (chart : Chart) (words : List (List ℕ)) where
  -- no line of a trace
  pub not_said : line_of chart.tasks words ≡ None → chart_after w chart words ≡ None
  unfolding chart_after
  not_said is = rw is refl

  module _ (said : TraceLine) (is : line_of chart.tasks words ≡ Some said) where
    -- one that may not follow
    pub not_there : after_line chart.progress said ≡ None → chart_after w chart words ≡ None
    unfolding chart_after
    not_there none = rw (is, none) refl

    -- one that follows
    followed : (progress : Progress) → after_line chart.progress said ≡ Some progress → chart_after w chart words ≡ Some (with_line w chart (second_of words) said progress)
    unfolding chart_after
    followed progress some = rw (is, some) refl

    pub follows : (progress : Progress) → after_line chart.progress said ≡ Some progress → (name : List ℕ) → name ≡ second_of words
        → (bar : Option Bar) → bar ≡ bar_of w said → (tasks : List Task) → tasks ≡ with_task chart.tasks name said
        → (closed : Option Bar) → closed ≡ closed_by chart.current bar → (one two three four : List Shape) → one ≡ with_bar chart.shapes closed
        → (a d m : Option Shape) → a ≡ arrival_of w said → two ≡ with_shape one a → d ≡ deadline_of w chart.tasks said → three ≡ with_shape two d → m ≡ mark_of w said → four ≡ with_shape three m
        → (current : Option Bar) → current ≡ open_after chart.current bar
        → chart_after w chart words ≡ Some (record { progress = progress; tasks = tasks; shapes = four; current = current })
    unfolding with_line
    follows progress some name name_is bar bar_is tasks tasks_are closed closed_is one two three four one_is a d m a_is two_is d_is three_is m_is four_is current current_is =
        rw (current_is, four_is, m_is, three_is, d_is, two_is, a_is, one_is, closed_is, tasks_are, bar_is, name_is) (followed progress some)
