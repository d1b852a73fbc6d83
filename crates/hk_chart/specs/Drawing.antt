-- THE PICTURE: the text of an SVG. All numbers in it are whole; in the plots a unit across is a tick, and the browser scales.
use Rattle.std.specs.Prelude.{ℕ, zero, suc, ◌+◌, ◌-◌, ◌*◌, ◌/◌, min, max, Bool, true, false, nat_lt, if◌then◌else◌, List, [], ◌∷◌, ◌++◌, take, codes, decimal}
use Rattle.std.specs.List.{flat_map}
use Rattle.hk_chart.specs.declared.chart.Chart.{Chart}
use Rattle.hk_chart.specs.declared.picture.Part.{Part}
use Rattle.hk_chart.specs.declared.picture.Part.TheVariants as part
use Rattle.hk_chart.specs.declared.progress.Progress.{Progress}
use Rattle.hk_chart.specs.declared.shape.Bar.{Bar}
use Rattle.hk_chart.specs.declared.shape.Lane.{Lane}
use Rattle.hk_chart.specs.declared.shape.Lane.TheVariants as lane
use Rattle.hk_chart.specs.declared.shape.Shape.{Shape}
use Rattle.hk_chart.specs.declared.shape.Shape.TheVariants as shape
use Rattle.hk_chart.specs.declared.span.Span.{Span}
use Rattle.hk_chart.specs.declared.task.Task.{Task}
use Rattle.hk_chart.specs.declared.task.TheConstants.{MAX_NAME}
use Rattle.hk_chart.specs.declared.trace_line.Cause.{Cause}
use Rattle.hk_chart.specs.declared.trace_line.Cause.TheVariants as cause
use Rattle.hk_chart.specs.declared.window.Window.{Window}
use Rattle.hk_chart.specs.Shapes.{task_at}
use Rattle.hk_chart.specs.Words.{line}

-- WHICH TICKS THE PICTURE SPANS: from the first tick that is asked for to the last one, or the last one of the run where that
-- is earlier; one at least
abbrev pub span_of : Window → (ticks : ℕ) → Span
span_of w ticks = record { first = w.first; ticks = max (min (w.last + 1) ticks - w.first) 1 }

-- LANES. Each is 30 units high: those of the tasks in their order, that of the collector, that of nobody
abbrev pub row_of : (tasks : ℕ) → Lane → ℕ
row_of tasks (lane.Task place) = 30 * place
row_of tasks lane.Collector = 30 * tasks
row_of tasks lane.Lost = 30 * tasks
row_of tasks lane.Nobody = 30 * tasks + 30

-- the height of all
abbrev pub height_of : (tasks : ℕ) → ℕ
height_of tasks = 30 * tasks + 60

-- the name of a task; it has 16 bytes at most
abbrev pub name_at : List Task → (place : ℕ) → List ℕ
name_at tasks place = take MAX_NAME (task_at tasks place).name

-- RECTANGLES: a line ten units thick in the middle strip of its lane, from the first tick to behind the last one, with the colour of its lane

abbrev pub bar_start : (high : ℕ) → Lane → List ℕ
bar_start high (lane.Task place) = if nat_lt place high then codes "<path class=\"high\" d=\"M" else codes "<path class=\"low\" d=\"M"
bar_start high lane.Collector = codes "<path class=\"collector\" d=\"M"
bar_start high lane.Lost = codes "<path class=\"lost\" d=\"M"
bar_start high lane.Nobody = codes "<path class=\"nobody\" d=\"M"

unfoldable pub bar_text : Progress → Bar → List ℕ
bar_text p bar = line (bar_start p.high bar.lane ∷ decimal bar.first ∷ decimal (row_of p.tasks bar.lane + 17) ∷ codes "H" ∷ decimal (bar.last + 1) ∷ codes "\"/>" ∷ [])

-- MARKS: an upright stroke at a moment, with what it says. None lies over a rectangle but a lost attempt: outputs and faults stand
-- at the top of the lane, arrivals between these and the rectangle, ends below it, deadlines at the foot

unfoldable pub mark_text : (start : List ℕ) → (moment y : ℕ) → (stroke : List ℕ) → List ℕ
mark_text start moment y stroke = line (start ∷ decimal moment ∷ decimal y ∷ stroke ∷ [])

unfoldable pub told_text : (what : List ℕ) → (tick : ℕ) → (name : List ℕ) → (number : ℕ) → List ℕ
told_text what tick name number = line (what ∷ decimal tick ∷ name ∷ decimal number ∷ codes "</title></path>" ∷ [])

unfoldable pub fault_text : (tick : ℕ) → (name : List ℕ) → (job statement : ℕ) → (why : List ℕ) → List ℕ
fault_text tick name job statement why = line (codes "fault" ∷ decimal tick ∷ name ∷ decimal job ∷ decimal statement ∷ why ∷ codes "</title></path>" ∷ [])

unfoldable pub end_text : (tick : ℕ) → (name : List ℕ) → (job ticks : ℕ) → List ℕ
end_text tick name job ticks = line (codes "ended" ∷ decimal tick ∷ name ∷ decimal job ∷ decimal ticks ∷ codes "</title></path>" ∷ [])

abbrev pub cause_word : Cause → List ℕ
cause_word cause.Nil = codes "nil"
cause_word cause.Field = codes "field"

-- the rectangle of a shape, if it is one
unfoldable pub rectangle_text : Progress → Shape → List ℕ
rectangle_text p (shape.Bar bar) = bar_text p bar
rectangle_text p other = []

-- the stroke of a mark; a rectangle has none
unfoldable pub stroke_text : Progress → Shape → List ℕ
stroke_text p (shape.Bar bar) = []
stroke_text p (shape.Lost tick events) = mark_text (codes "<path class=\"mark\" d=\"M") tick (30 * p.tasks + 9) (codes "v 16\"><title>")
stroke_text p (shape.Out tick place value) = mark_text (codes "<path class=\"out\" d=\"M") tick (30 * place) (codes "v 6\"><title>")
stroke_text p (shape.Fault tick place job statement why) = mark_text (codes "<path class=\"fault\" d=\"M") tick (30 * place) (codes "v 6\"><title>")
stroke_text p (shape.Arrival moment place job) = mark_text (codes "<path class=\"arrival\" d=\"M") moment (30 * place + 6) (codes "v 6\"><title>")
stroke_text p (shape.Deadline moment place job) = mark_text (codes "<path class=\"deadline\" d=\"M") moment (30 * place + 26) (codes "v 4\"><title>")
stroke_text p (shape.End tick place job ticks) = mark_text (codes "<path class=\"end\" d=\"M") (tick + 1) (30 * place + 22) (codes "v 4\"><title>")

-- what it says: the trace's own words where it has them
unfoldable pub title_text : List Task → Shape → List ℕ
title_text tasks (shape.Bar bar) = []
title_text tasks (shape.Lost tick events) = told_text (codes "lost") tick (codes "events") events
title_text tasks (shape.Out tick place value) = told_text (codes "out") tick (name_at tasks place) value
title_text tasks (shape.Fault tick place job statement why) = fault_text tick (name_at tasks place) job statement (cause_word why)
title_text tasks (shape.Arrival moment place job) = told_text (codes "arrival") moment (name_at tasks place) job
title_text tasks (shape.Deadline moment place job) = told_text (codes "deadline") moment (name_at tasks place) job
title_text tasks (shape.End tick place job ticks) = end_text tick (name_at tasks place) job ticks

unfoldable pub whole_mark : Progress → List Task → Shape → List ℕ
whole_mark p tasks one = stroke_text p one ++ title_text tasks one

-- THE HEAD

-- how large it is
unfoldable pub size_text : (tasks : ℕ) → List ℕ
size_text tasks = line (codes "viewBox=\"0 0 1200" ∷ decimal (height_of tasks + 330) ∷ codes "\">" ∷ [])

unfoldable pub name_text : Span → (ticks : ℕ) → List ℕ
name_text s ticks =
    line (codes "<title id=\"title\">Who got each tick:" ∷ decimal s.ticks ∷ codes "ticks from" ∷ decimal s.first ∷ codes "on, of a run of" ∷ decimal ticks ∷ codes "</title>" ∷ [])

-- the name of a lane, one below another
unfoldable pub label_text : (name : List ℕ) → List ℕ
label_text name = line (codes "<tspan x=\"8\" dy=\"30\">" ∷ take MAX_NAME name ∷ codes "</tspan>" ∷ [])

abbrev pub task_label : Task → List ℕ
task_label task = label_text task.name

-- THE AXIS: eleven ticks, a tenth of the span apart
abbrev pub tenth_of : Span → (tenth : ℕ) → ℕ
tenth_of s tenth = s.ticks * tenth / 10

unfoldable pub axis_text : Span → (tenth : ℕ) → List ℕ
axis_text s tenth =
    line (codes "<text class=\"axis\" transform=\"translate(" ∷ decimal (160 + 1000 * tenth_of s tenth / s.ticks) ∷ codes "30)\">" ∷ decimal (s.first + tenth_of s tenth) ∷ codes "</text>" ∷ [])

unfoldable pub grid_text : Span → (tasks tenth : ℕ) → List ℕ
grid_text s tasks tenth = line (codes "<path class=\"grid\" d=\"M" ∷ decimal (s.first + tenth_of s tenth) ∷ codes "0 V" ∷ decimal (height_of tasks) ∷ codes "\"/>" ∷ [])

-- THE PLOT of the lanes
unfoldable pub plot_text : Span → List ℕ
plot_text s = line (codes "<svg x=\"160\" y=\"40\" width=\"1000\" height=\"1000\" preserveAspectRatio=\"none\" viewBox=\"" ∷ decimal s.first ∷ codes "0" ∷ decimal s.ticks ∷ codes "1000\">" ∷ [])

-- THE PLOTS BELOW: how many events the collector owed at least, where a unit up is an event and the top is the bound; and how many
-- of the ticks so far went to the collector, and to nobody, where a unit up is a tick

unfoldable pub below_text : (tasks : ℕ) → List ℕ
below_text tasks = line (codes "</svg></g><g transform=\"translate(0" ∷ decimal (height_of tasks + 60) ∷ codes ")\">" ∷ [])

-- a plot that begins so and has so many units up
unfoldable pub frame_text : (start : List ℕ) → Span → (units : ℕ) → List ℕ
frame_text start s units = line (start ∷ decimal s.first ∷ codes "0" ∷ decimal s.ticks ∷ decimal units ∷ codes "\">" ∷ [])

unfoldable pub upright_text : (units : ℕ) → List ℕ
upright_text units = line (codes "<g transform=\"matrix(1 0 0 -1 0" ∷ decimal units ∷ codes ")\">" ∷ [])

-- where the two plots stand
abbrev pub owed_place : List ℕ
owed_place = codes "<svg x=\"160\" y=\"0\" width=\"1000\" height=\"60\" preserveAspectRatio=\"none\" viewBox=\""

abbrev pub ticks_place : List ℕ
ticks_place = codes "<svg x=\"160\" y=\"80\" width=\"1000\" height=\"100\" preserveAspectRatio=\"none\" viewBox=\""

-- the events up to the top, one at least
abbrev pub owed_units : Progress → ℕ
owed_units p = max p.debt 1

-- a curve: where its ticks are it rises, and else it stays
unfoldable pub curve_start : (start : List ℕ) → (first : ℕ) → List ℕ
curve_start start first = line (start ∷ decimal first ∷ codes "0" ∷ [])

unfoldable pub rise_text : Bar → List ℕ
rise_text bar = line (codes "H" ∷ decimal bar.first ∷ codes "l" ∷ decimal (bar.last + 1 - bar.first) ∷ decimal (bar.last + 1 - bar.first) ∷ [])

unfoldable pub curve_end : Span → List ℕ
curve_end s = line (codes "H" ∷ decimal (s.first + s.ticks) ∷ codes "\"/>" ∷ [])

-- what is owed at least: each tick of a rectangle of the collector pays for one event that was owed when the rectangle began
unfoldable pub owed_text : Bar → List ℕ
owed_text bar = line (codes "H" ∷ decimal bar.first ∷ codes "v" ∷ decimal (bar.last + 1 - bar.first) ∷ codes "L" ∷ decimal (bar.last + 1) ∷ codes "0" ∷ [])

abbrev pub pays : Lane → Bool
pays lane.Collector = true
pays other = false

abbrev pub is_collector : Lane → Bool
is_collector lane.Collector = true
is_collector lane.Lost = true
is_collector other = false

abbrev pub is_nobody : Lane → Bool
is_nobody lane.Nobody = true
is_nobody other = false

unfoldable pub owed_fall : Shape → List ℕ
owed_fall (shape.Bar bar) = if pays bar.lane then owed_text bar else []
owed_fall other = []

unfoldable pub collector_rise : Shape → List ℕ
collector_rise (shape.Bar bar) = if is_collector bar.lane then rise_text bar else []
collector_rise other = []

unfoldable pub idle_rise : Shape → List ℕ
idle_rise (shape.Bar bar) = if is_nobody bar.lane then rise_text bar else []
idle_rise other = []

-- what the trace says of the whole run
unfoldable pub counts_text : Progress → List ℕ
counts_text p =
    line (codes "</g></svg><text x=\"160\" y=\"200\">run: debt at most" ∷ decimal p.debt ∷ codes "events, collector" ∷ decimal p.collector ∷ codes "ticks, nobody" ∷ decimal p.idle ∷ codes "ticks</text>" ∷ [])

-- TEXTS THAT NEVER CHANGE. The colours are ones that people with any colour vision tell apart

-- how the picture begins
abbrev pub head_text : List ℕ
head_text = codes "<svg xmlns=\"http://www.w3.org/2000/svg\" role=\"graphics-document document\" aria-labelledby=\"title\" aria-describedby=\"desc\" font-family=\"monospace\" font-size=\"15\"\n"

-- what it shows in words, its colours, and where the names of the lanes begin
abbrev pub style_text : List ℕ
style_text = codes "<desc id=\"desc\">One lane for each task, one for the collector and one for nobody, along an axis of ticks. A rectangle is a run of ticks of one lane. Upright strokes, from the top of a lane to its foot: outputs and faults, arrivals of jobs, their ends, and their deadlines; in the lane of the collector, lost attempts. Below: how many events the collector owed at least, and how many ticks the collector had so far, and how many nobody had.</desc>\n<style>\nsvg svg{overflow:visible}path{fill:none}\n.high{stroke:#0072b2}.low{stroke:#56b4e9}.collector{stroke:#009e73}.lost{stroke:#d55e00}.nobody{stroke:#bbbbbb}\n.high,.low,.collector,.lost,.nobody{stroke-width:10}\n.arrival,.end,.deadline,.out,.fault,.mark,.grid,.owed,.collected,.idle{vector-effect:non-scaling-stroke}\n.arrival,.end{stroke:#000000;stroke-width:1.5}.deadline{stroke:#d55e00;stroke-width:2}\n.out{stroke:#e69f00;stroke-width:3}.fault{stroke:#cc79a7;stroke-width:5}.mark{stroke:#d55e00;stroke-width:2}\n.grid{stroke:#dddddd;stroke-width:1}.axis{text-anchor:middle;font-size:13px}\n.owed{fill:#009e73;stroke:#009e73;stroke-width:1}.collected{stroke:#009e73;stroke-width:2}.idle{stroke:#777777;stroke-width:2;stroke-dasharray:5 3}\n</style>\n<clipPath id=\"plot\"><rect x=\"158\" y=\"0\" width=\"1004\" height=\"1200\"/></clipPath>\n<rect width=\"100%\" height=\"100%\" fill=\"#ffffff\"/>\n<text x=\"8\" y=\"32\">\n"

-- the names of the curves, and a frame round each plot
abbrev pub caption_text : List ℕ
caption_text = codes "<text x=\"8\" y=\"20\">owed at least,</text><text x=\"8\" y=\"42\">of the bound</text>\n<text x=\"8\" y=\"100\">ticks so far</text><text x=\"8\" y=\"124\" fill=\"#00664b\">collector: solid</text><text x=\"8\" y=\"148\" fill=\"#555555\">nobody: dashed</text>\n<path d=\"M160 0H1160V60H160z M160 80H1160V180H160z\" stroke=\"#dddddd\"/>\n"

-- what the marks are, and the end
abbrev pub legend_text : List ℕ
legend_text = codes "<path class=\"high\" d=\"M160 223h30\"/><text x=\"196\" y=\"228\">high task</text><path class=\"low\" d=\"M320 223h30\"/><text x=\"356\" y=\"228\">low task</text><path class=\"collector\" d=\"M480 223h30\"/><text x=\"516\" y=\"228\">collector</text><path class=\"lost\" d=\"M640 223h30\"/><text x=\"676\" y=\"228\">lost attempt</text><path class=\"nobody\" d=\"M820 223h30\"/><text x=\"856\" y=\"228\">nobody</text>\n<path class=\"out\" d=\"M175 240v6\"/><text x=\"196\" y=\"254\">output</text><path class=\"fault\" d=\"M335 240v6\"/><text x=\"356\" y=\"254\">fault</text><path class=\"arrival\" d=\"M495 244v6\"/><text x=\"516\" y=\"254\">arrival</text><path class=\"end\" d=\"M655 250v6\"/><text x=\"676\" y=\"254\">end</text><path class=\"deadline\" d=\"M835 252v6\"/><text x=\"856\" y=\"254\">deadline</text>\n</g></svg>\n"

-- TEXTS THAT STAND ONE BEHIND ANOTHER

-- the texts of the numbers below a bound
unfoldable pub texts_below : (ℕ → List ℕ) → (bound : ℕ) → List ℕ
texts_below text zero = []
texts_below text (suc n) = texts_below text n ++ text n

abbrev pub axis_texts : Span → List ℕ
axis_texts s = texts_below (axis_text s) 11

abbrev pub grid_texts : Span → (tasks : ℕ) → List ℕ
grid_texts s tasks = texts_below (grid_text s tasks) 11

-- a text with the head behind it; with the names of the lanes; with the numbers on the axis and the plot with its rules
abbrev pub with_head : (before : List ℕ) → Span → Chart → List ℕ
with_head before s chart = before ++ head_text ++ size_text chart.progress.tasks ++ name_text s chart.progress.ticks ++ style_text

abbrev pub with_names : (before : List ℕ) → Chart → List ℕ
with_names before chart = before ++ flat_map task_label chart.tasks ++ label_text (codes "collector") ++ label_text (codes "nobody") ++ codes "</text>\n"

abbrev pub with_plot : (before : List ℕ) → Span → Chart → List ℕ
with_plot before s chart = before ++ axis_texts s ++ codes "<g clip-path=\"url(#plot)\">\n" ++ plot_text s ++ grid_texts s chart.progress.tasks

-- everything before the shapes
abbrev pub top_text : Span → Chart → List ℕ
top_text s chart = with_plot (with_names (with_head [] s chart) chart) s chart

-- between the shapes and the curve of what is owed
abbrev pub owed_start_text : Span → Chart → List ℕ
owed_start_text s chart =
    [] ++ below_text chart.progress.tasks ++ caption_text ++ frame_text owed_place s (owed_units chart.progress) ++ upright_text (owed_units chart.progress)
    ++ curve_start (codes "<path class=\"owed\" d=\"M") s.first

-- between that curve and the collector's
abbrev pub middle_text : Span → List ℕ
middle_text s =
    [] ++ curve_end s ++ codes "</g></svg>\n" ++ frame_text ticks_place s s.ticks ++ upright_text s.ticks ++ curve_start (codes "<path class=\"collected\" d=\"M") s.first

-- between that curve and the one of nobody
abbrev pub between_text : Span → List ℕ
between_text s = [] ++ curve_end s ++ curve_start (codes "<path class=\"idle\" d=\"M") s.first

-- behind the last one
abbrev pub bottom_text : Span → Chart → List ℕ
bottom_text s chart = [] ++ curve_end s ++ counts_text chart.progress ++ legend_text

-- a part of the picture that has a text for each shape
abbrev pub part_text : Part → Progress → List Task → Shape → List ℕ
part_text part.Bars p tasks one = rectangle_text p one
part_text part.Marks p tasks one = whole_mark p tasks one
part_text part.Owed p tasks one = owed_fall one
part_text part.Collector p tasks one = collector_rise one
part_text part.Idle p tasks one = idle_rise one

abbrev pub texts_of : Part → Chart → List ℕ
texts_of part chart = flat_map (part_text part chart.progress chart.tasks) chart.shapes

-- THE WHOLE PICTURE: the marks stand behind the rectangles, so that they are painted over them
abbrev pub picture : Span → Chart → List ℕ
picture s chart =
    [] ++ top_text s chart ++ texts_of part.Bars chart ++ texts_of part.Marks chart ++ owed_start_text s chart ++ texts_of part.Owed chart ++ middle_text s ++ texts_of part.Collector chart
    ++ between_text s ++ texts_of part.Idle chart ++ bottom_text s chart
