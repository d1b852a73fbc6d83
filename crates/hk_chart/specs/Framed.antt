-- A picture with what stands around its shapes.
use Rattle.std.specs.Prelude.{◌≡◌, ℕ, List, [], ◌++◌}
use Rattle.hk_chart.specs.declared.chart.Chart.{Chart}
use Rattle.hk_chart.specs.declared.picture.Frame.{Frame}
use Rattle.hk_chart.specs.declared.picture.Part.TheVariants as part
use Rattle.hk_chart.specs.declared.span.Span.{Span}
use Rattle.hk_chart.specs.Drawing.{top_text, owed_start_text, middle_text, between_text, bottom_text, texts_of}

-- these texts are what stands around the shapes
pub record IsFrame (s : Span) (chart : Chart) (frame : Frame) : Type 0 where
  pub top : frame.top ≡ top_text s chart
  pub owed : frame.owed ≡ owed_start_text s chart
  pub middle : frame.middle ≡ middle_text s
  pub between : frame.between ≡ between_text s
  pub bottom : frame.bottom ≡ bottom_text s chart

-- the shapes and the curves between these texts
abbrev pub framed : Frame → Chart → List ℕ
framed frame chart =
    [] ++ frame.top ++ texts_of part.Bars chart ++ texts_of part.Marks chart ++ frame.owed ++ texts_of part.Owed chart ++ frame.middle ++ texts_of part.Collector chart
    ++ frame.between ++ texts_of part.Idle chart ++ frame.bottom
