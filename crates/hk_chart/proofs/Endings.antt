-- From how a text was written to what the top call promises.
use Rattle.std.proofs.Common.{◌≡◌, ℕ, ◌⊎◌, inl, inr, List, [], ◌++◌, map, Option, Some, None, Ok, Err, refl, sym, ap, ◌∙◌, subst, String, Global}
use Rattle.std.specs.Prelude.{IfSome, string_bytes}
use Rattle.hk_chart.specs.declared.chart.Chart.{Chart}
use Rattle.hk_chart.specs.declared.charted.Charted.{Charted}
use Rattle.hk_chart.specs.declared.charted.Charted.TheVariants as charted
use Rattle.hk_chart.specs.declared.picture.Frame.{Frame}
use Rattle.hk_chart.specs.declared.picture.Part.TheVariants as part
use Rattle.hk_chart.specs.declared.reader.Stop.{Stop}
use Rattle.hk_chart.specs.declared.span.Span.{Span}
use Rattle.hk_chart.specs.declared.window.Window.{Window}
use Rattle.hk_chart.specs.Drawing.{span_of, picture, texts_of, top_text, owed_start_text, middle_text, between_text}
use Rattle.hk_chart.specs.Framed.{IsFrame, framed}
use Rattle.hk_chart.specs.Reading.{HasRead}
use Rattle.hk_chart.specs.Tool.{window_of, usage_line, stop_line, end_of, text_of, WindowCallsFor, CallsFor, HasText, Calls, Writes, WritesPrefix, Ends}

-- the texts around the shapes make the picture
pub framed_is : (s : Span) (chart : Chart) (frame : Frame) → IsFrame s chart frame → framed frame chart ≡ picture s chart
framed_is s chart frame is =
    ap (λ (l : List ℕ). [] ++ l ++ texts_of part.Bars chart ++ texts_of part.Marks chart ++ frame.owed ++ texts_of part.Owed chart ++ frame.middle ++ texts_of part.Collector chart ++ frame.between ++ texts_of part.Idle chart ++ frame.bottom) is.top
    ∙ ap (λ (l : List ℕ). picture_before ++ l ++ texts_of part.Owed chart ++ frame.middle ++ texts_of part.Collector chart ++ frame.between ++ texts_of part.Idle chart ++ frame.bottom) is.owed
    ∙ ap (λ (l : List ℕ). picture_owed ++ l ++ texts_of part.Collector chart ++ frame.between ++ texts_of part.Idle chart ++ frame.bottom) is.middle
    ∙ ap (λ (l : List ℕ). picture_middle ++ l ++ texts_of part.Idle chart ++ frame.bottom) is.between
    ∙ ap (λ (l : List ℕ). picture_between ++ l) is.bottom
  where
    picture_before : List ℕ
    picture_before = [] ++ top_text s chart ++ texts_of part.Bars chart ++ texts_of part.Marks chart

    picture_owed : List ℕ
    picture_owed = picture_before ++ owed_start_text s chart ++ texts_of part.Owed chart

    picture_middle : List ℕ
    picture_middle = picture_owed ++ middle_text s ++ texts_of part.Collector chart

    picture_between : List ℕ
    picture_between = picture_middle ++ between_text s ++ texts_of part.Idle chart

-- some bytes, where the input isn't told
any_input : (input : Option (List ℕ)) → (bytes : List ℕ) × IfSome input (λ left. bytes ≡ left)
any_input None = ([], tt)
any_input (Some left) = (left, refl)

module _ (words : List (String Global)) (input : Option (List ℕ)) where
  as_window : (o : Option Window) (bytes text : List ℕ) (ended : Charted) → window_of (map string_bytes words) ≡ o → WindowCallsFor o bytes ended text → CallsFor words bytes ended text
  as_window o bytes text ended is h = subst (λ (k : Option Window). WindowCallsFor k bytes ended text) (sym is) h

  -- wrong words call for the usage line
  pub usage_calls : (text : List ℕ) → text ≡ usage_line → window_of (map string_bytes words) ≡ None → Calls words input charted.Usage text
  usage_calls text line is = let any = any_input input in record { bytes = any.0; told = any.1; called = as_window None any.0 text charted.Usage is (refl, line) }

  -- a picture is called for
  pub picture_calls : (w : Window) (chart : Chart) (text : List ℕ) → window_of (map string_bytes words) ≡ Some w → HasRead w input (Ok chart)
      → text ≡ picture (span_of w chart.progress.ticks) chart → Calls words input charted.Done text
  picture_calls w chart text is read line = record {
    bytes = read.bytes;
    told = read.told;
    called = as_window (Some w) read.bytes text charted.Done is (ap end_of (sym read.comes), line ∙ ap (text_of w) (sym read.comes));
  }

  -- the line for a trace that is refused is called for
  pub stop_calls : (w : Window) (why : Stop) (text : List ℕ) → window_of (map string_bytes words) ≡ Some w → HasRead w input (Err why)
      → text ≡ stop_line why → Calls words input charted.Trace text
  stop_calls w why text is read line = record {
    bytes = read.bytes;
    told = read.told;
    called = as_window (Some w) read.bytes text charted.Trace is (ap end_of (sym read.comes), line ∙ ap (text_of w) (sym read.comes));
  }

one_window : (o : Option Window) (bytes t u : List ℕ) (a b : Charted) → WindowCallsFor o bytes a t → WindowCallsFor o bytes b u → a ≡ b
one_window None bytes t u a b h i = h.0 ∙ sym i.0
one_window (Some w) bytes t u a b h i = h.0 ∙ sym i.0

module _ (words : List (String Global)) (input before after : Option (List ℕ)) (faults faults_after : ℕ) (owed ended : Charted) (text : List ℕ) (calls : Calls words input owed text)
    (ends : Ends owed text before after faults faults_after ended) where
  pub whole_of : HasText ended → Writes words input before after ended
  whole_of has = by_end ends.ends
    where
      by_end : (ended ≡ owed) ⊎ (ended ≡ charted.WriteFault) → Writes words input before after ended
      by_end (inl is) = record { text = text; calls = subst (λ (e : Charted). Calls words input e text) (sym is) calls; written = ends.whole is }
      by_end (inr fault) = absurd (subst HasText fault has)

  pub prefix_of : ended ≡ charted.WriteFault → WritesPrefix words input before after
  prefix_of fault = record { ended = owed; text = text; calls = calls; written = ends.prefix fault }

-- where nothing fails, the end is the one that is called for
pub complete : (words : List (String Global)) (input : Option (List ℕ)) (owed ended : Charted) (text : List ℕ) → Calls words input owed text → (ended ≡ owed) ⊎ (ended ≡ charted.WriteFault) → (ended ≡ charted.WriteFault → ⊥)
    → IfSome input (λ bytes. (other : Charted) (u : List ℕ) → CallsFor words bytes other u → (ended ≡ other) ⊎ (ended ≡ charted.Memory))
complete words None owed ended text calls ends none = tt
complete words (Some left) owed ended text calls (inr fault) none = absurd (none fault)
complete words (Some left) owed ended text calls (inl is) none = λ other u called.
    inl (is ∙ one_window (window_of (map string_bytes words)) left text u owed other (subst (λ (b : List ℕ). CallsFor words b owed text) calls.told calls.called) called)
