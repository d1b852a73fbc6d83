-- What the program answers and writes, by its words and its input.
use Rattle.std.specs.Prelude.{◌≡◌, ◌≢◌, ◌⊎◌, ℕ, ◌≤◌, ◌&&◌, nat_lt, nat_le, if◌then◌else◌, List, [], ◌∷◌, map, codes, decimal, Option, Some, None, Result, Ok, Err, IfSome, String}
use Rattle.std.specs.String.{string_bytes}
use Rattle.std.specs.declared.alloc.Global.{Global}
use Rattle.std.specs.Io.KnownBytes.{Appends}
use Rattle.hk_io.specs.Bytes.{AppendsPrefix}
use Rattle.hk_io.specs.Faults.{Rose}
use Rattle.hk_chart.specs.declared.chart.Chart.{Chart}
use Rattle.hk_chart.specs.declared.charted.Charted.{Charted}
use Rattle.hk_chart.specs.declared.charted.Charted.TheVariants as charted
use Rattle.hk_chart.specs.declared.progress.TheConstants.{MAX_TICKS}
use Rattle.hk_chart.specs.declared.reader.Stop.{Stop}
use Rattle.hk_chart.specs.declared.reader.Stop.TheVariants as stop
use Rattle.hk_chart.specs.declared.window.Window.{Window}
use Rattle.hk_chart.specs.Words.{line}
use Rattle.hk_chart.specs.Trace.{◌>>=◌, small_in}
use Rattle.hk_chart.specs.Reading.{opening_reader, read_on}
use Rattle.hk_chart.specs.Drawing.{span_of, picture}

-- the exit status of a program that ends so
abbrev pub number_of : Charted → ℕ
number_of charted.Done = 0
number_of charted.Memory = 1
number_of charted.Usage = 2
number_of charted.ReadFault = 3
number_of charted.WriteFault = 4
number_of charted.Trace = 12

-- THE WORDS: none, for all ticks; or the first and the last tick

abbrev pub window_if : (first last : ℕ) → Option Window
window_if first last = if nat_le first last && nat_lt last MAX_TICKS then Some (record { first = first; last = last }) else None

unfoldable pub window_of_two : (first last : List ℕ) → Option Window
window_of_two first last = small_in first >>= λ f. small_in last >>= λ l. window_if f l

abbrev pub whole_run : Window
whole_run = record { first = 0; last = 16777215 }

unfoldable pub window_of : List (List ℕ) → Option Window
window_of [] = Some whole_run
window_of (first ∷ last ∷ []) = window_of_two first last
window_of words = None

-- THE LINES

abbrev pub usage_line : List ℕ
usage_line = line (codes "usage: hk_chart [FIRST LAST]" ∷ [])

-- why there is no picture: the line of this number is none of a trace there; or it is too long
unfoldable pub stop_line : Stop → List ℕ
stop_line (stop.Line number) = line (codes "line" ∷ decimal number ∷ [])
stop_line stop.Long = line (codes "trace long" ∷ [])

-- what was read calls for: the picture, or why there is none
abbrev pub end_of : Result Chart Stop → Charted
end_of (Ok chart) = charted.Done
end_of (Err why) = charted.Trace

abbrev pub text_of : Window → Result Chart Stop → List ℕ
text_of w (Ok chart) = picture (span_of w chart.progress.ticks) chart
text_of w (Err why) = stop_line why

-- WHAT THE WORDS AND THE BYTES CALL FOR: one end and one text
abbrev pub WindowCallsFor : Option Window → (bytes : List ℕ) → Charted → (text : List ℕ) → Type 0
WindowCallsFor None bytes ended text = (ended ≡ charted.Usage) × (text ≡ usage_line)
WindowCallsFor (Some w) bytes ended text = (ended ≡ end_of (read_on w opening_reader bytes)) × (text ≡ text_of w (read_on w opening_reader bytes))

abbrev pub CallsFor : List (String Global) → (bytes : List ℕ) → Charted → (text : List ℕ) → Type 0
CallsFor words bytes ended text = WindowCallsFor (window_of (map string_bytes words)) bytes ended text

-- a program that ends so has written a text whole
abbrev pub HasText : Charted → Type 0
HasText charted.Memory = ⊥
HasText charted.ReadFault = ⊥
HasText charted.WriteFault = ⊥
HasText other = Unit {0}

-- the words and the input call for this end and this text; where the input isn't told, some input does
pub record Calls (words : List (String Global)) (input : Option (List ℕ)) (ended : Charted) (text : List ℕ) : Type 0 where
  pub bytes : List ℕ
  pub told : IfSome input (λ left. bytes ≡ left)
  pub called : CallsFor words bytes ended text

-- the whole text was written that the words and the input call for
pub record Writes (words : List (String Global)) (input before after : Option (List ℕ)) (ended : Charted) : Type 0 where
  pub text : List ℕ
  pub calls : Calls words input ended text
  pub written : Appends before after text

-- a first part was written of the text that the words and the input call for
pub record WritesPrefix (words : List (String Global)) (input before after : Option (List ℕ)) : Type 0 where
  pub ended : Charted
  pub text : List ℕ
  pub calls : Calls words input ended text
  pub written : AppendsPrefix before after text

-- a text was to be written: it was, or a first part of it, and the count of faults rose
pub record Ends (owed : Charted) (text : List ℕ) (before after : Option (List ℕ)) (faults faults_after : ℕ) (ended : Charted) : Type 0 where
  pub ends : (ended ≡ owed) ⊎ (ended ≡ charted.WriteFault)
  pub whole : ended ≡ owed → Appends before after text
  pub prefix : ended ≡ charted.WriteFault → AppendsPrefix before after text
  pub cause : ended ≡ charted.WriteFault → Rose faults faults_after
  pub kept : ended ≢ charted.WriteFault → faults_after ≡ faults
  pub later : faults ≤ faults_after
