-- HOW A TRACE IS READ: byte by byte, each line at its newline.
use Rattle.std.specs.Prelude.{◌≡◌, ℕ, ◌+◌, ◌≤◌, ◌&&◌, nat_lt, nat_le, ◌==◌, if◌then◌else◌, List, [], ◌∷◌, ◌++◌, length, Option, Some, None, Result, Ok, Err, IfSome}
use Rattle.hk_io.specs.declared.line.TheConstants.{LINE_ROOM}
use Rattle.hk_chart.specs.declared.chart.Chart.{Chart}
use Rattle.hk_chart.specs.declared.reader.Reader.{Reader}
use Rattle.hk_chart.specs.declared.reader.Stop.{Stop}
use Rattle.hk_chart.specs.declared.reader.Stop.TheVariants as stop
use Rattle.hk_chart.specs.declared.reader.TheConstants.{MAX_BYTES}
use Rattle.hk_chart.specs.declared.shape.TheConstants.{MAX_SHAPES}
use Rattle.hk_chart.specs.declared.window.Window.{Window}
use Rattle.hk_chart.specs.Words.{words_of}
use Rattle.hk_chart.specs.Chart.{opening_chart, chart_after}
use Rattle.hk_chart.specs.Progress.{is_over}
use Rattle.hk_chart.specs.Shapes.{with_bar}

-- nothing was read
abbrev pub opening_reader : Reader
opening_reader = record { chart = opening_chart; line = []; lines = 0; bytes = 0 }

-- the line that has begun can't be: its number counts from 1
abbrev pub no_line : Reader → Stop
no_line r = stop.Line (r.lines + 1)

-- a line that follows was taken, unless the picture has too many shapes
abbrev pub with_chart : Reader → Option Chart → Result Reader Stop
with_chart r None = Err (no_line r)
with_chart r (Some chart) =
    if nat_lt MAX_SHAPES (length chart.shapes) then Err stop.Long
    else Ok (record { chart = chart; line = []; lines = r.lines + 1; bytes = r.bytes })

-- a newline: the line is taken
unfoldable pub after_end_of_line : Window → Reader → Result Reader Stop
after_end_of_line w r = with_chart r (chart_after w r.chart (words_of r.line))

-- a byte: there may be too many; a newline ends a line; any other byte goes on with it, where it has room for a newline then
unfoldable pub after_byte : Window → Reader → (byte : ℕ) → Result Reader Stop
after_byte w r byte =
    if nat_le MAX_BYTES r.bytes then Err stop.Long
    else if byte == 10 then after_end_of_line w (record r { bytes = r.bytes + 1 })
    else if nat_le LINE_ROOM (length r.line + 1) then Err (no_line r)
    else Ok (record r { line = r.line ++ byte ∷ []; bytes = r.bytes + 1 })

-- the picture with its last rectangle
abbrev pub finished : Chart → Chart
finished chart = record chart { shapes = with_bar chart.shapes chart.current }

-- the end of the input: the last line was read, and nothing stands behind its newline; else a line lacks
unfoldable pub at_end : Reader → Result Chart Stop
at_end r = if is_over r.chart.progress.stage && length r.line == 0 then Ok (finished r.chart) else Err (no_line r)

abbrev pub and_on : Result Reader Stop → (Reader → Result Chart Stop) → Result Chart Stop
and_on (Ok r) on = on r
and_on (Err why) on = Err why

-- WHAT ALL BYTES COME TO: a picture, or why there is none
unfoldable pub read_on : Window → Reader → List ℕ → Result Chart Stop
read_on w r [] = at_end r
read_on w r (byte ∷ bytes) = and_on (after_byte w r byte) (λ next. read_on w next bytes)

-- THE PARTS OF THE READER

-- a part went on, or stopped
abbrev pub IsAnswer : Result Reader Stop → (after : Reader) → Option Stop → Type 0
IsAnswer answer after None = answer ≡ Ok after
IsAnswer answer after (Some why) = answer ≡ Err why

-- each line has a byte, and there are few bytes
abbrev pub IsCounted : Reader → Type 0
IsCounted r = (r.lines ≤ r.bytes) × (r.bytes ≤ MAX_BYTES)

-- some bytes were taken: what they and any others come to is what the others come to from there on, or why it stopped
abbrev pub HasTaken : Window → (before : Reader) → (bytes : List ℕ) → (after : Reader) → Option Stop → Type 0
HasTaken w before bytes after None = (rest : List ℕ) → read_on w before (bytes ++ rest) ≡ read_on w after rest
HasTaken w before bytes after (Some why) = (rest : List ℕ) → read_on w before (bytes ++ rest) ≡ Err why

-- an input was read, and came to this; where the input isn't told, some input does
pub record HasRead (w : Window) (input : Option (List ℕ)) (answer : Result Chart Stop) : Type 0 where
  pub bytes : List ℕ
  pub told : IfSome input (λ left. bytes ≡ left)
  pub comes : read_on w opening_reader bytes ≡ answer
