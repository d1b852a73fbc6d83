-- THE LINES OF A TRACE: which words each has.
use Rattle.std.specs.Prelude.{ℕ, ◌^◌, Bool, true, false, ◌&&◌, ◌||◌, List, [], ◌∷◌, length, nat_lt, nat_le, ◌==◌, if◌then◌else◌, Option, Some, None, codes}
use Rattle.std.specs.Char.{is_ascii_lowercase, is_ascii_digit}
use Rattle.std.specs.List.{list_all, position}
use Rattle.std.specs.Option.{option_and_then}
use Rattle.std.specs.Str.{bytes_eq}
use Rattle.hk_io.specs.Number.{number_of}
use Rattle.hk_chart.specs.declared.task.Task.{Task}
use Rattle.hk_chart.specs.declared.task.TheConstants.{MAX_NAME}
use Rattle.hk_chart.specs.declared.trace_line.Cause.{Cause}
use Rattle.hk_chart.specs.declared.trace_line.Cause.TheVariants as cause
use Rattle.hk_chart.specs.declared.trace_line.Who.{Who}
use Rattle.hk_chart.specs.declared.trace_line.Who.TheVariants as who
use Rattle.hk_chart.specs.declared.trace_line.TraceLine.{TraceLine}
use Rattle.hk_chart.specs.declared.trace_line.TraceLine.TheVariants as line

infixl 10 ◌>>=◌
abbrev pub ◌>>=◌ : {A B : Type 0} → Option A → (A → Option B) → Option B
o >>= f = option_and_then f o

-- NUMBERS, in decimal digits and without leading zeros

-- several digits, the first a zero
abbrev pub leads_with_zero : List ℕ → Bool
leads_with_zero (first ∷ next ∷ rest) = first == 48
leads_with_zero word = false

-- a number of 64 bits
unfoldable pub number_in : List ℕ → Option ℕ
number_in word = if leads_with_zero word then None else number_of word

-- a number, where it has 32 bits at most
abbrev pub if_small : ℕ → Option ℕ
if_small n = if nat_lt n (2 ^ 32) then Some n else None

unfoldable pub small_in : List ℕ → Option ℕ
small_in word = number_in word >>= if_small

-- NAMES: 1 to 16 bytes of `a` to `z`, `0` to `9` and `_`, a letter first

abbrev pub is_name_byte : ℕ → Bool
is_name_byte byte = is_ascii_lowercase byte || is_ascii_digit byte || byte == 95

abbrev pub is_name : List ℕ → Bool
is_name [] = nat_lt 0 0
is_name (first ∷ rest) = is_ascii_lowercase first && (list_all is_name_byte rest && nat_le (length (first ∷ rest)) MAX_NAME)

-- the place of the task of a name
unfoldable pub place_of : List Task → List ℕ → Option ℕ
place_of tasks name = position (λ task. bytes_eq task.name name) tasks

-- the same, where it has 8 bits at most; there are never more tasks
abbrev pub if_byte : ℕ → Option ℕ
if_byte n = if nat_lt n (2 ^ 8) then Some n else None

unfoldable pub lane_in : List Task → List ℕ → Option ℕ
lane_in tasks name = place_of tasks name >>= if_byte

-- a name that no task has yet
abbrev pub is_unused : Option ℕ → Bool
is_unused None = true
is_unused (Some lane) = false

abbrev pub is_new_name : List Task → List ℕ → Bool
is_new_name tasks name = is_name name && is_unused (lane_in tasks name)

-- THE ANALYSIS

-- `heap work W attempt A busy B debt D`
unfoldable pub heap_line : (a w b x c y d z : List ℕ) → Option TraceLine
heap_line a w b x c y d z =
    if bytes_eq a (codes "work") && bytes_eq b (codes "attempt") && bytes_eq c (codes "busy") && bytes_eq d (codes "debt")
    then (number_in w >>= λ work. number_in x >>= λ attempt. number_in y >>= λ busy. number_in z >>= λ debt. Some (line.Heap debt))
    else None

-- `high NAME response R deadline D`
unfoldable pub high_line : List Task → (name a r b d : List ℕ) → Option TraceLine
high_line tasks name a r b d =
    if bytes_eq a (codes "response") && bytes_eq b (codes "deadline") && is_new_name tasks name
    then (small_in r >>= λ response. small_in d >>= λ deadline. Some (line.High deadline))
    else None

-- `low NAME`
unfoldable pub low_line : List Task → (name : List ℕ) → Option TraceLine
low_line tasks name = if is_new_name tasks name then Some line.Low else None

-- THE TICKS

-- `t TICK idle`
unfoldable pub idle_line : (tick what : List ℕ) → Option TraceLine
idle_line tick what = if bytes_eq what (codes "idle") then (small_in tick >>= λ t. Some (line.Tick t who.Idle)) else None

-- who got a tick: `high NAME`, `low NAME`, `gc step`, `gc flip`, `gc live`
unfoldable pub collector_in : (event : List ℕ) → Option Who
collector_in event =
    if bytes_eq event (codes "step") then Some who.Step
    else if bytes_eq event (codes "flip") then Some who.Flip
    else if bytes_eq event (codes "live") then Some who.Live
    else None

unfoldable pub who_in : List Task → (kind name : List ℕ) → Option Who
who_in tasks kind name =
    if bytes_eq kind (codes "high") then (lane_in tasks name >>= λ lane. Some (who.High lane))
    else if bytes_eq kind (codes "low") then (lane_in tasks name >>= λ lane. Some (who.Low lane))
    else if bytes_eq kind (codes "gc") then collector_in name
    else None

-- `t TICK high NAME` and the others of this length
unfoldable pub tick_line : List Task → (tick kind name : List ℕ) → Option TraceLine
tick_line tasks tick kind name = small_in tick >>= λ t. who_in tasks kind name >>= λ w. Some (line.Tick t w)

-- `t TICK gc lost N`
unfoldable pub lost_line : (tick kind event count : List ℕ) → Option TraceLine
lost_line tick kind event count =
    if bytes_eq kind (codes "gc") && bytes_eq event (codes "lost")
    then (small_in tick >>= λ t. number_in count >>= λ n. Some (line.Tick t (who.Lost n)))
    else None

-- `out TICK NAME VALUE`
unfoldable pub out_line : List Task → (tick name value : List ℕ) → Option TraceLine
out_line tasks tick name value = small_in tick >>= λ t. lane_in tasks name >>= λ lane. number_in value >>= λ n. Some (line.Out t lane n)

-- `nil` or `field`
unfoldable pub cause_in : List ℕ → Option Cause
cause_in word =
    if bytes_eq word (codes "nil") then Some cause.Nil
    else if bytes_eq word (codes "field") then Some cause.Field
    else None

-- `fault TICK NAME JOB STATEMENT nil` or `field`
unfoldable pub fault_line : List Task → (tick name job statement why : List ℕ) → Option TraceLine
fault_line tasks tick name job statement why =
    small_in tick >>= λ t. lane_in tasks name >>= λ lane. small_in job >>= λ j. small_in statement >>= λ s. cause_in why >>= λ c. Some (line.Fault t lane j s c)

-- `ended TICK NAME JOB TICKS`
unfoldable pub ended_line : List Task → (tick name job ticks : List ℕ) → Option TraceLine
ended_line tasks tick name job ticks =
    small_in tick >>= λ t. lane_in tasks name >>= λ lane. small_in job >>= λ j. small_in ticks >>= λ n. Some (line.Ended t lane j n)

-- THE LAST LINES

-- `done NAME jobs J latest X`
unfoldable pub done_line : List Task → (name a jobs b latest : List ℕ) → Option TraceLine
done_line tasks name a jobs b latest =
    if bytes_eq a (codes "jobs") && bytes_eq b (codes "latest")
    then (lane_in tasks name >>= λ lane. small_in jobs >>= λ j. small_in latest >>= λ x. Some (line.Done lane))
    else None

-- `cycles C collector E idle I`
unfoldable pub cycles_line : (cycles a collector b idle : List ℕ) → Option TraceLine
cycles_line cycles a collector b idle =
    if bytes_eq a (codes "collector") && bytes_eq b (codes "idle")
    then (small_in cycles >>= λ c. number_in collector >>= λ e. number_in idle >>= λ i. Some (line.Cycles e i))
    else None

-- `end N`
unfoldable pub end_line : (ticks : List ℕ) → Option TraceLine
end_line ticks = small_in ticks >>= λ n. Some (line.End n)

-- `live TICK WORDS above E`
unfoldable pub live_line : (tick words a limit : List ℕ) → Option TraceLine
live_line tick words a limit =
    if bytes_eq a (codes "above")
    then (small_in tick >>= λ t. number_in words >>= λ w. number_in limit >>= λ e. Some (line.Live t))
    else None

-- BY THE FIRST WORD AND THE NUMBER OF WORDS

unfoldable pub two_words : List Task → (name a : List ℕ) → Option TraceLine
two_words tasks name a =
    if bytes_eq name (codes "low") then low_line tasks a
    else if bytes_eq name (codes "end") then end_line a
    else None

unfoldable pub three_words : (name a b : List ℕ) → Option TraceLine
three_words name a b = if bytes_eq name (codes "t") then idle_line a b else None

unfoldable pub four_words : List Task → (name a b c : List ℕ) → Option TraceLine
four_words tasks name a b c =
    if bytes_eq name (codes "t") then tick_line tasks a b c
    else if bytes_eq name (codes "out") then out_line tasks a b c
    else None

unfoldable pub five_words : List Task → (name a b c d : List ℕ) → Option TraceLine
five_words tasks name a b c d =
    if bytes_eq name (codes "t") then lost_line a b c d
    else if bytes_eq name (codes "ended") then ended_line tasks a b c d
    else if bytes_eq name (codes "live") then live_line a b c d
    else None

unfoldable pub six_words : List Task → (name a b c d e : List ℕ) → Option TraceLine
six_words tasks name a b c d e =
    if bytes_eq name (codes "high") then high_line tasks a b c d e
    else if bytes_eq name (codes "fault") then fault_line tasks a b c d e
    else if bytes_eq name (codes "done") then done_line tasks a b c d e
    else if bytes_eq name (codes "cycles") then cycles_line a b c d e
    else None

unfoldable pub nine_words : (name a b c d e f g h : List ℕ) → Option TraceLine
nine_words name a b c d e f g h = if bytes_eq name (codes "heap") then heap_line a b c d e f g h else None

-- the line of these words, in a trace whose analysis has named these tasks so far
unfoldable pub line_of : List Task → List (List ℕ) → Option TraceLine
line_of tasks (name ∷ a ∷ []) = two_words tasks name a
line_of tasks (name ∷ a ∷ b ∷ []) = three_words name a b
line_of tasks (name ∷ a ∷ b ∷ c ∷ []) = four_words tasks name a b c
line_of tasks (name ∷ a ∷ b ∷ c ∷ d ∷ []) = five_words tasks name a b c d
line_of tasks (name ∷ a ∷ b ∷ c ∷ d ∷ e ∷ []) = six_words tasks name a b c d e
line_of tasks (name ∷ a ∷ b ∷ c ∷ d ∷ e ∷ f ∷ g ∷ h ∷ []) = nine_words name a b c d e f g h
line_of tasks ws = None
