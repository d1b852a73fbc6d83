-- What the collector is in the middle of. Each of these is a table on lines and stages.
use Rattle.std.specs.Prelude.{◌≡◌, ℕ, ◌+◌, ◌-◌, ◌*◌, ◌<◌, ◌≤◌, Bool, true, false, ⊤, Option, Some, None, if◌then◌else◌}
use Rattle.hk_words.specs.declared.geometry.Geometry.{Geometry}
use Rattle.hk_words.specs.Geometry.{tasks, numbers, list_length, space_words}
use Rattle.hk_core.specs.declared.spot.Spot.{Spot}
use Rattle.hk_core.specs.declared.spot.Line.{Line}
use Rattle.hk_core.specs.declared.spot.Line.TheVariants as line
use Rattle.hk_core.specs.declared.spot.Stage.{Stage}
use Rattle.hk_core.specs.declared.spot.Stage.TheVariants as stage
use Rattle.hk_core.specs.Step.{reference_size}
use Rattle.hk_core.specs.Flights.{Hand, no_claim, to_reserve, to_link}

-- the collector rests
unfoldable pub is_resting : Line → Bool
is_resting line.Rest = true
is_resting (line.Frame s) = false
is_resting (line.Register s r stage) = false
is_resting (line.FrameTrade s) = false
is_resting line.Scan = false
is_resting line.Link = false
is_resting line.Look = false
is_resting (line.Cell i stage) = false
is_resting line.ObjectTrade = false
is_resting (line.Pass n) = false
is_resting (line.PassHead n) = false
is_resting (line.Sweep n stage) = false
is_resting (line.Clear i) = false
is_resting line.Reset = false

-- the collector is still looking for objects: from the flip to the end of the pass
unfoldable pub is_marking : Line → Bool
is_marking line.Rest = false
is_marking (line.Frame s) = true
is_marking (line.Register s r stage) = true
is_marking (line.FrameTrade s) = true
is_marking line.Scan = true
is_marking line.Link = true
is_marking line.Look = true
is_marking (line.Cell i stage) = true
is_marking line.ObjectTrade = true
is_marking (line.Pass n) = true
is_marking (line.PassHead n) = true
is_marking (line.Sweep n stage) = false
is_marking (line.Clear i) = false
is_marking line.Reset = false

-- the collector looks for objects or sweeps
unfoldable pub is_sweeping_or_marking : Line → Bool
is_sweeping_or_marking line.Rest = false
is_sweeping_or_marking (line.Frame s) = true
is_sweeping_or_marking (line.Register s r stage) = true
is_sweeping_or_marking (line.FrameTrade s) = true
is_sweeping_or_marking line.Scan = true
is_sweeping_or_marking line.Link = true
is_sweeping_or_marking line.Look = true
is_sweeping_or_marking (line.Cell i stage) = true
is_sweeping_or_marking line.ObjectTrade = true
is_sweeping_or_marking (line.Pass n) = true
is_sweeping_or_marking (line.PassHead n) = true
is_sweeping_or_marking (line.Sweep n stage) = true
is_sweeping_or_marking (line.Clear i) = false
is_sweeping_or_marking line.Reset = false

-- how many frames were blackened, from seat 0 on; nothing is said of them from the sweep on
unfoldable pub frames_done : Geometry → Line → ℕ
frames_done g line.Rest = 0
frames_done g (line.Frame s) = s
frames_done g (line.Register s r stage) = s
frames_done g (line.FrameTrade s) = s
frames_done g line.Scan = tasks g
frames_done g line.Link = tasks g
frames_done g line.Look = tasks g
frames_done g (line.Cell i stage) = tasks g
frames_done g line.ObjectTrade = tasks g
frames_done g (line.Pass n) = tasks g
frames_done g (line.PassHead n) = tasks g
frames_done g (line.Sweep n stage) = 0
frames_done g (line.Clear i) = 0
frames_done g line.Reset = 0

-- the open attempt on a frame: its seat, and how many of the registers it has gone past
unfoldable pub frame_attempt : Geometry → Line → Option (ℕ × ℕ)
frame_attempt g line.Rest = None
frame_attempt g (line.Frame s) = None
frame_attempt g (line.Register s r stage) = Some (s, r)
frame_attempt g (line.FrameTrade s) = Some (s, g.registers)
frame_attempt g line.Scan = None
frame_attempt g line.Link = None
frame_attempt g line.Look = None
frame_attempt g (line.Cell i stage) = None
frame_attempt g line.ObjectTrade = None
frame_attempt g (line.Pass n) = None
frame_attempt g (line.PassHead n) = None
frame_attempt g (line.Sweep n stage) = None
frame_attempt g (line.Clear i) = None
frame_attempt g line.Reset = None

-- the stages at which a reference was loaded and is dealt with before the collector goes on
unfoldable pub is_in_work : Stage → Bool
is_in_work stage.Read = false
is_in_work stage.Claim = true
is_in_work stage.Reserve = true
is_in_work stage.Tie = true
is_in_work stage.Write = false
is_in_work stage.Mark = false
is_in_work stage.Empty = false

-- the register in work: it was loaded, and its reference is dealt with
unfoldable pub register_in_work : Line → Option (ℕ × ℕ)
register_in_work line.Rest = None
register_in_work (line.Frame s) = None
register_in_work (line.Register s r stage) = if is_in_work stage then Some (s, r) else None
register_in_work (line.FrameTrade s) = None
register_in_work line.Scan = None
register_in_work line.Link = None
register_in_work line.Look = None
register_in_work (line.Cell i stage) = None
register_in_work line.ObjectTrade = None
register_in_work (line.Pass n) = None
register_in_work (line.PassHead n) = None
register_in_work (line.Sweep n stage) = None
register_in_work (line.Clear i) = None
register_in_work line.Reset = None

-- `cell` is a reference that is dealt with
unfoldable pub has_reference : Line → Bool
has_reference line.Rest = false
has_reference (line.Frame s) = false
has_reference (line.Register s r stage) = is_in_work stage
has_reference (line.FrameTrade s) = false
has_reference line.Scan = false
has_reference line.Link = false
has_reference line.Look = false
has_reference (line.Cell i stage) = is_in_work stage
has_reference line.ObjectTrade = false
has_reference (line.Pass n) = false
has_reference (line.PassHead n) = false
has_reference (line.Sweep n stage) = false
has_reference (line.Clear i) = false
has_reference line.Reset = false

-- the claim that the collector has in hand at a stage
unfoldable pub hand_at : Spot → Stage → Hand
hand_at t stage.Read = no_claim
hand_at t stage.Claim = no_claim
hand_at t stage.Reserve = to_reserve t.cell t.cycle
hand_at t stage.Tie = to_link t.cell t.cycle t.offset
hand_at t stage.Write = no_claim
hand_at t stage.Mark = no_claim
hand_at t stage.Empty = no_claim

unfoldable pub hand_at_line : Spot → Line → Hand
hand_at_line t line.Rest = no_claim
hand_at_line t (line.Frame s) = no_claim
hand_at_line t (line.Register s r stage) = hand_at t stage
hand_at_line t (line.FrameTrade s) = no_claim
hand_at_line t line.Scan = no_claim
hand_at_line t line.Link = no_claim
hand_at_line t line.Look = no_claim
hand_at_line t (line.Cell i stage) = hand_at t stage
hand_at_line t line.ObjectTrade = no_claim
hand_at_line t (line.Pass n) = no_claim
hand_at_line t (line.PassHead n) = no_claim
hand_at_line t (line.Sweep n stage) = no_claim
hand_at_line t (line.Clear i) = no_claim
hand_at_line t line.Reset = no_claim

unfoldable pub hand_of_spot : Spot → Hand
hand_of_spot t = hand_at_line t t.line

-- the collector is at the range at the scan offset: it reads the link word there, or has read it
unfoldable pub is_at_range : Line → Bool
is_at_range line.Rest = false
is_at_range (line.Frame s) = false
is_at_range (line.Register s r stage) = false
is_at_range (line.FrameTrade s) = false
is_at_range line.Scan = false
is_at_range line.Link = true
is_at_range line.Look = true
is_at_range (line.Cell i stage) = true
is_at_range line.ObjectTrade = true
is_at_range (line.Pass n) = false
is_at_range (line.PassHead n) = false
is_at_range (line.Sweep n stage) = false
is_at_range (line.Clear i) = false
is_at_range line.Reset = false

-- `item` is the reference of the object that is moved
unfoldable pub has_item : Line → Bool
has_item line.Rest = false
has_item (line.Frame s) = false
has_item (line.Register s r stage) = false
has_item (line.FrameTrade s) = false
has_item line.Scan = false
has_item line.Link = false
has_item line.Look = true
has_item (line.Cell i stage) = true
has_item line.ObjectTrade = true
has_item (line.Pass n) = false
has_item (line.PassHead n) = false
has_item (line.Sweep n stage) = false
has_item (line.Clear i) = false
has_item line.Reset = false

-- the open attempt on the object that is moved: how many of its cells it has gone past
unfoldable pub object_attempt : Spot → Line → Option ℕ
object_attempt t line.Rest = None
object_attempt t (line.Frame s) = None
object_attempt t (line.Register s r stage) = None
object_attempt t (line.FrameTrade s) = None
object_attempt t line.Scan = None
object_attempt t line.Link = None
object_attempt t line.Look = None
object_attempt t (line.Cell i stage) = Some i
object_attempt t line.ObjectTrade = Some (reference_size t.item - 1)
object_attempt t (line.Pass n) = None
object_attempt t (line.PassHead n) = None
object_attempt t (line.Sweep n stage) = None
object_attempt t (line.Clear i) = None
object_attempt t line.Reset = None

-- the cell that was loaded and isn't written yet
unfoldable pub loaded_at : ℕ → Stage → Option ℕ
loaded_at index stage.Read = None
loaded_at index stage.Claim = Some index
loaded_at index stage.Reserve = Some index
loaded_at index stage.Tie = Some index
loaded_at index stage.Write = Some index
loaded_at index stage.Mark = None
loaded_at index stage.Empty = None

unfoldable pub cell_loaded : Line → Option ℕ
cell_loaded line.Rest = None
cell_loaded (line.Frame s) = None
cell_loaded (line.Register s r stage) = None
cell_loaded (line.FrameTrade s) = None
cell_loaded line.Scan = None
cell_loaded line.Link = None
cell_loaded line.Look = None
cell_loaded (line.Cell i stage) = loaded_at i stage
cell_loaded line.ObjectTrade = None
cell_loaded (line.Pass n) = None
cell_loaded (line.PassHead n) = None
cell_loaded (line.Sweep n stage) = None
cell_loaded (line.Clear i) = None
cell_loaded line.Reset = None

-- the cell that is dealt with, and is to be written next
unfoldable pub written_at : ℕ → Stage → Option ℕ
written_at index stage.Read = None
written_at index stage.Claim = None
written_at index stage.Reserve = None
written_at index stage.Tie = None
written_at index stage.Write = Some index
written_at index stage.Mark = None
written_at index stage.Empty = None

unfoldable pub cell_to_write : Line → Option ℕ
cell_to_write line.Rest = None
cell_to_write (line.Frame s) = None
cell_to_write (line.Register s r stage) = None
cell_to_write (line.FrameTrade s) = None
cell_to_write line.Scan = None
cell_to_write line.Link = None
cell_to_write line.Look = None
cell_to_write (line.Cell i stage) = written_at i stage
cell_to_write line.ObjectTrade = None
cell_to_write (line.Pass n) = None
cell_to_write (line.PassHead n) = None
cell_to_write (line.Sweep n stage) = None
cell_to_write (line.Clear i) = None
cell_to_write line.Reset = None

-- the number at which the pass is
unfoldable pub passing : Line → Option ℕ
passing line.Rest = None
passing (line.Frame s) = None
passing (line.Register s r stage) = None
passing (line.FrameTrade s) = None
passing line.Scan = None
passing line.Link = None
passing line.Look = None
passing (line.Cell i stage) = None
passing line.ObjectTrade = None
passing (line.Pass n) = Some n
passing (line.PassHead n) = Some n
passing (line.Sweep n stage) = None
passing (line.Clear i) = None
passing line.Reset = None

-- the number at which the sweep is
unfoldable pub sweeping : Line → Option ℕ
sweeping line.Rest = None
sweeping (line.Frame s) = None
sweeping (line.Register s r stage) = None
sweeping (line.FrameTrade s) = None
sweeping line.Scan = None
sweeping line.Link = None
sweeping line.Look = None
sweeping (line.Cell i stage) = None
sweeping line.ObjectTrade = None
sweeping (line.Pass n) = None
sweeping (line.PassHead n) = None
sweeping (line.Sweep n stage) = Some n
sweeping (line.Clear i) = None
sweeping line.Reset = None

-- how many entries stand on the list of the next cycle: what the sweep has written, and all of them at rest
unfoldable pub written : Geometry → Spot → Line → ℕ
written g t line.Rest = list_length g
written g t (line.Frame s) = 0
written g t (line.Register s r stage) = 0
written g t (line.FrameTrade s) = 0
written g t line.Scan = 0
written g t line.Link = 0
written g t line.Look = 0
written g t (line.Cell i stage) = 0
written g t line.ObjectTrade = 0
written g t (line.Pass n) = 0
written g t (line.PassHead n) = 0
written g t (line.Sweep n stage) = t.entries
written g t (line.Clear i) = t.entries
written g t line.Reset = t.entries

-- how many of the last of them aren't marked for the next cycle yet, and how many still have a header
unfoldable pub unmarked_at : Stage → ℕ
unmarked_at stage.Read = 0
unmarked_at stage.Claim = 0
unmarked_at stage.Reserve = 0
unmarked_at stage.Tie = 0
unmarked_at stage.Write = 0
unmarked_at stage.Mark = 1
unmarked_at stage.Empty = 0

unfoldable pub headed_at : Stage → ℕ
headed_at stage.Read = 0
headed_at stage.Claim = 0
headed_at stage.Reserve = 0
headed_at stage.Tie = 0
headed_at stage.Write = 0
headed_at stage.Mark = 1
headed_at stage.Empty = 1

-- so many of the entries are marked for the next cycle, and so many have the header 0
unfoldable pub marked : Geometry → Spot → Line → ℕ
marked g t line.Rest = list_length g
marked g t (line.Frame s) = 0
marked g t (line.Register s r stage) = 0
marked g t (line.FrameTrade s) = 0
marked g t line.Scan = 0
marked g t line.Link = 0
marked g t line.Look = 0
marked g t (line.Cell i stage) = 0
marked g t line.ObjectTrade = 0
marked g t (line.Pass n) = 0
marked g t (line.PassHead n) = 0
marked g t (line.Sweep n stage) = t.entries - unmarked_at stage
marked g t (line.Clear i) = t.entries
marked g t line.Reset = t.entries

unfoldable pub emptied : Geometry → Spot → Line → ℕ
emptied g t line.Rest = list_length g
emptied g t (line.Frame s) = 0
emptied g t (line.Register s r stage) = 0
emptied g t (line.FrameTrade s) = 0
emptied g t line.Scan = 0
emptied g t line.Link = 0
emptied g t line.Look = 0
emptied g t (line.Cell i stage) = 0
emptied g t line.ObjectTrade = 0
emptied g t (line.Pass n) = 0
emptied g t (line.PassHead n) = 0
emptied g t (line.Sweep n stage) = t.entries - headed_at stage
emptied g t (line.Clear i) = t.entries
emptied g t line.Reset = t.entries

-- how many words of the old space are known to be 0, from its first word on
unfoldable pub cleared : Geometry → Line → ℕ
cleared g line.Rest = space_words g
cleared g (line.Frame s) = 0
cleared g (line.Register s r stage) = 0
cleared g (line.FrameTrade s) = 0
cleared g line.Scan = 0
cleared g line.Link = 0
cleared g line.Look = 0
cleared g (line.Cell i stage) = 0
cleared g line.ObjectTrade = 0
cleared g (line.Pass n) = 0
cleared g (line.PassHead n) = 0
cleared g (line.Sweep n stage) = 0
cleared g (line.Clear i) = i
cleared g line.Reset = space_words g

-- the events that an attempt may have spent, by how far it has come
unfoldable pub stage_rank : Stage → ℕ
stage_rank stage.Read = 0
stage_rank stage.Claim = 1
stage_rank stage.Reserve = 2
stage_rank stage.Tie = 3
stage_rank stage.Write = 4
stage_rank stage.Mark = 0
stage_rank stage.Empty = 0

unfoldable pub most_spent : Geometry → Spot → Line → Option ℕ
most_spent g t line.Rest = None
most_spent g t (line.Frame s) = None
most_spent g t (line.Register s r stage) = Some (1 + 4 * r + stage_rank stage)
most_spent g t (line.FrameTrade s) = Some (1 + 4 * g.registers)
most_spent g t line.Scan = None
most_spent g t line.Link = None
most_spent g t line.Look = None
most_spent g t (line.Cell i stage) = Some (1 + 5 * i + stage_rank stage)
most_spent g t line.ObjectTrade = Some (1 + 5 * (reference_size t.item - 1))
most_spent g t (line.Pass n) = None
most_spent g t (line.PassHead n) = None
most_spent g t (line.Sweep n stage) = None
most_spent g t (line.Clear i) = None
most_spent g t line.Reset = None

-- Where the sweep is with its list, of so many entries: while it looks for a number, and as it writes one, there is room
-- on the list, and the number that it writes wasn't claimed; after that the number is the last entry, and first it isn't
-- marked yet. The sweep begins with no entry, and once it is over the list is full.
abbrev pub InStepAt : (length cycle entries : ℕ) → (mark next : ℕ → ℕ) → (number : ℕ) → Stage → Type 0
InStepAt length cycle entries mark next number stage.Read = entries < length
InStepAt length cycle entries mark next number stage.Claim = ⊤
InStepAt length cycle entries mark next number stage.Reserve = ⊤
InStepAt length cycle entries mark next number stage.Tie = ⊤
InStepAt length cycle entries mark next number stage.Write = (entries < length) × (mark number < cycle)
InStepAt length cycle entries mark next number stage.Mark =
    (0 < entries) × (entries ≤ length) × (next (entries - 1) ≡ number) × (mark number < cycle)
InStepAt length cycle entries mark next number stage.Empty =
    (0 < entries) × (entries ≤ length) × (next (entries - 1) ≡ number)

abbrev pub InStep : (length cycle entries : ℕ) → (mark next : ℕ → ℕ) → Line → Type 0
InStep length cycle entries mark next line.Rest = ⊤
InStep length cycle entries mark next (line.Frame s) = entries ≡ 0
InStep length cycle entries mark next (line.Register s r stage) = entries ≡ 0
InStep length cycle entries mark next (line.FrameTrade s) = entries ≡ 0
InStep length cycle entries mark next line.Scan = entries ≡ 0
InStep length cycle entries mark next line.Link = entries ≡ 0
InStep length cycle entries mark next line.Look = entries ≡ 0
InStep length cycle entries mark next (line.Cell i stage) = entries ≡ 0
InStep length cycle entries mark next line.ObjectTrade = entries ≡ 0
InStep length cycle entries mark next (line.Pass n) = entries ≡ 0
InStep length cycle entries mark next (line.PassHead n) = entries ≡ 0
InStep length cycle entries mark next (line.Sweep n stage) = InStepAt length cycle entries mark next n stage
InStep length cycle entries mark next (line.Clear i) = entries ≡ length
InStep length cycle entries mark next line.Reset = entries ≡ length

-- The stages that a line can have, and the numbers that it names.

abbrev pub IsRegisterStage : Stage → Type 0
IsRegisterStage stage.Read = ⊤
IsRegisterStage stage.Claim = ⊤
IsRegisterStage stage.Reserve = ⊤
IsRegisterStage stage.Tie = ⊤
IsRegisterStage stage.Write = ⊥
IsRegisterStage stage.Mark = ⊥
IsRegisterStage stage.Empty = ⊥

abbrev pub IsCellStage : Stage → Type 0
IsCellStage stage.Read = ⊤
IsCellStage stage.Claim = ⊤
IsCellStage stage.Reserve = ⊤
IsCellStage stage.Tie = ⊤
IsCellStage stage.Write = ⊤
IsCellStage stage.Mark = ⊥
IsCellStage stage.Empty = ⊥

abbrev pub IsSweepStage : Stage → Type 0
IsSweepStage stage.Read = ⊤
IsSweepStage stage.Claim = ⊥
IsSweepStage stage.Reserve = ⊥
IsSweepStage stage.Tie = ⊥
IsSweepStage stage.Write = ⊤
IsSweepStage stage.Mark = ⊤
IsSweepStage stage.Empty = ⊤

-- the numbers of a line are those of the geometry, and its stage is one of its own; the index of a cell is one of the
-- object that is moved
abbrev pub LineFits : Geometry → Spot → Line → Type 0
LineFits g t line.Rest = ⊤
LineFits g t (line.Frame s) = s < tasks g
LineFits g t (line.Register s r stage) = (s < tasks g) × (r < g.registers) × IsRegisterStage stage
LineFits g t (line.FrameTrade s) = s < tasks g
LineFits g t line.Scan = ⊤
LineFits g t line.Link = ⊤
LineFits g t line.Look = ⊤
LineFits g t (line.Cell i stage) = (i + 1 < reference_size t.item) × IsCellStage stage
LineFits g t line.ObjectTrade = ⊤
LineFits g t (line.Pass n) = n < numbers g
LineFits g t (line.PassHead n) = n < numbers g
LineFits g t (line.Sweep n stage) = (n < numbers g) × IsSweepStage stage
LineFits g t (line.Clear i) = i < space_words g
LineFits g t line.Reset = ⊤
