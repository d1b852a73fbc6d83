-- The collector, event by event. Its spot says where it is in the cycle, and the values that it has read. Three tables
-- follow for each line of the spot: the event, what the spot is once it was done, and what the event did.
use Rattle.std.specs.Prelude.{ℕ, ◌+◌, ◌-◌, ◌%◌, ◌^◌, ◌==◌, nat_lt, nat_le, Bool, not, ◌&&◌, Option, Some, None, if◌then◌else◌}
use Rattle.hk_words.specs.declared.geometry.Geometry.{Geometry}
use Rattle.hk_words.specs.Geometry.{tasks, numbers, list_length, space_words}
use Rattle.hk_words.specs.Layout.{reference_number, reference_refs, header_accessors, header_place, header_moved, frame_accessors, frame_blackened, pack_w0, cycle_bits}
use Rattle.hk_words.specs.Row.{w0_at, w1_at, header_at, mark_at, frame_at, register_at, entry_at, space_at, place_at}
use Rattle.hk_core.specs.declared.event.Event.{Event}
use Rattle.hk_core.specs.declared.event.Event.TheVariants.{Load, Write, Swap, Add, Max, Trade}
use Rattle.hk_core.specs.declared.spot.Spot.{Spot}
use Rattle.hk_core.specs.declared.spot.Line.{Line}
use Rattle.hk_core.specs.declared.spot.Line.TheVariants as line
use Rattle.hk_core.specs.declared.spot.Stage.{Stage}
use Rattle.hk_core.specs.declared.spot.Stage.TheVariants as stage
use Rattle.hk_core.specs.declared.spot.Work.{Work}
use Rattle.hk_core.specs.declared.spot.Work.TheVariants.{Useful, Flipped, Lost, BusyFrame, BusyObject, Unlinked, Grey, LiveOver, Worn}
use Rattle.hk_core.specs.Event.{fired_if, learnt}
use Rattle.hk_core.specs.State.{State}
use Rattle.hk_core.specs.Step.{reference_size, reserved_fits}

-- The two sides of a cycle.

-- the space of the cycle, to which objects are moved, and the old one, from which they are moved
abbrev pub current_space : ℕ → ℕ
current_space cycle = cycle % 2

abbrev pub old_space : ℕ → ℕ
old_space cycle = (cycle + 1) % 2

-- the list of the next cycle
abbrev pub next_list : ℕ → ℕ
next_list cycle = (cycle + 1) % 2

-- a place is one of a space
abbrev pub is_in_space : Geometry → (space place : ℕ) → Bool
is_in_space g space place = nat_le (place_at g space 0) place && nat_lt place (place_at g space (space_words g))

-- the last cycle that there is
abbrev pub last_cycle : ℕ
last_cycle = 2 ^ cycle_bits - 1

-- What the parts of an event are, from the spot.

-- the object that is moved: its number, its place in the old space, and its new place, which is at the scan offset of
-- the current space
abbrev pub moved_number : Spot → ℕ
moved_number t = reference_number t.item

abbrev pub moved_from : Spot → ℕ
moved_from t = header_place t.first

abbrev pub moved_to : Geometry → Spot → ℕ
moved_to g t = place_at g (current_space t.cycle) t.scan

-- claim, reserve and link for the collector: as a call does, for the reference in `cell`
unfoldable pub claim_cell : Geometry → Spot → Option Event
claim_cell g t = Some (Max (mark_at g (reference_number t.cell)) t.cycle)

unfoldable pub reserve_cell : Geometry → Spot → Option Event
reserve_cell g t = Some (Add (w1_at g) (reference_size t.cell))

unfoldable pub link_cell : Geometry → Spot → Option Event
link_cell g t = Some (Write (space_at g (place_at g (current_space t.cycle) t.offset)) t.cell)

-- the flip begins the next cycle with no words used and no objects made
unfoldable pub rest_event : Geometry → Spot → Option Event
rest_event g t = if t.cycle == last_cycle then None else Some (Swap (w0_at g) (pack_w0 0 0 (t.cycle + 1)))

unfoldable pub rest_took : Spot → Spot
rest_took t = if t.cycle == last_cycle then t else record {
  line = line.Frame 0;
  cycle = t.cycle + 1;
  scan = 0;
  entries = 0;
  first = 0;
  item = 0;
  cell = 0;
  offset = 0;
  spent = 0;
}

unfoldable pub rest_work : Spot → Work
rest_work t = if t.cycle == last_cycle then Worn else Flipped

-- an attempt to blacken a frame starts with a load of the frame word that finds no call inside
unfoldable pub frame_event : Geometry → ℕ → Option Event
frame_event g seat = Some (Load (frame_at g seat))

unfoldable pub frame_took : Spot → ℕ → ℕ → Spot
frame_took t seat old = if nat_lt 0 (frame_accessors old) then t
    else record t { line = line.Register seat 0 stage.Read; first = old; spent = 1 }

unfoldable pub frame_work : ℕ → ℕ → Work
frame_work seat old = if nat_lt 0 (frame_accessors old) then BusyFrame seat else Useful

-- the registers of the frame, one after another: a register is loaded; where it isn't null its object is claimed; where
-- the collector is the claimer a place is reserved; where it fits the link word is written
unfoldable pub register_event : Geometry → Spot → (seat reg : ℕ) → Stage → Option Event
register_event g t seat reg stage.Read = Some (Load (register_at g seat reg))
register_event g t seat reg stage.Claim = claim_cell g t
register_event g t seat reg stage.Reserve = reserve_cell g t
register_event g t seat reg stage.Tie = link_cell g t
register_event g t seat reg stage.Write = None
register_event g t seat reg stage.Mark = None
register_event g t seat reg stage.Empty = None

-- after a register comes the next one, and after the last one the exchange of the frame word
abbrev pub after_register : Geometry → (seat reg : ℕ) → Line
after_register g seat reg = if nat_lt (reg + 1) g.registers then line.Register seat (reg + 1) stage.Read else line.FrameTrade seat

unfoldable pub register_took : Geometry → Spot → (seat reg : ℕ) → Stage → ℕ → Spot
register_took g t seat reg stage.Read old = record t {
  line = if old == 0 then after_register g seat reg else line.Register seat reg stage.Claim;
  cell = old;
  spent = t.spent + 1;
}
register_took g t seat reg stage.Claim old = record t {
  line = if nat_lt old t.cycle then line.Register seat reg stage.Reserve else after_register g seat reg;
  spent = t.spent + 1;
}
register_took g t seat reg stage.Reserve old = record t {
  line = if reserved_fits g old t.cell then line.Register seat reg stage.Tie else after_register g seat reg;
  offset = old;
  spent = t.spent + 1;
}
register_took g t seat reg stage.Tie old = record t { line = after_register g seat reg; spent = t.spent + 1 }
register_took g t seat reg stage.Write old = t
register_took g t seat reg stage.Mark old = t
register_took g t seat reg stage.Empty old = t

-- the exchange blackens the frame where its word is still the one that the attempt loaded
unfoldable pub frame_trade_event : Geometry → Spot → ℕ → Option Event
frame_trade_event g t seat = Some (Trade (frame_at g seat) t.first (frame_blackened t.first t.cycle))

-- after the last frame comes the scan
abbrev pub after_frame : Geometry → ℕ → Line
after_frame g seat = if nat_lt (seat + 1) (tasks g) then line.Frame (seat + 1) else line.Scan

unfoldable pub frame_trade_took : Geometry → Spot → ℕ → ℕ → Spot
frame_trade_took g t seat old = record t { line = if old == t.first then after_frame g seat else line.Frame seat }

unfoldable pub frame_trade_work : Spot → ℕ → Work
frame_trade_work t old = if old == t.first then Useful else Lost (t.spent + 1)

-- the scan looks at how many words are reserved: too many, more than it has come to, or no more than that
unfoldable pub scan_event : Geometry → Option Event
scan_event g = Some (Load (w1_at g))

unfoldable pub scan_took : Geometry → Spot → ℕ → Spot
scan_took g t old = if nat_lt g.live old then t
    else record t { line = if nat_lt t.scan old then line.Link else line.Pass 0 }

unfoldable pub scan_work : Geometry → ℕ → Work
scan_work g old = if nat_lt g.live old then LiveOver old else Useful

-- the link word at the scan offset names the object to move, once whoever reserved the place has written it
unfoldable pub link_event : Geometry → Spot → Option Event
link_event g t = Some (Load (space_at g (moved_to g t)))

unfoldable pub link_took : Spot → ℕ → Spot
link_took t old = if old == 0 then record t { line = line.Scan } else record t { line = line.Look; item = old }

unfoldable pub link_work : Geometry → Spot → ℕ → Work
link_work g t old = if old == 0 then Unlinked (moved_to g t) else Useful

-- an attempt to move an object starts with a load of its header that finds no call inside
unfoldable pub look_event : Geometry → Spot → Option Event
look_event g t = Some (Load (header_at g (moved_number t)))

unfoldable pub look_took : Spot → ℕ → Spot
look_took t old = if nat_lt 0 (header_accessors old) then t
    else record t { line = line.Cell 0 stage.Read; first = old; spent = 1 }

unfoldable pub look_work : Spot → ℕ → Work
look_work t old = if nat_lt 0 (header_accessors old) then BusyObject (moved_number t) else Useful

-- the cells of the object, one after another: a cell is loaded at the old place; where it is a reference that isn't
-- null, claimed, reserved and linked as a register; then it is written at the new place
unfoldable pub cell_event : Geometry → Spot → ℕ → Stage → Option Event
cell_event g t index stage.Read = Some (Load (space_at g (moved_from t + 1 + index)))
cell_event g t index stage.Claim = claim_cell g t
cell_event g t index stage.Reserve = reserve_cell g t
cell_event g t index stage.Tie = link_cell g t
cell_event g t index stage.Write = Some (Write (space_at g (moved_to g t + 1 + index)) t.cell)
cell_event g t index stage.Mark = None
cell_event g t index stage.Empty = None

-- the cell at an index is a reference field, and the reference isn't null
abbrev pub is_reference : Spot → (index word : ℕ) → Bool
is_reference t index word = nat_lt index (reference_refs t.item) && not (word == 0)

-- after a cell comes the next one, and after the last one the exchange of the header
abbrev pub after_cell : Spot → ℕ → Line
after_cell t index = if nat_lt (index + 2) (reference_size t.item) then line.Cell (index + 1) stage.Read else line.ObjectTrade

unfoldable pub cell_took : Geometry → Spot → ℕ → Stage → ℕ → Spot
cell_took g t index stage.Read old = record t {
  line = line.Cell index (if is_reference t index old then stage.Claim else stage.Write);
  cell = old;
  spent = t.spent + 1;
}
cell_took g t index stage.Claim old = record t {
  line = line.Cell index (if nat_lt old t.cycle then stage.Reserve else stage.Write);
  spent = t.spent + 1;
}
cell_took g t index stage.Reserve old = record t {
  line = line.Cell index (if reserved_fits g old t.cell then stage.Tie else stage.Write);
  offset = old;
  spent = t.spent + 1;
}
cell_took g t index stage.Tie old = record t { line = line.Cell index stage.Write; spent = t.spent + 1 }
cell_took g t index stage.Write old = record t { line = after_cell t index; spent = t.spent + 1 }
cell_took g t index stage.Mark old = t
cell_took g t index stage.Empty old = t

-- the exchange gives the object its new place where its header is still the one that the attempt loaded
unfoldable pub object_trade_event : Geometry → Spot → Option Event
object_trade_event g t = Some (Trade (header_at g (moved_number t)) t.first (header_moved t.first (moved_to g t)))

unfoldable pub object_trade_took : Spot → ℕ → Spot
object_trade_took t old = if old == t.first then record t { line = line.Scan; scan = t.scan + reference_size t.item }
    else record t { line = line.Look }

unfoldable pub object_trade_work : Spot → ℕ → Work
object_trade_work t old = if old == t.first then Useful else Lost (t.spent + 1)

-- the pass looks for an object that was claimed and isn't moved yet: a mark of the cycle, and a place in the old space
unfoldable pub pass_event : Geometry → ℕ → Option Event
pass_event g number = Some (Load (mark_at g number))

-- after a number comes the next one, and after the last one the sweep
abbrev pub after_pass : Geometry → ℕ → Line
after_pass g number = if nat_lt (number + 1) (numbers g) then line.Pass (number + 1) else line.Sweep 0 stage.Read

unfoldable pub pass_took : Geometry → Spot → ℕ → ℕ → Spot
pass_took g t number old = record t { line = if old == t.cycle then line.PassHead number else after_pass g number }

unfoldable pub pass_head_event : Geometry → ℕ → Option Event
pass_head_event g number = Some (Load (header_at g number))

abbrev pub is_old : Geometry → Spot → ℕ → Bool
is_old g t header = is_in_space g (old_space t.cycle) (header_place header)

unfoldable pub pass_head_took : Geometry → Spot → ℕ → ℕ → Spot
pass_head_took g t number old = record t { line = if is_old g t old then line.Scan else after_pass g number }

unfoldable pub pass_head_work : Geometry → Spot → ℕ → ℕ → Work
pass_head_work g t number old = if is_old g t old then Grey number else Useful

-- the sweep puts numbers that weren't claimed on the list of the next cycle, until it is full
unfoldable pub sweep_event : Geometry → Spot → ℕ → Stage → Option Event
sweep_event g t number stage.Read = Some (Load (mark_at g number))
sweep_event g t number stage.Claim = None
sweep_event g t number stage.Reserve = None
sweep_event g t number stage.Tie = None
sweep_event g t number stage.Write = Some (Write (entry_at g (next_list t.cycle) t.entries) number)
sweep_event g t number stage.Mark = Some (Write (mark_at g number) (t.cycle + 1))
sweep_event g t number stage.Empty = Some (Write (header_at g number) 0)

unfoldable pub sweep_took : Geometry → Spot → ℕ → Stage → ℕ → Spot
sweep_took g t number stage.Read old = record t {
  line = if nat_lt old t.cycle then line.Sweep number stage.Write else line.Sweep (number + 1) stage.Read;
}
sweep_took g t number stage.Claim old = t
sweep_took g t number stage.Reserve old = t
sweep_took g t number stage.Tie old = t
sweep_took g t number stage.Write old = record t { line = line.Sweep number stage.Mark; entries = t.entries + 1 }
sweep_took g t number stage.Mark old = record t { line = line.Sweep number stage.Empty }
sweep_took g t number stage.Empty old = record t {
  line = if nat_lt t.entries (list_length g) then line.Sweep (number + 1) stage.Read else line.Clear 0;
}

-- the clearing writes 0 to each word of the old space
unfoldable pub clear_event : Geometry → Spot → ℕ → Option Event
clear_event g t word = Some (Write (space_at g (place_at g (old_space t.cycle) word)) 0)

unfoldable pub clear_took : Geometry → Spot → ℕ → Spot
clear_took g t word = record t { line = if nat_lt (word + 1) (space_words g) then line.Clear (word + 1) else line.Reset }

-- the end of the cycle: no word is reserved
unfoldable pub reset_event : Geometry → Option Event
reset_event g = Some (Write (w1_at g) 0)

-- The table: the lines together.

-- the event of a spot, and none where there are no more cycles
unfoldable pub event_at_line : Geometry → Spot → Line → Option Event
event_at_line g t line.Rest = rest_event g t
event_at_line g t (line.Frame seat) = frame_event g seat
event_at_line g t (line.Register seat reg stage) = register_event g t seat reg stage
event_at_line g t (line.FrameTrade seat) = frame_trade_event g t seat
event_at_line g t line.Scan = scan_event g
event_at_line g t line.Link = link_event g t
event_at_line g t line.Look = look_event g t
event_at_line g t (line.Cell index stage) = cell_event g t index stage
event_at_line g t line.ObjectTrade = object_trade_event g t
event_at_line g t (line.Pass number) = pass_event g number
event_at_line g t (line.PassHead number) = pass_head_event g number
event_at_line g t (line.Sweep number stage) = sweep_event g t number stage
event_at_line g t (line.Clear word) = clear_event g t word
event_at_line g t line.Reset = reset_event g

unfoldable pub spot_event : Geometry → Spot → Option Event
spot_event g t = event_at_line g t t.line

-- the spot after its event, where the event found the word `old`
unfoldable pub took_at_line : Geometry → Spot → ℕ → Line → Spot
took_at_line g t old line.Rest = rest_took t
took_at_line g t old (line.Frame seat) = frame_took t seat old
took_at_line g t old (line.Register seat reg stage) = register_took g t seat reg stage old
took_at_line g t old (line.FrameTrade seat) = frame_trade_took g t seat old
took_at_line g t old line.Scan = scan_took g t old
took_at_line g t old line.Link = link_took t old
took_at_line g t old line.Look = look_took t old
took_at_line g t old (line.Cell index stage) = cell_took g t index stage old
took_at_line g t old line.ObjectTrade = object_trade_took t old
took_at_line g t old (line.Pass number) = pass_took g t number old
took_at_line g t old (line.PassHead number) = pass_head_took g t number old
took_at_line g t old (line.Sweep number stage) = sweep_took g t number stage old
took_at_line g t old (line.Clear word) = clear_took g t word
took_at_line g t old line.Reset = record t { line = line.Rest }

unfoldable pub spot_took : Geometry → Spot → ℕ → Spot
spot_took g t old = took_at_line g t old t.line

-- what the event did
unfoldable pub work_at_line : Geometry → Spot → ℕ → Line → Work
work_at_line g t old line.Rest = rest_work t
work_at_line g t old (line.Frame seat) = frame_work seat old
work_at_line g t old (line.Register seat reg stage) = Useful
work_at_line g t old (line.FrameTrade seat) = frame_trade_work t old
work_at_line g t old line.Scan = scan_work g old
work_at_line g t old line.Link = link_work g t old
work_at_line g t old line.Look = look_work t old
work_at_line g t old (line.Cell index stage) = Useful
work_at_line g t old line.ObjectTrade = object_trade_work t old
work_at_line g t old (line.Pass number) = Useful
work_at_line g t old (line.PassHead number) = pass_head_work g t number old
work_at_line g t old (line.Sweep number stage) = Useful
work_at_line g t old (line.Clear word) = Useful
work_at_line g t old line.Reset = Useful

unfoldable pub spot_work : Geometry → Spot → ℕ → Work
spot_work g t old = work_at_line g t old t.line

-- The step of the collector.

-- the event of the collector's spot, what it finds, the state after it and what it did
unfoldable pub event_by_collector : State → Option Event
event_by_collector c = spot_event c.geometry c.spot

unfoldable pub found_by_collector : State → ℕ
found_by_collector c = learnt c.row (event_by_collector c)

unfoldable pub next_collected : State → State
next_collected c = record c {
  row = fired_if c.row (event_by_collector c);
  spot = spot_took c.geometry c.spot (found_by_collector c);
}

unfoldable pub work_by_collector : State → Work
work_by_collector c = spot_work c.geometry c.spot (found_by_collector c)
