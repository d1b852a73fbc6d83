-- The operations of the tasks, place by place. Each operation is a row of places that a seat goes through, one at each
-- step. A place is an event on one word, or a rest, which does nothing. For each operation three tables follow: the
-- event of each place, what the flight is once it was done, and the entry that the place adds to the history.
use Rattle.std.specs.Prelude.{ℕ, ◌+◌, ◌-◌, ◌%◌, ◌==◌, nat_lt, nat_le, Bool, true, not, ◌&&◌, ◌++◌, slice_set, option_to_list, Option, Some, None, if◌then◌else◌}
use Rattle.hk_words.specs.declared.geometry.Geometry.{Geometry}
use Rattle.hk_words.specs.declared.shape.Shape.{Shape}
use Rattle.hk_words.specs.declared.call.Call.{Call}
use Rattle.hk_words.specs.declared.call.Call.TheVariants.{Get, Put, Load as LoadReference, Store, Move, Clear, New, Same, IsNull}
use Rattle.hk_words.specs.declared.call.Reply.{Reply}
use Rattle.hk_words.specs.declared.call.Reply.TheVariants.{Unit as NoValue, Num, Full as NoRoom}
use Rattle.hk_words.specs.Bounds.{places_of}
use Rattle.hk_words.specs.Shape.{size}
use Rattle.hk_words.specs.Layout.{reference_number, reference_refs, reference_nums, pack_reference, header_place, pack_header, w0_words, w0_objects, w0_cycle, entering, leaving, raise_by}
use Rattle.hk_words.specs.Row.{w0_at, w1_at, header_at, mark_at, frame_at, register_at, entry_at, space_at, place_at}
use Rattle.hk_model.specs.History.{Entry, History}
use Rattle.hk_core.specs.declared.event.Event.{Event}
use Rattle.hk_core.specs.declared.event.Event.TheVariants.{Load, Write, Add, Sub, Max}
use Rattle.hk_core.specs.declared.flight.Flight.{Flight}
use Rattle.hk_core.specs.declared.outcome.Step.{Step}
use Rattle.hk_core.specs.declared.outcome.Step.TheVariants.{Going, Ended}
use Rattle.hk_core.specs.declared.outcome.Outcome.{Outcome}
use Rattle.hk_core.specs.declared.outcome.Outcome.TheVariants.{Done, Full}
use Rattle.hk_core.specs.Event.{fired_if, learnt}
use Rattle.hk_core.specs.State.{State, idle, flight_of}

-- What the places do, kind by kind.

-- the words of the object that a reference names
abbrev pub reference_size : ℕ → ℕ
reference_size reference = 1 + reference_refs reference + reference_nums reference

-- the place of a reference field, and of a number field, of the entered object
abbrev pub reference_cell : Flight → ℕ → ℕ
reference_cell f field = f.at + 1 + field

abbrev pub number_cell : Flight → ℕ → ℕ
number_cell f field = f.at + 1 + reference_refs f.entered + field

-- the space, and the list, of the cycle in the W0 that the call has loaded or raised
abbrev pub side_of : Flight → ℕ
side_of f = w0_cycle f.word % 2

-- enter and leave the object of the entered register
unfoldable pub enter_object : Geometry → Flight → Option Event
enter_object g f = Some (Add (header_at g (reference_number f.entered)) entering)

unfoldable pub leave_object : Geometry → Flight → Option Event
leave_object g f = Some (Sub (header_at g (reference_number f.entered)) leaving)

-- read and write a cell of the entered object
unfoldable pub read_cell : Geometry → ℕ → Option Event
read_cell g place = Some (Load (space_at g place))

unfoldable pub write_cell : Geometry → ℕ → ℕ → Option Event
write_cell g place value = Some (Write (space_at g place) value)

-- enter and leave the frame of the seat
unfoldable pub enter_frame : Geometry → Flight → Option Event
enter_frame g f = Some (Add (frame_at g f.seat) entering)

unfoldable pub leave_frame : Geometry → Flight → Option Event
leave_frame g f = Some (Sub (frame_at g f.seat) leaving)

-- load W0
unfoldable pub load_w0 : Geometry → Option Event
load_w0 g = Some (Load (w0_at g))

-- claim the object that `item` names, for the cycle of the W0 that was loaded; a rest where it is null
unfoldable pub claim : Geometry → Flight → Option Event
claim g f = if f.item == 0 then None else Some (Max (mark_at g (reference_number f.item)) (w0_cycle f.word))

-- the call is the claimer exactly where the old mark was below its cycle
abbrev pub claims : Flight → ℕ → Bool
claims f old = not (f.item == 0) && nat_lt old (w0_cycle f.word)

-- reserve a place for the object that was claimed; a rest where the call isn't the claimer
unfoldable pub reserve : Geometry → Flight → Option Event
reserve g f = if f.claimer then Some (Add (w1_at g) (reference_size f.item)) else None

-- what was reserved ends in the part of the space for evacuation
abbrev pub reserved_fits : Geometry → (offset reference : ℕ) → Bool
reserved_fits g offset reference = nat_le (offset + reference_size reference) g.live

-- write the reference to the place that was reserved; a rest where the call isn't the claimer or the place doesn't fit
unfoldable pub link : Geometry → Flight → Option Event
link g f = if f.claimer && reserved_fits g f.offset f.item
    then Some (Write (space_at g (place_at g (side_of f) f.offset)) f.item) else None

-- write a register of the seat
unfoldable pub write_register : Geometry → Flight → ℕ → ℕ → Option Event
write_register g f reg word = Some (Write (register_at g f.seat reg) word)

-- the words that a seat may use: a low one leaves the reserve
abbrev pub limit_of : Geometry → ℕ → ℕ
limit_of g seat = if nat_lt seat g.high then g.alloc else g.alloc - g.reserve

-- the words used leave too few for an object of a shape: to this seat as it loads W0, and to any as it raises it
abbrev pub full_to : Geometry → ℕ → Shape → ℕ → Bool
full_to g seat shape w0 = nat_lt (limit_of g seat) (w0_words w0 + size shape)

abbrev pub full_to_all : Geometry → Shape → ℕ → Bool
full_to_all g shape w0 = nat_lt g.alloc (w0_words w0 + size shape)

-- raise W0 by an object of a shape
unfoldable pub raise : Geometry → Shape → Option Event
raise g shape = Some (Add (w0_at g) (raise_by (size shape)))

-- load the entry that the raise of W0 gave to the call
unfoldable pub load_entry : Geometry → Flight → Option Event
load_entry g f = Some (Load (entry_at g (side_of f) (w0_objects f.word)))

-- write the header of the new object: its place is the first of the words that the raise of W0 gave to the call
abbrev pub new_place : Geometry → Flight → ℕ
new_place g f = place_at g (side_of f) (g.live + w0_words f.word)

unfoldable pub write_header : Geometry → Flight → Option Event
write_header g f = Some (Write (header_at g f.number) (pack_header 0 (new_place g f) 0))

-- the reference of the new object
abbrev pub new_reference : Flight → Shape → ℕ
new_reference f shape = pack_reference f.number shape.refs shape.nums

-- the event where a test doesn't hold, and a rest where it does
abbrev pub unless : Bool → Option Event → Option Event
unless test event = if test then None else event

-- an entry of the history by this call
abbrev pub entry : Flight → Reply → ℕ → Option Entry
entry f reply number = Some (record { seat = f.seat; call = f.call; reply = reply; number = number })

-- Get reads a number field of an object. Its effect is the read.

unfoldable pub get_event : Geometry → Flight → ℕ → Option Event
get_event g f field =
    if f.place == 1 then enter_object g f
    else if f.place == 2 then read_cell g (number_cell f field)
    else if f.place == 3 then leave_object g f
    else None

unfoldable pub get_took : Flight → ℕ → Flight
get_took f old =
    if f.place == 1 then record f { place = 2; at = header_place old }
    else if f.place == 2 then record f { place = 3; item = old }
    else if f.place == 3 then idle f.seat
    else f

unfoldable pub get_entry : Flight → ℕ → Option Entry
get_entry f old = if f.place == 2 then entry f (Num old) 0 else None

-- Put writes a number field of an object. Its effect is the write.

unfoldable pub put_event : Geometry → Flight → ℕ → ℕ → Option Event
put_event g f field value =
    if f.place == 1 then enter_object g f
    else if f.place == 2 then write_cell g (number_cell f field) value
    else if f.place == 3 then leave_object g f
    else None

unfoldable pub put_took : Flight → ℕ → Flight
put_took f old =
    if f.place == 1 then record f { place = 2; at = header_place old }
    else if f.place == 2 then record f { place = 3 }
    else if f.place == 3 then idle f.seat
    else f

unfoldable pub put_entry : Flight → Option Entry
put_entry f = if f.place == 2 then entry f NoValue 0 else None

-- Move copies a register into another. Its effect is the write of the register.

unfoldable pub move_event : Geometry → Flight → ℕ → Option Event
move_event g f dest =
    if f.place == 1 then enter_frame g f
    else if f.place == 2 then write_register g f dest f.item
    else if f.place == 3 then leave_frame g f
    else None

unfoldable pub move_took : Flight → Flight
move_took f =
    if f.place == 1 then record f { place = 2 }
    else if f.place == 2 then record f { place = 3 }
    else if f.place == 3 then idle f.seat
    else f

unfoldable pub move_entry : Flight → Option Entry
move_entry f = if f.place == 2 then entry f NoValue 0 else None

-- Clear sets a register to null, at its one place.

unfoldable pub clear_event : Geometry → Flight → ℕ → Option Event
clear_event g f dest = if f.place == 1 then write_register g f dest 0 else None

unfoldable pub clear_took : Flight → Flight
clear_took f = if f.place == 1 then idle f.seat else f

unfoldable pub clear_entry : Flight → Option Entry
clear_entry f = if f.place == 1 then entry f NoValue 0 else None

-- Load copies a reference field of an object into a register. Its effect is the read.

unfoldable pub load_event : Geometry → Flight → ℕ → ℕ → Option Event
load_event g f dest field =
    if f.place == 1 then enter_frame g f
    else if f.place == 2 then enter_object g f
    else if f.place == 3 then load_w0 g
    else if f.place == 4 then read_cell g (reference_cell f field)
    else if f.place == 5 then claim g f
    else if f.place == 6 then reserve g f
    else if f.place == 7 then link g f
    else if f.place == 8 then write_register g f dest f.item
    else if f.place == 9 then leave_object g f
    else if f.place == 10 then leave_frame g f
    else None

unfoldable pub load_took : Flight → ℕ → Flight
load_took f old =
    if f.place == 1 then record f { place = 2 }
    else if f.place == 2 then record f { place = 3; at = header_place old }
    else if f.place == 3 then record f { place = 4; word = old }
    else if f.place == 4 then record f { place = 5; item = old }
    else if f.place == 5 then record f { place = 6; claimer = claims f old }
    else if f.place == 6 then record f { place = 7; offset = old }
    else if f.place == 7 then record f { place = 8 }
    else if f.place == 8 then record f { place = 9 }
    else if f.place == 9 then record f { place = 10 }
    else if f.place == 10 then idle f.seat
    else f

unfoldable pub load_entry_of : Flight → Option Entry
load_entry_of f = if f.place == 4 then entry f NoValue 0 else None

-- Store copies a register into a reference field of an object. Its effect is the write of the cell.

unfoldable pub store_event : Geometry → Flight → ℕ → Option Event
store_event g f field =
    if f.place == 1 then enter_object g f
    else if f.place == 2 then unless (f.item == 0) (load_w0 g)
    else if f.place == 3 then claim g f
    else if f.place == 4 then reserve g f
    else if f.place == 5 then link g f
    else if f.place == 6 then write_cell g (reference_cell f field) f.item
    else if f.place == 7 then leave_object g f
    else None

unfoldable pub store_took : Flight → ℕ → Flight
store_took f old =
    if f.place == 1 then record f { place = 2; at = header_place old }
    else if f.place == 2 then record f { place = 3; word = old }
    else if f.place == 3 then record f { place = 4; claimer = claims f old }
    else if f.place == 4 then record f { place = 5; offset = old }
    else if f.place == 5 then record f { place = 6 }
    else if f.place == 6 then record f { place = 7 }
    else if f.place == 7 then idle f.seat
    else f

unfoldable pub store_entry : Flight → Option Entry
store_entry f = if f.place == 6 then entry f NoValue 0 else None

-- New makes an object, and a register refer to it. Its effect is the write of the register, or the place that finds
-- too few words. Where that is the first place, all later ones are rests; where it is the third, the call has entered
-- its frame and leaves it.

unfoldable pub new_event : Geometry → Flight → ℕ → Shape → Option Event
new_event g f dest shape =
    if f.place == 1 then load_w0 g
    else if f.place == 2 then unless f.full (enter_frame g f)
    else if f.place == 3 then unless f.full (raise g shape)
    else if f.place == 4 then unless f.full (load_entry g f)
    else if f.place == 5 then unless f.full (write_header g f)
    else if f.place == 6 then unless f.full (write_register g f dest (new_reference f shape))
    else if f.place == 7 then unless (f.full && not f.raised) (leave_frame g f)
    else None

unfoldable pub new_took : Geometry → Flight → Shape → ℕ → Flight
new_took g f shape old =
    if f.place == 1 then record f { place = 2; word = old; full = full_to g f.seat shape old }
    else if f.place == 2 then record f { place = 3 }
    else if f.place == 3 then (if f.full then record f { place = 4 }
    else record f { place = 4; word = old; full = full_to_all g shape old; raised = true })
    else if f.place == 4 then record f { place = 5; number = old }
    else if f.place == 5 then record f { place = 6 }
    else if f.place == 6 then record f { place = 7 }
    else if f.place == 7 then idle f.seat
    else f

unfoldable pub new_entry : Geometry → Flight → Shape → ℕ → Option Entry
new_entry g f shape old =
    if f.place == 1 then (if full_to g f.seat shape old then entry f NoRoom (w0_words old) else None)
    else if f.place == 3 then (if not f.full && full_to_all g shape old then entry f NoRoom (w0_words old) else None)
    else if f.place == 6 then (if f.full then None else entry f NoValue f.number)
    else None

-- The table: the rows together.

-- the event of a flight at its place, and none at a rest
unfoldable pub event_at : Geometry → Flight → Call → Option Event
event_at g f (Get reg field) = get_event g f field
event_at g f (Put reg field value) = put_event g f field value
event_at g f (Move dest from) = move_event g f dest
event_at g f (Clear dest) = clear_event g f dest
event_at g f (LoadReference dest reg field) = load_event g f dest field
event_at g f (Store reg field from) = store_event g f field
event_at g f (New dest shape) = new_event g f dest shape
event_at g f (Same a b) = None
event_at g f (IsNull reg) = None

unfoldable pub event_of : Geometry → Flight → Option Event
event_of g f = event_at g f f.call

-- the flight after its place was done, where its event found the word `old`
unfoldable pub took_at : Geometry → Flight → ℕ → Call → Flight
took_at g f old (Get reg field) = get_took f old
took_at g f old (Put reg field value) = put_took f old
took_at g f old (Move dest from) = move_took f
took_at g f old (Clear dest) = clear_took f
took_at g f old (LoadReference dest reg field) = load_took f old
took_at g f old (Store reg field from) = store_took f old
took_at g f old (New dest shape) = new_took g f shape old
took_at g f old (Same a b) = f
took_at g f old (IsNull reg) = f

unfoldable pub took_of : Geometry → Flight → ℕ → Flight
took_of g f old = took_at g f old f.call

-- the entry that the place adds to the history, and none where it has no effect
unfoldable pub effect_at : Geometry → Flight → ℕ → Call → Option Entry
effect_at g f old (Get reg field) = get_entry f old
effect_at g f old (Put reg field value) = put_entry f
effect_at g f old (Move dest from) = move_entry f
effect_at g f old (Clear dest) = clear_entry f
effect_at g f old (LoadReference dest reg field) = load_entry_of f
effect_at g f old (Store reg field from) = store_entry f
effect_at g f old (New dest shape) = new_entry g f shape old
effect_at g f old (Same a b) = None
effect_at g f old (IsNull reg) = None

unfoldable pub effect_of : Geometry → Flight → ℕ → Option Entry
effect_of g f old = effect_at g f old f.call

-- how the call of a flight ends
abbrev pub outcome_at : Flight → Call → Outcome
outcome_at f (Get reg field) = Done (Num f.item)
outcome_at f (Put reg field value) = Done NoValue
outcome_at f (Move dest from) = Done NoValue
outcome_at f (Clear dest) = Done NoValue
outcome_at f (LoadReference dest reg field) = Done NoValue
outcome_at f (Store reg field from) = Done NoValue
outcome_at f (New dest shape) = if f.full then Full (w0_words f.word) else Done NoValue
outcome_at f (Same a b) = Done NoValue
outcome_at f (IsNull reg) = Done NoValue

-- what the step at a flight's place answers: the last place ends the call
unfoldable pub step_of : Flight → Step
step_of f = if f.place == places_of f.call then Ended (outcome_at f f.call) else Going

-- The step of a seat.

-- the event of the seat's place, what it finds, and the state after the step: the event is fired, and the flight goes
-- on to its next place
unfoldable pub event_by : State → ℕ → Option Event
event_by c seat = event_of c.geometry (flight_of c.flights seat)

unfoldable pub found_by : State → ℕ → ℕ
found_by c seat = learnt c.row (event_by c seat)

unfoldable pub next : State → ℕ → State
next c seat = record c {
  row = fired_if c.row (event_by c seat);
  flights = slice_set c.flights seat (took_of c.geometry (flight_of c.flights seat) (found_by c seat));
}

-- what the step answers
unfoldable pub answer_by : State → ℕ → Step
answer_by c seat = step_of (flight_of c.flights seat)

-- the history after the step: with its entry at the end, where its place has an effect
unfoldable pub history_after : State → ℕ → History → History
history_after c seat history = history ++ option_to_list (effect_of c.geometry (flight_of c.flights seat) (found_by c seat))
