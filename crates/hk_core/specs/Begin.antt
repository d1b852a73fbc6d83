-- The begin of a call. It does no event: it looks at registers of the seat, and puts the call in flight.
use Rattle.std.specs.Prelude.{ℕ, ◌+◌, ◌^◌, ◌==◌, nat_lt, nat_le, Bool, true, false, not, ◌&&◌, slice_index, slice_set, is_some, option_map, unwrap_or, Option, Some, None, if◌then◌else◌}
use Rattle.hk_words.specs.declared.call.Call.{Call}
use Rattle.hk_words.specs.declared.call.Call.TheVariants.{Get, Put, Load, Store, Move, Clear, New, Same, IsNull}
use Rattle.hk_words.specs.Layout.{reference_refs, reference_nums}
use Rattle.hk_words.specs.Row.{register_at}
use Rattle.hk_words.specs.Calls.{entered}
use Rattle.hk_core.specs.declared.flight.Flight.{Flight}
use Rattle.hk_core.specs.declared.outcome.Fault.{Fault}
use Rattle.hk_core.specs.declared.outcome.Fault.TheVariants.{Spent, Nil, Field}
use Rattle.hk_core.specs.State.{State}

-- the calls that a seat can begin
abbrev pub most_calls : ℕ
most_calls = 2 ^ 30

-- the reference in a register of a seat
unfoldable pub register_word : State → ℕ → ℕ → ℕ
register_word c seat reg = slice_index c.row (register_at c.geometry seat reg)

-- the reference in the register that a call enters, and 0 where it enters none
unfoldable pub entered_word : State → ℕ → Call → ℕ
entered_word c seat call = unwrap_or (option_map (register_word c seat) (entered call)) 0

-- the register that a call copies from
abbrev pub copied : Call → Option ℕ
copied (Get reg field) = None
copied (Put reg field value) = None
copied (Load dest reg field) = None
copied (Store reg field from) = Some from
copied (Move dest from) = Some from
copied (Clear dest) = None
copied (New dest shape) = None
copied (Same a b) = None
copied (IsNull reg) = None

-- the reference in that register, and 0 where the call copies from none
unfoldable pub copied_word : State → ℕ → Call → ℕ
copied_word c seat call = unwrap_or (option_map (register_word c seat) (copied call)) 0

-- the object that a reference names has the field of a call: a number field for Get and Put, a reference field for
-- Load and Store
abbrev pub has_field : Call → ℕ → Bool
has_field (Get reg field) reference = nat_lt field (reference_nums reference)
has_field (Put reg field value) reference = nat_lt field (reference_nums reference)
has_field (Load dest reg field) reference = nat_lt field (reference_refs reference)
has_field (Store reg field from) reference = nat_lt field (reference_refs reference)
has_field (Move dest from) reference = true
has_field (Clear dest) reference = true
has_field (New dest shape) reference = true
has_field (Same a b) reference = true
has_field (IsNull reg) reference = true

-- The first reason, in the stated order, why a call isn't begun, where its seat has begun so many calls and the entered
-- register holds so much: the seat has begun as many as it can, the register is null, the object has no such field.
abbrev pub refusal_by : (begun : ℕ) → Call → (entered : ℕ) → Option Fault
refusal_by begun call word =
    if nat_le most_calls begun then Some Spent
    else if is_some (entered call) && word == 0 then Some Nil
    else if not (has_field call word) then Some Field
    else None

unfoldable pub refusal : State → ℕ → Call → Option Fault
refusal c seat call = refusal_by (slice_index c.begun seat) call (entered_word c seat call)

-- the flight of a call that begins, where the register that it enters and the one that it copies from hold so much: it
-- stands at its first place, and has read nothing else
abbrev pub flight_by : (seat : ℕ) → Call → (entered copied : ℕ) → Flight
flight_by seat call entered copied = record {
  seat = seat;
  call = call;
  place = 1;
  entered = entered;
  at = 0;
  word = 0;
  item = copied;
  claimer = false;
  offset = 0;
  number = 0;
  full = false;
  raised = false;
}

unfoldable pub first_flight : State → ℕ → Call → Flight
first_flight c seat call = flight_by seat call (entered_word c seat call) (copied_word c seat call)

-- the state in which the call is in flight, one more call of the seat is begun, and nothing else is changed
unfoldable pub accepted : State → ℕ → Call → State
accepted c seat call = record c {
  flights = slice_set c.flights seat (first_flight c seat call);
  begun = slice_set c.begun seat (slice_index c.begun seat + 1);
}

-- the state after a begin; one that is refused changes nothing
abbrev pub begun_or : Option Fault → State → State → State
begun_or None after before = after
begun_or (Some fault) after before = before

unfoldable pub after_begin : State → ℕ → Call → State
after_begin c seat call = begun_or (refusal c seat call) (accepted c seat call) c
