-- The places of a Get, a Put, a Move and a Clear: the row after them, as the code goes through them, and that it can.
use Rattle.std.proofs.Common.{◌≡◌, ℕ, refl}
use Rattle.hk_words.specs.Row.{register_at}
use Rattle.hk_words.specs.declared.call.Call.TheVariants.{Get, Put, Move, Clear}
use Rattle.hk_core.specs.declared.event.Event.TheVariants.{Write}
use Rattle.hk_core.specs.Event.{CanFire, fired_if, learnt}
use Rattle.hk_core.specs.State.{State}
use Rattle.hk_core.specs.Step.{event_of, event_at, get_event, put_event, move_event, clear_event, enter_object, read_cell, write_cell, leave_object, enter_frame, write_register, leave_frame, took_of, took_at, get_took, put_took, move_took}
use Rattle.hk_core.specs.Begin.{first_flight, entered_word, copied_word, register_word}
use Rattle.hk_core.specs.Passing.{passed, passed_by, CanPassBy, begins}
use Rattle.hk_core.specs.WholeRows.{inside_row, number_place, read_row, number_read, get_row, GetFits, written_row, put_row, PutFits, framed_row, moved_row, move_row, MoveFits, clear_row}

module _ (c : State) (s reg field : ℕ) where
  pub whole_get_row : (passed_by 3 c.geometry (begins c s (Get reg field))).row ≡ get_row c.geometry c.row (register_word c s reg) field
  unfolding begins first_flight entered_word copied_word passed passed_by fired_if learnt event_of event_at get_event enter_object read_cell leave_object took_of took_at get_took inside_row number_place read_row get_row
  whole_get_row = refl

  pub whole_get_number : (passed_by 2 c.geometry (begins c s (Get reg field))).flight.item ≡ number_read c.geometry c.row (register_word c s reg) field
  unfolding begins first_flight entered_word copied_word passed passed_by fired_if learnt event_of event_at get_event enter_object read_cell took_of took_at get_took inside_row number_place number_read
  whole_get_number = refl

  pub get_fits : CanPassBy 3 c.geometry (begins c s (Get reg field)) → GetFits c.geometry c.row (register_word c s reg) field
  unfolding CanPassBy begins first_flight entered_word copied_word passed passed_by fired_if learnt event_of event_at get_event enter_object read_cell leave_object took_of took_at get_took inside_row number_place read_row
  get_fits can = record {
    number = can.0.0.1.flight.call.0;
    within = can.0.1.flight.call.1 refl;
    entry = can.0.0.1.event;
    read = can.0.1.event;
    exit = can.1.event;
  }

module _ (c : State) (s reg field value : ℕ) where
  pub whole_put_row : (passed_by 3 c.geometry (begins c s (Put reg field value))).row ≡ put_row c.geometry c.row (register_word c s reg) field value
  unfolding begins first_flight entered_word copied_word passed passed_by fired_if learnt event_of event_at put_event enter_object write_cell leave_object took_of took_at put_took inside_row number_place written_row put_row
  whole_put_row = refl

  pub put_fits : CanPassBy 3 c.geometry (begins c s (Put reg field value)) → PutFits c.geometry c.row (register_word c s reg) field value
  unfolding CanPassBy begins first_flight entered_word copied_word passed passed_by fired_if learnt event_of event_at put_event enter_object write_cell leave_object took_of took_at put_took inside_row number_place written_row
  put_fits can = record {
    number = can.0.0.1.flight.call.0;
    within = can.0.1.flight.call.1 refl;
    entry = can.0.0.1.event;
    write = can.0.1.event;
    exit = can.1.event;
  }

module _ (c : State) (s dest from : ℕ) where
  pub whole_move_row : (passed_by 3 c.geometry (begins c s (Move dest from))).row ≡ move_row c.geometry c.row s dest (register_word c s from)
  unfolding begins first_flight entered_word copied_word passed passed_by fired_if learnt event_of event_at move_event enter_frame write_register leave_frame took_of took_at move_took framed_row moved_row move_row
  whole_move_row = refl

  pub move_fits : CanPassBy 3 c.geometry (begins c s (Move dest from)) → MoveFits c.geometry c.row s dest (register_word c s from)
  unfolding CanPassBy begins first_flight entered_word copied_word passed passed_by fired_if learnt event_of event_at move_event enter_frame write_register leave_frame took_of took_at move_took framed_row moved_row
  move_fits can = record { entry = can.0.0.1.event; write = can.0.1.event; exit = can.1.event }

module _ (c : State) (s dest : ℕ) where
  pub whole_clear_row : (passed_by 1 c.geometry (begins c s (Clear dest))).row ≡ clear_row c.geometry c.row s dest
  unfolding begins first_flight entered_word copied_word passed passed_by fired_if event_of event_at clear_event write_register clear_row
  whole_clear_row = refl

  pub clear_fits : CanPassBy 1 c.geometry (begins c s (Clear dest)) → CanFire c.row (Write (register_at c.geometry s dest) 0)
  unfolding CanPassBy begins first_flight entered_word copied_word passed_by event_of event_at clear_event write_register
  clear_fits can = can.1.event
