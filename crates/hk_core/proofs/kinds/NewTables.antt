-- What the tables say of each place of a New: its event, the flight after it, and the entry that it adds to the history.
use Rattle.std.proofs.Common.{◌≡◌, ℕ, Bool, true, false, refl, Option, Some, None}
use Rattle.std.specs.Prelude.{not, ◌&&◌, if◌then◌else◌}
use Rattle.hk_words.specs.declared.geometry.Geometry.{Geometry}
use Rattle.hk_words.specs.declared.shape.Shape.{Shape}
use Rattle.hk_words.specs.declared.call.Call.TheVariants as call
use Rattle.hk_words.specs.Shape.{size}
use Rattle.hk_words.specs.Layout as layout
use Rattle.hk_words.specs.Row.{w0_at, header_at, frame_at, register_at, entry_at}
use Rattle.hk_model.specs.History.{Entry}
use Rattle.hk_core.specs.declared.event.Event.{Event}
use Rattle.hk_core.specs.declared.event.Event.TheVariants as event
use Rattle.hk_core.specs.declared.flight.Flight.{Flight}
use Rattle.hk_core.specs.State.{idle}
use Rattle.hk_core.specs.Step.{event_of, event_at, took_of, took_at, effect_of, effect_at, new_event, new_took, new_entry, load_w0, enter_frame, leave_frame, raise, load_entry, write_header, write_register, full_to, full_to_all, side_of, new_place, new_reference}
use Rattle.hk_core.proofs.kinds.Seats.{moved_on}
use Rattle.hk_core.proofs.kinds.NewLoads.{new_loaded, new_on, refused}
use Rattle.hk_core.proofs.kinds.NewRaise.{new_raised}
use Rattle.hk_core.proofs.kinds.NewHistory.{made}

-- what the tables say of a flight: its event, and the flight and the entry by what the event finds
pub record NewSays (g : Geometry) (x : Flight) (event' : Option Event) (flight' : ℕ → Flight) (entry' : ℕ → Option Entry) : Type 0 where
  pub event : event_of g x ≡ event'
  pub flight : (old : ℕ) → took_of g x old ≡ flight' old
  pub entry : (old : ℕ) → effect_of g x old ≡ entry' old

-- the entry of a New that finds too few words, and none where it finds room
abbrev pub refused_if : (seat dest : ℕ) → Shape → (full : Bool) → (word : ℕ) → Option Entry
refused_if seat dest shape full word = if full then Some (refused seat dest shape (layout.w0_words word)) else None

module _ (g : Geometry) (x : Flight) (dest : ℕ) (shape : Shape) (is_new : x.call ≡ call.New dest shape) where
  -- its first place loads W0
  pub new_says_1 : x.place ≡ 1
      → NewSays g x (Some (event.Load (w0_at g))) (λ old. new_loaded g x shape old) (λ old. refused_if x.seat dest shape (full_to g x.seat shape old) old)
  unfolding event_of event_at took_of took_at effect_of effect_at new_event new_took new_entry load_w0
  new_says_1 at = record { event = rw (is_new, at) refl; flight = λ old. rw (is_new, at) refl; entry = λ old. rw (is_new, at) refl }

  -- where it found too few words, the others are rests
  pub new_rests_2 : x.place ≡ 2 → x.full ≡ true → NewSays g x None (λ old. new_on x 3 x.number) (λ old. None)
  unfolding event_of event_at took_of took_at effect_of effect_at new_event new_took new_entry
  new_rests_2 at full = record { event = rw (is_new, at, full) refl; flight = λ old. rw (is_new, at) refl; entry = λ old. rw (is_new, at) refl }

  pub new_rests_3 : x.place ≡ 3 → x.full ≡ true → NewSays g x None (λ old. new_on x 4 x.number) (λ old. None)
  unfolding event_of event_at took_of took_at effect_of effect_at new_event new_took new_entry
  new_rests_3 at full = record { event = rw (is_new, at, full) refl; flight = λ old. rw (is_new, at, full) refl; entry = λ old. rw (is_new, at, full) refl }

  pub new_rests_4 : x.place ≡ 4 → x.full ≡ true → NewSays g x None (λ old. new_on x 5 old) (λ old. None)
  unfolding event_of event_at took_of took_at effect_of effect_at new_event new_took new_entry
  new_rests_4 at full = record { event = rw (is_new, at, full) refl; flight = λ old. rw (is_new, at) refl; entry = λ old. rw (is_new, at) refl }

  pub new_rests_5 : x.place ≡ 5 → x.full ≡ true → NewSays g x None (λ old. new_on x 6 x.number) (λ old. None)
  unfolding event_of event_at took_of took_at effect_of effect_at new_event new_took new_entry
  new_rests_5 at full = record { event = rw (is_new, at, full) refl; flight = λ old. rw (is_new, at) refl; entry = λ old. rw (is_new, at) refl }

  pub new_rests_6 : x.place ≡ 6 → x.full ≡ true → NewSays g x None (λ old. new_on x 7 x.number) (λ old. None)
  unfolding event_of event_at took_of took_at effect_of effect_at new_event new_took new_entry
  new_rests_6 at full = record { event = rw (is_new, at, full) refl; flight = λ old. rw (is_new, at) refl; entry = λ old. rw (is_new, at, full) refl }

  pub new_rests_7 : x.place ≡ 7 → x.full ≡ true → x.raised ≡ false → NewSays g x None (λ old. idle x.seat) (λ old. None)
  unfolding event_of event_at took_of took_at effect_of effect_at new_event new_took new_entry
  new_rests_7 at full raised = record { event = rw (is_new, at, full, raised) refl; flight = λ old. rw (is_new, at) refl; entry = λ old. rw (is_new, at) refl }

  -- where it found room, it enters its frame and raises W0
  pub new_says_2 : x.place ≡ 2 → x.full ≡ false → NewSays g x (Some (event.Add (frame_at g x.seat) layout.entering)) (λ old. moved_on x 3 x.at) (λ old. None)
  unfolding event_of event_at took_of took_at effect_of effect_at new_event new_took new_entry enter_frame
  new_says_2 at room = record { event = rw (is_new, at, room) refl; flight = λ old. rw (is_new, at) refl; entry = λ old. rw (is_new, at) refl }

  pub new_says_3 : x.place ≡ 3 → x.full ≡ false
      → NewSays g x (Some (event.Add (w0_at g) (layout.raise_by (size shape)))) (λ old. new_raised g x shape old) (λ old. refused_if x.seat dest shape (full_to_all g shape old) old)
  unfolding event_of event_at took_of took_at effect_of effect_at new_event new_took new_entry raise
  new_says_3 at room = record { event = rw (is_new, at, room) refl; flight = λ old. rw (is_new, at, room) refl; entry = λ old. rw (is_new, at, room) refl }

  -- where it still found room, it loads its entry, writes the header and then the register
  pub new_says_4 : x.place ≡ 4 → x.full ≡ false → NewSays g x (Some (event.Load (entry_at g (side_of x) (layout.w0_objects x.word)))) (λ old. new_on x 5 old) (λ old. None)
  unfolding event_of event_at took_of took_at effect_of effect_at new_event new_took new_entry load_entry
  new_says_4 at room = record { event = rw (is_new, at, room) refl; flight = λ old. rw (is_new, at) refl; entry = λ old. rw (is_new, at) refl }

  pub new_says_5 : x.place ≡ 5 → x.full ≡ false
      → NewSays g x (Some (event.Write (header_at g x.number) (layout.pack_header 0 (new_place g x) 0))) (λ old. new_on x 6 x.number) (λ old. None)
  unfolding event_of event_at took_of took_at effect_of effect_at new_event new_took new_entry write_header
  new_says_5 at room = record { event = rw (is_new, at, room) refl; flight = λ old. rw (is_new, at) refl; entry = λ old. rw (is_new, at) refl }

  pub new_says_6 : x.place ≡ 6 → x.full ≡ false
      → NewSays g x (Some (event.Write (register_at g x.seat dest) (new_reference x shape))) (λ old. new_on x 7 x.number) (λ old. Some (made x.seat dest shape x.number))
  unfolding event_of event_at took_of took_at effect_of effect_at new_event new_took new_entry write_register
  new_says_6 at room = record { event = rw (is_new, at, room) refl; flight = λ old. rw (is_new, at) refl; entry = λ old. rw (is_new, at, room) refl }

  -- and it leaves its frame
  pub new_says_7 : x.place ≡ 7 → (x.full && not x.raised) ≡ false → NewSays g x (Some (event.Sub (frame_at g x.seat) layout.leaving)) (λ old. idle x.seat) (λ old. None)
  unfolding event_of event_at took_of took_at effect_of effect_at new_event new_took new_entry leave_frame
  new_says_7 at busy = record { event = rw (is_new, at, busy) refl; flight = λ old. rw (is_new, at) refl; entry = λ old. rw (is_new, at) refl }
