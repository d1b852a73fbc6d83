-- What the collector's step answers, and why: for each answer, what it says of the event and of the word that it found.
use Rattle.std.specs.Prelude.{◌≡◌, ◌≢◌, ◌⊎◌, ◌↔◌, ℕ, ◌+◌, ◌<◌, true, Some, None}
use Rattle.hk_words.specs.Layout.{frame_accessors, frame_blackened, header_accessors, header_moved, header_place, pack_w0}
use Rattle.hk_words.specs.Row.{Slot, W0, W1, Frame, Header, Space, index_of, word_of}
use Rattle.hk_core.specs.declared.event.Event.TheVariants.{Load, Swap, Trade}
use Rattle.hk_core.specs.declared.spot.Line.TheVariants as line
use Rattle.hk_core.specs.declared.spot.Work.{Work}
use Rattle.hk_core.specs.declared.spot.Work.TheVariants as work
use Rattle.hk_core.specs.State.{State}
use Rattle.hk_core.specs.Collect.{last_cycle, moved_number, moved_to, is_in_space, old_space, event_by_collector, next_collected}

-- the event loads the word of a slot, and the word that stands there
abbrev pub Loads : State → Slot → Type 0
Loads c slot = event_by_collector c ≡ Some (Load (index_of c.geometry slot))

abbrev pub found : State → Slot → ℕ
found c slot = word_of c.geometry c.row slot

-- the event is the flip: W0 becomes that of the next cycle, with no words used and no objects made
pub record Flips (c : State) : Type 0 where
  pub rests : c.spot.line ≡ line.Rest
  pub swaps : event_by_collector c ≡ Some (Swap (index_of c.geometry W0) (pack_w0 0 0 (c.spot.cycle + 1)))

-- a flip is due in the last cycle: there is no event, and nothing changes
pub record IsWorn (c : State) : Type 0 where
  pub rests : c.spot.line ≡ line.Rest
  pub last : c.spot.cycle ≡ last_cycle
  pub no_event : event_by_collector c ≡ None
  pub unchanged : next_collected c ≡ c

-- the exchange of a frame word, or of the header of the object that is moved, finds another word than the one that its
-- attempt loaded first; so many events were spent on the attempt, with the exchange
pub record LosesFrame (c : State) (seat events : ℕ) : Type 0 where
  pub at : c.spot.line ≡ line.FrameTrade seat
  pub exchanges : event_by_collector c ≡ Some (Trade (index_of c.geometry (Frame seat)) c.spot.first (frame_blackened c.spot.first c.spot.cycle))
  pub another : found c (Frame seat) ≢ c.spot.first
  pub counted : events ≡ c.spot.spent + 1

pub record LosesObject (c : State) (events : ℕ) : Type 0 where
  pub at : c.spot.line ≡ line.ObjectTrade
  pub exchanges : event_by_collector c
      ≡ Some (Trade (index_of c.geometry (Header (moved_number c.spot))) c.spot.first (header_moved c.spot.first (moved_to c.geometry c.spot)))
  pub another : found c (Header (moved_number c.spot)) ≢ c.spot.first
  pub counted : events ≡ c.spot.spent + 1

abbrev pub Loses : State → ℕ → Type 0
Loses c events = ((seat : ℕ) × LosesFrame c seat events) ⊎ LosesObject c events

-- the frame word of a seat, or the header of the object that is to be moved, is loaded before an attempt, and has
-- accessors
pub record FindsBusyFrame (c : State) (seat : ℕ) : Type 0 where
  pub at : c.spot.line ≡ line.Frame seat
  pub loads : Loads c (Frame seat)
  pub busy : 0 < frame_accessors (found c (Frame seat))

pub record FindsBusyObject (c : State) (number : ℕ) : Type 0 where
  pub at : c.spot.line ≡ line.Look
  pub moved : number ≡ moved_number c.spot
  pub loads : Loads c (Header number)
  pub busy : 0 < header_accessors (found c (Header number))

-- the link word of the range at the scan offset, at its place, is loaded, and is 0
pub record FindsUnlinked (c : State) (place : ℕ) : Type 0 where
  pub at : c.spot.line ≡ line.Link
  pub there : place ≡ moved_to c.geometry c.spot
  pub loads : Loads c (Space place)
  pub unlinked : found c (Space place) ≡ 0

-- the pass, after it has found the mark of a number equal to the cycle, loads its header, whose place is in the old space
pub record FindsGrey (c : State) (number : ℕ) : Type 0 where
  pub at : c.spot.line ≡ line.PassHead number
  pub loads : Loads c (Header number)
  pub old : is_in_space c.geometry (old_space c.spot.cycle) (header_place (found c (Header number))) ≡ true

-- the scan loads W1, and more words are reserved than a space has for evacuation
pub record FindsLiveOver (c : State) (words : ℕ) : Type 0 where
  pub at : c.spot.line ≡ line.Scan
  pub loads : Loads c W1
  pub reserved : words ≡ found c W1
  pub over : c.geometry.live < words

-- each answer comes exactly where its cause is there; Useful where there is none of these
pub record HasCauses (c : State) (answer : Work) : Type 0 where
  pub flipped : (answer ≡ work.Flipped) ↔ Flips c
  pub lost : (events : ℕ) → (answer ≡ work.Lost events) ↔ Loses c events
  pub busy_frame : (seat : ℕ) → (answer ≡ work.BusyFrame seat) ↔ FindsBusyFrame c seat
  pub busy_object : (number : ℕ) → (answer ≡ work.BusyObject number) ↔ FindsBusyObject c number
  pub unlinked : (place : ℕ) → (answer ≡ work.Unlinked place) ↔ FindsUnlinked c place
  pub grey : (number : ℕ) → (answer ≡ work.Grey number) ↔ FindsGrey c number
  pub live_over : (words : ℕ) → (answer ≡ work.LiveOver words) ↔ FindsLiveOver c words
  pub worn : (answer ≡ work.Worn) ↔ IsWorn c
