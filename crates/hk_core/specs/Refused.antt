-- When a New finds too few words, and what it answers then.
use Rattle.std.specs.Prelude.{◌≡◌, ℕ, ◌<◌, ◌==◌, Bool, true, false, not, ◌&&◌, ◌||◌, ◌++◌, [], ◌∷◌, Some, if◌then◌else◌}
use Rattle.hk_words.specs.declared.call.Call.TheVariants.{New}
use Rattle.hk_words.specs.declared.call.Reply.TheVariants.{Full}
use Rattle.hk_words.specs.declared.shape.Shape.{Shape}
use Rattle.hk_words.specs.Layout.{w0_words}
use Rattle.hk_words.specs.Row.{W0, word_of}
use Rattle.hk_model.specs.Heap.{opening_of}
use Rattle.hk_model.specs.History.{Entry, History, after, is_refused}
use Rattle.hk_core.specs.declared.flight.Flight.{Flight}
use Rattle.hk_core.specs.State.{State, flight_of}
use Rattle.hk_core.specs.Step.{full_to, full_to_all, effect_of, found_by, next, history_after}

-- the place of a New finds too few words in W0: the first one, which loads W0, where its seat may not use so many words
-- more; and the third one, which raises W0 where the New found room before, where there are not so many more for anybody
abbrev pub finds_too_few : State → Flight → Shape → Bool
finds_too_few c f shape =
    if f.place == 1 then full_to c.geometry f.seat shape (word_of c.geometry c.row W0)
    else if f.place == 3 then not f.full && full_to_all c.geometry shape (word_of c.geometry c.row W0)
    else false

-- the entry of a New that found so many words used, and too few left
abbrev pub refused_entry : (seat dest : ℕ) → Shape → (words : ℕ) → Entry
refused_entry seat dest shape words = record { seat = seat; call = New dest shape; reply = Full; number = words }

-- what a step of a New in flight does about room
pub record TellsRoom (c : State) (history : History) (seat dest : ℕ) (shape : Shape) : Type 0 where
  -- until its last place it is full exactly where it was or its place finds too few words
  pub full : (flight_of c.flights seat).place < 7
      → (flight_of (next c seat).flights seat).full ≡ ((flight_of c.flights seat).full || finds_too_few c (flight_of c.flights seat) shape)
  -- a place that finds too few words keeps the W0 that it found, and so do all later ones
  pub found : finds_too_few c (flight_of c.flights seat) shape ≡ true → (flight_of (next c seat).flights seat).word ≡ word_of c.geometry c.row W0
  pub kept : (flight_of c.flights seat).full ≡ true → (flight_of c.flights seat).place < 7
      → (flight_of (next c seat).flights seat).word ≡ (flight_of c.flights seat).word
  -- it adds to the history that there was no room, with the words used that it found, and changes nothing of the plain heap
  pub entry : finds_too_few c (flight_of c.flights seat) shape ≡ true
      → history_after c seat history ≡ history ++ refused_entry seat dest shape (w0_words (word_of c.geometry c.row W0)) ∷ []
  pub plain : finds_too_few c (flight_of c.flights seat) shape ≡ true
      → after (opening_of c.geometry) (history_after c seat history) ≡ after (opening_of c.geometry) history
  -- a New that is full adds nothing more, and no other place adds that there was no room
  pub silent : (flight_of c.flights seat).full ≡ true → history_after c seat history ≡ history
  pub nowhere_else : finds_too_few c (flight_of c.flights seat) shape ≡ false → (added : Entry)
      → effect_of c.geometry (flight_of c.flights seat) (found_by c seat) ≡ Some added → is_refused added ≡ false

-- a New stands at its last place and is full, and so many words were used in the W0 that it found
pub record EndsFull (f : Flight) (words : ℕ) : Type 0 where
  pub dest : ℕ
  pub shape : Shape
  pub is_new : f.call ≡ New dest shape
  pub last : f.place ≡ 7
  pub full : f.full ≡ true
  pub found : words ≡ w0_words f.word
