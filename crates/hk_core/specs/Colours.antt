-- The colours of objects and frames, the numbers that are kept, and the two spaces of a cycle.
use Rattle.std.specs.Prelude.{◌≡◌, ◌≢◌, ◌⊎◌, ℕ, ◌+◌, ◌<◌, ◌≤◌, nat_eq, nat_lt, nat_le, Bool, true, false, not, ◌&&◌, ◌||◌, is_some, Option, Some, None}
use Rattle.hk_words.specs.declared.geometry.Geometry.{Geometry}
use Rattle.hk_words.specs.Geometry.{tasks, numbers}
use Rattle.hk_words.specs.Layout.{reference_number}
use Rattle.hk_words.specs.Row.{place_at}
use Rattle.hk_core.specs.declared.flight.Flight.{Flight}
use Rattle.hk_core.specs.declared.spot.Line.{Line}
use Rattle.hk_core.specs.Counts.{any_below}
use Rattle.hk_core.specs.Collect.{current_space, old_space}
use Rattle.hk_core.specs.View.{Words, Names, size_at, reference_at}
use Rattle.hk_core.specs.Flights.{holds_number}
use Rattle.hk_core.specs.Lines.{is_marking}

-- The two spaces.

-- the words of a space for evacuation and for allocation, which stand in this order, and the places of the first word
-- of the current and of the old space
pub record Spaces : Type 0 where
  pub live : ℕ
  pub alloc : ℕ
  pub current : ℕ
  pub old : ℕ

abbrev pub spaces_of : Geometry → ℕ → Spaces
spaces_of g cycle = record { live = g.live; alloc = g.alloc; current = place_at g (current_space cycle) 0; old = place_at g (old_space cycle) 0 }

-- a place is one of the space that begins at a place
abbrev pub is_within : Spaces → (first place : ℕ) → Bool
is_within z first place = nat_le first place && nat_lt place (first + (z.live + z.alloc))

-- so many words from a place on lie in the space that begins at a place
pub record LiesIn (z : Spaces) (first place size : ℕ) : Type 0 where
  pub after : first ≤ place
  pub before : place + size ≤ first + (z.live + z.alloc)

-- words lie in the current space, and in the old one
abbrev pub InCurrent : Spaces → (place size : ℕ) → Type 0
InCurrent z place size = LiesIn z z.current place size

abbrev pub InOld : Spaces → (place size : ℕ) → Type 0
InOld z place size = LiesIn z z.old place size

-- two stretches of words don't overlap
abbrev pub Apart : (place size place' size' : ℕ) → Type 0
Apart place size place' size' = (place + size ≤ place') ⊎ (place' + size' ≤ place)

-- a place is one of so many words from a place on
pub record Covers (from size place : ℕ) : Type 0 where
  pub after : from ≤ place
  pub before : place < from + size

-- Colours.

-- a number is white where it has a place and its mark is below the cycle; grey where its mark is the cycle and its
-- place is in the old space; black where its mark is the cycle and its place is in the current space
abbrev pub white_by : ℕ → (place mark : ℕ → ℕ) → ℕ → Bool
white_by cycle place mark n = not (nat_eq (place n) 0) && nat_lt (mark n) cycle

abbrev pub grey_by : Spaces → ℕ → (place mark : ℕ → ℕ) → ℕ → Bool
grey_by z cycle place mark n = nat_eq (mark n) cycle && is_within z z.old (place n)

abbrev pub black_by : Spaces → ℕ → (place mark : ℕ → ℕ) → ℕ → Bool
black_by z cycle place mark n = nat_eq (mark n) cycle && is_within z z.current (place n)

-- a frame is black where it was last blackened in this cycle
abbrev pub black_frame_by : ℕ → (ℕ → ℕ) → ℕ → Bool
black_frame_by cycle frame_cycle s = nat_eq (frame_cycle s) cycle

-- a New in flight has a number, and hasn't given it to a birth yet
abbrev pub held_by : Geometry → (ℕ → Flight) → ℕ → Bool
held_by g flight n = any_below (tasks g) (λ s. holds_number n (flight s))

-- A number of the geometry is kept where a birth bears it, no New holds it, it has a place, and it may still be reached: its mark is
-- the cycle, or, as long as the collector looks for objects, the cycle before. Every birth that can be reached has a
-- kept number, but others may have one too.
abbrev pub is_fresh : ℕ → Bool → ℕ → Bool
is_fresh cycle marking mark = nat_eq mark cycle || (marking && nat_eq (mark + 1) cycle)

abbrev pub kept_by : Geometry → ℕ → Bool → (held : ℕ → Bool) → (bearer : ℕ → Option ℕ) → (place mark : ℕ → ℕ) → ℕ → Bool
kept_by g cycle marking held bearer place mark n =
    (nat_lt n (numbers g) && (is_some (bearer n) && not (held n))) && (not (nat_eq (place n) 0) && is_fresh cycle marking (mark n))

-- the columns that many facts read: the colours, which numbers are kept, and the words of the object that bears each
pub record Shades : Type 0 where
  pub white : ℕ → Bool
  pub grey : ℕ → Bool
  pub black : ℕ → Bool
  pub black_frame : ℕ → Bool
  pub kept : ℕ → Bool
  pub size : ℕ → ℕ

unfoldable pub shades_of : Geometry → Words → (ℕ → Flight) → Line → Names → Shades
shades_of g w flight line names = record {
  white = white_by w.cycle w.place w.mark;
  grey = grey_by (spaces_of g w.cycle) w.cycle w.place w.mark;
  black = black_by (spaces_of g w.cycle) w.cycle w.place w.mark;
  black_frame = black_frame_by w.cycle w.frame_cycle;
  kept = kept_by g w.cycle (is_marking line) (held_by g flight) names.bearer w.place w.mark;
  size = size_at names;
}

-- References.

-- a word is good where it is the reference by which the object of a kept number is shown
pub record IsGood (kept : ℕ → Bool) (names : Names) (word : ℕ) : Type 0 where
  pub some : word ≢ 0
  pub is_kept : kept (reference_number word) ≡ true
  pub shows : word ≡ reference_at names (reference_number word)

abbrev pub IsNullOrGood : (ℕ → Bool) → Names → ℕ → Type 0
IsNullOrGood kept names word = (word ≡ 0) ⊎ IsGood kept names word

-- a birth is kept where it bears a kept number
pub record IsKeptBirth (kept : ℕ → Bool) (names : Names) (birth : ℕ) : Type 0 where
  pub is_kept : kept (names.number birth) ≡ true
  pub bears : names.bearer (names.number birth) ≡ Some birth

-- null, or a kept birth
abbrev pub IsNullOrKept : (ℕ → Bool) → Names → Option ℕ → Type 0
IsNullOrKept kept names link = (link ≡ None) ⊎ ((birth : ℕ) × (link ≡ Some birth) × IsKeptBirth kept names birth)

-- a word names no white number; null names none
abbrev pub NamesNoWhite : (ℕ → Bool) → ℕ → Type 0
NamesNoWhite white word = (word ≡ 0) ⊎ (white (reference_number word) ≡ false)

-- a word is null, or the object that it names was claimed in this cycle
abbrev pub IsNullOrMarked : ℕ → (ℕ → ℕ) → ℕ → Type 0
IsNullOrMarked cycle mark word = (word ≡ 0) ⊎ (mark (reference_number word) ≡ cycle)
