-- What a flight is in the middle of. Each of these is a table on calls and places.
use Rattle.std.specs.Prelude.{◌≡◌, ℕ, ◌≤◌, Option, Some, None, nat_eq, nat_le, Bool, true, false, not, ◌&&◌, ◌||◌, if◌then◌else◌}
use Rattle.hk_words.specs.declared.geometry.Geometry.{Geometry}
use Rattle.hk_words.specs.declared.call.Call.{Call}
use Rattle.hk_words.specs.declared.call.Call.TheVariants.{Get, Put, Load, Store, Move, Clear, New, Same, IsNull}
use Rattle.hk_words.specs.Shape.{size}
use Rattle.hk_words.specs.Layout.{reference_number, w0_words, w0_objects, w0_cycle}
use Rattle.hk_core.specs.declared.flight.Flight.{Flight}
use Rattle.hk_core.specs.Step.{reserved_fits}

-- a place is one of those from a first to a last one
abbrev pub is_between : (first last place : ℕ) → Bool
is_between first last place = nat_le first place && nat_le place last

-- the seat has a call in flight
abbrev pub is_flying : Flight → Bool
is_flying f = nat_le 1 f.place

-- Objects and frames.

-- the call goes through the object of a register
unfoldable pub is_through : Call → Bool
is_through (Get reg field) = true
is_through (Put reg field value) = true
is_through (Load dest reg field) = true
is_through (Store reg field from) = true
is_through (Move dest from) = false
is_through (Clear dest) = false
is_through (New dest shape) = false
is_through (Same a b) = false
is_through (IsNull reg) = false

-- the places at which a call is inside its object
unfoldable pub in_object_at : Call → ℕ → Bool
in_object_at (Get reg field) place = is_between 2 3 place
in_object_at (Put reg field value) place = is_between 2 3 place
in_object_at (Load dest reg field) place = is_between 3 9 place
in_object_at (Store reg field from) place = is_between 2 7 place
in_object_at (Move dest from) place = false
in_object_at (Clear dest) place = false
in_object_at (New dest shape) place = false
in_object_at (Same a b) place = false
in_object_at (IsNull reg) place = false

unfoldable pub in_object : Flight → Bool
in_object f = in_object_at f.call f.place

-- the call is inside the object of a number
unfoldable pub is_inside : Flight → ℕ → Bool
is_inside f n = in_object f && nat_eq (reference_number f.entered) n

-- the places at which a call has still to enter its object
unfoldable pub before_object_at : Call → ℕ → Bool
before_object_at (Get reg field) place = is_between 1 1 place
before_object_at (Put reg field value) place = is_between 1 1 place
before_object_at (Load dest reg field) place = is_between 1 2 place
before_object_at (Store reg field from) place = is_between 1 1 place
before_object_at (Move dest from) place = false
before_object_at (Clear dest) place = false
before_object_at (New dest shape) place = false
before_object_at (Same a b) place = false
before_object_at (IsNull reg) place = false

unfoldable pub before_object : Flight → Bool
before_object f = before_object_at f.call f.place

-- a New that found too few words before it raised W0: what is left of it are rests
abbrev pub is_resting : Flight → Bool
is_resting f = f.full && not f.raised

-- the places at which a call is inside the frame of its seat, and at which it has still to enter it
unfoldable pub in_frame_at : Call → ℕ → Bool
in_frame_at (Get reg field) place = false
in_frame_at (Put reg field value) place = false
in_frame_at (Load dest reg field) place = is_between 2 10 place
in_frame_at (Store reg field from) place = false
in_frame_at (Move dest from) place = is_between 2 3 place
in_frame_at (Clear dest) place = false
in_frame_at (New dest shape) place = is_between 3 7 place
in_frame_at (Same a b) place = false
in_frame_at (IsNull reg) place = false

unfoldable pub in_frame : Flight → Bool
in_frame f = in_frame_at f.call f.place && not (is_resting f)

unfoldable pub before_frame_at : Call → ℕ → Bool
before_frame_at (Get reg field) place = false
before_frame_at (Put reg field value) place = false
before_frame_at (Load dest reg field) place = is_between 1 1 place
before_frame_at (Store reg field from) place = false
before_frame_at (Move dest from) place = is_between 1 1 place
before_frame_at (Clear dest) place = false
before_frame_at (New dest shape) place = is_between 1 2 place
before_frame_at (Same a b) place = false
before_frame_at (IsNull reg) place = false

unfoldable pub before_frame : Flight → Bool
before_frame f = before_frame_at f.call f.place && not (is_resting f)

-- References.

-- `entered` is what the entered register holds: all the way, but that a Load may write that register itself
unfoldable pub register_stays_at : Call → ℕ → Bool
register_stays_at (Get reg field) place = is_between 1 3 place
register_stays_at (Put reg field value) place = is_between 1 3 place
register_stays_at (Load dest reg field) place = is_between 1 8 place || (is_between 9 10 place && not (nat_eq dest reg))
register_stays_at (Store reg field from) place = is_between 1 7 place
register_stays_at (Move dest from) place = false
register_stays_at (Clear dest) place = false
register_stays_at (New dest shape) place = false
register_stays_at (Same a b) place = false
register_stays_at (IsNull reg) place = false

unfoldable pub register_stays : Flight → Bool
register_stays f = register_stays_at f.call f.place

-- `item` is a reference or null: of a Load once it has read the cell, of a Store and of a Move from the start
unfoldable pub has_item_at : Call → ℕ → Bool
has_item_at (Get reg field) place = false
has_item_at (Put reg field value) place = false
has_item_at (Load dest reg field) place = is_between 5 10 place
has_item_at (Store reg field from) place = is_between 1 7 place
has_item_at (Move dest from) place = is_between 1 3 place
has_item_at (Clear dest) place = false
has_item_at (New dest shape) place = false
has_item_at (Same a b) place = false
has_item_at (IsNull reg) place = false

unfoldable pub has_item : Flight → Bool
has_item f = has_item_at f.call f.place

-- a Load that has read its reference: all the way, while it is inside its object, and before and after it has written
-- its register
unfoldable pub is_load_at : (first last : ℕ) → Call → ℕ → Bool
is_load_at first last (Get reg field) place = false
is_load_at first last (Put reg field value) place = false
is_load_at first last (Load dest reg field) place = is_between first last place
is_load_at first last (Store reg field from) place = false
is_load_at first last (Move dest from) place = false
is_load_at first last (Clear dest) place = false
is_load_at first last (New dest shape) place = false
is_load_at first last (Same a b) place = false
is_load_at first last (IsNull reg) place = false

unfoldable pub is_load : Flight → Bool
is_load f = is_load_at 1 10 f.call f.place

unfoldable pub has_loaded : Flight → Bool
has_loaded f = is_load_at 5 10 f.call f.place

unfoldable pub has_loaded_inside : Flight → Bool
has_loaded_inside f = is_load_at 5 9 f.call f.place

unfoldable pub has_written : Flight → Bool
has_written f = is_load_at 9 10 f.call f.place

-- a Load whose effect was done, and that hasn't written this register yet
unfoldable pub holds_back_at : Call → (place reg : ℕ) → Bool
holds_back_at (Get own field) place reg = false
holds_back_at (Put own field value) place reg = false
holds_back_at (Load dest own field) place reg = is_between 5 8 place && nat_eq dest reg
holds_back_at (Store own field from) place reg = false
holds_back_at (Move dest from) place reg = false
holds_back_at (Clear dest) place reg = false
holds_back_at (New dest shape) place reg = false
holds_back_at (Same a b) place reg = false
holds_back_at (IsNull own) place reg = false

unfoldable pub holds_back : Flight → ℕ → Bool
holds_back f reg = holds_back_at f.call f.place reg

-- Claims.

-- the call has loaded W0, so that `word` has a cycle, and is inside its object; a Store of null loads none
unfoldable pub has_cycle_inside_at : Call → ℕ → Bool → Bool
has_cycle_inside_at (Get reg field) place is_null = false
has_cycle_inside_at (Put reg field value) place is_null = false
has_cycle_inside_at (Load dest reg field) place is_null = is_between 4 9 place
has_cycle_inside_at (Store reg field from) place is_null = is_between 3 7 place && not is_null
has_cycle_inside_at (Move dest from) place is_null = false
has_cycle_inside_at (Clear dest) place is_null = false
has_cycle_inside_at (New dest shape) place is_null = false
has_cycle_inside_at (Same a b) place is_null = false
has_cycle_inside_at (IsNull reg) place is_null = false

unfoldable pub has_cycle_inside : Flight → Bool
has_cycle_inside f = has_cycle_inside_at f.call f.place (nat_eq f.item 0)

-- the call has done its claim, of a reference that isn't null, and is inside its object
unfoldable pub has_claimed_at : Call → ℕ → Bool
has_claimed_at (Get reg field) place = false
has_claimed_at (Put reg field value) place = false
has_claimed_at (Load dest reg field) place = is_between 6 9 place
has_claimed_at (Store reg field from) place = is_between 4 7 place
has_claimed_at (Move dest from) place = false
has_claimed_at (Clear dest) place = false
has_claimed_at (New dest shape) place = false
has_claimed_at (Same a b) place = false
has_claimed_at (IsNull reg) place = false

unfoldable pub has_claimed : Flight → Bool
has_claimed f = has_claimed_at f.call f.place && not (nat_eq f.item 0)

-- A claim in hand: whoever claimed an object has still to reserve its place, or has reserved one that fits and has
-- still to write the link word there. It has the reference, the cycle of the claim, and the offset.
pub data Hand : Type 0 where
  no_claim : Hand
  to_reserve : (item cycle : ℕ) → Hand
  to_link : (item cycle offset : ℕ) → Hand

-- a claim in hand that has still to reserve, and the reference of a claim in hand
unfoldable pub is_to_reserve : Hand → Bool
is_to_reserve no_claim = false
is_to_reserve (to_reserve item cycle) = true
is_to_reserve (to_link item cycle offset) = false

unfoldable pub item_in : Hand → Option ℕ
item_in no_claim = None
item_in (to_reserve item cycle) = Some item
item_in (to_link item cycle offset) = Some item

-- the places at which a claimer has still to reserve, and to link
unfoldable pub reserves_at : Call → ℕ → Bool
reserves_at (Get reg field) place = false
reserves_at (Put reg field value) place = false
reserves_at (Load dest reg field) place = is_between 6 6 place
reserves_at (Store reg field from) place = is_between 4 4 place
reserves_at (Move dest from) place = false
reserves_at (Clear dest) place = false
reserves_at (New dest shape) place = false
reserves_at (Same a b) place = false
reserves_at (IsNull reg) place = false

unfoldable pub links_at : Call → ℕ → Bool
links_at (Get reg field) place = false
links_at (Put reg field value) place = false
links_at (Load dest reg field) place = is_between 7 7 place
links_at (Store reg field from) place = is_between 5 5 place
links_at (Move dest from) place = false
links_at (Clear dest) place = false
links_at (New dest shape) place = false
links_at (Same a b) place = false
links_at (IsNull reg) place = false

-- the claim that a flight has in hand
unfoldable pub hand_of_flight : Geometry → Flight → Hand
hand_of_flight g f =
    if f.claimer && reserves_at f.call f.place then to_reserve f.item (w0_cycle f.word)
    else if f.claimer && (links_at f.call f.place && reserved_fits g f.offset f.item) then to_link f.item (w0_cycle f.word) f.offset
    else no_claim

-- New.

-- the places of a New from a first to a last one
unfoldable pub is_new_at : (first last : ℕ) → Call → ℕ → Bool
is_new_at first last (Get reg field) place = false
is_new_at first last (Put reg field value) place = false
is_new_at first last (Load dest reg field) place = false
is_new_at first last (Store reg field from) place = false
is_new_at first last (Move dest from) place = false
is_new_at first last (Clear dest) place = false
is_new_at first last (New dest shape) place = is_between first last place
is_new_at first last (Same a b) place = false
is_new_at first last (IsNull reg) place = false

-- the words of the object that a New makes
unfoldable pub new_size_of : Call → ℕ
new_size_of (Get reg field) = 0
new_size_of (Put reg field value) = 0
new_size_of (Load dest reg field) = 0
new_size_of (Store reg field from) = 0
new_size_of (Move dest from) = 0
new_size_of (Clear dest) = 0
new_size_of (New dest shape) = size shape
new_size_of (Same a b) = 0
new_size_of (IsNull reg) = 0

unfoldable pub new_size : Flight → ℕ
new_size f = new_size_of f.call

-- a New that found room and will raise W0
unfoldable pub will_raise : Flight → Bool
will_raise f = is_new_at 2 3 f.call f.place && not f.full

-- a New that has raised W0, whether it found room or not; and one that found room
unfoldable pub has_raised : Flight → Bool
has_raised f = is_new_at 4 7 f.call f.place && f.raised

unfoldable pub has_room : Flight → Bool
has_room f = has_raised f && not f.full

-- a New that has raised W0 and found room, before its effect: it speaks for a list entry and for words of a space
unfoldable pub is_making : Flight → Bool
is_making f = is_new_at 4 6 f.call f.place && not f.full

-- such a New that has loaded its entry, so that `number` is the number of the new object
unfoldable pub has_number : Flight → Bool
has_number f = is_new_at 5 6 f.call f.place && not f.full

-- such a New that has written the header
unfoldable pub has_header : Flight → Bool
has_header f = is_new_at 6 6 f.call f.place && not f.full

-- the call holds a number that has no birth yet
unfoldable pub holds_number : ℕ → Flight → Bool
holds_number n f = has_number f && nat_eq f.number n

-- the W0 that a call has loaded or raised: its cycle, and for a New the words and the objects before it
abbrev pub cycle_of : Flight → ℕ
cycle_of f = w0_cycle f.word

abbrev pub words_before : Flight → ℕ
words_before f = w0_words f.word

abbrev pub objects_before : Flight → ℕ
objects_before f = w0_objects f.word

-- the call has loaded W0, or has raised it, and is inside its frame
unfoldable pub has_cycle_in_frame : Flight → Bool
has_cycle_in_frame f = is_load_at 4 10 f.call f.place || has_raised f

-- where a New is with W0: at its first place it hasn't found too few words yet, and up to its third it hasn't raised W0;
-- from its fourth place on it has raised W0, unless it found too few words before. No other call is full or raises W0
pub record IsNewInStep (place : ℕ) (full raised : Bool) : Type 0 where
  pub not_full_yet : place ≤ 1 → full ≡ false
  pub not_raised_yet : place ≤ 3 → raised ≡ false
  pub raised_by_then : 4 ≤ place → full ≡ false → raised ≡ true

pub record IsNoNew (full raised : Bool) : Type 0 where
  pub not_full : full ≡ false
  pub not_raised : raised ≡ false

abbrev pub IsInStepAt : Call → ℕ → Bool → Bool → Type 0
IsInStepAt (Get reg field) place full raised = IsNoNew full raised
IsInStepAt (Put reg field value) place full raised = IsNoNew full raised
IsInStepAt (Load dest reg field) place full raised = IsNoNew full raised
IsInStepAt (Store reg field from) place full raised = IsNoNew full raised
IsInStepAt (Move dest from) place full raised = IsNoNew full raised
IsInStepAt (Clear dest) place full raised = IsNoNew full raised
IsInStepAt (New dest shape) place full raised = IsNewInStep place full raised
IsInStepAt (Same a b) place full raised = IsNoNew full raised
IsInStepAt (IsNull reg) place full raised = IsNoNew full raised

abbrev pub IsInStep : Flight → Type 0
IsInStep f = IsInStepAt f.call f.place f.full f.raised
