-- The facts of a lawful state, one by one. Each takes the columns that it reads, and nothing more, so that a step which
-- changes none of these leaves the fact as it is. Beside what a fact means stands a step that would break without it.
use Rattle.std.specs.Prelude.{◌≡◌, ◌≢◌, ◌⊎◌, ℕ, ◌+◌, ◌*◌, ◌<◌, ◌≤◌, Bool, true, false, nat_eq, Option, Some, None, if◌then◌else◌}
use Rattle.hk_words.specs.declared.geometry.Geometry.{Geometry}
use Rattle.hk_words.specs.Geometry.{tasks, numbers, list_length}
use Rattle.hk_words.specs.Layout as layout
use Rattle.hk_words.specs.Calls.{entered, target, RegistersFit}
use Rattle.hk_model.specs.History.{is_question}
use Rattle.hk_core.specs.declared.flight.Flight.{Flight}
use Rattle.hk_core.specs.declared.spot.Spot.{Spot}
use Rattle.hk_core.specs.declared.spot.Line.{Line}
use Rattle.hk_core.specs.Counts.{count_below, sum_below}
use Rattle.hk_words.specs.Bounds.{places_of}
use Rattle.hk_core.specs.Step.{new_place, side_of}
use Rattle.hk_core.specs.Begin.{most_calls, has_field, copied}
use Rattle.hk_core.specs.Collect.{last_cycle}
use Rattle.hk_core.specs.View.{Names, shown}
use Rattle.hk_core.specs.Flights as f
use Rattle.hk_core.specs.Flights.{Hand, to_reserve, to_link}
use Rattle.hk_core.specs.Lines as l
use Rattle.hk_core.specs.Colours.{Spaces, InCurrent, InOld, Apart, Covers, IsGood, IsNullOrGood, IsNullOrKept, NamesNoWhite, IsNullOrMarked}

-- SINGLE WORDS

-- The collector knows the cycle. Without it the flip would set W0 to a wrong cycle.
abbrev pub SpotKnowsCycle : (cycle spot_cycle : ℕ) → Type 0
SpotKnowsCycle cycle spot_cycle = spot_cycle ≡ cycle

-- The cycle fits its bits: the collector is worn before it doesn't. Without it the flip would write another cycle.
abbrev pub CycleFits : ℕ → Type 0
CycleFits cycle = cycle ≤ last_cycle

-- Only numbers that the sweep has marked for the next cycle have a mark above the cycle. Without it a stray mark would
-- count as claimed after the flip, and the sweep would run past the last number.
abbrev pub MarksAboveAreWritten : Geometry → (cycle : ℕ) → (mark next : ℕ → ℕ) → (marked : ℕ) → Type 0
MarksAboveAreWritten g cycle mark next marked =
    (n : ℕ) → n < numbers g → cycle < mark n → (j : ℕ) × (j < marked) × (next j ≡ n)

-- No frame was blackened in a later cycle. Without it the flip would make a frame black whose registers are white.
abbrev pub FramesNotAhead : Geometry → (cycle : ℕ) → (frame_cycle : ℕ → ℕ) → Type 0
FramesNotAhead g cycle frame_cycle = (s : ℕ) → s < tasks g → frame_cycle s ≤ cycle

-- Each object has two words or more. Without it a New that finds room could be given an entry beyond the list.
abbrev pub ObjectsHaveTwoWords : (objects used : ℕ) → Type 0
ObjectsHaveTwoWords objects used = 2 * objects ≤ used

-- The words used, with the most that each New which will still raise W0 can add (the 255 words of the largest object),
-- pass the room for allocation by no more than one object a task; likewise the objects made. Without it a raise could leave the bits of a field of W0.
abbrev pub UsedStaysBounded : Geometry → (used : ℕ) → (flight : ℕ → Flight) → Type 0
UsedStaysBounded g used flight =
    used + 255 * count_below (tasks g) (λ s. f.will_raise (flight s)) ≤ g.alloc + 255 * tasks g

abbrev pub ObjectsStayBounded : Geometry → (objects : ℕ) → (flight : ℕ → Flight) → Type 0
ObjectsStayBounded g objects flight =
    objects + count_below (tasks g) (λ s. f.will_raise (flight s)) ≤ list_length g + tasks g

-- No seat has begun more calls than it can. Without it there would be no bound on versions.
abbrev pub BegunBounded : Geometry → (begun : ℕ → ℕ) → Type 0
BegunBounded g begun = (s : ℕ) → s < tasks g → begun s ≤ most_calls

-- The version of a header, with the calls that have still to enter an object, is at most the begun calls of all seats;
-- likewise of a frame word. Without it an entering could pass the word's last bit.
abbrev pub VersionsBounded : Geometry → (version : ℕ → ℕ) → (flight : ℕ → Flight) → (begun : ℕ → ℕ) → Type 0
VersionsBounded g version flight begun = (n : ℕ) → n < numbers g
    → version n + count_below (tasks g) (λ s. f.before_object (flight s)) ≤ sum_below (tasks g) begun

abbrev pub FrameVersionsBounded : Geometry → (frame_version : ℕ → ℕ) → (flight : ℕ → Flight) → (begun : ℕ → ℕ) → Type 0
FrameVersionsBounded g frame_version flight begun = (s : ℕ) → s < tasks g
    → frame_version s + count_below (tasks g) (λ t. f.before_frame (flight t)) ≤ sum_below (tasks g) begun

-- The accessors of a header are the calls that are inside the object; those of a frame are its seat's call, where it is
-- inside. Without it the collector would move an object that a call reads or writes.
abbrev pub AccessorsCounted : Geometry → (accessors : ℕ → ℕ) → (flight : ℕ → Flight) → Type 0
AccessorsCounted g accessors flight = (n : ℕ) → n < numbers g
    → accessors n ≡ count_below (tasks g) (λ s. f.is_inside (flight s) n)

abbrev pub FrameAccessorsCounted : Geometry → (frame_accessors : ℕ → ℕ) → (flight : ℕ → Flight) → Type 0
FrameAccessorsCounted g frame_accessors flight = (s : ℕ) → s < tasks g
    → frame_accessors s ≡ (if f.in_frame (flight s) then 1 else 0)

-- KEPT BIRTHS

-- Each register word shows the register of the plain heap. Between the effect of a Load and the write of its register,
-- the reference that it read shows it. Without it a read would answer the cell of another object.
abbrev pub shown_in : Flight → (reg word : ℕ) → ℕ
shown_in flight reg word = if f.holds_back flight reg then flight.item else word

abbrev pub RegistersShown : Geometry → Names → (register : ℕ → ℕ → ℕ) → (plain : ℕ → ℕ → Option ℕ) → (flight : ℕ → Flight) → Type 0
RegistersShown g names register plain flight = (s r : ℕ) → s < tasks g → r < g.registers
    → shown_in (flight s) r (register s r) ≡ shown names (plain s r)

-- Every register word is null or good, also one that a Load is about to write over. Without it the collector would
-- claim a free number, and reserve words for an object of a wrong shape.
abbrev pub RegistersGood : Geometry → (kept : ℕ → Bool) → Names → (register : ℕ → ℕ → ℕ) → Type 0
RegistersGood g kept names register = (s r : ℕ) → s < tasks g → r < g.registers → IsNullOrGood kept names (register s r)

-- The birth in a register of the plain heap is a kept one: it is the last that bears its number. Without it a number that
-- was given again would show an older birth of the same shape, and a read would answer the cell of another object.
abbrev pub RegistersKept : Geometry → (kept : ℕ → Bool) → Names → (plain : ℕ → ℕ → Option ℕ) → Type 0
RegistersKept g kept names plain = (s r : ℕ) → s < tasks g → r < g.registers → IsNullOrKept kept names (plain s r)

-- The reference that a call in flight goes through is good, all the way. Without it the sweep would empty the header of
-- an object that a call is inside and no register names any more.
abbrev pub EnteredGood : Geometry → (kept : ℕ → Bool) → Names → (flight : ℕ → Flight) → Type 0
EnteredGood g kept names flight = (s : ℕ) → s < tasks g
    → f.is_through (flight s).call ≡ true → f.is_flying (flight s) ≡ true → IsGood kept names (flight s).entered

-- The reference that a Load has read is null or good. Without it the Load would claim a free number.
abbrev pub LoadedGood : Geometry → (kept : ℕ → Bool) → Names → (flight : ℕ → Flight) → Type 0
LoadedGood g kept names flight = (s : ℕ) → s < tasks g
    → f.has_loaded (flight s) ≡ true → IsNullOrGood kept names (flight s).item

-- The reference that the collector deals with is good. Without it the collector would claim a free number.
abbrev pub CellGood : (kept : ℕ → Bool) → Names → Line → (cell : ℕ) → Type 0
CellGood kept names line cell = l.has_reference line ≡ true → IsGood kept names cell

-- A reference cell of a kept birth holds null or a kept birth. Without it an object that nobody reaches, but that was
-- claimed, would lead the collector to a number that was freed.
abbrev pub LinksKept : (kept : ℕ → Bool) → Names → (link : ℕ → ℕ → Option ℕ) → Type 0
LinksKept kept names link = (n b : ℕ) → kept n ≡ true → names.bearer n ≡ Some b
    → (i : ℕ) → i < names.refs b → IsNullOrKept kept names (link b i)

-- The words after the link word of a kept object show the cells of its birth: its reference cells, and then its number
-- cells. Without it a read would answer something else than the plain heap.
abbrev pub LinksShown : (kept : ℕ → Bool) → Names → (place cell : ℕ → ℕ) → (link : ℕ → ℕ → Option ℕ) → Type 0
LinksShown kept names place cell link = (n b : ℕ) → kept n ≡ true → names.bearer n ≡ Some b
    → (i : ℕ) → i < names.refs b → cell (place n + 1 + i) ≡ shown names (link b i)

abbrev pub ValuesShown : (kept : ℕ → Bool) → Names → (place cell : ℕ → ℕ) → (value : ℕ → ℕ → ℕ) → Type 0
ValuesShown kept names place cell value = (n b : ℕ) → kept n ≡ true → names.bearer n ≡ Some b
    → (i : ℕ) → i < names.nums b → cell (place n + 1 + names.refs b + i) ≡ value b i

-- The words of a kept object lie in one space. Without it an object across the end of space 0 would be written over by
-- the link word of the first range of space 1.
abbrev pub ObjectsInOneSpace : Spaces → (kept : ℕ → Bool) → (place size : ℕ → ℕ) → Type 0
ObjectsInOneSpace z kept place size = (n : ℕ) → kept n ≡ true → InOld z (place n) (size n) ⊎ InCurrent z (place n) (size n)

-- The words of two kept objects don't overlap, nor do those of a kept object and those that a New speaks for, nor those
-- that two News speak for. Without it a New would be given the words of an object that a call is inside.
abbrev pub ObjectsApart : (kept : ℕ → Bool) → (place size : ℕ → ℕ) → Type 0
ObjectsApart kept place size = (m n : ℕ) → kept m ≡ true → kept n ≡ true → m ≢ n
    → Apart (place m) (size m) (place n) (size n)

abbrev pub ObjectsApartFromNew : Geometry → (kept : ℕ → Bool) → (place size : ℕ → ℕ) → (flight : ℕ → Flight) → Type 0
ObjectsApartFromNew g kept place size flight = (s n : ℕ) → s < tasks g → f.is_making (flight s) ≡ true → kept n ≡ true
    → Apart (place n) (size n) (new_place g (flight s)) (f.new_size (flight s))

abbrev pub NewsApart : Geometry → (flight : ℕ → Flight) → Type 0
NewsApart g flight = (s t : ℕ) → s < tasks g → t < tasks g → s ≢ t → f.is_making (flight s) ≡ true → f.is_making (flight t) ≡ true
    → Apart (new_place g (flight s)) (f.new_size (flight s)) (new_place g (flight t)) (f.new_size (flight t))

-- A kept number that wasn't claimed in this cycle has its place in the old space. Without it a claim would make an
-- object black that was never copied.
abbrev pub UnclaimedIsOld : Spaces → (cycle : ℕ) → (kept : ℕ → Bool) → (place mark size : ℕ → ℕ) → Type 0
UnclaimedIsOld z cycle kept place mark size = (n : ℕ) → kept n ≡ true → mark n < cycle → InOld z (place n) (size n)

-- THE TWO SPACES

-- A kept object of the current space ends where the words used end, or before. Without it a raise of W0 would give a
-- New the words of a live object.
abbrev pub ObjectsBelowUsed : Spaces → (used : ℕ) → (kept : ℕ → Bool) → (place size : ℕ → ℕ) → Type 0
ObjectsBelowUsed z used kept place size = (n : ℕ) → kept n ≡ true → InCurrent z (place n) (size n)
    → place n + size n ≤ z.current + (z.live + used)

-- Until the collector rests, a kept object in the area for evacuation of the current space stands where the range of
-- its number begins. Without it the copy of one object would be written over another.
abbrev pub MovedStandsInRange : Spaces → (resting : Bool) → (kept : ℕ → Bool) → (place : ℕ → ℕ) → (range : ℕ → Option ℕ) → Type 0
MovedStandsInRange z resting kept place range = resting ≡ false → (n x : ℕ) → kept n ≡ true → place n ≡ z.current + x
    → x < z.live → range x ≡ Some n

-- A word of the area for allocation of the current space that lies in no kept object is 0. Without it a new object
-- would be born with cells that aren't null.
abbrev pub FreeIsZero : Spaces → (kept : ℕ → Bool) → (place size cell : ℕ → ℕ) → Type 0
FreeIsZero z kept place size cell = (i : ℕ) → i < z.alloc
    → ((n : ℕ) → kept n ≡ true → ¬ Covers (place n) (size n) (z.current + (z.live + i)))
    → cell (z.current + (z.live + i)) ≡ 0

-- A word of the area for evacuation of the current space that lies in no range which fits is 0; once the collector
-- rests, one that lies in no kept object. Without it a reserved place would have a link word before it was linked.
abbrev pub UnreservedIsZero : Spaces → (resting : Bool) → (size cell : ℕ → ℕ) → (range : ℕ → Option ℕ) → Type 0
UnreservedIsZero z resting size cell range = resting ≡ false → (x : ℕ) → x < z.live
    → ((y n : ℕ) → range y ≡ Some n → y + size n ≤ z.live → ¬ Covers y (size n) x)
    → cell (z.current + x) ≡ 0

abbrev pub UnusedIsZero : Spaces → (resting : Bool) → (kept : ℕ → Bool) → (place size cell : ℕ → ℕ) → Type 0
UnusedIsZero z resting kept place size cell = resting ≡ true → (x : ℕ) → x < z.live
    → ((n : ℕ) → kept n ≡ true → ¬ Covers (place n) (size n) (z.current + x))
    → cell (z.current + x) ≡ 0

-- The words of the old space that were cleared are 0, and in the end all are. Without it the flip would make a space
-- with words in it the current one.
abbrev pub ClearedIsZero : Spaces → (cleared : ℕ) → (cell : ℕ → ℕ) → Type 0
ClearedIsZero z cleared cell = (i : ℕ) → i < cleared → cell (z.old + i) ≡ 0

-- RANGES. A range is what one reserve took: it begins at its offset in the area for evacuation of the current space,
-- belongs to a number and has the words of its object. `range x` is the number of the range that begins at offset x.

-- The ranges tile the words that are reserved: each ends within them, where one ends the next begins, the first begins
-- at 0, and none begins inside another. Without it the scan would come to the middle of a range.
abbrev pub RangesWithin : (reserved : ℕ) → (size : ℕ → ℕ) → (range : ℕ → Option ℕ) → Type 0
RangesWithin reserved size range = (x n : ℕ) → range x ≡ Some n → x + size n ≤ reserved

abbrev pub RangesJoin : (reserved : ℕ) → (size : ℕ → ℕ) → (range : ℕ → Option ℕ) → Type 0
RangesJoin reserved size range = (x n : ℕ) → range x ≡ Some n → x + size n < reserved → range (x + size n) ≢ None

abbrev pub FirstRange : (reserved : ℕ) → (range : ℕ → Option ℕ) → Type 0
FirstRange reserved range = 0 < reserved → range 0 ≢ None

abbrev pub RangesApart : (size : ℕ → ℕ) → (range : ℕ → Option ℕ) → Type 0
RangesApart size range = (x n y : ℕ) → range x ≡ Some n → x < y → y < x + size n → range y ≡ None

-- Nothing is reserved while the collector rests. Without it the next cycle would begin with ranges of this one.
abbrev pub NothingReservedAtRest : (resting : Bool) → (reserved : ℕ) → Type 0
NothingReservedAtRest resting reserved = resting ≡ true → reserved ≡ 0

-- No number has two ranges. Without it an object would be moved a second time.
abbrev pub OneRangeEach : (range : ℕ → Option ℕ) → Type 0
OneRangeEach range = (x y n : ℕ) → range x ≡ Some n → range y ≡ Some n → x ≡ y

-- A range that begins below the scan offset belongs to a kept number that was claimed in this cycle and stands there,
-- and it ends at the scan offset or below. Without it the end of the cycle would leave words that are in no object.
pub record IsMoved (z : Spaces) (cycle scan : ℕ) (kept : ℕ → Bool) (place mark size : ℕ → ℕ) (x n : ℕ) : Type 0 where
  pub is_kept : kept n ≡ true
  pub is_claimed : mark n ≡ cycle
  pub stands : place n ≡ z.current + x
  pub ends : x + size n ≤ scan

abbrev pub RangesBelowMoved : Spaces → (cycle scan : ℕ) → (kept : ℕ → Bool) → (place mark size : ℕ → ℕ) → (range : ℕ → Option ℕ) → Type 0
RangesBelowMoved z cycle scan kept place mark size range = (x n : ℕ) → range x ≡ Some n → x < scan
    → IsMoved z cycle scan kept place mark size x n

-- A range that begins at the scan offset or above belongs to a kept grey number. Without it the collector would copy
-- over a black object, or from a number without a place.
abbrev pub RangesAboveGrey : (scan : ℕ) → (kept grey : ℕ → Bool) → (range : ℕ → Option ℕ) → Type 0
RangesAboveGrey scan kept grey range = (x n : ℕ) → range x ≡ Some n → scan ≤ x → (kept n ≡ true) × (grey n ≡ true)

-- The link word of a range that fits is 0 or the reference of its number. Without it the collector would take another
-- word for a reference.
abbrev pub RangesLinked : Spaces → (size cell : ℕ → ℕ) → (reference : ℕ → ℕ) → (range : ℕ → Option ℕ) → Type 0
RangesLinked z size cell reference range = (x n : ℕ) → range x ≡ Some n → x + size n ≤ z.live
    → (cell (z.current + x) ≡ 0) ⊎ (cell (z.current + x) ≡ reference n)

-- Until the collector rests, the scan offset is at most what is reserved, and at most the words for evacuation. Without
-- it the scan would have no case, or the sweep would run out of numbers.
abbrev pub ScanBounded : Spaces → (resting : Bool) → (scan reserved : ℕ) → Type 0
ScanBounded z resting scan reserved = resting ≡ false → (scan ≤ reserved) × (scan ≤ z.live)

-- From the flip to the end of the sweep, the numbers that are marked for this cycle are few enough: half the words for
-- allocation for the numbers of the list, half the words reserved for those that were claimed, and the claims in hand
-- that have still to reserve. Without it the sweep would run past the last number.
abbrev pub MarksFew : Geometry → Line → (cycle reserved : ℕ) → (mark : ℕ → ℕ) → (hand : ℕ → Hand) → Type 0
MarksFew g line cycle reserved mark hand = l.is_sweeping_or_marking line ≡ true
    → 2 * count_below (numbers g) (λ n. nat_eq (mark n) cycle)
    ≤ g.alloc + reserved + 2 * count_below (tasks g + 1) (λ k. f.is_to_reserve (hand k))

-- CLAIMS IN HAND. The hand of each seat is below the number of tasks, and that of the collector is the last one.

-- A claim that has still to reserve is of an object, not of null, and of this cycle, and its number is grey and has no
-- range. Without it a number would be given two ranges, or a word be reserved for null.
pub record HoldsClaim (cycle : ℕ) (grey : ℕ → Bool) (range : ℕ → Option ℕ) (item item_cycle : ℕ) : Type 0 where
  pub some : item ≢ 0
  pub of_cycle : item_cycle ≡ cycle
  pub is_grey : grey (layout.reference_number item) ≡ true
  pub unreserved : (x : ℕ) → range x ≢ Some (layout.reference_number item)

abbrev pub ClaimsUnreserved : Geometry → (cycle : ℕ) → (grey : ℕ → Bool) → (range : ℕ → Option ℕ) → (hand : ℕ → Hand) → Type 0
ClaimsUnreserved g cycle grey range hand = (k item item_cycle : ℕ) → k ≤ tasks g → hand k ≡ to_reserve item item_cycle
    → HoldsClaim cycle grey range item item_cycle

-- A claim that has still to link is of an object and of this cycle, its number is grey, the number's range begins at the
-- offset and fits, and the link word there is 0. Without it the link word would be written into a live object.
pub record HoldsRange (z : Spaces) (cycle : ℕ) (grey : ℕ → Bool) (size cell : ℕ → ℕ) (range : ℕ → Option ℕ) (item item_cycle offset : ℕ) : Type 0 where
  pub some : item ≢ 0
  pub of_cycle : item_cycle ≡ cycle
  pub is_grey : grey (layout.reference_number item) ≡ true
  pub has_range : range offset ≡ Some (layout.reference_number item)
  pub fits : offset + size (layout.reference_number item) ≤ z.live
  pub unlinked : cell (z.current + offset) ≡ 0

abbrev pub ClaimsUnlinked : Geometry → Spaces → (cycle : ℕ) → (grey : ℕ → Bool) → (size cell : ℕ → ℕ) → (range : ℕ → Option ℕ) → (hand : ℕ → Hand) → Type 0
ClaimsUnlinked g z cycle grey size cell range hand = (k item item_cycle offset : ℕ) → k ≤ tasks g
    → hand k ≡ to_link item item_cycle offset → HoldsRange z cycle grey size cell range item item_cycle offset

-- No two claims in hand are of one number. Without it two would both reserve for it.
abbrev pub ClaimsApart : Geometry → (hand : ℕ → Hand) → Type 0
ClaimsApart g hand = (j k : ℕ) → j ≤ tasks g → k ≤ tasks g → j ≢ k → (item other : ℕ)
    → f.item_in (hand j) ≡ Some item → f.item_in (hand k) ≡ Some other
    → layout.reference_number item ≢ layout.reference_number other

-- A grey number has a range, or somebody who claimed it has still to reserve. Without it the pass could meet a grey number
-- though no call is in flight.
abbrev pub HasRange : (range : ℕ → Option ℕ) → ℕ → Type 0
HasRange range n = (x : ℕ) × (range x ≡ Some n)

abbrev pub IsHeld : Geometry → (hand : ℕ → Hand) → ℕ → Type 0
IsHeld g hand n = (k item item_cycle : ℕ) × (k ≤ tasks g) × (hand k ≡ to_reserve item item_cycle) × (layout.reference_number item ≡ n)

abbrev pub GreyWaits : Geometry → (grey : ℕ → Bool) → (range : ℕ → Option ℕ) → (hand : ℕ → Hand) → Type 0
GreyWaits g grey range hand = (n : ℕ) → n < numbers g → grey n ≡ true → HasRange range n ⊎ IsHeld g hand n

-- The link word of a range that fits is 0 only while somebody has still to write it. Without it the collector could wait
-- for a link word though no call is in flight.
abbrev pub IsLinking : Geometry → (hand : ℕ → Hand) → (offset : ℕ) → Type 0
IsLinking g hand offset = (k item item_cycle : ℕ) × (k ≤ tasks g) × (hand k ≡ to_link item item_cycle offset)

abbrev pub UnlinkedWaits : Geometry → Spaces → (size cell : ℕ → ℕ) → (range : ℕ → Option ℕ) → (hand : ℕ → Hand) → Type 0
UnlinkedWaits g z size cell range hand = (x n : ℕ) → range x ≡ Some n → x + size n ≤ z.live → cell (z.current + x) ≡ 0
    → IsLinking g hand x

-- LISTS. The unread rest of the cycle's list are its entries from the objects made on. A New that has raised W0 speaks
-- for the entry that it was given, on the list of its own cycle, until its effect.

-- a number has no header: no accessors, no place and version 0
pub record HasNoHeader (accessors place version : ℕ → ℕ) (n : ℕ) : Type 0 where
  pub no_accessors : accessors n ≡ 0
  pub no_place : place n ≡ 0
  pub no_version : version n ≡ 0

-- the number in the entry that a New speaks for
abbrev pub own_entry : (entry : ℕ → ℕ → ℕ) → Flight → ℕ
own_entry entry flight = entry (side_of flight) (f.objects_before flight)

-- The numbers of the unread rest are numbers, without a header, and marked for the cycle. Without it a New would be given
-- a number in use.
pub record IsUnread (g : Geometry) (cycle : ℕ) (accessors place version mark : ℕ → ℕ) (n : ℕ) : Type 0 where
  pub within : n < numbers g
  pub no_header : HasNoHeader accessors place version n
  pub is_marked : mark n ≡ cycle

abbrev pub UnreadFree : Geometry → (cycle objects : ℕ) → (accessors place version mark list : ℕ → ℕ) → Type 0
UnreadFree g cycle objects accessors place version mark list = (j : ℕ) → objects ≤ j → j < list_length g
    → IsUnread g cycle accessors place version mark (list j)

-- They are distinct. Without it two News would be given one number.
abbrev pub UnreadDistinct : Geometry → (objects : ℕ) → (list : ℕ → ℕ) → Type 0
UnreadDistinct g objects list = (i j : ℕ) → objects ≤ i → i < j → j < list_length g → list i ≢ list j

-- The entry of a New is a number, marked for the cycle of the New, whose header is 0, or is the new object's once the New
-- has written it. Without it the New would write the header of an object in use.
pub record IsOwn (g : Geometry) (accessors place version mark : ℕ → ℕ) (flight : Flight) (n : ℕ) : Type 0 where
  pub within : n < numbers g
  pub is_marked : mark n ≡ f.cycle_of flight
  pub no_accessors : accessors n ≡ 0
  pub no_version : version n ≡ 0
  pub placed : place n ≡ (if f.has_header flight then new_place g flight else 0)

abbrev pub OwnEntries : Geometry → (accessors place version mark : ℕ → ℕ) → (entry : ℕ → ℕ → ℕ) → (flight : ℕ → Flight) → Type 0
OwnEntries g accessors place version mark entry flight = (s : ℕ) → s < tasks g → f.is_making (flight s) ≡ true
    → IsOwn g accessors place version mark (flight s) (own_entry entry (flight s))

-- The entries of two News are distinct, and those of a New and of the unread rest. Without it two objects would have one
-- number.
abbrev pub OwnEntriesDistinct : Geometry → (entry : ℕ → ℕ → ℕ) → (flight : ℕ → Flight) → Type 0
OwnEntriesDistinct g entry flight = (s t : ℕ) → s < tasks g → t < tasks g → s ≢ t
    → f.is_making (flight s) ≡ true → f.is_making (flight t) ≡ true
    → own_entry entry (flight s) ≢ own_entry entry (flight t)

abbrev pub OwnEntriesRead : Geometry → (objects : ℕ) → (list : ℕ → ℕ) → (entry : ℕ → ℕ → ℕ) → (flight : ℕ → Flight) → Type 0
OwnEntriesRead g objects list entry flight = (s j : ℕ) → s < tasks g → f.is_making (flight s) ≡ true
    → objects ≤ j → j < list_length g → own_entry entry (flight s) ≢ list j

-- A New that has loaded its entry has the number in it. Without it the New would write the header of a live object.
abbrev pub NumberIsOwn : Geometry → (entry : ℕ → ℕ → ℕ) → (flight : ℕ → Flight) → Type 0
NumberIsOwn g entry flight = (s : ℕ) → s < tasks g → f.has_number (flight s) ≡ true
    → (flight s).number ≡ own_entry entry (flight s)

-- The entries that were written for the next cycle are distinct numbers. Without it one number would be given twice.
abbrev pub WrittenNumbers : Geometry → (written : ℕ) → (next : ℕ → ℕ) → Type 0
WrittenNumbers g written next = (j : ℕ) → j < written → next j < numbers g

abbrev pub WrittenDistinct : (written : ℕ) → (next : ℕ → ℕ) → Type 0
WrittenDistinct written next = (i j : ℕ) → i < j → j < written → next i ≢ next j

-- They are marked for the next cycle, and have no header; of the last one this is still to be done for two events.
-- Without it a number in use would be on the list after the flip.
abbrev pub WrittenMarked : (cycle marked : ℕ) → (mark next : ℕ → ℕ) → Type 0
WrittenMarked cycle marked mark next = (j : ℕ) → j < marked → mark (next j) ≡ cycle + 1

abbrev pub WrittenEmpty : (emptied : ℕ) → (accessors place version next : ℕ → ℕ) → Type 0
WrittenEmpty emptied accessors place version next = (j : ℕ) → j < emptied → HasNoHeader accessors place version (next j)

-- The sweep has room on the list while it looks for a number, has found one that wasn't claimed as it writes it, and
-- works on the last entry after that; once the sweep is over the list is full. Without it the sweep would write the mark
-- or the header of another number.
abbrev pub SweepInStep : Geometry → (cycle entries : ℕ) → (mark next : ℕ → ℕ) → Line → Type 0
SweepInStep g cycle entries mark next line = l.InStep (list_length g) cycle entries mark next line

-- Each number that the sweep has gone past has at least the mark of the cycle. Without it the sweep would run past the
-- last number.
abbrev pub SweptMarked : (cycle : ℕ) → (mark : ℕ → ℕ) → Line → Type 0
SweptMarked cycle mark line = (n m : ℕ) → l.sweeping line ≡ Some n → m < n → cycle ≤ mark m

-- NEWS THAT HAVE RAISED W0

-- A New that found room got words and an entry that are there; where it raised W0 in this cycle, W0 counts its words.
-- Without it the New would load no entry, or its object would lie outside the space.
pub record FoundRoom (g : Geometry) (cycle used : ℕ) (flight : Flight) : Type 0 where
  pub words : f.words_before flight + f.new_size flight ≤ g.alloc
  pub entry : f.objects_before flight < list_length g
  pub counted : f.cycle_of flight ≡ cycle → f.words_before flight + f.new_size flight ≤ used

abbrev pub NewsFoundRoom : Geometry → (cycle used : ℕ) → (flight : ℕ → Flight) → Type 0
NewsFoundRoom g cycle used flight = (s : ℕ) → s < tasks g → f.has_room (flight s) ≡ true → FoundRoom g cycle used (flight s)

-- Until its effect the words that it got are 0. Without it the new object would be born with cells that aren't null.
abbrev pub NewsClean : Geometry → (cell : ℕ → ℕ) → (flight : ℕ → Flight) → Type 0
NewsClean g cell flight = (s i : ℕ) → s < tasks g → f.is_making (flight s) ≡ true → i < f.new_size (flight s)
    → cell (new_place g (flight s) + i) ≡ 0

-- It raised W0 in this cycle or in the one before. Without it its list would be the current one again.
abbrev pub IsRecent : (cycle past : ℕ) → Type 0
IsRecent cycle past = (past ≡ cycle) ⊎ (past + 1 ≡ cycle)

abbrev pub NewsRecent : Geometry → (cycle : ℕ) → (flight : ℕ → Flight) → Type 0
NewsRecent g cycle flight = (s : ℕ) → s < tasks g → f.has_raised (flight s) ≡ true → IsRecent cycle (f.cycle_of (flight s))

-- CALLS IN FLIGHT

-- A flight is that of its seat; its place is one of the call's row, its registers are those of the geometry, it is no
-- question, and a call that goes through no object names none. Without it a call would go on past its last place, or one
-- that only copies a register would seem to hold a white object at the end of the pass.
pub record IsFormed (g : Geometry) (s : ℕ) (flight : Flight) : Type 0 where
  pub seated : flight.seat ≡ s
  pub in_row : flight.place ≤ places_of flight.call
  pub registers : f.is_flying flight ≡ true → RegistersFit g.registers flight.call
  pub no_question : is_question flight.call ≡ false
  pub entered_null : f.is_through flight.call ≡ false → flight.entered ≡ 0

abbrev pub FlightsFormed : Geometry → (flight : ℕ → Flight) → Type 0
FlightsFormed g flight = (s : ℕ) → s < tasks g → IsFormed g s (flight s)

-- Only a New raises W0, and it has done so from its fourth place on unless it found too few words before; only a New is
-- full, and not before its second place. Without it a New that raised nothing would load an entry.
abbrev pub NewsInStep : Geometry → (flight : ℕ → Flight) → Type 0
NewsInStep g flight = (s : ℕ) → s < tasks g → f.IsInStep (flight s)

-- The object that a call goes through has the field of the call. Without it the call would write beyond the object.
abbrev pub FieldsThere : Geometry → (flight : ℕ → Flight) → Type 0
FieldsThere g flight = (s : ℕ) → s < tasks g → f.is_flying (flight s) ≡ true
    → has_field (flight s).call (flight s).entered ≡ true

-- A call in flight goes through the object of its register, which stays in that register, unless the call is a Load
-- that has written the register itself. Without it the register could be given another object, and a read would answer
-- the wrong cell.
abbrev pub EnteredStays : Geometry → (register : ℕ → ℕ → ℕ) → (flight : ℕ → Flight) → Type 0
EnteredStays g register flight = (s r : ℕ) → s < tasks g → f.register_stays (flight s) ≡ true → entered (flight s).call ≡ Some r
    → (flight s).entered ≡ register s r

-- A call inside an object knows its place. Without it a write would go to where the object was.
abbrev pub PlaceKnown : Geometry → (place : ℕ → ℕ) → (flight : ℕ → Flight) → Type 0
PlaceKnown g place flight = (s : ℕ) → s < tasks g → f.in_object (flight s) ≡ true
    → (flight s).at ≡ place (layout.reference_number (flight s).entered)

-- The W0 that a call inside an object has loaded is of this cycle or of the one before. Without it the call would claim
-- for another cycle.
abbrev pub LoadedRecent : Geometry → (cycle : ℕ) → (flight : ℕ → Flight) → Type 0
LoadedRecent g cycle flight = (s : ℕ) → s < tasks g → f.has_cycle_inside (flight s) ≡ true → IsRecent cycle (f.cycle_of (flight s))

-- The register that a Load has written holds the reference that it read. Without it that reference could be white though
-- all frames are black.
abbrev pub LoadedStays : Geometry → (register : ℕ → ℕ → ℕ) → (flight : ℕ → Flight) → Type 0
LoadedStays g register flight = (s r : ℕ) → s < tasks g → f.has_written (flight s) ≡ true → target (flight s).call ≡ Some r
    → register s r ≡ (flight s).item

-- The reference that a Store or a Move writes is that in the register from which it copies. Without it the call would
-- write another object.
abbrev pub CopiedStays : Geometry → (register : ℕ → ℕ → ℕ) → (flight : ℕ → Flight) → Type 0
CopiedStays g register flight = (s r : ℕ) → s < tasks g → f.is_flying (flight s) ≡ true → copied (flight s).call ≡ Some r
    → (flight s).item ≡ register s r

-- Once a call has done its claim, and while it is inside its object, the object that it claimed has at least the mark of
-- the call's cycle. Without it a Store would write a white reference into a black object.
abbrev pub ClaimsLast : Geometry → (mark : ℕ → ℕ) → (flight : ℕ → Flight) → Type 0
ClaimsLast g mark flight = (s : ℕ) → s < tasks g → f.has_claimed (flight s) ≡ true
    → f.cycle_of (flight s) ≤ mark (layout.reference_number (flight s).item)

-- COLOURS

-- A kept black object refers to no white one. Without it an object would be reached that the sweep frees.
abbrev pub BlackLeadsToNoWhite : (white black kept : ℕ → Bool) → Names → (link : ℕ → ℕ → Option ℕ) → Type 0
BlackLeadsToNoWhite white black kept names link = (n b : ℕ) → kept n ≡ true → black n ≡ true → names.bearer n ≡ Some b
    → (i child : ℕ) → i < names.refs b → link b i ≡ Some child → white (names.number child) ≡ false

-- The register words of a black frame name no white object. Without it an object would be reached that the sweep frees.
abbrev pub BlackFrameHasNoWhite : Geometry → (white black_frame : ℕ → Bool) → (register : ℕ → ℕ → ℕ) → Type 0
BlackFrameHasNoWhite g white black_frame register = (s r : ℕ) → s < tasks g → r < g.registers → black_frame s ≡ true
    → NamesNoWhite white (register s r)

-- An object that a call is inside isn't black where the W0 that the call has loaded is of an earlier cycle; nor is the
-- frame that a Load or a New is inside, for the W0 that it has loaded or raised. Without it a claim for an earlier cycle
-- would leave a white reference in a black object.
abbrev pub LateInNoBlackObject : Geometry → (cycle : ℕ) → (black : ℕ → Bool) → (flight : ℕ → Flight) → Type 0
LateInNoBlackObject g cycle black flight = (s : ℕ) → s < tasks g → f.has_cycle_inside (flight s) ≡ true
    → f.cycle_of (flight s) < cycle → black (layout.reference_number (flight s).entered) ≡ false

abbrev pub LateInNoBlackFrame : Geometry → (cycle : ℕ) → (black_frame : ℕ → Bool) → (flight : ℕ → Flight) → Type 0
LateInNoBlackFrame g cycle black_frame flight = (s : ℕ) → s < tasks g → f.has_cycle_in_frame (flight s) ≡ true
    → f.cycle_of (flight s) < cycle → black_frame s ≡ false

-- The reference that a Load inside an object has read is white only where the object isn't black. Without it the state
-- could not be clean at the end of the pass.
abbrev pub LoadedWhiteFromNoBlack : Geometry → (white black : ℕ → Bool) → (flight : ℕ → Flight) → Type 0
LoadedWhiteFromNoBlack g white black flight = (s : ℕ) → s < tasks g → f.has_loaded_inside (flight s) ≡ true
    → black (layout.reference_number (flight s).entered) ≡ true → NamesNoWhite white (flight s).item

-- The object that a Load goes through is white only where the frame of its seat isn't black. Without it the state could
-- not be clean at the end of the pass.
abbrev pub EnteredWhiteInNoBlackFrame : Geometry → (white black_frame : ℕ → Bool) → (flight : ℕ → Flight) → Type 0
EnteredWhiteInNoBlackFrame g white black_frame flight = (s : ℕ) → s < tasks g → f.is_load (flight s) ≡ true
    → black_frame s ≡ true → NamesNoWhite white (flight s).entered

-- A settled state: no number is grey, no New in flight has raised W0 in an earlier cycle, and no register word and no
-- reference that a call in flight goes through or has read names a white number.
pub record IsSettled (g : Geometry) (cycle : ℕ) (white grey : ℕ → Bool) (register : ℕ → ℕ → ℕ) (flight : ℕ → Flight) : Type 0 where
  pub none_grey : (n : ℕ) → n < numbers g → grey n ≡ false
  pub none_late : (s : ℕ) → s < tasks g → f.has_raised (flight s) ≡ true → f.cycle_of (flight s) ≡ cycle
  pub registers : (s r : ℕ) → s < tasks g → r < g.registers → NamesNoWhite white (register s r)
  pub entered : (s : ℕ) → s < tasks g → f.is_flying (flight s) ≡ true → NamesNoWhite white (flight s).entered
  pub items : (s : ℕ) → s < tasks g → f.has_item (flight s) ≡ true → NamesNoWhite white (flight s).item

-- THE COLLECTOR

-- The numbers of the spot are those of the geometry, and its stage is one of its line. Without it the event would be
-- about no word of the row.
abbrev pub SpotFormed : Geometry → Spot → Type 0
SpotFormed g t = l.LineFits g t t.line

-- The frames that the collector has gone past are black. Without it the pass could end with a white object in a register.
abbrev pub FramesBlackened : Geometry → (black_frame : ℕ → Bool) → Line → Type 0
FramesBlackened g black_frame line = (s : ℕ) → s < l.frames_done g line → black_frame s ≡ true

-- The word that an attempt on a frame loaded has no accessors, and the frame word is still that one or has a greater
-- version. Without it the exchange could find the loaded word again after a register was written.
pub record FrameBehind (first : ℕ) (frame_accessors frame_cycle frame_version : ℕ → ℕ) (s : ℕ) : Type 0 where
  pub nobody : layout.frame_accessors first ≡ 0
  pub behind : layout.frame_version first ≤ frame_version s
  pub same_accessors : frame_version s ≡ layout.frame_version first → frame_accessors s ≡ 0
  pub same_cycle : frame_version s ≡ layout.frame_version first → frame_cycle s ≡ layout.frame_cycle first

abbrev pub FrameAttemptBehind : Geometry → Line → (first : ℕ) → (frame_accessors frame_cycle frame_version : ℕ → ℕ) → Type 0
FrameAttemptBehind g line first frame_accessors frame_cycle frame_version = (s passed : ℕ) → l.frame_attempt g line ≡ Some (s, passed)
    → FrameBehind first frame_accessors frame_cycle frame_version s

-- While the frame word is the one that the attempt loaded, the registers gone past are null or claimed in this cycle.
-- Without it the exchange would blacken a frame with a white register.
abbrev pub RegistersPassed : Geometry → Line → (cycle first : ℕ) → (frame_version : ℕ → ℕ) → (register : ℕ → ℕ → ℕ) → (mark : ℕ → ℕ) → Type 0
RegistersPassed g line cycle first frame_version register mark = (s passed r : ℕ) → l.frame_attempt g line ≡ Some (s, passed)
    → frame_version s ≡ layout.frame_version first → r < passed → IsNullOrMarked cycle mark (register s r)

-- Likewise the register in work is null or holds what was loaded. Without it the claim would be of another object, and
-- the register would be past with a white one.
abbrev pub RegisterInWork : Line → (first cell : ℕ) → (frame_version : ℕ → ℕ) → (register : ℕ → ℕ → ℕ) → Type 0
RegisterInWork line first cell frame_version register = (s r : ℕ) → l.register_in_work line ≡ Some (s, r)
    → frame_version s ≡ layout.frame_version first → (register s r ≡ 0) ⊎ (register s r ≡ cell)

-- A reference cell that is to be written next is null or claimed in this cycle. Without it the collector would write a
-- white reference into the copy.
abbrev pub CellClaimed : Line → (cycle item cell : ℕ) → (mark : ℕ → ℕ) → Type 0
CellClaimed line cycle item cell mark = (i : ℕ) → l.cell_to_write line ≡ Some i → i < layout.reference_refs item
    → IsNullOrMarked cycle mark cell

-- At the link word and while the object is moved, a range begins at the scan offset, and it fits. Without it the
-- collector would take a word of no range for a link word.
abbrev pub ScanAtRange : Spaces → Line → (scan : ℕ) → (size : ℕ → ℕ) → (range : ℕ → Option ℕ) → Type 0
ScanAtRange z line scan size range = l.is_at_range line ≡ true → (n : ℕ) × (range scan ≡ Some n) × (scan + size n ≤ z.live)

-- While the object is moved, the link word at the scan offset is its reference. Without it the collector would write the
-- copy into any word of the space.
abbrev pub ItemIsLinked : Spaces → Line → (scan item : ℕ) → (cell : ℕ → ℕ) → Type 0
ItemIsLinked z line scan item cell = l.has_item line ≡ true → (item ≢ 0) × (cell (z.current + scan) ≡ item)

-- The header that an attempt on an object loaded has no accessors and the object's place, and the header is still that one
-- or has a greater version. Without it the exchange could find the loaded header again after a cell was written.
pub record ObjectBehind (first : ℕ) (accessors place version : ℕ → ℕ) (n : ℕ) : Type 0 where
  pub nobody : layout.header_accessors first ≡ 0
  pub placed : layout.header_place first ≡ place n
  pub behind : layout.header_version first ≤ version n
  pub same_accessors : version n ≡ layout.header_version first → accessors n ≡ 0

abbrev pub ObjectAttemptBehind : Spot → Line → (first item : ℕ) → (accessors place version : ℕ → ℕ) → Type 0
ObjectAttemptBehind t line first item accessors place version = (passed : ℕ) → l.object_attempt t line ≡ Some passed
    → ObjectBehind first accessors place version (layout.reference_number item)

-- While the header is the one that the attempt loaded, the reference cells gone past are null or claimed in this cycle.
-- Without it the exchange would blacken an object with a white reference.
abbrev pub CellsPassed : Spot → Line → (cycle first item : ℕ) → (version mark cell : ℕ → ℕ) → Type 0
CellsPassed t line cycle first item version mark cell = (passed i : ℕ) → l.object_attempt t line ≡ Some passed
    → version (layout.reference_number item) ≡ layout.header_version first → i < passed → i < layout.reference_refs item
    → IsNullOrMarked cycle mark (cell (layout.header_place first + 1 + i))

-- Likewise the cells that were copied equal the old ones, and so does the one that was loaded and isn't written yet.
-- Without it the moved object would lose a write.
abbrev pub CellsCopied : Spaces → Spot → Line → (scan first item : ℕ) → (version cell : ℕ → ℕ) → Type 0
CellsCopied z t line scan first item version cell = (passed i : ℕ) → l.object_attempt t line ≡ Some passed
    → version (layout.reference_number item) ≡ layout.header_version first → i < passed
    → cell (z.current + scan + 1 + i) ≡ cell (layout.header_place first + 1 + i)

abbrev pub CellLoaded : Line → (first item loaded : ℕ) → (version cell : ℕ → ℕ) → Type 0
CellLoaded line first item loaded version cell = (i : ℕ) → l.cell_loaded line ≡ Some i
    → version (layout.reference_number item) ≡ layout.header_version first
    → loaded ≡ cell (layout.header_place first + 1 + i)

-- In the pass, some number from the pass's own on is grey, or the state is settled. Without it the sweep would begin in
-- a state that isn't settled.
abbrev pub PassMeetsGrey : Geometry → Line → (grey : ℕ → Bool) → (settled : Type 0) → Type 0
PassMeetsGrey g line grey settled = (n : ℕ) → l.passing line ≡ Some n
    → ((m : ℕ) × (n ≤ m) × (m < numbers g) × (grey m ≡ true)) ⊎ settled

-- From the sweep to the next flip the state is settled. Without it the sweep would free a number that can be reached.
abbrev pub SettledFromSweep : Line → (settled : Type 0) → Type 0
SettledFromSweep line settled = l.is_marking line ≡ false → settled

-- The events that an attempt has spent are at most those of the way that it has come. Without it there would be no bound
-- on the events of a lost attempt.
abbrev pub SpentBounded : Geometry → Spot → Type 0
SpentBounded g t = (most : ℕ) → l.most_spent g t t.line ≡ Some most → t.spent ≤ most
