-- What a lawful state promises, said of what can be reached. It follows from Lawful, which says the same of all kept
-- numbers, so that a step keeps it.
use Rattle.std.specs.Prelude.{◌≡◌, ◌≢◌, ◌⊎◌, ℕ, ◌+◌, ◌<◌, ◌≤◌, true, false, Option, Some}
use Rattle.hk_words.specs.declared.geometry.Geometry.{Geometry}
use Rattle.hk_words.specs.Geometry.{tasks, numbers, list_length}
use Rattle.hk_words.specs.Layout as layout
use Rattle.hk_model.specs.Heap.{opening_of}
use Rattle.hk_model.specs.History.{History, Legal}
use Rattle.hk_core.specs.declared.flight.Flight.{Flight}
use Rattle.hk_core.specs.declared.spot.Spot.{Spot}
use Rattle.hk_core.specs.State.{State}
use Rattle.hk_core.specs.Counts.{sum_below}
use Rattle.hk_core.specs.Step.{new_place}
use Rattle.hk_core.specs.Collect.{current_space, next_list}
use Rattle.hk_core.specs.View.{Words, Names, Contents, words_of, names_of, contents_of, flight_at, begun_at, shown, reference_at}
use Rattle.hk_core.specs.Flights as f
use Rattle.hk_core.specs.Lines as l
use Rattle.hk_core.specs.Colours.{Spaces, spaces_of, Shades, shades_of, held_by, Apart, Covers, NamesNoWhite}
use Rattle.hk_core.specs.Facts as fact
use Rattle.hk_core.specs.Reach.{Reach}

-- THE STATE STANDS FOR THE PLAIN HEAP

-- a seat has a call in flight that goes through an object: it is inside it, has still to enter it, or is a Load that has
-- left it and stands at its last place
abbrev pub GoesThrough : Flight → Type 0
GoesThrough flight = (f.is_through flight.call ≡ true) × (f.is_flying flight ≡ true)

-- a birth is in use where it can be reached, or a call in flight goes through its object
abbrev pub IsInUse : Geometry → Names → Contents → (ℕ → Flight) → ℕ → Type 0
IsInUse g names contents flight birth =
    Reach g names.refs contents.register contents.link birth
    ⊎ ((s : ℕ) × (s < tasks g) × GoesThrough (flight s) × (names.bearer (layout.reference_number (flight s).entered) ≡ Some birth))

-- a birth is shown where it is the last one of its number, the header of the number has a place, and the words after the
-- link word at that place show its cells
pub record IsShown (w : Words) (names : Names) (contents : Contents) (birth : ℕ) : Type 0 where
  pub bears : names.bearer (names.number birth) ≡ Some birth
  pub placed : w.place (names.number birth) ≢ 0
  pub links : (i : ℕ) → i < names.refs birth → w.cell (w.place (names.number birth) + 1 + i) ≡ shown names (contents.link birth i)
  pub values : (i : ℕ) → i < names.nums birth
      → w.cell (w.place (names.number birth) + 1 + names.refs birth + i) ≡ contents.value birth i

-- each register of the plain heap is shown by its register word, but between the effect of a Load and the write of its
-- register by the reference that the Load read; from that write on the register word is what the Load read; a call goes
-- through the object of a birth, by its reference; each birth in use is shown; the words of two such births don't overlap;
-- the accessors of each header and of each frame are the number of calls that are inside it
pub record Stands (g : Geometry) (w : Words) (flight : ℕ → Flight) (names : Names) (contents : Contents) : Type 0 where
  pub registers : fact.RegistersShown g names w.register contents.register flight
  pub loaded : fact.LoadedStays g w.register flight
  pub through : (s : ℕ) → s < tasks g → GoesThrough (flight s)
      → (birth : ℕ) × (names.bearer (layout.reference_number (flight s).entered) ≡ Some birth) × ((flight s).entered ≡ shown names (Some birth))
  pub births : (birth : ℕ) → IsInUse g names contents flight birth → IsShown w names contents birth
  pub apart : (a b : ℕ) → IsInUse g names contents flight a → IsInUse g names contents flight b → a ≢ b
      → Apart (w.place (names.number a)) (1 + names.refs a + names.nums a) (w.place (names.number b)) (1 + names.refs b + names.nums b)
  pub accessors : fact.AccessorsCounted g w.accessors flight
  pub frame_accessors : fact.FrameAccessorsCounted g w.frame_accessors flight

-- WHAT HOLDS BESIDE IT

-- an entry of the current list is unread: it comes after the objects made, or a New of this cycle was given it and has
-- still to load it
abbrev pub IsUnreadEntry : Geometry → Words → (ℕ → Flight) → ℕ → Type 0
IsUnreadEntry g w flight j =
    ((w.objects ≤ j) × (j < list_length g))
    ⊎ ((s : ℕ) × (s < tasks g) × (f.is_making (flight s) ≡ true) × (f.has_number (flight s) ≡ false)
    × (f.cycle_of (flight s) ≡ w.cycle) × (f.objects_before (flight s) ≡ j))

-- a number is on no list from which it may be given: not unread on the current list, and not written on the next one
pub record IsOnNoList (g : Geometry) (w : Words) (flight : ℕ → Flight) (t : Spot) (n : ℕ) : Type 0 where
  pub not_unread : (j : ℕ) → IsUnreadEntry g w flight j → w.entry (current_space w.cycle) j ≢ n
  pub not_written : (j : ℕ) → j < l.written g t t.line → w.entry (next_list w.cycle) j ≢ n

-- what can be reached, what calls in flight have read, and what they go through, is on no list, and the unread numbers
-- are free
pub record ListsStand (g : Geometry) (w : Words) (flight : ℕ → Flight) (t : Spot) (names : Names) (contents : Contents) : Type 0 where
  pub reached : (birth : ℕ) → Reach g names.refs contents.register contents.link birth
      → IsOnNoList g w flight t (names.number birth)
  pub read : (s : ℕ) → s < tasks g → f.has_item (flight s) ≡ true → (flight s).item ≢ 0
      → IsOnNoList g w flight t (layout.reference_number (flight s).item)
  pub through : (s : ℕ) → s < tasks g → GoesThrough (flight s) → IsOnNoList g w flight t (layout.reference_number (flight s).entered)
  pub distinct : (i j : ℕ) → IsUnreadEntry g w flight i → IsUnreadEntry g w flight j → i ≢ j
      → w.entry (current_space w.cycle) i ≢ w.entry (current_space w.cycle) j
  pub free : (j : ℕ) → IsUnreadEntry g w flight j
      → fact.IsUnread g w.cycle w.accessors w.place w.version w.mark (w.entry (current_space w.cycle) j)

-- black objects and black frames refer to no white object, and no call with the W0 of an earlier cycle is inside one.
-- The object of a birth is black where the birth bears a black number that no New holds
pub record BlackStands (g : Geometry) (w : Words) (sh : Shades) (flight : ℕ → Flight) (names : Names) (contents : Contents) : Type 0 where
  pub objects : (n b : ℕ) → sh.black n ≡ true → names.bearer n ≡ Some b → held_by g flight n ≡ false
      → (i child : ℕ) → i < names.refs b → contents.link b i ≡ Some child → sh.white (names.number child) ≡ false
  pub frames : fact.BlackFrameHasNoWhite g sh.white sh.black_frame w.register
  pub late_objects : fact.LateInNoBlackObject g w.cycle sh.black flight
  pub late_frames : fact.LateInNoBlackFrame g w.cycle sh.black_frame flight

-- what calls in flight have read: a Store and a Move write what is in their register; what a Load read, and what it goes
-- through, is white only where it comes from nothing black; and so is, from the claim on, what was claimed. Once a Load has
-- written its register, also at its last place, what it read is white only where its frame isn't black
pub record ReadsStand (g : Geometry) (w : Words) (sh : Shades) (flight : ℕ → Flight) : Type 0 where
  pub copied : fact.CopiedStays g w.register flight
  pub loaded : fact.LoadedWhiteFromNoBlack g sh.white sh.black flight
  pub through : fact.EnteredWhiteInNoBlackFrame g sh.white sh.black_frame flight
  pub claimed : (s : ℕ) → s < tasks g → f.has_claimed (flight s) ≡ true
      → sh.white (layout.reference_number (flight s).item) ≡ true
      → (sh.black (layout.reference_number (flight s).entered) ≡ false) × (f.in_frame (flight s) ≡ true → sh.black_frame s ≡ false)
  pub written : (s : ℕ) → s < tasks g → f.has_written (flight s) ≡ true → sh.black_frame s ≡ true → NamesNoWhite sh.white (flight s).item

-- an offset of the area for evacuation lies in the range that begins at an offset
abbrev pub LiesInRange : (size : ℕ → ℕ) → (range : ℕ → Option ℕ) → (x i : ℕ) → Type 0
LiesInRange size range x i = (n : ℕ) × (range x ≡ Some n) × Covers x (size n) i

-- the ranges tile what is reserved: each of its words lies in exactly one range, and each word of a range is one of them
pub record IsTiled (reserved : ℕ) (size : ℕ → ℕ) (range : ℕ → Option ℕ) : Type 0 where
  pub within : fact.RangesWithin reserved size range
  pub covered : (i : ℕ) → i < reserved → (x : ℕ) × LiesInRange size range x i
  pub once : (x y i : ℕ) → LiesInRange size range x i → LiesInRange size range y i → x ≡ y

-- the ranges tile the words that are reserved, no two belong to one number, each belongs to a number that was claimed in
-- this cycle, the link word of one that fits is 0 or the reference of the number, and those below the scan offset belong to
-- black objects
pub record RangesStand (w : Words) (z : Spaces) (sh : Shades) (t : Spot) (names : Names) (range : ℕ → Option ℕ) : Type 0 where
  pub tiled : IsTiled w.reserved sh.size range
  pub one_each : fact.OneRangeEach range
  pub claimed : (x n : ℕ) → range x ≡ Some n → w.mark n ≡ w.cycle
  pub linked : fact.RangesLinked z sh.size w.cell (reference_at names) range
  pub moved : (x n : ℕ) → range x ≡ Some n → x < t.scan → sh.black n ≡ true

-- a word of the current space lies in a black object, in a range that fits, or in the words that a New in
-- flight was given; else it is 0
pub record LiesNowhere (g : Geometry) (w : Words) (z : Spaces) (sh : Shades) (flight : ℕ → Flight) (names : Names) (range : ℕ → Option ℕ) (place : ℕ) : Type 0 where
  pub no_object : (n b : ℕ) → sh.black n ≡ true → names.bearer n ≡ Some b → held_by g flight n ≡ false
      → ¬ Covers (w.place n) (sh.size n) place
  pub no_range : (x n : ℕ) → range x ≡ Some n → x + sh.size n ≤ z.live → ¬ Covers (z.current + x) (sh.size n) place
  pub no_new : (s : ℕ) → s < tasks g → f.is_making (flight s) ≡ true
      → ¬ Covers (new_place g (flight s)) (f.new_size (flight s)) place

abbrev pub SpaceStands : Geometry → Words → Spaces → Shades → (ℕ → Flight) → Names → (ℕ → Option ℕ) → Type 0
SpaceStands g w z sh flight names range = (i : ℕ) → i < z.live + z.alloc
    → LiesNowhere g w z sh flight names range (z.current + i) → w.cell (z.current + i) ≡ 0

-- a clean state: no number is grey, no New in flight has raised W0 before the last flip, and no white number can be
-- reached, stands in a reference that a call in flight has read, or is that of an object that a call goes through
pub record IsClean (g : Geometry) (w : Words) (sh : Shades) (flight : ℕ → Flight) (names : Names) (contents : Contents) : Type 0 where
  pub none_grey : (n : ℕ) → n < numbers g → sh.grey n ≡ false
  pub none_late : (s : ℕ) → s < tasks g → f.has_raised (flight s) ≡ true → f.cycle_of (flight s) ≡ w.cycle
  pub reached : (birth : ℕ) → Reach g names.refs contents.register contents.link birth → sh.white (names.number birth) ≡ false
  pub read : (s : ℕ) → s < tasks g → f.has_item (flight s) ≡ true → NamesNoWhite sh.white (flight s).item
  pub through : (s : ℕ) → s < tasks g → GoesThrough (flight s) → sh.white (layout.reference_number (flight s).entered) ≡ false

-- the entries that the sweep has written for the next cycle are distinct numbers, marked for that cycle and without a
-- header. Of the last one this is so once the sweep has written its mark and has emptied its header; until then its mark is
-- below the cycle
pub record WrittenStand (g : Geometry) (w : Words) (t : Spot) : Type 0 where
  pub numbers : fact.WrittenNumbers g (l.written g t t.line) (w.entry (next_list w.cycle))
  pub distinct : fact.WrittenDistinct (l.written g t t.line) (w.entry (next_list w.cycle))
  pub marked : fact.WrittenMarked w.cycle (l.marked g t t.line) w.mark (w.entry (next_list w.cycle))
  pub unmarked : (j : ℕ) → l.marked g t t.line ≤ j → j < l.written g t t.line → w.mark (w.entry (next_list w.cycle) j) < w.cycle
  pub empty : fact.WrittenEmpty (l.emptied g t t.line) w.accessors w.place w.version (w.entry (next_list w.cycle))
  -- all but the last one are marked and empty
  pub marked_but_last : l.written g t t.line ≤ l.marked g t t.line + 1
  pub empty_but_last : l.written g t t.line ≤ l.emptied g t t.line + 1

-- what holds at the spot of the collector
pub record SpotStands (g : Geometry) (w : Words) (z : Spaces) (sh : Shades) (flight : ℕ → Flight) (t : Spot) (names : Names) (contents : Contents) : Type 0 where
  pub copied : fact.CellsCopied z t t.line t.scan t.first t.item w.version w.cell
  pub loaded : fact.CellLoaded t.line t.first t.item t.cell w.version w.cell
  pub written : WrittenStand g w t
  pub pass : fact.PassMeetsGrey g t.line sh.grey (IsClean g w sh flight names contents)
  pub clean : fact.SettledFromSweep t.line (IsClean g w sh flight names contents)
  pub frames : fact.FramesBlackened g sh.black_frame t.line
  pub registers_passed : fact.RegistersPassed g t.line w.cycle t.first w.frame_version w.register w.mark
  pub cells_passed : fact.CellsPassed t t.line w.cycle t.first t.item w.version w.mark w.cell

-- each version is at most the begun calls of all seats
pub record VersionsStand (g : Geometry) (w : Words) (begun : ℕ → ℕ) : Type 0 where
  pub headers : (n : ℕ) → n < numbers g → w.version n ≤ sum_below (tasks g) begun
  pub frames : (s : ℕ) → s < tasks g → w.frame_version s ≤ sum_below (tasks g) begun

-- THE WHOLE

-- all of it, of what a state and a history are seen as
pub record PromisesOf (g : Geometry) (w : Words) (z : Spaces) (sh : Shades) (flight : ℕ → Flight) (begun : ℕ → ℕ) (t : Spot)
    (names : Names) (contents : Contents) (range : ℕ → Option ℕ) : Type 0 where
  pub stands : Stands g w flight names contents
  pub lists : ListsStand g w flight t names contents
  pub black : BlackStands g w sh flight names contents
  pub reads : ReadsStand g w sh flight
  pub ranges : RangesStand w z sh t names range
  pub space : SpaceStands g w z sh flight names range
  pub spot : SpotStands g w z sh flight t names contents
  pub versions : VersionsStand g w begun

-- what a state promises for a history: the history is legal, the state stands for the plain heap after it, and, for some
-- ranges, the rest holds
pub record Promises (c : State) (history : History) : Type 0 where
  pub legal : Legal (opening_of c.geometry) history
  pub range : ℕ → Option ℕ
  pub holds : let w = words_of c.geometry c.row in let names = names_of c.geometry history in
      PromisesOf c.geometry w (spaces_of c.geometry w.cycle) (shades_of c.geometry w (flight_at c) c.spot.line names) (flight_at c) (begun_at c) c.spot
      names (contents_of c.geometry history) range
