-- What the collector's events have in common. An event of the collector changes no flight and no history: it changes the
-- spot, and a few words. The facts that read the spot or its line stand apart here, as SpotFacts, and those that read the
-- claims in hand as HandFacts; an event shows these of the new spot, and all other facts are carried (`with_spot`).
--
-- While the collector looks for objects, most of these say the same on each line; what is left is what the collector is
-- in the middle of, as WorkFacts (`marking_on`). WorkFacts take the line beside the spot. On each line they say what one
-- record of this file says, `AtFrame`, `AtRegister` and so on: `at_frame` goes from WorkFacts to the record, and
-- `frame_works` from the record to WorkFacts. So an event takes the record of its line, and gives the record of the next.
use Rattle.std.proofs.Common.{◌≡◌, ℕ, ◌≤◌, Bool, true, false, inl, inr, refl, sym, ◌∙◌, ap, subst, arith, Option, Some, None}
use Rattle.std.proofs.lemmas.Bool.{lt-ltb, le-ltb}
use Rattle.std.specs.Prelude.{nat_lt, if◌then◌else◌}
use Rattle.hk_words.specs.declared.geometry.Geometry.{Geometry}
use Rattle.hk_words.specs.Geometry.{tasks, list_length}
use Rattle.hk_model.specs.View.{upd}
use Rattle.hk_core.specs.declared.flight.Flight.{Flight}
use Rattle.hk_core.specs.declared.spot.Spot.{Spot}
use Rattle.hk_core.specs.declared.spot.Line.{Line}
use Rattle.hk_core.specs.declared.spot.Line.TheVariants as line
use Rattle.hk_core.specs.Collect.{next_list}
use Rattle.hk_core.specs.View.{Words, Names, Contents}
use Rattle.hk_core.specs.Flights.{Hand, hand_of_flight}
use Rattle.hk_core.specs.Lines as l
use Rattle.hk_core.specs.Colours.{Spaces, spaces_of, Shades, shades_of, held_by, kept_by}
use Rattle.hk_core.specs.Facts as fact
use Rattle.hk_core.specs.Facts.{IsSettled}
use Rattle.hk_core.specs.Lawful.{Facts, FactsOf, hands_of}
use Rattle.hk_core.proofs.Update.{upd_cases}
use Rattle.hk_core.proofs.Shared.{never}

-- THE FACTS THAT READ THE SPOT

-- the facts that read the spot or its line, but those of claims in hand
pub record SpotFacts (g : Geometry) (w : Words) (z : Spaces) (sh : Shades) (flight : ℕ → Flight) (hand : ℕ → Hand) (t : Spot) (names : Names) (range : ℕ → Option ℕ) : Type 0 where
  pub spot_knows_cycle : fact.SpotKnowsCycle w.cycle t.cycle
  pub marks_above_are_written : fact.MarksAboveAreWritten g w.cycle w.mark (w.entry (next_list w.cycle)) (l.marked g t t.line)
  pub cell_good : fact.CellGood sh.kept names t.line t.cell
  pub moved_stands_in_range : fact.MovedStandsInRange z (l.is_resting t.line) sh.kept w.place range
  pub unreserved_is_zero : fact.UnreservedIsZero z (l.is_resting t.line) sh.size w.cell range
  pub unused_is_zero : fact.UnusedIsZero z (l.is_resting t.line) sh.kept w.place sh.size w.cell
  pub cleared_is_zero : fact.ClearedIsZero z (l.cleared g t.line) w.cell
  pub nothing_reserved_at_rest : fact.NothingReservedAtRest (l.is_resting t.line) w.reserved
  pub ranges_below_moved : fact.RangesBelowMoved z w.cycle t.scan sh.kept w.place w.mark sh.size range
  pub ranges_above_grey : fact.RangesAboveGrey t.scan sh.kept sh.grey range
  pub scan_bounded : fact.ScanBounded z (l.is_resting t.line) t.scan w.reserved
  pub marks_few : fact.MarksFew g t.line w.cycle w.reserved w.mark hand
  pub written_numbers : fact.WrittenNumbers g (l.written g t t.line) (w.entry (next_list w.cycle))
  pub written_distinct : fact.WrittenDistinct (l.written g t t.line) (w.entry (next_list w.cycle))
  pub written_marked : fact.WrittenMarked w.cycle (l.marked g t t.line) w.mark (w.entry (next_list w.cycle))
  pub written_empty : fact.WrittenEmpty (l.emptied g t t.line) w.accessors w.place w.version (w.entry (next_list w.cycle))
  pub sweep_in_step : fact.SweepInStep g w.cycle t.entries w.mark (w.entry (next_list w.cycle)) t.line
  pub swept_marked : fact.SweptMarked w.cycle w.mark t.line
  pub spot_formed : fact.SpotFormed g t
  pub frames_blackened : fact.FramesBlackened g sh.black_frame t.line
  pub frame_attempt_behind : fact.FrameAttemptBehind g t.line t.first w.frame_accessors w.frame_cycle w.frame_version
  pub registers_passed : fact.RegistersPassed g t.line w.cycle t.first w.frame_version w.register w.mark
  pub register_in_work : fact.RegisterInWork t.line t.first t.cell w.frame_version w.register
  pub cell_claimed : fact.CellClaimed t.line w.cycle t.item t.cell w.mark
  pub scan_at_range : fact.ScanAtRange z t.line t.scan sh.size range
  pub item_is_linked : fact.ItemIsLinked z t.line t.scan t.item w.cell
  pub object_attempt_behind : fact.ObjectAttemptBehind t t.line t.first t.item w.accessors w.place w.version
  pub cells_passed : fact.CellsPassed t t.line w.cycle t.first t.item w.version w.mark w.cell
  pub cells_copied : fact.CellsCopied z t t.line t.scan t.first t.item w.version w.cell
  pub cell_loaded : fact.CellLoaded t.line t.first t.item t.cell w.version w.cell
  pub pass_meets_grey : fact.PassMeetsGrey g t.line sh.grey (IsSettled g w.cycle sh.white sh.grey w.register flight)
  pub settled_from_sweep : fact.SettledFromSweep t.line (IsSettled g w.cycle sh.white sh.grey w.register flight)
  pub spent_bounded : fact.SpentBounded g t

-- the facts of claims in hand; `marks_few` of SpotFacts reads these too
pub record HandFacts (g : Geometry) (w : Words) (z : Spaces) (sh : Shades) (hand : ℕ → Hand) (range : ℕ → Option ℕ) : Type 0 where
  pub claims_unreserved : fact.ClaimsUnreserved g w.cycle sh.grey range hand
  pub claims_unlinked : fact.ClaimsUnlinked g z w.cycle sh.grey sh.size w.cell range hand
  pub claims_apart : fact.ClaimsApart g hand
  pub grey_waits : fact.GreyWaits g sh.grey range hand
  pub unlinked_waits : fact.UnlinkedWaits g z sh.size w.cell range hand

module _ (g : Geometry) (w : Words) (z : Spaces) (sh : Shades) (flight : ℕ → Flight) (begun : ℕ → ℕ) (hand : ℕ → Hand) (t : Spot)
    (names : Names) (contents : Contents) (range : ℕ → Option ℕ) (h : Facts g w z sh flight begun hand t names contents range) where
  pub hand_facts : HandFacts g w z sh hand range
  hand_facts = assumption

  -- all facts hold of another spot and other claims in hand, where those that read these do
  pub with_spot_and_hand : (other : Spot) (hand' : ℕ → Hand) → SpotFacts g w z sh flight hand' other names range → HandFacts g w z sh hand' range
      → Facts g w z sh flight begun hand' other names contents range
  with_spot_and_hand other hand' spot hands = assumption

  -- and of another spot with the same claims in hand
  pub with_spot : (other : Spot) → SpotFacts g w z sh flight hand other names range → Facts g w z sh flight begun hand other names contents range
  with_spot other spot = assumption

-- THE CLAIMS IN HAND, AND THE SHADES

-- the claims in hand stay, where the collector's does
pub hands_kept : (g : Geometry) (flight : ℕ → Flight) (t other : Spot) → l.hand_of_spot other ≡ l.hand_of_spot t → hands_of g flight other ≡ hands_of g flight t
unfolding hands_of
hands_kept g flight t other same = ap (λ (mine : Hand). (λ k. if nat_lt k (tasks g) then hand_of_flight g (flight k) else mine)) same

-- otherwise the last one that matters is another
pub hands_changed : (g : Geometry) (flight : ℕ → Flight) (t other : Spot) (k : ℕ) → k ≤ tasks g
    → hands_of g flight other k ≡ upd (hands_of g flight t) (tasks g) (l.hand_of_spot other) k
unfolding hands_of
hands_changed g flight t other k within = elim (upd_cases (hands_of g flight t) (tasks g) (l.hand_of_spot other) k) [
  | inl (e, u) ↦ rw (u, le-ltb k (tasks g) (omega arith)) refl
  | inr (d, u) ↦ rw (u, lt-ltb k (tasks g) (omega arith)) refl
]

-- the shades are the same on two lines, where the collector looks for objects on both or on none
pub shades_kept : (g : Geometry) (w : Words) (flight : ℕ → Flight) (ln other : Line) (names : Names) → l.is_marking other ≡ l.is_marking ln
    → shades_of g w flight other names ≡ shades_of g w flight ln names
unfolding shades_of
shades_kept g w flight ln other names same = ap (λ (marking : Bool). record {
  white = (shades_of g w flight ln names).white;
  grey = (shades_of g w flight ln names).grey;
  black = (shades_of g w flight ln names).black;
  black_frame = (shades_of g w flight ln names).black_frame;
  kept = kept_by g w.cycle marking (held_by g flight) names.bearer w.place w.mark;
  size = (shades_of g w flight ln names).size;
}) same

-- an event of the collector that changes no word, no claim in hand and not whether it looks for objects
pub on_spot : (g : Geometry) (w : Words) (flight : ℕ → Flight) (begun : ℕ → ℕ) (t other : Spot) (names : Names) (contents : Contents) (range : ℕ → Option ℕ)
    → l.hand_of_spot other ≡ l.hand_of_spot t → l.is_marking other.line ≡ l.is_marking t.line
    → FactsOf g w flight begun t names contents range
    → SpotFacts g w (spaces_of g w.cycle) (shades_of g w flight t.line names) flight (hands_of g flight t) other names range
    → FactsOf g w flight begun other names contents range
on_spot g w flight begun t other names contents range hand marking h spot =
    let hands : hands_of g flight other ≡ hands_of g flight t = hands_kept g flight t other hand in
    let shades : shades_of g w flight other.line names ≡ shades_of g w flight t.line names = shades_kept g w flight t.line other.line names marking in
    rw (hands, shades)
    (with_spot g w (spaces_of g w.cycle) (shades_of g w flight t.line names) flight begun (hands_of g flight t) t names contents range h other spot)

-- WHILE THE COLLECTOR LOOKS FOR OBJECTS

-- what the tables say of such a line
pub record MarkingLine (g : Geometry) (t : Spot) (ln : Line) : Type 0 where
  pub is_busy : l.is_resting ln ≡ false
  pub sweeping_or_marking : l.is_sweeping_or_marking ln ≡ true
  pub sweeps_none : l.sweeping ln ≡ None
  pub written : l.written g t ln ≡ 0
  pub marked : l.marked g t ln ≡ 0
  pub emptied : l.emptied g t ln ≡ 0
  pub cleared : l.cleared g ln ≡ 0
  pub no_entries : (length cycle entries : ℕ) (mark next : ℕ → ℕ) → l.InStep length cycle entries mark next ln → entries ≡ 0
  pub in_step : (length cycle entries : ℕ) (mark next : ℕ → ℕ) → entries ≡ 0 → l.InStep length cycle entries mark next ln

pub marking_line : (g : Geometry) (t : Spot) (ln : Line) → l.is_marking ln ≡ true → MarkingLine g t ln
unfolding l.is_marking l.is_resting l.is_sweeping_or_marking l.sweeping l.written l.marked l.emptied l.cleared
marking_line g t line.Rest e = never e
marking_line g t (line.Frame s) e = record { is_busy = refl; sweeping_or_marking = refl; sweeps_none = refl; written = refl; marked = refl; emptied = refl; cleared = refl; no_entries = λ _ _ _ _ _ h. h; in_step = λ _ _ _ _ _ h. h }
marking_line g t (line.Register s r stage) e = record { is_busy = refl; sweeping_or_marking = refl; sweeps_none = refl; written = refl; marked = refl; emptied = refl; cleared = refl; no_entries = λ _ _ _ _ _ h. h; in_step = λ _ _ _ _ _ h. h }
marking_line g t (line.FrameTrade s) e = record { is_busy = refl; sweeping_or_marking = refl; sweeps_none = refl; written = refl; marked = refl; emptied = refl; cleared = refl; no_entries = λ _ _ _ _ _ h. h; in_step = λ _ _ _ _ _ h. h }
marking_line g t line.Scan e = record { is_busy = refl; sweeping_or_marking = refl; sweeps_none = refl; written = refl; marked = refl; emptied = refl; cleared = refl; no_entries = λ _ _ _ _ _ h. h; in_step = λ _ _ _ _ _ h. h }
marking_line g t line.Link e = record { is_busy = refl; sweeping_or_marking = refl; sweeps_none = refl; written = refl; marked = refl; emptied = refl; cleared = refl; no_entries = λ _ _ _ _ _ h. h; in_step = λ _ _ _ _ _ h. h }
marking_line g t line.Look e = record { is_busy = refl; sweeping_or_marking = refl; sweeps_none = refl; written = refl; marked = refl; emptied = refl; cleared = refl; no_entries = λ _ _ _ _ _ h. h; in_step = λ _ _ _ _ _ h. h }
marking_line g t (line.Cell i stage) e = record { is_busy = refl; sweeping_or_marking = refl; sweeps_none = refl; written = refl; marked = refl; emptied = refl; cleared = refl; no_entries = λ _ _ _ _ _ h. h; in_step = λ _ _ _ _ _ h. h }
marking_line g t line.ObjectTrade e = record { is_busy = refl; sweeping_or_marking = refl; sweeps_none = refl; written = refl; marked = refl; emptied = refl; cleared = refl; no_entries = λ _ _ _ _ _ h. h; in_step = λ _ _ _ _ _ h. h }
marking_line g t (line.Pass n) e = record { is_busy = refl; sweeping_or_marking = refl; sweeps_none = refl; written = refl; marked = refl; emptied = refl; cleared = refl; no_entries = λ _ _ _ _ _ h. h; in_step = λ _ _ _ _ _ h. h }
marking_line g t (line.PassHead n) e = record { is_busy = refl; sweeping_or_marking = refl; sweeps_none = refl; written = refl; marked = refl; emptied = refl; cleared = refl; no_entries = λ _ _ _ _ _ h. h; in_step = λ _ _ _ _ _ h. h }
marking_line g t (line.Sweep n stage) e = never e
marking_line g t (line.Clear i) e = never e
marking_line g t line.Reset e = never e

-- what the collector is in the middle of, on a line
pub record WorkFacts (g : Geometry) (w : Words) (z : Spaces) (sh : Shades) (flight : ℕ → Flight) (t : Spot) (names : Names) (range : ℕ → Option ℕ) (ln : Line) : Type 0 where
  pub cell_good : fact.CellGood sh.kept names ln t.cell
  pub line_fits : l.LineFits g t ln
  pub frames_blackened : fact.FramesBlackened g sh.black_frame ln
  pub frame_attempt_behind : fact.FrameAttemptBehind g ln t.first w.frame_accessors w.frame_cycle w.frame_version
  pub registers_passed : fact.RegistersPassed g ln w.cycle t.first w.frame_version w.register w.mark
  pub register_in_work : fact.RegisterInWork ln t.first t.cell w.frame_version w.register
  pub cell_claimed : fact.CellClaimed ln w.cycle t.item t.cell w.mark
  pub scan_at_range : fact.ScanAtRange z ln t.scan sh.size range
  pub item_is_linked : fact.ItemIsLinked z ln t.scan t.item w.cell
  pub object_attempt_behind : fact.ObjectAttemptBehind t ln t.first t.item w.accessors w.place w.version
  pub cells_passed : fact.CellsPassed t ln w.cycle t.first t.item w.version w.mark w.cell
  pub cells_copied : fact.CellsCopied z t ln t.scan t.first t.item w.version w.cell
  pub cell_loaded : fact.CellLoaded ln t.first t.item t.cell w.version w.cell
  pub pass_meets_grey : fact.PassMeetsGrey g ln sh.grey (IsSettled g w.cycle sh.white sh.grey w.register flight)
  pub spent_bounded : (most : ℕ) → l.most_spent g t ln ≡ Some most → t.spent ≤ most

-- a spot that goes on, from a line on which the collector looks for objects to another, with the same cycle, scan offset and entries
pub record GoesMarking (t other : Spot) : Type 0 where
  pub from : l.is_marking t.line ≡ true
  pub to : l.is_marking other.line ≡ true
  pub cycle : other.cycle ≡ t.cycle
  pub scan : other.scan ≡ t.scan
  pub entries : other.entries ≡ t.entries

module _ (g : Geometry) (w : Words) (z : Spaces) (sh : Shades) (flight : ℕ → Flight) (begun : ℕ → ℕ) (hand : ℕ → Hand) (t : Spot)
    (names : Names) (contents : Contents) (range : ℕ → Option ℕ) (h : Facts g w z sh flight begun hand t names contents range) where
  -- what the collector is in the middle of, on its line
  pub work_facts : (ln : Line) → t.line ≡ ln → WorkFacts g w z sh flight t names range ln
  work_facts ln e = subst (λ ln. WorkFacts g w z sh flight t names range ln) e (record {
    cell_good = h.cell_good;
    line_fits = h.spot_formed;
    frames_blackened = h.frames_blackened;
    frame_attempt_behind = h.frame_attempt_behind;
    registers_passed = h.registers_passed;
    register_in_work = h.register_in_work;
    cell_claimed = h.cell_claimed;
    scan_at_range = h.scan_at_range;
    item_is_linked = h.item_is_linked;
    object_attempt_behind = h.object_attempt_behind;
    cells_passed = h.cells_passed;
    cells_copied = h.cells_copied;
    cell_loaded = h.cell_loaded;
    pass_meets_grey = h.pass_meets_grey;
    spent_bounded = h.spent_bounded;
  })

  -- the facts of the new spot, where it goes on so, from what it is in the middle of then
  pub marking_on : (other : Spot) → GoesMarking t other → WorkFacts g w z sh flight other names range other.line → SpotFacts g w z sh flight hand other names range
  marking_on other o k =
      let from : MarkingLine g t t.line = marking_line g t t.line o.from in
      let to : MarkingLine g other other.line = marking_line g other other.line o.to in
      let none : t.entries ≡ 0 = from.no_entries (list_length g) w.cycle t.entries w.mark (w.entry (next_list w.cycle)) h.sweep_in_step in
      let busy : l.is_resting other.line ≡ l.is_resting t.line = to.is_busy ∙ sym from.is_busy in
      let marked : l.marked g other other.line ≡ l.marked g t t.line = to.marked ∙ sym from.marked in
      let written : l.written g other other.line ≡ l.written g t t.line = to.written ∙ sym from.written in
      let emptied : l.emptied g other other.line ≡ l.emptied g t t.line = to.emptied ∙ sym from.emptied in
      let cleared : l.cleared g other.line ≡ l.cleared g t.line = to.cleared ∙ sym from.cleared in
      record {
        spot_knows_cycle = o.cycle ∙ h.spot_knows_cycle;
        marks_above_are_written = rw marked h.marks_above_are_written;
        cell_good = k.cell_good;
        moved_stands_in_range = rw busy h.moved_stands_in_range;
        unreserved_is_zero = rw busy h.unreserved_is_zero;
        unused_is_zero = rw busy h.unused_is_zero;
        cleared_is_zero = rw cleared h.cleared_is_zero;
        nothing_reserved_at_rest = rw busy h.nothing_reserved_at_rest;
        ranges_below_moved = rw o.scan h.ranges_below_moved;
        ranges_above_grey = rw o.scan h.ranges_above_grey;
        scan_bounded = λ busy. rw o.scan (h.scan_bounded from.is_busy);
        marks_few = λ e. h.marks_few from.sweeping_or_marking;
        written_numbers = rw written h.written_numbers;
        written_distinct = rw written h.written_distinct;
        written_marked = rw marked h.written_marked;
        written_empty = rw emptied h.written_empty;
        sweep_in_step = to.in_step (list_length g) w.cycle other.entries w.mark (w.entry (next_list w.cycle)) (o.entries ∙ none);
        swept_marked = λ n m e below. none_swept (l.sweeping other.line) n to.sweeps_none e;
        spot_formed = k.line_fits;
        frames_blackened = k.frames_blackened;
        frame_attempt_behind = k.frame_attempt_behind;
        registers_passed = k.registers_passed;
        register_in_work = k.register_in_work;
        cell_claimed = k.cell_claimed;
        scan_at_range = k.scan_at_range;
        item_is_linked = k.item_is_linked;
        object_attempt_behind = k.object_attempt_behind;
        cells_passed = k.cells_passed;
        cells_copied = k.cells_copied;
        cell_loaded = k.cell_loaded;
        pass_meets_grey = k.pass_meets_grey;
        settled_from_sweep = λ e. looks_still (l.is_marking other.line) o.to e;
        spent_bounded = k.spent_bounded;
      }
    where
      none_swept : {A : Type 0} (o : Option ℕ) (n : ℕ) → o ≡ None → o ≡ Some n → A
      none_swept o n none some = absurd (cc)

      looks_still : {A : Type 0} (b : Bool) → b ≡ true → b ≡ false → A
      looks_still b on off = absurd (cc)
