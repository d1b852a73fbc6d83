-- What the collector's events from the step into the sweep to the flip have in common. On these lines the collector is in the
-- middle of no frame, no object and no claim, and the state is settled: a kept number is black, and nobody has a claim in hand.
-- The facts that read the spot say less then; what is left stands here as SweepFacts (`sweep_spot`).
use Rattle.std.proofs.Common.{◌≡◌, ◌≢◌, ℕ, ◌+◌, ◌<◌, ◌≤◌, Bool, true, false, inl, inr, refl, sym, ◌∙◌, subst, arith, Option, Some, None}
use Rattle.std.proofs.lemmas.Bool.{both_ways, cases_lt, and_parts, lt-ltb, le-ltb}
use Rattle.std.proofs.lemmas.Bool.Decides.{nat_tests}
use Rattle.std.specs.Prelude.{nat_le, ◌&&◌, if◌then◌else◌}
use Rattle.hk_words.specs.declared.geometry.Geometry.{Geometry}
use Rattle.hk_words.specs.declared.call.Call.{Call}
use Rattle.hk_words.specs.declared.call.Call.TheVariants as call
use Rattle.hk_words.specs.Geometry.{tasks, numbers}
use Rattle.hk_words.specs.Calls.{RegistersFit}
use Rattle.hk_words.specs.Layout as layout
use Rattle.hk_core.specs.declared.flight.Flight.{Flight}
use Rattle.hk_core.specs.declared.spot.Spot.{Spot}
use Rattle.hk_core.specs.declared.spot.Line.{Line}
use Rattle.hk_core.specs.declared.spot.Line.TheVariants as line
use Rattle.hk_core.specs.Collect.{next_list}
use Rattle.hk_core.specs.Counts.{count_below}
use Rattle.hk_core.specs.Step.{reserved_fits}
use Rattle.hk_core.specs.View.{Words, Names, Contents}
use Rattle.hk_core.specs.Flights as f
use Rattle.hk_core.specs.Flights.{Hand, no_claim, to_reserve, to_link, hand_of_flight}
use Rattle.hk_core.specs.Lines as l
use Rattle.hk_core.specs.Colours.{Spaces, InCurrent, Shades, shades_of, held_by, IsNullOrGood}
use Rattle.hk_core.specs.Facts as fact
use Rattle.hk_core.specs.Facts.{IsSettled, HoldsClaim, IsMoved}
use Rattle.hk_core.specs.Lawful.{Facts, FactsOf, hands_of}
use Rattle.hk_core.proofs.kinds.Seats.{KeptMeans, kept_means}
use Rattle.hk_core.proofs.kinds.WriteCell.{ShadesMean, fresh_when_done}
use Rattle.hk_core.proofs.kinds.LoadRead.{some_words}
use Rattle.hk_collect.proofs.spots.Spots.{SpotFacts}
use Rattle.hk_collect.proofs.spots.SpotSweepCounts.{count_none}
use Rattle.hk_core.proofs.Shared.{never_both, never_false, refuted}

-- LINES

-- what the tables say of a line on which the collector looks for no objects
pub record QuietLine (g : Geometry) (t : Spot) (ln : Line) : Type 0 where
  pub no_reference : l.has_reference ln ≡ false
  pub no_frames : l.frames_done g ln ≡ 0
  pub no_frame_attempt : l.frame_attempt g ln ≡ None
  pub no_register : l.register_in_work ln ≡ None
  pub no_write : l.cell_to_write ln ≡ None
  pub at_no_range : l.is_at_range ln ≡ false
  pub no_item : l.has_item ln ≡ false
  pub no_object_attempt : l.object_attempt t ln ≡ None
  pub no_cell : l.cell_loaded ln ≡ None
  pub not_passing : l.passing ln ≡ None
  pub unspent : l.most_spent g t ln ≡ None
  pub no_hand : l.hand_at_line t ln ≡ no_claim

pub quiet_line : (g : Geometry) (t : Spot) (ln : Line) → l.is_marking ln ≡ false → QuietLine g t ln
unfolding l.is_marking l.has_reference l.frames_done l.frame_attempt l.register_in_work l.cell_to_write l.is_at_range l.has_item l.object_attempt l.cell_loaded l.passing l.most_spent l.hand_at_line
quiet_line g t line.Rest e = record { no_reference = refl; no_frames = refl; no_frame_attempt = refl; no_register = refl; no_write = refl; at_no_range = refl; no_item = refl; no_object_attempt = refl; no_cell = refl; not_passing = refl; unspent = refl; no_hand = refl }
quiet_line g t (line.Frame s) e = never_false e
quiet_line g t (line.Register s r stage) e = never_false e
quiet_line g t (line.FrameTrade s) e = never_false e
quiet_line g t line.Scan e = never_false e
quiet_line g t line.Link e = never_false e
quiet_line g t line.Look e = never_false e
quiet_line g t (line.Cell i stage) e = never_false e
quiet_line g t line.ObjectTrade e = never_false e
quiet_line g t (line.Pass n) e = never_false e
quiet_line g t (line.PassHead n) e = never_false e
quiet_line g t (line.Sweep n stage) e = record { no_reference = refl; no_frames = refl; no_frame_attempt = refl; no_register = refl; no_write = refl; at_no_range = refl; no_item = refl; no_object_attempt = refl; no_cell = refl; not_passing = refl; unspent = refl; no_hand = refl }
quiet_line g t (line.Clear i) e = record { no_reference = refl; no_frames = refl; no_frame_attempt = refl; no_register = refl; no_write = refl; at_no_range = refl; no_item = refl; no_object_attempt = refl; no_cell = refl; not_passing = refl; unspent = refl; no_hand = refl }
quiet_line g t line.Reset e = record { no_reference = refl; no_frames = refl; no_frame_attempt = refl; no_register = refl; no_write = refl; at_no_range = refl; no_item = refl; no_object_attempt = refl; no_cell = refl; not_passing = refl; unspent = refl; no_hand = refl }

-- the facts that read the spot and say something on such a line
pub record SweepFacts (g : Geometry) (w : Words) (z : Spaces) (sh : Shades) (flight : ℕ → Flight) (hand : ℕ → Hand) (t : Spot) (range : ℕ → Option ℕ) : Type 0 where
  pub spot_knows_cycle : fact.SpotKnowsCycle w.cycle t.cycle
  pub marks_above_are_written : fact.MarksAboveAreWritten g w.cycle w.mark (w.entry (next_list w.cycle)) (l.marked g t t.line)
  pub moved_stands_in_range : fact.MovedStandsInRange z (l.is_resting t.line) sh.kept w.place range
  pub unreserved_is_zero : fact.UnreservedIsZero z (l.is_resting t.line) sh.size w.cell range
  pub unused_is_zero : fact.UnusedIsZero z (l.is_resting t.line) sh.kept w.place sh.size w.cell
  pub cleared_is_zero : fact.ClearedIsZero z (l.cleared g t.line) w.cell
  pub nothing_reserved_at_rest : fact.NothingReservedAtRest (l.is_resting t.line) w.reserved
  pub ranges_below_moved : fact.RangesBelowMoved z w.cycle t.scan sh.kept w.place w.mark sh.size range
  pub ranges_above_grey : fact.RangesAboveGrey t.scan sh.kept sh.grey range
  pub scan_bounded : fact.ScanBounded z (l.is_resting t.line) t.scan w.reserved
  pub marks_few : fact.MarksFew g t.line w.cycle w.reserved w.mark hand
  pub written_numbers : fact.WrittenNumbers g (l.written g t t.line) (w.entry (next_list w.cycle))
  pub written_distinct : fact.WrittenDistinct (l.written g t t.line) (w.entry (next_list w.cycle))
  pub written_marked : fact.WrittenMarked w.cycle (l.marked g t t.line) w.mark (w.entry (next_list w.cycle))
  pub written_empty : fact.WrittenEmpty (l.emptied g t t.line) w.accessors w.place w.version (w.entry (next_list w.cycle))
  pub sweep_in_step : fact.SweepInStep g w.cycle t.entries w.mark (w.entry (next_list w.cycle)) t.line
  pub swept_marked : fact.SweptMarked w.cycle w.mark t.line
  pub spot_formed : fact.SpotFormed g t
  pub settled : IsSettled g w.cycle sh.white sh.grey w.register flight

-- they give all facts that read the spot
pub sweep_spot : (g : Geometry) (w : Words) (z : Spaces) (sh : Shades) (flight : ℕ → Flight) (hand : ℕ → Hand) (t : Spot) (names : Names) (range : ℕ → Option ℕ)
    → l.is_marking t.line ≡ false → SweepFacts g w z sh flight hand t range → SpotFacts g w z sh flight hand t names range
sweep_spot g w z sh flight hand t names range quiet o =
    let q : QuietLine g t t.line = quiet_line g t t.line quiet in
    record {
      spot_knows_cycle = o.spot_knows_cycle;
      marks_above_are_written = o.marks_above_are_written;
      cell_good = λ e. refuted _ q.no_reference e;
      moved_stands_in_range = o.moved_stands_in_range;
      unreserved_is_zero = o.unreserved_is_zero;
      unused_is_zero = o.unused_is_zero;
      cleared_is_zero = o.cleared_is_zero;
      nothing_reserved_at_rest = o.nothing_reserved_at_rest;
      ranges_below_moved = o.ranges_below_moved;
      ranges_above_grey = o.ranges_above_grey;
      scan_bounded = o.scan_bounded;
      marks_few = o.marks_few;
      written_numbers = o.written_numbers;
      written_distinct = o.written_distinct;
      written_marked = o.written_marked;
      written_empty = o.written_empty;
      sweep_in_step = o.sweep_in_step;
      swept_marked = o.swept_marked;
      spot_formed = o.spot_formed;
      frames_blackened = λ s b. let none = q.no_frames in absurd (omega arith);
      frame_attempt_behind = λ s p e. never_both _ (s, p) q.no_frame_attempt e;
      registers_passed = λ s p r e. never_both _ (s, p) q.no_frame_attempt e;
      register_in_work = λ s r e. never_both _ (s, r) q.no_register e;
      cell_claimed = λ i e. never_both _ i q.no_write e;
      scan_at_range = λ e. refuted _ q.at_no_range e;
      item_is_linked = λ e. refuted _ q.no_item e;
      object_attempt_behind = λ p e. never_both _ p q.no_object_attempt e;
      cells_passed = λ p i e. never_both _ p q.no_object_attempt e;
      cells_copied = λ p i e. never_both _ p q.no_object_attempt e;
      cell_loaded = λ i e. never_both _ i q.no_cell e;
      pass_meets_grey = λ n e. never_both _ n q.not_passing e;
      settled_from_sweep = λ e. o.settled;
      spent_bounded = λ m e. never_both _ m q.unspent e;
    }

-- WHAT A SETTLED STATE SAYS

module _ (g : Geometry) (w : Words) (z : Spaces) (sh : Shades) (flight : ℕ → Flight) (begun : ℕ → ℕ) (hand : ℕ → Hand) (t : Spot)
    (names : Names) (contents : Contents) (range : ℕ → Option ℕ) (h : Facts g w z sh flight begun hand t names contents range)
    (m : ShadesMean g w z sh flight t.line names) (quiet : l.is_marking t.line ≡ false) where
  -- a kept number was claimed in this cycle, and stands in the current space
  pub kept_marked : (n : ℕ) → sh.kept n ≡ true → w.mark n ≡ w.cycle
  kept_marked n kept = fresh_when_done w.cycle (l.is_marking t.line) (w.mark n) quiet (m.kept n kept).is_fresh

  pub kept_current : (n : ℕ) → sh.kept n ≡ true → InCurrent z (w.place n) (sh.size n)
  kept_current n kept =
      let some : 0 < sh.size n = some_words names sh.size n (m.size n) in
      elim (h.objects_in_one_space n kept) [
        | inl old ↦
            let after : z.old ≤ w.place n = old.after in
            let before : w.place n + sh.size n ≤ z.old + (z.live + z.alloc) = old.before in
            refuted (sh.grey n) ((h.settled_from_sweep quiet).none_grey n (m.kept n kept).within)
            (m.is_grey n (record { of_cycle = kept_marked n kept; after = after; before = omega arith }))
        | inr new ↦ new
      ]

  -- a range belongs to a kept number, which was moved to it
  pub range_moved : (x n : ℕ) → range x ≡ Some n → IsMoved z w.cycle t.scan sh.kept w.place w.mark sh.size x n
  range_moved x n there =
      elim (cases_lt x t.scan) [
        | inl below ↦ h.ranges_below_moved x n there below
        | inr above ↦
            let o = h.ranges_above_grey x n there above in
            refuted (sh.grey n) ((h.settled_from_sweep quiet).none_grey n (m.kept n o.0).within) o.1
      ]

-- a call that has still to reserve has an item: a Load has read it, and a Store copies it from a register
reserves_item : (g : Geometry) (kept : ℕ → Bool) (names : Names) (register : ℕ → ℕ → ℕ) (flight : ℕ → Flight) (s : ℕ) → s < tasks g
    → fact.FlightsFormed g flight → fact.LoadedGood g kept names flight → fact.CopiedStays g register flight → fact.RegistersGood g kept names register
    → f.reserves_at (flight s).call (flight s).place ≡ true → IsNullOrGood kept names (flight s).item
unfolding f.has_loaded f.reserves_at f.is_load_at
reserves_item g kept names register flight s below formed loaded copied_stays good reserves = by_call (flight s).call refl reserves
  where
    loads : (p : ℕ) → (nat_le 6 p && nat_le p 6) ≡ true → (nat_le 5 p && nat_le p 10) ≡ true
    loads p e = grind (arith, nat_tests)

    flies : (p : ℕ) → (nat_le 4 p && nat_le p 4) ≡ true → nat_le 1 p ≡ true
    flies p e = grind (arith, nat_tests)

    by_call : (call : Call) → (flight s).call ≡ call → f.reserves_at call (flight s).place ≡ true → IsNullOrGood kept names (flight s).item
    by_call (call.Get reg field) is e = absurd (cc)
    by_call (call.Put reg field value) is e = absurd (cc)
    by_call (call.Load dest reg field) is e = loaded s below (rw is (loads (flight s).place e))
    by_call (call.Store reg field from) is e =
        let flying : f.is_flying (flight s) ≡ true = flies (flight s).place e in
        let fits : RegistersFit g.registers (call.Store reg field from) = rw is at ((formed s below).registers flying) in
        let same : (flight s).item ≡ register s from = copied_stays s from below flying (rw is refl) in
        subst (IsNullOrGood kept names) (sym same) (good s from below fits.1)
    by_call (call.Move dest from) is e = absurd (cc)
    by_call (call.Clear dest) is e = absurd (cc)
    by_call (call.New dest shape) is e = absurd (cc)
    by_call (call.Same a b) is e = absurd (cc)
    by_call (call.IsNull reg) is e = absurd (cc)

-- the claim of a flight that has still to reserve is of its item
hand_reserves : (g : Geometry) (x : Flight) (item c : ℕ) → hand_of_flight g x ≡ to_reserve item c → (f.reserves_at x.call x.place ≡ true) × (x.item ≡ item)
unfolding f.hand_of_flight
hand_reserves g x item c e = parts (x.claimer && f.reserves_at x.call x.place) refl e
  where
    linking : (b : Bool) → (if b then to_link x.item (layout.w0_cycle x.word) x.offset else no_claim) ≢ to_reserve item c
    linking true e = absurd (cc)
    linking false e = absurd (cc)

    parts : (b : Bool) → (x.claimer && f.reserves_at x.call x.place) ≡ b
        → (if b then to_reserve x.item (layout.w0_cycle x.word)
        else if x.claimer && (f.links_at x.call x.place && reserved_fits g x.offset x.item) then to_link x.item (layout.w0_cycle x.word) x.offset else no_claim) ≡ to_reserve item c
        → (f.reserves_at x.call x.place ≡ true) × (x.item ≡ item)
    parts true is e = let same : x.item ≡ item = cc in ((and_parts _ _ is).1, same)
    parts false is e = absurd (linking (x.claimer && (f.links_at x.call x.place && reserved_fits g x.offset x.item)) e)

-- nobody has still to reserve
pub none_reserves : (g : Geometry) (w : Words) (flight : ℕ → Flight) (begun : ℕ → ℕ) (t : Spot) (names : Names) (contents : Contents) (range : ℕ → Option ℕ)
    → l.is_marking t.line ≡ false → FactsOf g w flight begun t names contents range
    → (k item c : ℕ) → k ≤ tasks g → hands_of g flight t k ≢ to_reserve item c
unfolding hands_of l.hand_of_spot
none_reserves g w flight begun t names contents range quiet h k item c within holds =
    let sh = shades_of g w flight t.line names in
    let means : KeptMeans g w (held_by g flight) t.line names sh = kept_means g w flight t.line names in
    let o : HoldsClaim w.cycle sh.grey range item c = h.claims_unreserved k item c within holds in
    elim (cases_lt k (tasks g)) [
      | inl below ↦
          let mine : hand_of_flight g (flight k) ≡ to_reserve item c = rw (lt-ltb k (tasks g) below) at holds in
          let p = hand_reserves g (flight k) item c mine in
          elim (reserves_item g sh.kept names w.register flight k below h.flights_formed h.loaded_good h.copied_stays h.registers_good p.0) [
            | inl null ↦ o.some (sym p.1 ∙ null)
            | inr good ↦
                let within : layout.reference_number item < numbers g = rw p.1 at ((means _ good.is_kept).within) in
                both_ways _ ((h.settled_from_sweep quiet).none_grey _ within) o.is_grey
          ]
      | inr above ↦
          let its : l.hand_at_line t t.line ≡ to_reserve item c = rw (le-ltb k (tasks g) above) at holds in
          neither (l.hand_at_line t t.line) ((quiet_line g t t.line quiet).no_hand) its
    ]
  where
    neither : (a : Hand) → a ≡ no_claim → a ≢ to_reserve item c
    neither a none some = absurd (cc)

-- so no claim is counted as one that has
pub none_counted : (hand : ℕ → Hand) (n : ℕ) → ((k item c : ℕ) → k < n → hand k ≢ to_reserve item c) → count_below n (λ k. f.is_to_reserve (hand k)) ≡ 0
unfolding f.is_to_reserve
none_counted hand n none = count_none (λ k. f.is_to_reserve (hand k)) n (λ k below. by_hand (hand k) (λ item c. none k item c below))
  where
    by_hand : (a : Hand) → ((item c : ℕ) → a ≢ to_reserve item c) → f.is_to_reserve a ≡ false
    by_hand no_claim none = refl
    by_hand (to_reserve item c) none = absurd (none item c refl)
    by_hand (to_link item c offset) none = refl
