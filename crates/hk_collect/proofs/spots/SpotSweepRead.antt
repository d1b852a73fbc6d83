-- The sweep loads the mark of a number. Where it is below the cycle, the number is written as the next entry; else the sweep goes
-- on to the next number. There is one as long as the list isn't full: numbers that are marked for the next cycle are on the list,
-- and those marked for this one are few, since in a settled state all that is reserved was scanned.
use Rattle.std.proofs.Common.{◌≡◌, ◌≢◌, ℕ, ◌+◌, ◌-◌, ◌*◌, ◌<◌, ◌≤◌, false, inl, inr, refl, sym, ◌∙◌, ap, subst, arith, Option}
use Rattle.std.proofs.lemmas.Bool.{cases_lt, ltb-true, lt-ltb, le-ltb, eq-eqb}
use Rattle.std.specs.Prelude.{nat_eq, nat_lt}
use Rattle.hk_words.specs.declared.geometry.Geometry.{Geometry}
use Rattle.hk_words.specs.Geometry.{tasks, numbers, list_length}
use Rattle.hk_core.specs.declared.flight.Flight.{Flight}
use Rattle.hk_core.specs.declared.spot.Spot.{Spot}
use Rattle.hk_core.specs.declared.spot.Line.{Line}
use Rattle.hk_core.specs.declared.spot.Line.TheVariants as line
use Rattle.hk_core.specs.declared.spot.Stage.{Stage}
use Rattle.hk_core.specs.declared.spot.Stage.TheVariants as stage
use Rattle.hk_core.specs.Counts.{count_below}
use Rattle.hk_core.specs.Collect.{next_list, sweep_took}
use Rattle.hk_core.specs.View.{Words, Names, Contents}
use Rattle.hk_core.specs.Flights as f
use Rattle.hk_core.specs.Flights.{Hand, to_reserve}
use Rattle.hk_core.specs.Lines as l
use Rattle.hk_core.specs.Colours.{Spaces, spaces_of, Shades, shades_of}
use Rattle.hk_core.specs.Facts as fact
use Rattle.hk_core.specs.Facts.{IsSettled}
use Rattle.hk_core.specs.Lawful.{Facts, FactsOf, hands_of}
use Rattle.hk_collect.proofs.spots.SpotRanges.{reaches}
use Rattle.hk_collect.proofs.spots.SpotSweepCounts.{count_listed, count_covers}
use Rattle.hk_collect.proofs.spots.SpotSweepLines.{sweep_spot, quiet_line, none_reserves, none_counted}
use Rattle.hk_collect.proofs.spots.Spots.{SpotFacts, on_spot}
use Rattle.hk_core.proofs.kinds.WriteCell.{ShadesMean, shades_mean}
use Rattle.hk_core.proofs.Shared.{never_some, refuted}
use Rattle.hk_collect.proofs.Small.{is_at}

-- THE SWEEP FINDS ENOUGH

module _ (g : Geometry) (w : Words) (z : Spaces) (sh : Shades) (flight : ℕ → Flight) (begun : ℕ → ℕ) (hand : ℕ → Hand) (t : Spot)
    (names : Names) (contents : Contents) (range : ℕ → Option ℕ) (h : Facts g w z sh flight begun hand t names contents range)
    (m : ShadesMean g w z sh flight t.line names) (live : z.live ≡ g.live) (n : ℕ) (s : Stage) (at_sweep : t.line ≡ line.Sweep n s)
    (none_in_hand : (k item c : ℕ) → k ≤ tasks g → hand k ≢ to_reserve item c) (swept : (k : ℕ) → k ≤ n → w.cycle ≤ w.mark k) where
  -- after a number that has at least the mark of the cycle, as all before it have, there is another, where the list isn't full
  pub another : t.entries < list_length g → n + 1 < numbers g
  unfolding l.is_marking l.is_resting l.is_sweeping_or_marking l.marked
  another room = elim (cases_lt (n + 1) (numbers g)) [
    | inl more ↦ more
    | inr last ↦
        let settled : IsSettled g w.cycle sh.white sh.grey w.register flight = h.settled_from_sweep (ap l.is_marking at_sweep) in
        let scanned : w.reserved ≤ t.scan = (reaches g w z sh flight begun hand t names contents range h m).all_scanned settled.none_grey in
        let within : t.scan ≤ z.live = (h.scan_bounded (ap l.is_resting at_sweep)).1 in
        let few : 2 * count_below (numbers g) (λ k. nat_eq (w.mark k) w.cycle) ≤ g.alloc + w.reserved + 2 * count_below (tasks g + 1) (λ k. f.is_to_reserve (hand k)) =
        h.marks_few (ap l.is_sweeping_or_marking at_sweep) in
        let none : count_below (tasks g + 1) (λ k. f.is_to_reserve (hand k)) ≡ 0 = none_counted hand (tasks g + 1) (λ k item c below. none_in_hand k item c (omega arith)) in
        let marked : l.marked g t t.line ≡ t.entries - l.unmarked_at s = ap (l.marked g t) at_sweep in
        let above : count_below (numbers g) (λ k. nat_lt w.cycle (w.mark k)) ≤ t.entries =
        count_listed t.entries (λ k. nat_lt w.cycle (w.mark k)) (w.entry (next_list w.cycle)) (numbers g) (λ k b e.
        let o = h.marks_above_are_written k b (ltb-true w.cycle (w.mark k) e) in
        let below : o.0 < l.marked g t t.line = o.1 in
        (o.0, omega arith, o.2)) in
        let all : numbers g ≤ count_below (numbers g) (λ k. nat_eq (w.mark k) w.cycle) + count_below (numbers g) (λ k. nat_lt w.cycle (w.mark k)) =
        count_covers (λ k. nat_eq (w.mark k) w.cycle) (λ k. nat_lt w.cycle (w.mark k)) (numbers g) (λ k b. elim (cases_lt w.cycle (w.mark k)) [
          | inl higher ↦ inr (lt-ltb w.cycle (w.mark k) higher)
          | inr lower ↦ let high : w.cycle ≤ w.mark k = swept k (omega arith) in inl (eq-eqb (w.mark k) w.cycle (omega arith))
        ]) in
        absurd (omega arith)
  ]

-- at a line of the sweep
pub room_for : (g : Geometry) (w : Words) (flight : ℕ → Flight) (begun : ℕ → ℕ) (t : Spot) (names : Names) (contents : Contents) (range : ℕ → Option ℕ) (n : ℕ) (s : Stage)
    → t.line ≡ line.Sweep n s → FactsOf g w flight begun t names contents range → w.cycle ≤ w.mark n → t.entries < list_length g → n + 1 < numbers g
unfolding l.is_marking l.sweeping
room_for g w flight begun t names contents range n s at_sweep h high =
    another g w (spaces_of g w.cycle) (shades_of g w flight t.line names) flight begun (hands_of g flight t) t names contents range h
    (shades_mean g w flight t.line names) refl n s at_sweep (none_reserves g w flight begun t names contents range (ap l.is_marking at_sweep) h)
    (λ k b. elim (cases_lt k n) [
      | inl below ↦ h.swept_marked n k (ap l.sweeping at_sweep) below
      | inr last ↦ let same : k ≡ n = omega arith in subst (λ k. w.cycle ≤ w.mark k) (sym same) high
    ])

-- THE NEXT LINE

-- a line to which the sweep goes on with its list as it is
pub record GoesSweeping (g : Geometry) (w : Words) (t : Spot) (ln : Line) : Type 0 where
  pub quiet : l.is_marking ln ≡ false
  pub is_busy : l.is_resting ln ≡ false
  pub written : l.written g (record t { line = ln }) ln ≡ t.entries
  pub marked : l.marked g (record t { line = ln }) ln ≡ t.entries
  pub emptied : l.emptied g (record t { line = ln }) ln ≡ t.entries
  pub cleared : l.cleared g ln ≡ 0
  pub in_step : l.InStep (list_length g) w.cycle t.entries w.mark (w.entry (next_list w.cycle)) ln
  pub fits : l.LineFits g (record t { line = ln }) ln
  pub swept : fact.SweptMarked w.cycle w.mark ln

module _ (g : Geometry) (w : Words) (t : Spot) where
  -- on to a number, to load its mark
  pub goes_to_number : (n : ℕ) → n < numbers g → t.entries < list_length g → ((k : ℕ) → k < n → w.cycle ≤ w.mark k) → GoesSweeping g w t (line.Sweep n stage.Read)
  unfolding l.is_marking l.is_resting l.sweeping l.written l.marked l.emptied l.cleared l.unmarked_at l.headed_at
  goes_to_number n fits room swept = record {
    quiet = refl;
    is_busy = refl;
    written = refl;
    marked = omega arith;
    emptied = omega arith;
    cleared = refl;
    in_step = room;
    fits = (fits, tt);
    swept = λ k j e below. let same : n ≡ k = is_at n k e in swept j (omega arith);
  }

  -- to write a number as an entry
  pub goes_to_write : (n : ℕ) → n < numbers g → t.entries < list_length g → w.mark n < w.cycle → ((k : ℕ) → k < n → w.cycle ≤ w.mark k) → GoesSweeping g w t (line.Sweep n stage.Write)
  unfolding l.is_marking l.is_resting l.sweeping l.written l.marked l.emptied l.cleared l.unmarked_at l.headed_at
  goes_to_write n fits room low swept = record {
    quiet = refl;
    is_busy = refl;
    written = refl;
    marked = omega arith;
    emptied = omega arith;
    cleared = refl;
    in_step = (room, low);
    fits = (fits, tt);
    swept = λ k j e below. let same : n ≡ k = is_at n k e in swept j (omega arith);
  }

  -- to the clearing, with a full list
  pub goes_to_clear : t.entries ≡ list_length g → GoesSweeping g w t (line.Clear 0)
  unfolding l.is_marking l.is_resting l.sweeping l.written l.marked l.emptied l.cleared
  goes_to_clear full =
      let enough = g.alloc_enough in
      record {
        quiet = refl;
        is_busy = refl;
        written = refl;
        marked = refl;
        emptied = refl;
        cleared = refl;
        in_step = full;
        fits = omega arith;
        swept = λ k j e. never_some e;
      }

-- THE LOAD

module _ (g : Geometry) (w : Words) (z : Spaces) (sh : Shades) (flight : ℕ → Flight) (begun : ℕ → ℕ) (hand : ℕ → Hand) (t : Spot)
    (names : Names) (contents : Contents) (range : ℕ → Option ℕ) (h : Facts g w z sh flight begun hand t names contents range)
    (n : ℕ) (at_read : t.line ≡ line.Sweep n stage.Read) (ln : Line) (o : GoesSweeping g w t ln) where
  -- the facts that read the spot after the load, on whichever line it goes on to
  pub read_spot : SpotFacts g w z sh flight hand (record t { line = ln }) names range
  unfolding l.is_marking l.is_resting l.is_sweeping_or_marking l.written l.marked l.emptied l.cleared l.unmarked_at l.headed_at
  read_spot =
      let busy : l.is_resting t.line ≡ false = ap l.is_resting at_read in
      let was_written : l.written g t t.line ≡ t.entries = ap (l.written g t) at_read in
      let was_marked : l.marked g t t.line ≡ t.entries - 0 = ap (l.marked g t) at_read in
      let was_emptied : l.emptied g t t.line ≡ t.entries - 0 = ap (l.emptied g t) at_read in
      let written = o.written in
      let marked = o.marked in
      let emptied = o.emptied in
      let cleared = o.cleared in
      sweep_spot g w z sh flight hand (record t { line = ln }) names range o.quiet (record {
        spot_knows_cycle = h.spot_knows_cycle;
        marks_above_are_written = λ k within above.
            let q = h.marks_above_are_written k within above in
            let below : q.0 < l.marked g t t.line = q.1 in
            (q.0, omega arith, q.2);
        moved_stands_in_range = λ e. h.moved_stands_in_range busy;
        unreserved_is_zero = λ e. h.unreserved_is_zero busy;
        unused_is_zero = λ e. refuted _ o.is_busy e;
        cleared_is_zero = λ i below. absurd (omega arith);
        nothing_reserved_at_rest = λ e. refuted _ o.is_busy e;
        ranges_below_moved = h.ranges_below_moved;
        ranges_above_grey = h.ranges_above_grey;
        scan_bounded = λ e. h.scan_bounded busy;
        marks_few = λ e. h.marks_few (ap l.is_sweeping_or_marking at_read);
        written_numbers = λ j below. h.written_numbers j (omega arith);
        written_distinct = λ i j lower below. h.written_distinct i j lower (omega arith);
        written_marked = λ j below. h.written_marked j (omega arith);
        written_empty = λ j below. h.written_empty j (omega arith);
        sweep_in_step = o.in_step;
        swept_marked = o.swept;
        spot_formed = o.fits;
        settled = h.settled_from_sweep (ap l.is_marking at_read);
      })

-- all facts hold after the sweep has loaded a mark
pub sweep_reads : (g : Geometry) (w : Words) (flight : ℕ → Flight) (begun : ℕ → ℕ) (t : Spot) (names : Names) (contents : Contents) (range : ℕ → Option ℕ) (n : ℕ)
    → t.line ≡ line.Sweep n stage.Read → FactsOf g w flight begun t names contents range
    → FactsOf g w flight begun (sweep_took g t n stage.Read (w.mark n)) names contents range
unfolding sweep_took l.is_marking l.hand_of_spot l.sweeping
sweep_reads g w flight begun t names contents range n at_read h =
    elim (cases_lt (w.mark n) w.cycle) [
      | inl low ↦ arrives (sym (took_write (omega arith))) (so (line.Sweep n stage.Write) (goes_to_write g w t n fits.0 room low swept))
      | inr high ↦ arrives (sym (took_on (omega arith))) (so (line.Sweep (n + 1) stage.Read)
          (goes_to_number g w t (n + 1) (room_for g w flight begun t names contents range n stage.Read at_read h high room) room (λ k b. elim (cases_lt k n) [
            | inl below ↦ swept k below
            | inr last ↦ let same : k ≡ n = omega arith in subst (λ k. w.cycle ≤ w.mark k) (sym same) high
          ])))
    ]
  where
    knows : t.cycle ≡ w.cycle
    knows = h.spot_knows_cycle

    fits : (n < numbers g) × l.IsSweepStage stage.Read
    fits = subst (l.LineFits g t) at_read h.spot_formed

    room : t.entries < list_length g
    room = subst (l.InStep (list_length g) w.cycle t.entries w.mark (w.entry (next_list w.cycle))) at_read h.sweep_in_step

    swept : (k : ℕ) → k < n → w.cycle ≤ w.mark k
    swept k below = h.swept_marked n k (ap l.sweeping at_read) below

    took_write : w.mark n < t.cycle → sweep_took g t n stage.Read (w.mark n) ≡ record t { line = line.Sweep n stage.Write }
    took_write low = rw (lt-ltb (w.mark n) t.cycle low) refl

    took_on : t.cycle ≤ w.mark n → sweep_took g t n stage.Read (w.mark n) ≡ record t { line = line.Sweep (n + 1) stage.Read }
    took_on high = rw (le-ltb (w.mark n) t.cycle high) refl

    arrives : {u v : Spot} → u ≡ v → FactsOf g w flight begun u names contents range → FactsOf g w flight begun v names contents range
    arrives e = subst (λ (u : Spot). FactsOf g w flight begun u names contents range) e

    so : (ln : Line) → GoesSweeping g w t ln → FactsOf g w flight begun (record t { line = ln }) names contents range
    so ln o =
        let t' = record t { line = ln } in
        let quiet : l.is_marking t.line ≡ false = ap l.is_marking at_read in
        on_spot g w flight begun t t' names contents range ((quiet_line g t' ln o.quiet).no_hand ∙ sym (quiet_line g t t.line quiet).no_hand) (o.quiet ∙ sym quiet) h
        (read_spot g w (spaces_of g w.cycle) (shades_of g w flight t.line names) flight begun (hands_of g flight t) t names contents range h n at_read ln o)
