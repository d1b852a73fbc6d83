-- The end of the cycle: no word is reserved any more, and the collector rests. Each range belongs to a kept object that stands in
-- it, so the words of the area for evacuation that lie in no kept object are those that lie in no range.
use Rattle.std.proofs.Common.{◌≡◌, ℕ, ◌+◌, ◌<◌, ◌≤◌, refl, sym, ◌∙◌, ap, subst, arith, Option, Some, None}
use Rattle.std.proofs.lemmas.Bool.{both_ways}
use Rattle.hk_words.specs.declared.geometry.Geometry.{Geometry}
use Rattle.hk_words.specs.Geometry.{list_length, space_words}
use Rattle.hk_core.specs.declared.flight.Flight.{Flight}
use Rattle.hk_core.specs.declared.spot.Spot.{Spot}
use Rattle.hk_core.specs.declared.spot.Line.TheVariants as line
use Rattle.hk_core.specs.Collect.{next_list}
use Rattle.hk_core.specs.View.{Words, Names, Contents, reference_at}
use Rattle.hk_core.specs.Flights.{Hand}
use Rattle.hk_core.specs.Lines as l
use Rattle.hk_core.specs.Colours.{Spaces, spaces_of, Shades, shades_of}
use Rattle.hk_core.specs.Facts as fact
use Rattle.hk_core.specs.Facts.{IsMoved}
use Rattle.hk_core.specs.Lawful.{Facts, FactsOf, hands_of}
use Rattle.hk_collect.proofs.spots.SpotClear.{ClearingLine, reset_line}
use Rattle.hk_collect.proofs.spots.SpotSweepLines.{sweep_spot, range_moved}
use Rattle.hk_collect.proofs.spots.Spots.{SpotFacts, hands_kept, shades_kept}
use Rattle.hk_core.proofs.kinds.WriteCell.{ShadesMean, shades_mean}
use Rattle.hk_core.proofs.Shared.{never_false, never_some}

-- no range
abbrev pub no_ranges : ℕ → Option ℕ
no_ranges x = None

module _ (g : Geometry) (w : Words) (z : Spaces) (sh : Shades) (flight : ℕ → Flight) (begun : ℕ → ℕ) (hand : ℕ → Hand) (t : Spot)
    (names : Names) (contents : Contents) (range : ℕ → Option ℕ) (h : Facts g w z sh flight begun hand t names contents range)
    (m : ShadesMean g w z sh flight t.line names) (at_reset : t.line ≡ line.Reset) where
  abbrev w' : Words
  w' = record w { reserved = 0 }

  abbrev t' : Spot
  t' = record t { line = line.Rest }

  here : ClearingLine g t t.line
  here = subst (ClearingLine g t) (sym at_reset) (reset_line g t)

  -- each range belongs to a kept number that stands in it
  stands : (x n : ℕ) → range x ≡ Some n → IsMoved z w.cycle t.scan sh.kept w.place w.mark sh.size x n
  stands = range_moved g w z sh flight begun hand t names contents range h m here.quiet

  its_spot : SpotFacts g w' z sh flight hand t' names no_ranges
  unfolding l.is_marking l.is_resting l.is_sweeping_or_marking l.sweeping l.written l.marked l.emptied l.cleared
  its_spot =
      let e : t.entries ≡ list_length g = here.full (list_length g) w.cycle t.entries w.mark (w.entry (next_list w.cycle)) h.sweep_in_step in
      let written : list_length g ≡ l.written g t t.line = sym (here.written ∙ e) in
      let marked : list_length g ≡ l.marked g t t.line = sym (here.marked ∙ e) in
      let emptied : list_length g ≡ l.emptied g t t.line = sym (here.emptied ∙ e) in
      let cleared : l.cleared g t.line ≡ space_words g = ap (l.cleared g) at_reset in
      sweep_spot g w' z sh flight hand t' names no_ranges refl (record {
        spot_knows_cycle = h.spot_knows_cycle;
        marks_above_are_written = λ n within above. let o = h.marks_above_are_written n within above in let b : o.0 < l.marked g t t.line = o.1 in (o.0, omega arith, o.2);
        moved_stands_in_range = λ e. never_false e;
        unreserved_is_zero = λ e. never_false e;
        unused_is_zero = λ rests x b free. h.unreserved_is_zero here.is_busy x b (λ y n there fits covers.
            let o = stands y n there in
            let place : w.place n ≡ z.current + y = o.stands in
            let after : y ≤ x = covers.after in
            let before : x < y + sh.size n = covers.before in
            free n o.is_kept (record { after = omega arith; before = omega arith }));
        cleared_is_zero = λ j b. h.cleared_is_zero j (omega arith);
        nothing_reserved_at_rest = λ e. refl;
        ranges_below_moved = λ x n e. never_some e;
        ranges_above_grey = λ x n e. never_some e;
        scan_bounded = λ e. never_false e;
        marks_few = λ e. absurd (cc);
        written_numbers = λ j b. h.written_numbers j (omega arith);
        written_distinct = λ j k a b. h.written_distinct j k a (omega arith);
        written_marked = λ j b. h.written_marked j (omega arith);
        written_empty = λ j b. h.written_empty j (omega arith);
        sweep_in_step = tt;
        swept_marked = λ n k e. never_some e;
        spot_formed = tt;
        settled = h.settled_from_sweep here.quiet;
      })

  pub reset_facts : Facts g w' z sh flight begun hand t' names contents no_ranges
  reset_facts =
      let spot : SpotFacts g w' z sh flight hand t' names no_ranges = its_spot in
      let within : fact.RangesWithin 0 sh.size no_ranges = λ x n e. never_some e in
      let join : fact.RangesJoin 0 sh.size no_ranges = λ x n e. never_some e in
      let first : fact.FirstRange 0 no_ranges = λ b. absurd (omega arith) in
      let apart : fact.RangesApart sh.size no_ranges = λ x n y e. never_some e in
      let one_each : fact.OneRangeEach no_ranges = λ x y n e. never_some e in
      let linked : fact.RangesLinked z sh.size w.cell (reference_at names) no_ranges = λ x n e. never_some e in
      let unreserved : fact.ClaimsUnreserved g w.cycle sh.grey no_ranges hand = λ k item c b e.
      let o = h.claims_unreserved k item c b e in
      record { some = o.some; of_cycle = o.of_cycle; is_grey = o.is_grey; unreserved = λ x there. never_some there } in
      let unlinked : fact.ClaimsUnlinked g z w.cycle sh.grey sh.size w.cell no_ranges hand = λ k item c offset b e.
      let o = h.claims_unlinked k item c offset b e in
      let moved = stands offset _ o.has_range in
      absurd (both_ways _ ((h.settled_from_sweep here.quiet).none_grey _ (m.kept _ moved.is_kept).within) o.is_grey) in
      let grey : fact.GreyWaits g sh.grey no_ranges hand = λ n b e. absurd (both_ways _ ((h.settled_from_sweep here.quiet).none_grey n b) e) in
      let waits : fact.UnlinkedWaits g z sh.size w.cell no_ranges hand = λ x n e. never_some e in
      assumption

-- all facts hold after the reset
pub reset : (g : Geometry) (w : Words) (flight : ℕ → Flight) (begun : ℕ → ℕ) (t : Spot) (names : Names) (contents : Contents) (range : ℕ → Option ℕ)
    → t.line ≡ line.Reset → FactsOf g w flight begun t names contents range
    → FactsOf g (record w { reserved = 0 }) flight begun (record t { line = line.Rest }) names contents no_ranges
unfolding shades_of l.hand_of_spot l.hand_at_line l.is_marking
reset g w flight begun t names contents range at_reset h =
    let t' = record t { line = line.Rest } in
    let hands : hands_of g flight t' ≡ hands_of g flight t = hands_kept g flight t t' (sym (ap (l.hand_at_line t) at_reset)) in
    let shades : shades_of g w flight line.Rest names ≡ shades_of g w flight t.line names = shades_kept g w flight t.line line.Rest names (sym (ap l.is_marking at_reset)) in
    rw (hands, shades)
    (reset_facts g w (spaces_of g w.cycle) (shades_of g w flight t.line names) flight begun (hands_of g flight t) t names contents range h
    (shades_mean g w flight t.line names) at_reset)
