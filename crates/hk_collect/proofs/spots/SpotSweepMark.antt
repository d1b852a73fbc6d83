-- The sweep marks the number that it has put on the list for the next cycle. The number isn't kept, nor is it one of the unread
-- rest or of a New; it isn't white any more, and no other shade changes.
use Rattle.std.proofs.Common.{◌≡◌, ℕ, ◌+◌, ◌-◌, ◌<◌, ◌≤◌, Bool, true, false, inl, inr, refl, sym, ◌∙◌, ap, subst, arith, Option}
use Rattle.std.proofs.lemmas.Bool.{cases_lt, and_right, ne_eqb, le-ltb}
use Rattle.std.specs.Prelude.{nat_eq, nat_lt, not, ◌&&◌, ◌||◌, is_some}
use Rattle.hk_words.specs.declared.geometry.Geometry.{Geometry}
use Rattle.hk_words.specs.Geometry.{numbers, list_length}
use Rattle.hk_words.specs.Layout as layout
use Rattle.hk_model.specs.View.{upd}
use Rattle.hk_model.proofs.Updates.{upd_same, upd_other}
use Rattle.hk_core.specs.declared.flight.Flight.{Flight}
use Rattle.hk_core.specs.declared.spot.Spot.{Spot}
use Rattle.hk_core.specs.declared.spot.Line.TheVariants as line
use Rattle.hk_core.specs.declared.spot.Stage.TheVariants as stage
use Rattle.hk_core.specs.Counts.{count_below}
use Rattle.hk_core.specs.Collect.{current_space, next_list}
use Rattle.hk_core.specs.View.{Words, Names, Contents}
use Rattle.hk_core.specs.Flights as f
use Rattle.hk_core.specs.Flights.{Hand}
use Rattle.hk_core.specs.Lines as l
use Rattle.hk_core.specs.Colours.{Spaces, spaces_of, Shades, shades_of, held_by, kept_by, white_by, grey_by, black_by, is_fresh, is_within, NamesNoWhite}
use Rattle.hk_core.specs.Facts as fact
use Rattle.hk_core.specs.Facts.{IsSettled}
use Rattle.hk_core.specs.Lawful.{Facts, FactsOf, hands_of}
use Rattle.hk_core.proofs.Update.{upd_cases}
use Rattle.hk_core.proofs.Counts.{count_kept}
use Rattle.hk_core.proofs.kinds.NewRaise.{making_raised}
use Rattle.hk_collect.proofs.spots.SpotSweepLines.{sweep_spot, kept_marked}
use Rattle.hk_collect.proofs.spots.Spots.{SpotFacts, hands_kept}
use Rattle.hk_core.proofs.kinds.WriteCell.{ShadesMean, shades_mean}
use Rattle.hk_core.proofs.Shared.{never_false}
use Rattle.hk_collect.proofs.Small.{is_at}

module _ (g : Geometry) (w : Words) (z : Spaces) (sh : Shades) (flight : ℕ → Flight) (begun : ℕ → ℕ) (hand : ℕ → Hand) (t : Spot)
    (names : Names) (contents : Contents) (range : ℕ → Option ℕ) (h : Facts g w z sh flight begun hand t names contents range)
    (m : ShadesMean g w z sh flight t.line names) (n : ℕ) (at_mark : t.line ≡ line.Sweep n stage.Mark) (white' : ℕ → Bool)
    (darker : (k : ℕ) → sh.white k ≡ false → white' k ≡ false) where
  -- the entries of the next cycle, and the marks after the event
  abbrev next : ℕ → ℕ
  next = w.entry (next_list w.cycle)

  abbrev mark' : ℕ → ℕ
  mark' = upd w.mark n (w.cycle + 1)

  abbrev w' : Words
  w' = record w { mark = mark' }

  abbrev t' : Spot
  t' = record t { line = line.Sweep n stage.Empty }

  abbrev sh' : Shades
  sh' = record sh { white = white' }

  quiet : l.is_marking t.line ≡ false
  unfolding l.is_marking
  quiet = ap l.is_marking at_mark

  settled : IsSettled g w.cycle sh.white sh.grey w.register flight
  settled = h.settled_from_sweep quiet

  in_step : (0 < t.entries) × (t.entries ≤ list_length g) × (next (t.entries - 1) ≡ n) × (w.mark n < w.cycle)
  in_step = subst (l.InStep (list_length g) w.cycle t.entries w.mark next) at_mark h.sweep_in_step

  pub mark_low : w.mark n < w.cycle
  mark_low = in_step.3

  was_written : l.written g t t.line ≡ t.entries
  unfolding l.written
  was_written = ap (l.written g t) at_mark

  was_marked : l.marked g t t.line ≡ t.entries - 1
  unfolding l.marked l.unmarked_at
  was_marked = ap (l.marked g t) at_mark

  was_emptied : l.emptied g t t.line ≡ t.entries - 1
  unfolding l.emptied l.headed_at
  was_emptied = ap (l.emptied g t) at_mark

  -- a number with another mark than a low one keeps it
  unmarked : (k : ℕ) → w.cycle ≤ w.mark k → mark' k ≡ w.mark k
  unmarked k high = let low = mark_low in upd_other w.mark n (w.cycle + 1) k (λ same. let e : w.mark k ≡ w.mark n = ap w.mark same in absurd (omega arith))

  kept_unmarked : (k : ℕ) → sh.kept k ≡ true → mark' k ≡ w.mark k
  kept_unmarked k kept =
      let marked : w.mark k ≡ w.cycle = kept_marked g w z sh flight begun hand t names contents range h m quiet k kept in
      unmarked k (omega arith)

  -- no mark falls
  marks_rise : (k : ℕ) → w.mark k ≤ mark' k
  marks_rise k = let low = mark_low in elim (upd_cases w.mark n (w.cycle + 1) k) [
    | inl (same, u) ↦ let e : w.mark k ≡ w.mark n = ap w.mark same in omega arith
    | inr (differ, u) ↦ omega arith
  ]

  still_dark : (word : ℕ) → NamesNoWhite sh.white word → NamesNoWhite white' word
  still_dark word (inl null) = inl null
  still_dark word (inr dark) = inr (darker _ dark)

  its_spot : SpotFacts g w' z sh' flight hand t' names range
  unfolding l.is_marking l.is_resting l.is_sweeping_or_marking l.sweeping l.written l.marked l.emptied l.cleared l.unmarked_at l.headed_at
  its_spot =
      let some : 0 < t.entries = in_step.0 in
      let few : t.entries ≤ list_length g = in_step.1 in
      let here : next (t.entries - 1) ≡ n = in_step.2 in
      let low : w.mark n < w.cycle = mark_low in
      let a = was_marked in
      let b = was_written in
      let c = was_emptied in
      let fits : n < numbers g = (subst (l.LineFits g t) at_mark h.spot_formed).0 in
      let busy : l.is_resting t.line ≡ false = ap l.is_resting at_mark in
      let sweeps : l.is_sweeping_or_marking t.line ≡ true = ap l.is_sweeping_or_marking at_mark in
      sweep_spot g w' z sh' flight hand t' names range refl (record {
        spot_knows_cycle = h.spot_knows_cycle;
        marks_above_are_written = λ k within above. elim (upd_cases w.mark n (w.cycle + 1) k) [
          | inl (same, u) ↦ (t.entries - 1, omega arith, here ∙ sym same)
          | inr (differ, u) ↦
              let o = h.marks_above_are_written k within (omega arith) in
              let below : o.0 < l.marked g t t.line = o.1 in
              (o.0, omega arith, o.2)
        ];
        moved_stands_in_range = λ e. h.moved_stands_in_range busy;
        unreserved_is_zero = λ e. h.unreserved_is_zero busy;
        unused_is_zero = λ e. never_false (sym e);
        cleared_is_zero = λ i d. absurd (omega arith);
        nothing_reserved_at_rest = λ e. never_false (sym e);
        ranges_below_moved = λ x k there below.
            let o = h.ranges_below_moved x k there below in
            record { is_kept = o.is_kept; is_claimed = kept_unmarked k o.is_kept ∙ o.is_claimed; stands = o.stands; ends = o.ends };
        ranges_above_grey = h.ranges_above_grey;
        scan_bounded = λ e. h.scan_bounded busy;
        marks_few = λ e.
            let was = h.marks_few sweeps in
            let same : count_below (numbers g) (λ k. nat_eq (mark' k) w.cycle) ≡ count_below (numbers g) (λ k. nat_eq (w.mark k) w.cycle) =
            count_kept (λ v. nat_eq v w.cycle) w.mark n (w.cycle + 1) (numbers g) (ne_eqb (w.cycle + 1) w.cycle (omega arith) ∙ sym (ne_eqb (w.mark n) w.cycle (omega arith))) in
            omega arith;
        written_numbers = λ j below. h.written_numbers j (omega arith);
        written_distinct = λ i j lower below. h.written_distinct i j lower (omega arith);
        written_marked = λ j below. elim (cases_lt j (t.entries - 1)) [
          | inl before ↦ let marked : w.mark (next j) ≡ w.cycle + 1 = h.written_marked j (omega arith) in unmarked (next j) (omega arith) ∙ marked
          | inr last ↦ let same : j ≡ t.entries - 1 = omega arith in ap mark' (ap next same ∙ here) ∙ upd_same w.mark n (w.cycle + 1)
        ];
        written_empty = λ j below. h.written_empty j (omega arith);
        sweep_in_step = (some, few, here);
        swept_marked = λ k j e below.
            let same : n ≡ k = is_at n k e in
            let high : w.cycle ≤ w.mark j = h.swept_marked n j (ap l.sweeping at_mark) (omega arith) in
            let rise = marks_rise j in
            omega arith;
        spot_formed = (fits, tt);
        settled = record {
          none_grey = settled.none_grey;
          none_late = settled.none_late;
          registers = λ s r b c. still_dark _ (settled.registers s r b c);
          entered = λ s b e. still_dark _ (settled.entered s b e);
          items = λ s b e. still_dark _ (settled.items s b e);
        };
      })

  pub sweep_mark_facts : Facts g w' z sh' flight begun hand t' names contents range
  sweep_mark_facts =
      let spot : SpotFacts g w' z sh' flight hand t' names range = its_spot in
      let old : fact.UnclaimedIsOld z w.cycle sh.kept w.place mark' sh.size = λ k kept below. h.unclaimed_is_old k kept (let e = kept_unmarked k kept in omega arith) in
      let unread : fact.UnreadFree g w.cycle w.objects w.accessors w.place w.version mark' (w.entry (current_space w.cycle)) = λ j a b.
      let o = h.unread_free j a b in
      let marked : w.mark (w.entry (current_space w.cycle) j) ≡ w.cycle = o.is_marked in
      record { within = o.within; no_header = o.no_header; is_marked = unmarked _ (omega arith) ∙ marked } in
      let own : fact.OwnEntries g w.accessors w.place w.version mark' w.entry flight = λ s b making.
      let o = h.own_entries s b making in
      let now : f.cycle_of (flight s) ≡ w.cycle = settled.none_late s b (making_raised (flight s) (h.news_in_step s b) making) in
      let marked : w.mark (fact.own_entry w.entry (flight s)) ≡ f.cycle_of (flight s) = o.is_marked in
      record { within = o.within; is_marked = unmarked _ (omega arith) ∙ marked; no_accessors = o.no_accessors; no_version = o.no_version; placed = o.placed } in
      let claims : fact.ClaimsLast g mark' flight = λ s b e.
      let was : f.cycle_of (flight s) ≤ w.mark (layout.reference_number (flight s).item) = h.claims_last s b e in
      let rise = marks_rise (layout.reference_number (flight s).item) in
      omega arith in
      let black_leads : fact.BlackLeadsToNoWhite white' sh.black sh.kept names contents.link = λ k b kept black borne i child within holds.
      darker _ (h.black_leads_to_no_white k b kept black borne i child within holds) in
      let black_frames : fact.BlackFrameHasNoWhite g white' sh.black_frame w.register = λ s r b c black. still_dark _ (h.black_frame_has_no_white s r b c black) in
      let loaded : fact.LoadedWhiteFromNoBlack g white' sh.black flight = λ s b e black. still_dark _ (h.loaded_white_from_no_black s b e black) in
      let entered : fact.EnteredWhiteInNoBlackFrame g white' sh.black_frame flight = λ s b e black. still_dark _ (h.entered_white_in_no_black_frame s b e black) in
      assumption

-- THE SHADES

module _ (cycle n : ℕ) (mark : ℕ → ℕ) (low : mark n < cycle) where
  -- a mark that was below the cycle and is above it isn't that of the cycle
  marked_now : (k : ℕ) → nat_eq (upd mark n (cycle + 1) k) cycle ≡ nat_eq (mark k) cycle
  marked_now k = elim (upd_cases mark n (cycle + 1) k) [
    | inl (same, u) ↦ let e : mark k ≡ mark n = ap mark same in ne_eqb (upd mark n (cycle + 1) k) cycle (omega arith) ∙ sym (ne_eqb (mark k) cycle (omega arith))
    | inr (differ, u) ↦ ap (λ v. nat_eq v cycle) u
  ]

  same_grey : (z : Spaces) (place : ℕ → ℕ) → grey_by z cycle place (upd mark n (cycle + 1)) ≡ grey_by z cycle place mark
  same_grey z place = λ i k. marked_now k i && is_within z z.old (place k)

  same_black : (z : Spaces) (place : ℕ → ℕ) → black_by z cycle place (upd mark n (cycle + 1)) ≡ black_by z cycle place mark
  same_black z place = λ i k. marked_now k i && is_within z z.current (place k)

  same_fresh : (k : ℕ) → is_fresh cycle false (upd mark n (cycle + 1) k) ≡ is_fresh cycle false (mark k)
  same_fresh k = ap (λ b. b || false) (marked_now k)

  less_white : (place : ℕ → ℕ) (k : ℕ) → white_by cycle place mark k ≡ false → white_by cycle place (upd mark n (cycle + 1)) k ≡ false
  less_white place k dark = elim (upd_cases mark n (cycle + 1) k) [
    | inl (same, u) ↦ and_right (not (nat_eq (place k) 0)) _ (le-ltb (upd mark n (cycle + 1) k) cycle (omega arith))
    | inr (differ, u) ↦ ap (λ v. not (nat_eq (place k) 0) && nat_lt v cycle) u ∙ dark
  ]

-- all facts hold after the sweep has marked the number
pub sweep_marks : (g : Geometry) (w : Words) (flight : ℕ → Flight) (begun : ℕ → ℕ) (t : Spot) (names : Names) (contents : Contents) (range : ℕ → Option ℕ) (n : ℕ)
    → t.line ≡ line.Sweep n stage.Mark → FactsOf g w flight begun t names contents range
    → FactsOf g (record w { mark = upd w.mark n (w.cycle + 1) }) flight begun (record t { line = line.Sweep n stage.Empty }) names contents range
unfolding shades_of l.hand_of_spot l.hand_at_line l.is_marking
sweep_marks g w flight begun t names contents range n at_mark h =
    let t' = record t { line = line.Sweep n stage.Empty } in
    let z = spaces_of g w.cycle in
    let sh = shades_of g w flight t.line names in
    let held = held_by g flight in
    let mark' = upd w.mark n (w.cycle + 1) in
    let white' = white_by w.cycle w.place mark' in
    let m : ShadesMean g w z sh flight t.line names = shades_mean g w flight t.line names in
    let darker : (k : ℕ) → sh.white k ≡ false → white' k ≡ false = less_white w.cycle n w.mark (low h) w.place in
    let hands : hands_of g flight t' ≡ hands_of g flight t = hands_kept g flight t t' (sym (ap (l.hand_at_line t) at_mark)) in
    let marks : false ≡ l.is_marking t.line = sym (ap l.is_marking at_mark) in
    let kept : kept_by g w.cycle false held names.bearer w.place mark' ≡ sh.kept = λ i k.
    (ap (λ (b : Bool). (nat_lt k (numbers g) && (is_some (names.bearer k) && not (held k))) && (not (nat_eq (w.place k) 0) && b)) (same_fresh w.cycle n w.mark (low h) k)
    ∙ ap (λ (b : Bool). kept_by g w.cycle b held names.bearer w.place w.mark k) marks) i in
    let shades : shades_of g (record w { mark = mark' }) flight (line.Sweep n stage.Empty) names ≡ record sh { white = white' } = λ i. record {
      white = white';
      grey = same_grey w.cycle n w.mark (low h) z w.place i;
      black = same_black w.cycle n w.mark (low h) z w.place i;
      black_frame = sh.black_frame;
      kept = kept i;
      size = sh.size;
    } in
    rw (hands, shades)
    (sweep_mark_facts g w z sh flight begun (hands_of g flight t) t names contents range h m n at_mark white' darker)
  where
    low : FactsOf g w flight begun t names contents range → w.mark n < w.cycle
    low h = (subst (l.InStep (list_length g) w.cycle t.entries w.mark (w.entry (next_list w.cycle))) at_mark h.sweep_in_step).3
