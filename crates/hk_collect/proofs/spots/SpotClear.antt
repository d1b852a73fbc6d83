-- The clearing writes 0 to a word of the old space. Kept objects stand in the current space, so no word of theirs changes, and a
-- word that is said to be 0 stays so.
use Rattle.std.proofs.Common.{◌≡◌, ℕ, ◌+◌, ◌*◌, ◌<◌, ◌≤◌, true, false, inl, inr, refl, sym, ◌∙◌, ap, subst, arith, Option, None}
use Rattle.std.proofs.lemmas.Bool.{cases_lt, le-ltb, lt-ltb}
use Rattle.hk_words.specs.declared.geometry.Geometry.{Geometry}
use Rattle.hk_words.specs.Geometry.{list_length, space_words}
use Rattle.hk_words.specs.Row.{place_at}
use Rattle.hk_model.specs.View.{upd}
use Rattle.hk_model.proofs.Updates.{upd_other}
use Rattle.hk_core.specs.declared.flight.Flight.{Flight}
use Rattle.hk_core.specs.declared.spot.Spot.{Spot}
use Rattle.hk_core.specs.declared.spot.Line.{Line}
use Rattle.hk_core.specs.declared.spot.Line.TheVariants as line
use Rattle.hk_core.specs.Collect.{old_space, next_list, clear_took}
use Rattle.hk_core.specs.View.{Words, Names, Contents, reference_at}
use Rattle.hk_core.specs.Flights.{Hand}
use Rattle.hk_core.specs.Lines as l
use Rattle.hk_core.specs.Colours.{Spaces, spaces_of, Shades, shades_of}
use Rattle.hk_core.specs.Facts as fact
use Rattle.hk_core.specs.Lawful.{Facts, FactsOf, hands_of}
use Rattle.hk_core.proofs.Update.{upd_cases}
use Rattle.hk_core.proofs.kinds.LoadRead.{some_words}
use Rattle.hk_collect.proofs.spots.SpotSweepLines.{quiet_line, sweep_spot, kept_current}
use Rattle.hk_collect.proofs.spots.Spots.{SpotFacts, hands_kept, shades_kept}
use Rattle.hk_core.proofs.kinds.WriteCell.{ShadesMean, shades_mean}
use Rattle.hk_core.proofs.Shared.{never_both, refuted, size_borne}

-- what the tables say of a line on which the collector clears the old space, and after that
pub record ClearingLine (g : Geometry) (t : Spot) (ln : Line) : Type 0 where
  pub quiet : l.is_marking ln ≡ false
  pub is_busy : l.is_resting ln ≡ false
  pub sweeps_no_more : l.is_sweeping_or_marking ln ≡ false
  pub sweeps_none : l.sweeping ln ≡ None
  pub written : l.written g t ln ≡ t.entries
  pub marked : l.marked g t ln ≡ t.entries
  pub emptied : l.emptied g t ln ≡ t.entries
  pub full : (length cycle entries : ℕ) (mark next : ℕ → ℕ) → l.InStep length cycle entries mark next ln → entries ≡ length
  pub in_step : (length cycle entries : ℕ) (mark next : ℕ → ℕ) → entries ≡ length → l.InStep length cycle entries mark next ln

pub clearing_line : (g : Geometry) (t : Spot) (i : ℕ) → ClearingLine g t (line.Clear i)
unfolding l.is_marking l.is_resting l.is_sweeping_or_marking l.sweeping l.written l.marked l.emptied
clearing_line g t i = record { quiet = refl; is_busy = refl; sweeps_no_more = refl; sweeps_none = refl; written = refl; marked = refl; emptied = refl; full = λ _ _ _ _ _ h. h; in_step = λ _ _ _ _ _ h. h }

pub reset_line : (g : Geometry) (t : Spot) → ClearingLine g t line.Reset
unfolding l.is_marking l.is_resting l.is_sweeping_or_marking l.sweeping l.written l.marked l.emptied
reset_line g t = record { quiet = refl; is_busy = refl; sweeps_no_more = refl; sweeps_none = refl; written = refl; marked = refl; emptied = refl; full = λ _ _ _ _ _ h. h; in_step = λ _ _ _ _ _ h. h }

module _ (g : Geometry) (w : Words) (z : Spaces) (sh : Shades) (flight : ℕ → Flight) (begun : ℕ → ℕ) (hand : ℕ → Hand) (t : Spot)
    (names : Names) (contents : Contents) (range : ℕ → Option ℕ) (h : Facts g w z sh flight begun hand t names contents range)
    (m : ShadesMean g w z sh flight t.line names) (i p : ℕ) (ln : Line) (at_clear : t.line ≡ line.Clear i) (there : p ≡ z.old + i)
    (next : ClearingLine g t ln) (fits : l.LineFits g (record t { line = ln }) ln) (goes : l.cleared g ln ≤ i + 1) where
  abbrev cell' : ℕ → ℕ
  cell' = upd w.cell p 0

  abbrev w' : Words
  w' = record w { cell = cell' }

  abbrev t' : Spot
  t' = record t { line = ln }

  here : ClearingLine g t t.line
  here = subst (ClearingLine g t) (sym at_clear) (clearing_line g t i)

  -- a word that was 0 stays so
  zero : (q : ℕ) → w.cell q ≡ 0 → cell' q ≡ 0
  zero q e = elim (upd_cases w.cell p 0 q) [ inl (same, u) ↦ u | inr (differ, u) ↦ u ∙ e ]

  within : i < space_words g
  within = subst (l.LineFits g t) at_clear h.spot_formed

  -- a word of a kept object stays what it was
  kept_word : (n j : ℕ) → sh.kept n ≡ true → j < sh.size n → cell' (w.place n + j) ≡ w.cell (w.place n + j)
  kept_word n j kept below =
      let new = kept_current g w z sh flight begun hand t names contents range h m here.quiet n kept in
      let a : z.current ≤ w.place n = new.after in
      let b : w.place n + sh.size n ≤ z.current + (z.live + z.alloc) = new.before in
      let whole : space_words g ≡ z.live + z.alloc = m.whole in
      let few : i < space_words g = within in
      upd_other w.cell p 0 (w.place n + j) (λ same. elim m.spaces [ inl c ↦ omega arith | inr c ↦ omega arith ])

  its_spot : SpotFacts g w' z sh flight hand t' names range
  unfolding l.cleared l.written l.marked l.emptied
  its_spot =
      let e : t.entries ≡ list_length g = here.full (list_length g) w.cycle t.entries w.mark (w.entry (next_list w.cycle)) h.sweep_in_step in
      let busy : l.is_resting ln ≡ l.is_resting t.line = next.is_busy ∙ sym here.is_busy in
      let written : l.written g t' ln ≡ l.written g t t.line = next.written ∙ sym here.written in
      let marked : l.marked g t' ln ≡ l.marked g t t.line = next.marked ∙ sym here.marked in
      let emptied : l.emptied g t' ln ≡ l.emptied g t t.line = next.emptied ∙ sym here.emptied in
      let before : l.cleared g t.line ≡ i = ap (l.cleared g) at_clear in
      sweep_spot g w' z sh flight hand t' names range next.quiet (record {
        spot_knows_cycle = h.spot_knows_cycle;
        marks_above_are_written = rw marked h.marks_above_are_written;
        moved_stands_in_range = rw busy h.moved_stands_in_range;
        unreserved_is_zero = λ e x b none. zero _ (h.unreserved_is_zero here.is_busy x b none);
        unused_is_zero = λ e. refuted _ next.is_busy e;
        cleared_is_zero = λ j b. elim (cases_lt j i) [
          | inl below ↦ zero _ (h.cleared_is_zero j (omega arith))
          | inr last ↦ elim (upd_cases w.cell p 0 (z.old + j)) [ inl (same, u) ↦ u | inr (differ, u) ↦ absurd (differ (omega arith)) ]
        ];
        nothing_reserved_at_rest = rw busy h.nothing_reserved_at_rest;
        ranges_below_moved = h.ranges_below_moved;
        ranges_above_grey = h.ranges_above_grey;
        scan_bounded = rw busy h.scan_bounded;
        marks_few = λ e. refuted _ next.sweeps_no_more e;
        written_numbers = rw written h.written_numbers;
        written_distinct = rw written h.written_distinct;
        written_marked = rw marked h.written_marked;
        written_empty = rw emptied h.written_empty;
        sweep_in_step = next.in_step (list_length g) w.cycle t.entries w.mark (w.entry (next_list w.cycle)) e;
        swept_marked = λ n k e. never_both _ n next.sweeps_none e;
        spot_formed = fits;
        settled = h.settled_from_sweep here.quiet;
      })

  pub clear_facts : Facts g w' z sh flight begun hand t' names contents range
  clear_facts =
      let spot : SpotFacts g w' z sh flight hand t' names range = its_spot in
      let links : fact.LinksShown sh.kept names w.place cell' contents.link = λ n b kept borne j below.
      let size : sh.size n ≡ 1 + names.refs b + names.nums b = m.size n ∙ size_borne names n b borne in
      let at : w.place n + 1 + j ≡ w.place n + (1 + j) = omega arith in
      ap cell' at ∙ kept_word n (1 + j) kept (omega arith) ∙ ap w.cell (sym at) ∙ h.links_shown n b kept borne j below in
      let values : fact.ValuesShown sh.kept names w.place cell' contents.value = λ n b kept borne j below.
      let size : sh.size n ≡ 1 + names.refs b + names.nums b = m.size n ∙ size_borne names n b borne in
      let at : w.place n + 1 + names.refs b + j ≡ w.place n + (1 + names.refs b + j) = omega arith in
      ap cell' at ∙ kept_word n (1 + names.refs b + j) kept (omega arith) ∙ ap w.cell (sym at) ∙ h.values_shown n b kept borne j below in
      let free : fact.FreeIsZero z sh.kept w.place sh.size cell' = λ j b none. zero _ (h.free_is_zero j b none) in
      let linked : fact.RangesLinked z sh.size cell' (reference_at names) range = λ x n e b. elim (upd_cases w.cell p 0 (z.current + x)) [
        | inl (same, u) ↦ inl u
        | inr (differ, u) ↦ elim (h.ranges_linked x n e b) [ inl none ↦ inl (u ∙ none) | inr some ↦ inr (u ∙ some) ]
      ] in
      let claims : fact.ClaimsUnlinked g z w.cycle sh.grey sh.size cell' range hand = λ k item c offset b e.
      let o = h.claims_unlinked k item c offset b e in
      record { some = o.some; of_cycle = o.of_cycle; is_grey = o.is_grey; has_range = o.has_range; fits = o.fits; unlinked = zero _ o.unlinked } in
      let clean : fact.NewsClean g cell' flight = λ s j b making below. zero _ (h.news_clean s j b making below) in
      let waits : fact.UnlinkedWaits g z sh.size cell' range hand = λ x n e b none.
      let some : 0 < sh.size n = some_words names sh.size n (m.size n) in
      let whole : space_words g ≡ z.live + z.alloc = m.whole in
      let few : i < space_words g = within in
      let same : cell' (z.current + x) ≡ w.cell (z.current + x) = upd_other w.cell p 0 (z.current + x) (λ same. elim m.spaces [ inl c ↦ omega arith | inr c ↦ omega arith ]) in
      h.unlinked_waits x n e b (sym same ∙ none) in
      assumption

-- all facts hold after a word of the old space was cleared
pub clear : (g : Geometry) (w : Words) (flight : ℕ → Flight) (begun : ℕ → ℕ) (t : Spot) (names : Names) (contents : Contents) (range : ℕ → Option ℕ) (i : ℕ)
    → t.line ≡ line.Clear i → FactsOf g w flight begun t names contents range
    → FactsOf g (record w { cell = upd w.cell (place_at g (old_space w.cycle) i) 0 }) flight begun (clear_took g t i) names contents range
unfolding shades_of l.hand_of_spot l.cleared clear_took
clear g w flight begun t names contents range i at_clear h =
    elim (cases_lt (i + 1) (space_words g)) [
      | inl more ↦ arrives (sym (took_on more)) (so (line.Clear (i + 1)) (clearing_line g t (i + 1)) more (omega arith))
      | inr all ↦ arrives (sym (took_last all)) (so line.Reset (reset_line g t) tt all)
    ]
  where
    took_on : i + 1 < space_words g → clear_took g t i ≡ record t { line = line.Clear (i + 1) }
    took_on more = rw (lt-ltb (i + 1) (space_words g) more) refl

    took_last : space_words g ≤ i + 1 → clear_took g t i ≡ record t { line = line.Reset }
    took_last all = rw (le-ltb (i + 1) (space_words g) all) refl

    arrives : {u v : Spot} → u ≡ v → FactsOf g (record w { cell = upd w.cell (place_at g (old_space w.cycle) i) 0 }) flight begun u names contents range
        → FactsOf g (record w { cell = upd w.cell (place_at g (old_space w.cycle) i) 0 }) flight begun v names contents range
    arrives e = subst (λ (u : Spot). FactsOf g (record w { cell = upd w.cell (place_at g (old_space w.cycle) i) 0 }) flight begun u names contents range) e

    from_start : (from i : ℕ) → 1 + from + i ≡ 1 + from + 0 + i
    from_start from i = omega arith

    so : (ln : Line) → ClearingLine g t ln → l.LineFits g (record t { line = ln }) ln → l.cleared g ln ≤ i + 1
        → FactsOf g (record w { cell = upd w.cell (place_at g (old_space w.cycle) i) 0 }) flight begun (record t { line = ln }) names contents range
    so ln next fits goes =
        let t' = record t { line = ln } in
        let w' = record w { cell = upd w.cell (place_at g (old_space w.cycle) i) 0 } in
        let quiet : l.is_marking t.line ≡ false = (subst (ClearingLine g t) (sym at_clear) (clearing_line g t i)).quiet in
        let hands : hands_of g flight t' ≡ hands_of g flight t =
        hands_kept g flight t t' ((quiet_line g t' ln next.quiet).no_hand ∙ sym (quiet_line g t t.line quiet).no_hand) in
        let shades : shades_of g w' flight ln names ≡ shades_of g w flight t.line names = shades_kept g w flight t.line ln names (next.quiet ∙ sym quiet) in
        rw (hands, shades)
        (clear_facts g w (spaces_of g w.cycle) (shades_of g w flight t.line names) flight begun (hands_of g flight t) t names contents range h
        (shades_mean g w flight t.line names) i (place_at g (old_space w.cycle) i) ln at_clear (from_start (old_space w.cycle * space_words g) i) next fits goes)
