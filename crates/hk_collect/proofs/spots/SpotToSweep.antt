-- The step into the sweep: the pass has come to the end, and no number is grey. The state is settled then. No word changes, but
-- the collector looks for no objects any more: white numbers aren't kept from here on, and no register word and no reference of a
-- call in flight names one.
use Rattle.std.proofs.Common.{◌≡◌, ◌≢◌, ◌⊎◌, ℕ, ◌+◌, ◌*◌, ◌<◌, ◌≤◌, Bool, true, false, inl, inr, refl, sym, ◌∙◌, ap, arith, Option, Some}
use Rattle.std.proofs.lemmas.Bool.{cases_Bool, or_cases, and_parts, and_from, and_left, eqb-true, eq-eqb, ne_eqb, le-leb, lt-ltb}
use Rattle.std.proofs.lemmas.Bool.Decides.{nat_tests}
use Rattle.std.specs.Prelude.{nat_eq, nat_le, nat_lt, ◌&&◌}
use Rattle.hk_words.specs.declared.geometry.Geometry.{Geometry}
use Rattle.hk_words.specs.declared.call.Call.{Call}
use Rattle.hk_words.specs.declared.call.Call.TheVariants as call
use Rattle.hk_words.specs.Geometry.{tasks, numbers, list_length, space_words}
use Rattle.hk_core.specs.declared.flight.Flight.{Flight}
use Rattle.hk_core.specs.declared.spot.Spot.{Spot}
use Rattle.hk_core.specs.declared.spot.Line.TheVariants as line
use Rattle.hk_core.specs.declared.spot.Stage.TheVariants as stage
use Rattle.hk_core.specs.Collect.{old_space, next_list, is_in_space}
use Rattle.hk_core.specs.View.{Words, Names, Contents}
use Rattle.hk_core.specs.Flights as f
use Rattle.hk_core.specs.Flights.{Hand}
use Rattle.hk_core.specs.Lines as l
use Rattle.hk_core.specs.Colours.{Spaces, InOld, spaces_of, Shades, shades_of, held_by, kept_by, is_fresh, Covers, IsGood, IsNullOrGood, IsNullOrKept, NamesNoWhite}
use Rattle.hk_core.specs.Facts as fact
use Rattle.hk_core.specs.Facts.{IsSettled}
use Rattle.hk_core.specs.Lawful.{Facts, FactsOf, hands_of}
use Rattle.hk_core.proofs.kinds.LoadRead.{ColoursMean, colours_mean, kept_number, settled_black, shown_birth, some_words}
use Rattle.hk_core.proofs.kinds.Seats.{IsKept, kept_parts}
use Rattle.hk_collect.proofs.spots.SpotSweepLines.{sweep_spot}
use Rattle.hk_collect.proofs.spots.Spots.{SpotFacts, MarkingLine, marking_line, hands_kept}
use Rattle.hk_core.proofs.kinds.WriteCell.{IsGreyIn, ShadesMean, shades_mean, fresh_when_done}
use Rattle.hk_core.proofs.Shared.{never, refuted}

-- REFERENCES

-- the mark of a kept number is that of the cycle, or of the one before
fresh_cases : (cycle : ℕ) (marking : Bool) (mark : ℕ) → is_fresh cycle marking mark ≡ true → (mark ≡ cycle) ⊎ (mark + 1 ≡ cycle)
fresh_cases cycle marking mark fresh = elim (or_cases (nat_eq mark cycle) _ fresh) [
  | inl e ↦ inl (eqb-true mark cycle e)
  | inr e ↦ inr (eqb-true (mark + 1) cycle (and_parts _ _ e).1)
]

fresh_now : (cycle : ℕ) (marking : Bool) (mark : ℕ) → mark ≡ cycle → is_fresh cycle marking mark ≡ true
fresh_now cycle marking mark e = rw (eq-eqb mark cycle e) refl

-- a Load that holds back a register has an item, and so has one that has read it
held_has_item : (call : Call) (place reg : ℕ) → f.holds_back_at call place reg ≡ true → f.has_item_at call place ≡ true
unfolding f.holds_back_at f.has_item_at
held_has_item (call.Get own field) place reg e = absurd (cc)
held_has_item (call.Put own field value) place reg e = absurd (cc)
held_has_item (call.Load dest own field) place reg e = longer place (and_parts _ _ e).0
  where
    longer : (p : ℕ) → (nat_le 5 p && nat_le p 8) ≡ true → (nat_le 5 p && nat_le p 10) ≡ true
    longer p e = grind (arith, nat_tests)
held_has_item (call.Store own field from) place reg e = absurd (cc)
held_has_item (call.Move dest from) place reg e = absurd (cc)
held_has_item (call.Clear dest) place reg e = absurd (cc)
held_has_item (call.New dest shape) place reg e = absurd (cc)
held_has_item (call.Same a b) place reg e = absurd (cc)
held_has_item (call.IsNull own) place reg e = absurd (cc)

loaded_has_item : (call : Call) (place : ℕ) → f.is_load_at 5 10 call place ≡ true → f.has_item_at call place ≡ true
unfolding f.is_load_at f.has_item_at
loaded_has_item (call.Get own field) place e = absurd (cc)
loaded_has_item (call.Put own field value) place e = absurd (cc)
loaded_has_item (call.Load dest own field) place e = e
loaded_has_item (call.Store own field from) place e = absurd (cc)
loaded_has_item (call.Move dest from) place e = absurd (cc)
loaded_has_item (call.Clear dest) place e = absurd (cc)
loaded_has_item (call.New dest shape) place e = absurd (cc)
loaded_has_item (call.Same a b) place e = absurd (cc)
loaded_has_item (call.IsNull own) place e = absurd (cc)

module _ (x : Flight) where
  back_has_item : (reg : ℕ) → f.holds_back x reg ≡ true → f.has_item x ≡ true
  unfolding f.holds_back f.has_item
  back_has_item reg e = held_has_item x.call x.place reg e

  read_has_item : f.has_loaded x ≡ true → f.has_item x ≡ true
  unfolding f.has_loaded f.has_item
  read_has_item e = loaded_has_item x.call x.place e

-- the word that shows a register names no white number, where neither the register word does nor the item that is held back
shown_no_white : (white : ℕ → Bool) (x : Flight) (reg word : ℕ) → (f.holds_back x reg ≡ true → NamesNoWhite white x.item) → NamesNoWhite white word
    → NamesNoWhite white (fact.shown_in x reg word)
shown_no_white white x reg word item dark = elim (cases_Bool (f.holds_back x reg)) [
  | inl e ↦ rw e (item e)
  | inr e ↦ rw e dark
]

-- ALL FACTS

module _ (g : Geometry) (w : Words) (z : Spaces) (sh : Shades) (flight : ℕ → Flight) (begun : ℕ → ℕ) (hand : ℕ → Hand) (t : Spot)
    (names : Names) (contents : Contents) (range : ℕ → Option ℕ) (h : Facts g w z sh flight begun hand t names contents range)
    (m : ShadesMean g w z sh flight t.line names) (colours : ColoursMean w z sh) (marking : l.is_marking t.line ≡ true)
    (settled : IsSettled g w.cycle sh.white sh.grey w.register flight) (kept' : ℕ → Bool)
    (was_kept : (n : ℕ) → kept' n ≡ true → sh.kept n ≡ true) (is_marked : (n : ℕ) → kept' n ≡ true → w.mark n ≡ w.cycle)
    (stays : (n : ℕ) → sh.kept n ≡ true → w.mark n ≡ w.cycle → kept' n ≡ true) where
  abbrev t' : Spot
  t' = record t { line = line.Sweep 0 stage.Read }

  abbrev sh' : Shades
  sh' = record sh { kept = kept' }

  -- a kept number that isn't white stays kept
  dark_kept : (n : ℕ) → sh.kept n ≡ true → sh.white n ≡ false → kept' n ≡ true
  dark_kept n kept dark =
      let k = m.kept n kept in
      elim (fresh_cases w.cycle (l.is_marking t.line) (w.mark n) k.is_fresh) [
        | inl marked ↦ stays n kept marked
        | inr late ↦ refuted (sh.white n) dark (colours.is_white n k.placed (omega arith))
      ]

  good_dark : (word : ℕ) → IsGood sh.kept names word → NamesNoWhite sh.white word → IsGood kept' names word
  good_dark word good (inl null) = absurd (good.some null)
  good_dark word good (inr dark) = record { some = good.some; is_kept = dark_kept _ good.is_kept dark; shows = good.shows }

  null_or_good_dark : (word : ℕ) → IsNullOrGood sh.kept names word → NamesNoWhite sh.white word → IsNullOrGood kept' names word
  null_or_good_dark word (inl null) dark = inl null
  null_or_good_dark word (inr good) dark = inr (good_dark word good dark)

  -- a kept number that was claimed is black
  marked_black : (n : ℕ) → kept' n ≡ true → sh.black n ≡ true
  marked_black n kept =
      let marked : w.mark n ≡ w.cycle = is_marked n kept in
      settled_black g w z sh flight t.line names n m colours h.objects_in_one_space (was_kept n kept) (some_words names sh.size n (m.size n))
      (settled.none_grey n (m.kept n (was_kept n kept)).within) (colours.not_white n (omega arith))

  -- the birth in a register of the plain heap stays kept
  register_stays_kept : (s r : ℕ) → s < tasks g → r < g.registers → IsNullOrKept kept' names (contents.register s r)
  register_stays_kept s r b c = elim (h.registers_kept s r b c) [
    | inl none ↦ inl none
    | inr found ↦
        let x = flight s in
        let word = fact.shown_in x r (w.register s r) in
        let number = kept_number g w (held_by g flight) t.line names sh m.kept found.0 word found.2 (h.registers_shown s r b c ∙ shown_birth names (contents.register s r) found.0 found.1) in
        let dark : NamesNoWhite sh.white word = shown_no_white sh.white x r (w.register s r) (λ back. settled.items s b (back_has_item x r back)) (settled.registers s r b c) in
        elim dark [
          | inl null ↦ absurd (number.1 null)
          | inr dark ↦ inr (found.0, found.1, record { is_kept = dark_kept _ found.2.is_kept (ap sh.white (sym number.0) ∙ dark); bears = found.2.bears })
        ]
  ]

  -- so does one in a cell of a kept birth
  link_stays_kept : (n b i : ℕ) → kept' n ≡ true → names.bearer n ≡ Some b → i < names.refs b → IsNullOrKept kept' names (contents.link b i)
  link_stays_kept n b i kept borne within = elim (h.links_kept n b (was_kept n kept) borne i within) [
    | inl none ↦ inl none
    | inr found ↦ inr (
      found.0,
      found.1,
      record {
        is_kept = dark_kept _ found.2.is_kept (h.black_leads_to_no_white n b (was_kept n kept) (marked_black n kept) borne i found.0 within found.1);
        bears = found.2.bears;
      },
    )
  ]

  -- an object that covers a word of the current space and is kept stays kept
  covering_stays : (n i : ℕ) → i < z.live + z.alloc → sh.kept n ≡ true → Covers (w.place n) (sh.size n) (z.current + i) → kept' n ≡ true
  covering_stays n i below kept covers =
      let k = m.kept n kept in
      elim (fresh_cases w.cycle (l.is_marking t.line) (w.mark n) k.is_fresh) [
        | inl marked ↦ stays n kept marked
        | inr late ↦
            let old : InOld z (w.place n) (sh.size n) = h.unclaimed_is_old n kept (omega arith) in
            let a : z.old ≤ w.place n = old.after in
            let b : w.place n + sh.size n ≤ z.old + (z.live + z.alloc) = old.before in
            let c : w.place n ≤ z.current + i = covers.after in
            let d : z.current + i < w.place n + sh.size n = covers.before in
            elim m.spaces [ inl e ↦ absurd (omega arith) | inr e ↦ absurd (omega arith) ]
      ]

  its_spot : SpotFacts g w z sh' flight hand t' names range
  unfolding l.is_marking l.is_resting l.is_sweeping_or_marking l.sweeping l.written l.marked l.emptied l.cleared l.unmarked_at l.headed_at
  its_spot =
      let from : MarkingLine g t t.line = marking_line g t t.line marking in
      let none : t.entries ≡ 0 = from.no_entries (list_length g) w.cycle t.entries w.mark (w.entry (next_list w.cycle)) h.sweep_in_step in
      let enough = g.alloc_enough in
      sweep_spot g w z sh' flight hand t' names range refl (record {
        spot_knows_cycle = h.spot_knows_cycle;
        marks_above_are_written = λ n within above. let o = h.marks_above_are_written n within above in let b : o.0 < l.marked g t t.line = o.1 in let e = from.marked in absurd (omega arith);
        moved_stands_in_range = λ e n x kept. h.moved_stands_in_range from.is_busy n x (was_kept n kept);
        unreserved_is_zero = λ e. h.unreserved_is_zero from.is_busy;
        unused_is_zero = λ e. never e;
        cleared_is_zero = λ i b. absurd (omega arith);
        nothing_reserved_at_rest = λ e. never e;
        ranges_below_moved = λ x n there below.
            let o = h.ranges_below_moved x n there below in
            record { is_kept = stays n o.is_kept o.is_claimed; is_claimed = o.is_claimed; stands = o.stands; ends = o.ends };
        ranges_above_grey = λ x n there above.
            let o = h.ranges_above_grey x n there above in
            let grey : IsGreyIn z w.cycle w.place w.mark n = m.grey n o.1 in
            (stays n o.0 grey.of_cycle, o.1);
        scan_bounded = λ e. h.scan_bounded from.is_busy;
        marks_few = λ e. h.marks_few from.sweeping_or_marking;
        written_numbers = λ j b. absurd (omega arith);
        written_distinct = λ i j a b. absurd (omega arith);
        written_marked = λ j b. absurd (omega arith);
        written_empty = λ j b. absurd (omega arith);
        sweep_in_step = omega arith;
        swept_marked = λ n k e b. let same : 0 ≡ n = cc in absurd (omega arith);
        spot_formed = (omega arith, tt);
        settled = settled;
      })

  pub to_sweep_facts : Facts g w z sh' flight begun hand t' names contents range
  to_sweep_facts =
      let spot : SpotFacts g w z sh' flight hand t' names range = its_spot in
      let registers : fact.RegistersGood g kept' names w.register = λ s r b c. null_or_good_dark _ (h.registers_good s r b c) (settled.registers s r b c) in
      let registers_kept : fact.RegistersKept g kept' names contents.register = register_stays_kept in
      let entered : fact.EnteredGood g kept' names flight = λ s b through flies. good_dark _ (h.entered_good s b through flies) (settled.entered s b flies) in
      let loaded : fact.LoadedGood g kept' names flight = λ s b e. null_or_good_dark _ (h.loaded_good s b e) (settled.items s b (read_has_item (flight s) e)) in
      let links_kept : fact.LinksKept kept' names contents.link = λ n b kept borne i within. link_stays_kept n b i kept borne within in
      let links : fact.LinksShown kept' names w.place w.cell contents.link = λ n b kept. h.links_shown n b (was_kept n kept) in
      let values : fact.ValuesShown kept' names w.place w.cell contents.value = λ n b kept. h.values_shown n b (was_kept n kept) in
      let one_space : fact.ObjectsInOneSpace z kept' w.place sh.size = λ n kept. h.objects_in_one_space n (was_kept n kept) in
      let apart : fact.ObjectsApart kept' w.place sh.size = λ j n kept other differ. h.objects_apart j n (was_kept j kept) (was_kept n other) differ in
      let apart_from_new : fact.ObjectsApartFromNew g kept' w.place sh.size flight = λ s n b making kept. h.objects_apart_from_new s n b making (was_kept n kept) in
      let old : fact.UnclaimedIsOld z w.cycle kept' w.place w.mark sh.size = λ n kept. h.unclaimed_is_old n (was_kept n kept) in
      let below_used : fact.ObjectsBelowUsed z w.used kept' w.place sh.size = λ n kept. h.objects_below_used n (was_kept n kept) in
      let free : fact.FreeIsZero z kept' w.place sh.size w.cell = λ i b none. h.free_is_zero i b
      (λ n kept covers. none n (covering_stays n (z.live + i) (omega arith) kept covers) covers) in
      let black : fact.BlackLeadsToNoWhite sh.white sh.black kept' names contents.link = λ n b kept. h.black_leads_to_no_white n b (was_kept n kept) in
      assumption

-- THE STEP

-- all facts hold after the step into the sweep, where the state is settled
pub to_sweep : (g : Geometry) (w : Words) (flight : ℕ → Flight) (begun : ℕ → ℕ) (t : Spot) (names : Names) (contents : Contents) (range : ℕ → Option ℕ)
    → l.is_marking t.line ≡ true → l.hand_of_spot t ≡ l.hand_of_spot (record t { line = line.Sweep 0 stage.Read })
    → IsSettled g w.cycle (shades_of g w flight t.line names).white (shades_of g w flight t.line names).grey w.register flight
    → FactsOf g w flight begun t names contents range → FactsOf g w flight begun (record t { line = line.Sweep 0 stage.Read }) names contents range
unfolding shades_of l.is_marking
to_sweep g w flight begun t names contents range marking hand settled h =
    let t' = record t { line = line.Sweep 0 stage.Read } in
    let sh = shades_of g w flight t.line names in
    let held = held_by g flight in
    let kept' = kept_by g w.cycle false held names.bearer w.place w.mark in
    let hands : hands_of g flight t' ≡ hands_of g flight t = hands_kept g flight t t' (sym hand) in
    let parts : (n : ℕ) → kept' n ≡ true → IsKept g w.cycle false held names.bearer w.place w.mark n = λ n e. kept_parts g w.cycle false held names.bearer w.place w.mark n e in
    let is_marked : (n : ℕ) → kept' n ≡ true → w.mark n ≡ w.cycle = λ n e. fresh_when_done w.cycle false (w.mark n) refl (parts n e).is_fresh in
    let was_kept : (n : ℕ) → kept' n ≡ true → sh.kept n ≡ true = λ n e.
    let p = and_parts _ _ e in and_from _ _ p.0 (and_from _ _ (and_parts _ _ p.1).0 (fresh_now w.cycle (l.is_marking t.line) (w.mark n) (is_marked n e))) in
    let stays : (n : ℕ) → sh.kept n ≡ true → w.mark n ≡ w.cycle → kept' n ≡ true = λ n e marked.
    let p = and_parts _ _ e in and_from _ _ p.0 (and_from _ _ (and_parts _ _ p.1).0 (fresh_now w.cycle false (w.mark n) marked)) in
    rw hands
    (to_sweep_facts g w (spaces_of g w.cycle) sh flight begun (hands_of g flight t) t names contents range h
    (shades_mean g w flight t.line names) (colours_mean g w flight t.line names) marking settled kept' was_kept is_marked stays)

-- THE PASS

-- what the pass meets at its last number, where that isn't grey
last_met : (g : Geometry) (grey : ℕ → Bool) (settled : Type 0) (n : ℕ) → numbers g ≤ n + 1 → grey n ≡ false
    → ((m : ℕ) × (n ≤ m) × (m < numbers g) × (grey m ≡ true)) ⊎ settled → settled
last_met g grey settled n last dark (inl found) =
    let k = found.0 in
    let after : n ≤ k = found.1 in
    let below : k < numbers g = found.2 in
    let same : k ≡ n = omega arith in
    refuted (grey n) dark (ap grey (sym same) ∙ found.3)
last_met g grey settled n last dark (inr done) = done

module _ (g : Geometry) (w : Words) (flight : ℕ → Flight) (begun : ℕ → ℕ) (t : Spot) (names : Names) (contents : Contents) (range : ℕ → Option ℕ) (n : ℕ) (last : numbers g ≤ n + 1)
    (h : FactsOf g w flight begun t names contents range) where
  -- after the mark of the last number, where it isn't that of the cycle
  pub pass_to_sweep : t.line ≡ line.Pass n → w.mark n ≢ w.cycle → FactsOf g w flight begun (record t { line = line.Sweep 0 stage.Read }) names contents range
  unfolding l.is_marking l.passing l.hand_of_spot l.hand_at_line shades_of
  pass_to_sweep at_pass other =
      to_sweep g w flight begun t names contents range (ap l.is_marking at_pass) (ap (l.hand_at_line t) at_pass)
      (last_met g (shades_of g w flight t.line names).grey _ n last (and_left _ _ (ne_eqb (w.mark n) w.cycle other)) (h.pass_meets_grey n (ap l.passing at_pass))) h

  -- after the header of the last number, where its place isn't in the old space
  pub pass_head_to_sweep : t.line ≡ line.PassHead n → is_in_space g (old_space w.cycle) (w.place n) ≡ false
      → FactsOf g w flight begun (record t { line = line.Sweep 0 stage.Read }) names contents range
  unfolding l.is_marking l.passing l.hand_of_spot l.hand_at_line shades_of
  pass_head_to_sweep at_head elsewhere =
      let sh = shades_of g w flight t.line names in
      let dark : sh.grey n ≡ false = elim (cases_Bool (sh.grey n)) [
        | inl grey ↦
            let o = (shades_mean g w flight t.line names).grey n grey in
            refuted _ elsewhere (in_space (old_space w.cycle * space_words g) (space_words g) (w.place n) o.after o.before)
        | inr dark ↦ dark
      ] in
      to_sweep g w flight begun t names contents range (ap l.is_marking at_head) (ap (l.hand_at_line t) at_head)
      (last_met g sh.grey _ n last dark (h.pass_meets_grey n (ap l.passing at_head))) h
    where
      in_space : (from size place : ℕ) → 1 + from + 0 ≤ place → place < 1 + from + 0 + size → (nat_le (1 + from + 0) place && nat_lt place (1 + from + size)) ≡ true
      in_space from size place after before = and_from _ _ (le-leb _ _ after) (lt-ltb _ _ (omega arith))
