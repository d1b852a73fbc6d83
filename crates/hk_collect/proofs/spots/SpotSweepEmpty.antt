-- The sweep empties the header of the number that it has marked for the next cycle. The number isn't kept, so no call is inside its
-- object; and it has no place after that, so it is as colourless as before.
use Rattle.std.proofs.Common.{◌≡◌, ◌≢◌, ℕ, ◌+◌, ◌-◌, ◌<◌, ◌≤◌, Bool, true, false, inl, inr, refl, sym, ◌∙◌, ap, subst, arith, Option}
use Rattle.std.proofs.lemmas.Bool.{cases_Bool, cases_lt, and_parts, and_left, and_right, ne_eqb, eqb-true, lt-ltb, le-ltb}
use Rattle.std.specs.Prelude.{nat_eq, nat_lt, not, ◌&&◌, is_some}
use Rattle.hk_words.specs.declared.geometry.Geometry.{Geometry}
use Rattle.hk_words.specs.Geometry.{tasks, numbers, list_length}
use Rattle.hk_words.specs.Layout as layout
use Rattle.hk_model.specs.View.{upd}
use Rattle.hk_model.proofs.Updates.{upd_same, upd_other}
use Rattle.hk_core.specs.declared.flight.Flight.{Flight}
use Rattle.hk_core.specs.declared.spot.Spot.{Spot}
use Rattle.hk_core.specs.declared.spot.Line.{Line}
use Rattle.hk_core.specs.declared.spot.Line.TheVariants as line
use Rattle.hk_core.specs.declared.spot.Stage.TheVariants as stage
use Rattle.hk_core.specs.Counts.{count_below, sum_below}
use Rattle.hk_core.specs.Collect.{current_space, next_list, sweep_took}
use Rattle.hk_core.specs.View.{Words, Names, Contents}
use Rattle.hk_core.specs.Flights as f
use Rattle.hk_core.specs.Flights.{Hand}
use Rattle.hk_core.specs.Lines as l
use Rattle.hk_core.specs.Colours.{Spaces, spaces_of, Shades, shades_of, held_by, kept_by, white_by, is_fresh, is_within}
use Rattle.hk_core.specs.Facts as fact
use Rattle.hk_core.specs.Facts.{HasNoHeader, IsSettled}
use Rattle.hk_core.specs.Lawful.{Facts, FactsOf, hands_of}
use Rattle.hk_core.proofs.Update.{upd_cases}
use Rattle.hk_core.proofs.kinds.NewHeader.{object_through}
use Rattle.hk_core.proofs.kinds.NewRaise.{making_raised}
use Rattle.hk_collect.proofs.spots.SpotSweepCounts.{count_none}
use Rattle.hk_collect.proofs.spots.SpotSweepLines.{sweep_spot, kept_marked, quiet_line}
use Rattle.hk_collect.proofs.spots.SpotSweepRead.{GoesSweeping, goes_to_number, goes_to_clear, room_for}
use Rattle.hk_collect.proofs.spots.Spots.{SpotFacts, hands_kept}
use Rattle.hk_core.proofs.kinds.WriteCell.{ShadesMean, shades_mean}
use Rattle.hk_core.proofs.Shared.{refuted}

-- the words after the header of a number was emptied
abbrev pub emptied_words : Words → ℕ → Words
emptied_words w n = record w { accessors = upd w.accessors n 0; place = upd w.place n 0; version = upd w.version n 0 }

-- a call that is inside an object goes through it
inside_names : (x : Flight) (k : ℕ) → f.is_inside x k ≡ true → (f.in_object x ≡ true) × (layout.reference_number x.entered ≡ k)
unfolding f.is_inside
inside_names x k e = let p = and_parts _ _ e in (p.0, eqb-true _ _ p.1)

module _ (g : Geometry) (w : Words) (z : Spaces) (sh : Shades) (flight : ℕ → Flight) (begun : ℕ → ℕ) (hand : ℕ → Hand) (t : Spot)
    (names : Names) (contents : Contents) (range : ℕ → Option ℕ) (h : Facts g w z sh flight begun hand t names contents range)
    (m : ShadesMean g w z sh flight t.line names) (n : ℕ) (at_empty : t.line ≡ line.Sweep n stage.Empty) where
  -- the entries of the next cycle, and the columns of headers after the event
  abbrev next : ℕ → ℕ
  next = w.entry (next_list w.cycle)

  abbrev accessors' : ℕ → ℕ
  accessors' = upd w.accessors n 0

  abbrev place' : ℕ → ℕ
  place' = upd w.place n 0

  abbrev version' : ℕ → ℕ
  version' = upd w.version n 0

  abbrev w' : Words
  w' = emptied_words w n

  quiet : l.is_marking t.line ≡ false
  unfolding l.is_marking
  quiet = ap l.is_marking at_empty

  settled : IsSettled g w.cycle sh.white sh.grey w.register flight
  settled = h.settled_from_sweep quiet

  in_step : (0 < t.entries) × (t.entries ≤ list_length g) × (next (t.entries - 1) ≡ n)
  in_step = subst (l.InStep (list_length g) w.cycle t.entries w.mark next) at_empty h.sweep_in_step

  was_written : l.written g t t.line ≡ t.entries
  unfolding l.written
  was_written = ap (l.written g t) at_empty

  was_marked : l.marked g t t.line ≡ t.entries - 0
  unfolding l.marked l.unmarked_at
  was_marked = ap (l.marked g t) at_empty

  was_emptied : l.emptied g t t.line ≡ t.entries - 1
  unfolding l.emptied l.headed_at
  was_emptied = ap (l.emptied g t) at_empty

  -- the number is marked for the next cycle
  pub its_mark : w.mark n ≡ w.cycle + 1
  its_mark =
      let some : 0 < t.entries = in_step.0 in
      let a = was_marked in
      ap w.mark (sym in_step.2) ∙ h.written_marked (t.entries - 1) (omega arith)

  -- so it isn't kept
  kept_else : (k : ℕ) → sh.kept k ≡ true → k ≢ n
  kept_else k kept same =
      let marked : w.mark k ≡ w.cycle = kept_marked g w z sh flight begun hand t names contents range h m quiet k kept in
      let e : w.mark k ≡ w.mark n = ap w.mark same in
      let mark = its_mark in
      omega arith

  placed : (k : ℕ) → sh.kept k ≡ true → place' k ≡ w.place k
  placed k kept = upd_other w.place n 0 k (kept_else k kept)

  -- what has no header has none after it
  still_none : (k : ℕ) → HasNoHeader w.accessors w.place w.version k → HasNoHeader accessors' place' version' k
  still_none k o = record { no_accessors = zero w.accessors o.no_accessors; no_place = zero w.place o.no_place; no_version = zero w.version o.no_version }
    where
      zero : (column : ℕ → ℕ) → column k ≡ 0 → upd column n 0 k ≡ 0
      zero column none = elim (upd_cases column n 0 k) [ inl (same, u) ↦ u | inr (differ, u) ↦ u ∙ none ]

  -- nobody is inside its object
  nobody_inside : (k : ℕ) → k ≡ n → count_below (tasks g) (λ s. f.is_inside (flight s) k) ≡ 0
  nobody_inside k same = count_none (λ s. f.is_inside (flight s) k) (tasks g) (λ s b. elim (cases_Bool (f.is_inside (flight s) k)) [
    | inl e ↦
        let o = inside_names (flight s) k e in
        let p = object_through (flight s) o.0 in
        absurd (kept_else _ (h.entered_good s b p.0 p.1).is_kept (o.1 ∙ same))
    | inr e ↦ e
  ])

  module _ (ln : Line) (o : GoesSweeping g w t ln) where
    its_spot : SpotFacts g w' z sh flight hand (record t { line = ln }) names range
    unfolding l.is_marking l.is_resting l.is_sweeping_or_marking
    its_spot =
        let some : 0 < t.entries = in_step.0 in
        let a = was_written in
        let b = was_marked in
        let c = was_emptied in
        let written = o.written in
        let marked = o.marked in
        let emptied = o.emptied in
        let cleared = o.cleared in
        let busy : l.is_resting t.line ≡ false = ap l.is_resting at_empty in
        sweep_spot g w' z sh flight hand (record t { line = ln }) names range o.quiet (record {
          spot_knows_cycle = h.spot_knows_cycle;
          marks_above_are_written = λ k within above.
              let q = h.marks_above_are_written k within above in
              let below : q.0 < l.marked g t t.line = q.1 in
              (q.0, omega arith, q.2);
          moved_stands_in_range = λ e k x kept there. h.moved_stands_in_range busy k x kept (sym (placed k kept) ∙ there);
          unreserved_is_zero = λ e. h.unreserved_is_zero busy;
          unused_is_zero = λ e. refuted _ o.is_busy e;
          cleared_is_zero = λ i below. absurd (omega arith);
          nothing_reserved_at_rest = λ e. refuted _ o.is_busy e;
          ranges_below_moved = λ x k there below.
              let q = h.ranges_below_moved x k there below in
              record { is_kept = q.is_kept; is_claimed = q.is_claimed; stands = placed k q.is_kept ∙ q.stands; ends = q.ends };
          ranges_above_grey = h.ranges_above_grey;
          scan_bounded = λ e. h.scan_bounded busy;
          marks_few = λ e. h.marks_few (ap l.is_sweeping_or_marking at_empty);
          written_numbers = λ j below. h.written_numbers j (omega arith);
          written_distinct = λ i j lower below. h.written_distinct i j lower (omega arith);
          written_marked = λ j below. h.written_marked j (omega arith);
          written_empty = λ j below. elim (cases_lt j (t.entries - 1)) [
            | inl before ↦ still_none (next j) (h.written_empty j (omega arith))
            | inr last ↦
                let same : j ≡ t.entries - 1 = omega arith in
                let here : next j ≡ n = ap next same ∙ in_step.2 in
                record {
                  no_accessors = ap accessors' here ∙ upd_same w.accessors n 0;
                  no_place = ap place' here ∙ upd_same w.place n 0;
                  no_version = ap version' here ∙ upd_same w.version n 0;
                }
          ];
          sweep_in_step = o.in_step;
          swept_marked = o.swept;
          spot_formed = o.fits;
          settled = settled;
        })

    pub sweep_empty_facts : Facts g w' z sh flight begun hand (record t { line = ln }) names contents range
    sweep_empty_facts =
        let spot : SpotFacts g w' z sh flight hand (record t { line = ln }) names range = its_spot in
        let versions : fact.VersionsBounded g version' flight begun = λ k b.
        let was : w.version k + count_below (tasks g) (λ s. f.before_object (flight s)) ≤ sum_below (tasks g) begun = h.versions_bounded k b in
        elim (upd_cases w.version n 0 k) [ inl (same, u) ↦ omega arith | inr (differ, u) ↦ omega arith ] in
        let accessors : fact.AccessorsCounted g accessors' flight = λ k b. elim (upd_cases w.accessors n 0 k) [
          | inl (same, u) ↦ u ∙ sym (nobody_inside k same)
          | inr (differ, u) ↦ u ∙ h.accessors_counted k b
        ] in
        let links : fact.LinksShown sh.kept names place' w.cell contents.link = λ k b kept. rw (placed k kept) (h.links_shown k b kept) in
        let values : fact.ValuesShown sh.kept names place' w.cell contents.value = λ k b kept. rw (placed k kept) (h.values_shown k b kept) in
        let one_space : fact.ObjectsInOneSpace z sh.kept place' sh.size = λ k kept. rw (placed k kept) (h.objects_in_one_space k kept) in
        let apart : fact.ObjectsApart sh.kept place' sh.size = λ j k kept other differ. rw (placed j kept, placed k other) (h.objects_apart j k kept other differ) in
        let apart_from_new : fact.ObjectsApartFromNew g sh.kept place' sh.size flight = λ s k b making kept. rw (placed k kept) (h.objects_apart_from_new s k b making kept) in
        let old : fact.UnclaimedIsOld z w.cycle sh.kept place' w.mark sh.size = λ k kept. rw (placed k kept) (h.unclaimed_is_old k kept) in
        let below_used : fact.ObjectsBelowUsed z w.used sh.kept place' sh.size = λ k kept. rw (placed k kept) (h.objects_below_used k kept) in
        let free : fact.FreeIsZero z sh.kept place' sh.size w.cell = λ i within none. h.free_is_zero i within (λ k kept. rw (placed k kept) at (none k kept)) in
        let unread : fact.UnreadFree g w.cycle w.objects accessors' place' version' w.mark (w.entry (current_space w.cycle)) = λ j a b.
        let q = h.unread_free j a b in
        record { within = q.within; no_header = still_none _ q.no_header; is_marked = q.is_marked } in
        let own : fact.OwnEntries g accessors' place' version' w.mark w.entry flight = λ s b making.
        let q = h.own_entries s b making in
        let now : f.cycle_of (flight s) ≡ w.cycle = settled.none_late s b (making_raised (flight s) (h.news_in_step s b) making) in
        let k = fact.own_entry w.entry (flight s) in
        let marked : w.mark k ≡ f.cycle_of (flight s) = q.is_marked in
        let mark = its_mark in
        let other : k ≢ n = λ same. let e : w.mark k ≡ w.mark n = ap w.mark same in absurd (omega arith) in
        record {
          within = q.within;
          is_marked = q.is_marked;
          no_accessors = upd_other w.accessors n 0 k other ∙ q.no_accessors;
          no_version = upd_other w.version n 0 k other ∙ q.no_version;
          placed = upd_other w.place n 0 k other ∙ q.placed;
        } in
        let known : fact.PlaceKnown g place' flight = λ s b e.
        let p = object_through (flight s) e in
        h.place_known s b e ∙ sym (placed _ (h.entered_good s b p.0 p.1).is_kept) in
        assumption

-- THE SHADES

module _ (g : Geometry) (cycle n : ℕ) (place mark : ℕ → ℕ) (marked : mark n ≡ cycle + 1) where
  -- a number that is marked for the next cycle is white, grey and black with no place, and isn't fresh
  none_of_cycle : (k : ℕ) → k ≡ n → nat_eq (mark k) cycle ≡ false
  none_of_cycle k same = let e : mark k ≡ mark n = ap mark same in ne_eqb (mark k) cycle (omega arith)

  same_white : (k : ℕ) → white_by cycle (upd place n 0) mark k ≡ white_by cycle place mark k
  same_white k = elim (upd_cases place n 0 k) [
    | inl (same, u) ↦
        let e : mark k ≡ mark n = ap mark same in
        let high : nat_lt (mark k) cycle ≡ false = le-ltb (mark k) cycle (omega arith) in
        and_right (not (nat_eq (upd place n 0 k) 0)) _ high ∙ sym (and_right (not (nat_eq (place k) 0)) _ high)
    | inr (differ, u) ↦ ap (λ p. not (nat_eq p 0) && nat_lt (mark k) cycle) u
  ]

  same_within : (z : Spaces) (first k : ℕ) → (nat_eq (mark k) cycle && is_within z first (upd place n 0 k)) ≡ (nat_eq (mark k) cycle && is_within z first (place k))
  same_within z first k = elim (upd_cases place n 0 k) [
    | inl (same, u) ↦ and_left _ (is_within z first (upd place n 0 k)) (none_of_cycle k same) ∙ sym (and_left _ (is_within z first (place k)) (none_of_cycle k same))
    | inr (differ, u) ↦ ap (λ p. nat_eq (mark k) cycle && is_within z first p) u
  ]

  not_fresh : (k : ℕ) → k ≡ n → is_fresh cycle false (mark k) ≡ false
  not_fresh k same = rw (none_of_cycle k same) refl

  same_kept : (held : ℕ → Bool) (bearer : ℕ → Option ℕ) (k : ℕ) → kept_by g cycle false held bearer (upd place n 0) mark k ≡ kept_by g cycle false held bearer place mark k
  same_kept held bearer k = elim (upd_cases place n 0 k) [
    | inl (same, u) ↦
        and_right _ _ (and_right (not (nat_eq (upd place n 0 k) 0)) _ (not_fresh k same)) ∙ sym (and_right _ _ (and_right (not (nat_eq (place k) 0)) _ (not_fresh k same)))
    | inr (differ, u) ↦ ap (λ p. (nat_lt k (numbers g) && (is_some (bearer k) && not (held k))) && (not (nat_eq p 0) && is_fresh cycle false (mark k))) u
  ]

-- all facts hold after the sweep has emptied the header
pub sweep_empties : (g : Geometry) (w : Words) (flight : ℕ → Flight) (begun : ℕ → ℕ) (t : Spot) (names : Names) (contents : Contents) (range : ℕ → Option ℕ) (n old : ℕ)
    → t.line ≡ line.Sweep n stage.Empty → FactsOf g w flight begun t names contents range
    → FactsOf g (emptied_words w n) flight begun (sweep_took g t n stage.Empty old) names contents range
unfolding sweep_took l.is_marking l.hand_of_spot l.sweeping shades_of
sweep_empties g w flight begun t names contents range n old at_empty h =
    elim (cases_lt t.entries (list_length g)) [
      | inl room ↦ arrives (sym (took_on room)) (so (line.Sweep (n + 1) stage.Read)
          (goes_to_number g w t (n + 1) (room_for g w flight begun t names contents range n stage.Empty at_empty h high room) room (λ k b. elim (cases_lt k n) [
            | inl below ↦ h.swept_marked n k (ap l.sweeping at_empty) below
            | inr last ↦ let same : k ≡ n = omega arith in subst (λ k. w.cycle ≤ w.mark k) (sym same) high
          ])))
      | inr full ↦ arrives (sym (took_last full)) (so (line.Clear 0) (goes_to_clear g w t (let few : t.entries ≤ list_length g = within in omega arith)))
    ]
  where
    within : t.entries ≤ list_length g
    within = (subst (l.InStep (list_length g) w.cycle t.entries w.mark (w.entry (next_list w.cycle))) at_empty h.sweep_in_step).1

    marked : w.mark n ≡ w.cycle + 1
    marked = its_mark g w (spaces_of g w.cycle) (shades_of g w flight t.line names) flight begun (hands_of g flight t) t names contents range h
        (shades_mean g w flight t.line names) n at_empty

    high : w.cycle ≤ w.mark n
    high = let e = marked in omega arith

    took_on : t.entries < list_length g → sweep_took g t n stage.Empty old ≡ record t { line = line.Sweep (n + 1) stage.Read }
    took_on room = rw (lt-ltb t.entries (list_length g) room) refl

    took_last : list_length g ≤ t.entries → sweep_took g t n stage.Empty old ≡ record t { line = line.Clear 0 }
    took_last full = rw (le-ltb t.entries (list_length g) full) refl

    arrives : {u v : Spot} → u ≡ v → FactsOf g (emptied_words w n) flight begun u names contents range → FactsOf g (emptied_words w n) flight begun v names contents range
    arrives e = subst (λ (u : Spot). FactsOf g (emptied_words w n) flight begun u names contents range) e

    so : (ln : Line) → GoesSweeping g w t ln → FactsOf g (emptied_words w n) flight begun (record t { line = ln }) names contents range
    so ln o =
        let t' = record t { line = ln } in
        let z = spaces_of g w.cycle in
        let sh = shades_of g w flight t.line names in
        let held = held_by g flight in
        let quiet : l.is_marking t.line ≡ false = ap l.is_marking at_empty in
        let hands : hands_of g flight t' ≡ hands_of g flight t =
        hands_kept g flight t t' ((quiet_line g t' ln o.quiet).no_hand ∙ sym (quiet_line g t t.line quiet).no_hand) in
        let kept : kept_by g w.cycle (l.is_marking ln) held names.bearer (upd w.place n 0) w.mark ≡ sh.kept = λ i k.
        (ap (λ (b : Bool). kept_by g w.cycle b held names.bearer (upd w.place n 0) w.mark k) o.quiet
        ∙ same_kept g w.cycle n w.place w.mark marked held names.bearer k
        ∙ ap (λ (b : Bool). kept_by g w.cycle b held names.bearer w.place w.mark k) (sym quiet)) i in
        let shades : shades_of g (emptied_words w n) flight ln names ≡ sh = λ i. record {
          white = λ k. same_white g w.cycle n w.place w.mark marked k i;
          grey = λ k. same_within g w.cycle n w.place w.mark marked z z.old k i;
          black = λ k. same_within g w.cycle n w.place w.mark marked z z.current k i;
          black_frame = sh.black_frame;
          kept = kept i;
          size = sh.size;
        } in
        rw (hands, shades)
        (sweep_empty_facts g w z sh flight begun (hands_of g flight t) t names contents range h (shades_mean g w flight t.line names) n at_empty ln o)
