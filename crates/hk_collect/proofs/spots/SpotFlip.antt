-- The flip: a swap of W0 to no words, no objects and the next cycle. Everything changes its part: the old space and the current
-- one, the two lists, and the colours. No number is black or grey after it, since only the numbers of the list are marked for the
-- next cycle, and these have no header; the kept numbers stay the same.
use Rattle.std.proofs.Common.{◌≡◌, ◌≢◌, ℕ, ◌+◌, ◌*◌, ◌%◌, ◌<◌, ◌≤◌, Bool, true, false, inl, inr, refl, sym, ◌∙◌, ap, subst, arith, Option, Some, None}
use Rattle.std.proofs.lemmas.Bool.{both_ways, cases_eq, cases_lt, and_left, and_right, and_parts, eq-eqb, ne_eqb, eqb-true, lt-leb, le-ltb}
use Rattle.std.specs.Prelude.{nat_eq, nat_lt, not, ◌&&◌, is_some}
use Rattle.hk_words.specs.declared.geometry.Geometry.{Geometry}
use Rattle.hk_words.specs.Geometry.{tasks, numbers, list_length, space_words}
use Rattle.hk_words.specs.Layout as layout
use Rattle.hk_words.specs.Row.{place_at}
use Rattle.hk_core.specs.declared.flight.Flight.{Flight}
use Rattle.hk_core.specs.declared.spot.Spot.{Spot}
use Rattle.hk_core.specs.declared.spot.Line.TheVariants as line
use Rattle.hk_core.specs.Counts.{count_below}
use Rattle.hk_core.specs.Collect.{next_list, last_cycle, rest_took}
use Rattle.hk_core.specs.View.{Words, Names, Contents, reference_at}
use Rattle.hk_core.specs.Flights as f
use Rattle.hk_core.specs.Flights.{Hand, to_reserve}
use Rattle.hk_core.specs.Lines as l
use Rattle.hk_core.specs.Colours.{Spaces, InCurrent, InOld, spaces_of, Shades, shades_of, held_by, kept_by, white_by, grey_by, black_by, black_frame_by, is_fresh, is_within, IsGood}
use Rattle.hk_core.specs.Facts as fact
use Rattle.hk_core.specs.Facts.{IsUnread, IsSettled}
use Rattle.hk_core.specs.Lawful.{Facts, FactsOf, hands_of}
use Rattle.hk_core.proofs.Counts.{count_bounded}
use Rattle.hk_core.proofs.kinds.LoadRead.{ColoursMean, colours_mean, some_words}
use Rattle.hk_core.proofs.kinds.NewHeader.{cycle_inside_through, loaded_inside_through}
use Rattle.hk_core.proofs.kinds.NewRaise.{making_raised}
use Rattle.hk_collect.proofs.spots.SpotSweepCounts.{count_listed}
use Rattle.hk_collect.proofs.spots.SpotSweepLines.{kept_marked, kept_current, none_reserves}
use Rattle.hk_collect.proofs.spots.Spots.{hands_kept}
use Rattle.hk_core.proofs.kinds.WriteCell.{ShadesMean, shades_mean}
use Rattle.hk_core.proofs.Shared.{never, never_both, never_some, refuted}

-- THE WORDS, THE SPACES AND THE SHADES AFTER THE FLIP

-- the words after the flip
abbrev pub flipped_words : Words → Words
flipped_words w = record w { used = 0; objects = 0; cycle = w.cycle + 1 }

-- the spot after it
abbrev pub flipped_spot : Spot → Spot
flipped_spot t = record { line = line.Frame 0; cycle = t.cycle + 1; scan = 0; entries = 0; first = 0; item = 0; cell = 0; offset = 0; spent = 0 }

-- the spaces change places
abbrev pub turned : Spaces → Spaces
turned z = record { live = z.live; alloc = z.alloc; current = z.old; old = z.current }

pub spaces_turned : (g : Geometry) (cycle : ℕ) → spaces_of g (cycle + 1) ≡ turned (spaces_of g cycle)
spaces_turned g cycle = ap (λ (side : ℕ). record { live = g.live; alloc = g.alloc; current = place_at g ((cycle + 1) % 2) 0; old = place_at g side 0 }) (again cycle)
  where
    again : (cycle : ℕ) → (cycle + 1 + 1) % 2 ≡ cycle % 2
    again cycle = omega arith

-- a mark is as fresh in the next cycle, as the collector looks for objects again, as it was in this one
fresh_again : (cycle mark : ℕ) → mark ≢ cycle + 1 → is_fresh (cycle + 1) true mark ≡ is_fresh cycle false mark
fresh_again cycle mark below =
    elim (cases_eq mark cycle) [
      | inl e ↦ rw (ne_eqb mark (cycle + 1) below, eq-eqb (mark + 1) (cycle + 1) (omega arith), eq-eqb mark cycle e) refl
      | inr d ↦ rw (ne_eqb mark (cycle + 1) below, ne_eqb (mark + 1) (cycle + 1) (omega arith), ne_eqb mark cycle d) refl
    ]

-- so the kept numbers stay the same, where only numbers without a place are marked for the next cycle
kept_again : (g : Geometry) (cycle : ℕ) (held : ℕ → Bool) (bearer : ℕ → Option ℕ) (place mark : ℕ → ℕ) → ((n : ℕ) → n < numbers g → mark n ≡ cycle + 1 → place n ≡ 0)
    → (n : ℕ) → kept_by g (cycle + 1) true held bearer place mark n ≡ kept_by g cycle false held bearer place mark n
kept_again g cycle held bearer place mark empty n =
    elim (cases_lt n (numbers g)) [
      | inl within ↦ elim (cases_eq (place n) 0) [
        | inl none ↦ let off : not (nat_eq (place n) 0) ≡ false = ap not (eq-eqb (place n) 0 none) in
            and_right _ _ (and_left (not (nat_eq (place n) 0)) (is_fresh (cycle + 1) true (mark n)) off)
            ∙ sym (and_right _ _ (and_left (not (nat_eq (place n) 0)) (is_fresh cycle false (mark n)) off))
        | inr some ↦ ap (λ (b : Bool). (nat_lt n (numbers g) && (is_some (bearer n) && not (held n))) && (not (nat_eq (place n) 0) && b))
            (fresh_again cycle (mark n) (λ e. some (empty n within e)))
      ]
      | inr out ↦ rw (le-ltb n (numbers g) out) refl
    ]

-- ALL FACTS

-- words lie in a space wherever the spaces are turned
turned_current : (z : Spaces) (place size : ℕ) → InCurrent z place size → InOld (turned z) place size
turned_current z place size o = record { after = o.after; before = o.before }

room_raised : (x : Flight) → f.has_room x ≡ true → f.has_raised x ≡ true
unfolding f.has_room
room_raised x e = (and_parts _ _ e).0

module _ (g : Geometry) (w : Words) (z : Spaces) (sh : Shades) (flight : ℕ → Flight) (begun : ℕ → ℕ) (hand : ℕ → Hand) (t : Spot)
    (names : Names) (contents : Contents) (range : ℕ → Option ℕ) (h : Facts g w z sh flight begun hand t names contents range)
    (m : ShadesMean g w z sh flight t.line names) (colours : ColoursMean w z sh) (at_rest : t.line ≡ line.Rest) where
  rests : l.is_resting t.line ≡ true
  unfolding l.is_resting
  rests = ap l.is_resting at_rest

  quiet : l.is_marking t.line ≡ false
  unfolding l.is_marking
  quiet = ap l.is_marking at_rest

  all_written : l.written g t t.line ≡ list_length g
  unfolding l.written
  all_written = ap (l.written g t) at_rest

  all_marked : l.marked g t t.line ≡ list_length g
  unfolding l.marked
  all_marked = ap (l.marked g t) at_rest

  all_emptied : l.emptied g t t.line ≡ list_length g
  unfolding l.emptied
  all_emptied = ap (l.emptied g t) at_rest

  all_cleared : l.cleared g t.line ≡ space_words g
  unfolding l.cleared
  all_cleared = ap (l.cleared g) at_rest

  settled : IsSettled g w.cycle sh.white sh.grey w.register flight
  settled = h.settled_from_sweep quiet

  -- the entries of the list that is next
  abbrev next : ℕ → ℕ
  next = w.entry (next_list w.cycle)

  entry_free : (j : ℕ) → j < list_length g → IsUnread g (w.cycle + 1) w.accessors w.place w.version w.mark (next j)
  entry_free j b =
      let a = all_written in
      let c = all_marked in
      let d = all_emptied in
      record { within = h.written_numbers j (omega arith); no_header = h.written_empty j (omega arith); is_marked = h.written_marked j (omega arith) }

  -- a number that is marked for the next cycle is one of them
  listed : (n : ℕ) → n < numbers g → w.cycle < w.mark n → (j : ℕ) × (j < list_length g) × (next j ≡ n)
  listed n within above = let o = h.marks_above_are_written n within above in let a = all_marked in let b : o.0 < l.marked g t t.line = o.1 in (o.0, omega arith, o.2)

  -- so it has the mark of the next cycle, and no place
  pub above_empty : (n : ℕ) → n < numbers g → w.cycle < w.mark n → (w.mark n ≡ w.cycle + 1) × (w.place n ≡ 0)
  above_empty n within above =
      let o = listed n within above in
      let free = entry_free o.0 o.1 in
      (ap w.mark (sym o.2) ∙ free.is_marked, ap w.place (sym o.2) ∙ free.no_header.no_place)

  -- nothing is reserved
  no_ranges : (x : ℕ) → range x ≡ None
  no_ranges x = by_range (range x) refl
    where
      by_range : (o : Option ℕ) → range x ≡ o → o ≡ None
      by_range None e = refl
      by_range (Some n) e =
          let within : x + sh.size n ≤ w.reserved = h.ranges_within x n e in
          let empty : w.reserved ≡ 0 = h.nothing_reserved_at_rest rests in
          let some : 0 < sh.size n = some_words names sh.size n (m.size n) in
          absurd (omega arith)

  -- all words of the old space are 0
  old_is_zero : (i : ℕ) → i < z.live + z.alloc → w.cell (z.old + i) ≡ 0
  old_is_zero i b = let a = all_cleared in let whole : space_words g ≡ z.live + z.alloc = m.whole in h.cleared_is_zero i (omega arith)

  stands : (n : ℕ) → sh.kept n ≡ true → InCurrent z (w.place n) (sh.size n)
  stands = kept_current g w z sh flight begun hand t names contents range h m quiet

  -- a kept object isn't in the old space
  not_in_old : {A : Type 0} (n : ℕ) → sh.kept n ≡ true → z.old ≤ w.place n → w.place n < z.old + (z.live + z.alloc) → A
  not_in_old n kept after before =
      let new = stands n kept in
      let a : z.current ≤ w.place n = new.after in
      let b : w.place n + sh.size n ≤ z.current + (z.live + z.alloc) = new.before in
      let some : 0 < sh.size n = some_words names sh.size n (m.size n) in
      elim m.spaces [ inl c ↦ absurd (omega arith) | inr c ↦ absurd (omega arith) ]

  -- a kept number is black
  kept_black : (n : ℕ) → sh.kept n ≡ true → sh.black n ≡ true
  kept_black n kept =
      let new = stands n kept in
      let b : w.place n + sh.size n ≤ z.current + (z.live + z.alloc) = new.before in
      let some : 0 < sh.size n = some_words names sh.size n (m.size n) in
      colours.is_black n (kept_marked g w z sh flight begun hand t names contents range h m quiet n kept) new.after (omega arith)

  module _ (early : w.cycle < last_cycle) (white' grey' black' frame' : ℕ → Bool)
      (none_grey : (n : ℕ) → n < numbers g → grey' n ≡ false) (none_black : (n : ℕ) → n < numbers g → black' n ≡ false)
      (no_black_frame : (s : ℕ) → s < tasks g → frame' s ≡ false)
      (none_in_hand : (k item c : ℕ) → k ≤ tasks g → hand k ≢ to_reserve item c) where
    abbrev w' : Words
    w' = flipped_words w

    abbrev t' : Spot
    t' = flipped_spot t

    abbrev z' : Spaces
    z' = turned z

    abbrev sh' : Shades
    sh' = record sh { white = white'; grey = grey'; black = black'; black_frame = frame' }

    good_not_black : (word : ℕ) → IsGood sh.kept names word → black' (layout.reference_number word) ≡ false
    good_not_black word o = none_black _ (m.kept _ o.is_kept).within

    entered_not_black : (s : ℕ) → s < tasks g → (f.is_through (flight s).call ≡ true) × (f.is_flying (flight s) ≡ true)
        → black' (layout.reference_number (flight s).entered) ≡ false
    entered_not_black s b p = good_not_black _ (h.entered_good s b p.0 p.1)

    of_cycle : (s : ℕ) → s < tasks g → f.is_making (flight s) ≡ true → f.cycle_of (flight s) ≡ w.cycle
    of_cycle s b making = settled.none_late s b (making_raised (flight s) (h.news_in_step s b) making)

    pub flip_facts : Facts g w' z' sh' flight begun hand t' names contents range
    unfolding l.has_reference l.frames_done l.frame_attempt l.register_in_work l.cell_to_write l.is_at_range l.has_item l.object_attempt l.cell_loaded l.passing l.most_spent l.is_resting l.is_marking l.written l.marked l.emptied l.cleared l.sweeping
    flip_facts =
        let some : (n : ℕ) → 0 < sh.size n = λ n. some_words names sh.size n (m.size n) in
        let seats : 0 < tasks g = g.tasks_some in
        let knows : fact.SpotKnowsCycle (w.cycle + 1) (t.cycle + 1) = ap (λ c. c + 1) h.spot_knows_cycle in
        let fits : fact.CycleFits (w.cycle + 1) = omega arith in
        let above : fact.MarksAboveAreWritten g (w.cycle + 1) w.mark (w.entry (next_list (w.cycle + 1))) 0 = λ n within above.
        let e : w.mark n ≡ w.cycle + 1 = (above_empty n within (omega arith)).0 in absurd (omega arith) in
        let frames : fact.FramesNotAhead g (w.cycle + 1) w.frame_cycle = λ s b. let e : w.frame_cycle s ≤ w.cycle = h.frames_not_ahead s b in omega arith in
        let two : fact.ObjectsHaveTwoWords 0 0 = omega arith in
        let raising : count_below (tasks g) (λ s. f.will_raise (flight s)) ≤ tasks g = count_bounded (λ s. f.will_raise (flight s)) (tasks g) in
        let used : fact.UsedStaysBounded g 0 flight = omega arith in
        let objects : fact.ObjectsStayBounded g 0 flight = omega arith in
        let one_space : fact.ObjectsInOneSpace z' sh.kept w.place sh.size = λ n kept. inl (turned_current z (w.place n) (sh.size n) (stands n kept)) in
        let old : fact.UnclaimedIsOld z' (w.cycle + 1) sh.kept w.place w.mark sh.size = λ n kept b. turned_current z (w.place n) (sh.size n) (stands n kept) in
        let below_used : fact.ObjectsBelowUsed z' 0 sh.kept w.place sh.size = λ n kept o.
        let a : z.old ≤ w.place n = o.after in
        let b : w.place n + sh.size n ≤ z.old + (z.live + z.alloc) = o.before in
        let c = some n in
        not_in_old n kept a (omega arith) in
        let moved : fact.MovedStandsInRange z' false sh.kept w.place range = λ e n x kept there b. not_in_old n kept (omega arith) (omega arith) in
        let free : fact.FreeIsZero z' sh.kept w.place sh.size w.cell = λ i b o. old_is_zero (z.live + i) (omega arith) in
        let unreserved : fact.UnreservedIsZero z' false sh.size w.cell range = λ e x b o. old_is_zero x (omega arith) in
        let below : fact.RangesBelowMoved z' (w.cycle + 1) 0 sh.kept w.place w.mark sh.size range = λ x n e b. never_both (range x) n (no_ranges x) e in
        let grey : fact.RangesAboveGrey 0 sh.kept grey' range = λ x n e b. never_both (range x) n (no_ranges x) e in
        let linked : fact.RangesLinked z' sh.size w.cell (reference_at names) range = λ x n e b. never_both (range x) n (no_ranges x) e in
        let scan : fact.ScanBounded z' false 0 w.reserved = λ e. (omega arith, omega arith) in
        let few : fact.MarksFew g (line.Frame 0) (w.cycle + 1) w.reserved w.mark hand = λ e.
        let count : count_below (numbers g) (λ n. nat_eq (w.mark n) (w.cycle + 1)) ≤ list_length g =
        count_listed (list_length g) (λ n. nat_eq (w.mark n) (w.cycle + 1)) next (numbers g)
        (λ n within e. let marked : w.mark n ≡ w.cycle + 1 = eqb-true _ _ e in listed n within (omega arith)) in
        omega arith in
        let claims : fact.ClaimsUnreserved g (w.cycle + 1) grey' range hand = λ k item c b e. absurd (none_in_hand k item c b e) in
        let links : fact.ClaimsUnlinked g z' (w.cycle + 1) grey' sh.size w.cell range hand = λ k item c offset b e.
        let o = h.claims_unlinked k item c offset b e in never_both (range offset) _ (no_ranges offset) o.has_range in
        let unread : fact.UnreadFree g (w.cycle + 1) 0 w.accessors w.place w.version w.mark next = λ j a b. entry_free j b in
        let distinct : fact.UnreadDistinct g 0 next = λ i j a b c. let o = all_written in h.written_distinct i j b (omega arith) in
        let read : fact.OwnEntriesRead g 0 next w.entry flight = λ s j b making a c same.
        let own = h.own_entries s b making in
        let mark : w.mark (fact.own_entry w.entry (flight s)) ≡ f.cycle_of (flight s) = own.is_marked in
        let cycle : f.cycle_of (flight s) ≡ w.cycle = of_cycle s b making in
        let other : w.mark (next j) ≡ w.cycle + 1 = (entry_free j c).is_marked in
        let there : w.mark (fact.own_entry w.entry (flight s)) ≡ w.mark (next j) = ap w.mark same in
        absurd (omega arith) in
        let numbered : fact.WrittenNumbers g 0 (w.entry (next_list (w.cycle + 1))) = λ j b. absurd (omega arith) in
        let listed_once : fact.WrittenDistinct 0 (w.entry (next_list (w.cycle + 1))) = λ i j a b. absurd (omega arith) in
        let written : fact.WrittenMarked (w.cycle + 1) 0 w.mark (w.entry (next_list (w.cycle + 1))) = λ j b. absurd (omega arith) in
        let empty : fact.WrittenEmpty 0 w.accessors w.place w.version (w.entry (next_list (w.cycle + 1))) = λ j b. absurd (omega arith) in
        let room : fact.NewsFoundRoom g (w.cycle + 1) 0 flight = λ s b e.
        let o = h.news_found_room s b e in
        let cycle : f.cycle_of (flight s) ≡ w.cycle = settled.none_late s b (room_raised (flight s) e) in
        record { words = o.words; entry = o.entry; counted = λ now. absurd (omega arith) } in
        let recent : fact.NewsRecent g (w.cycle + 1) flight = λ s b e. inr (ap (λ c. c + 1) (settled.none_late s b e)) in
        let loaded : fact.LoadedRecent g (w.cycle + 1) flight = λ s b e. elim (h.loaded_recent s b e) [
          | inl now ↦ inr (ap (λ c. c + 1) now)
          | inr before ↦
              let p = cycle_inside_through (flight s) e in
              refuted _ (h.late_in_no_black_object s b e (omega arith)) (kept_black _ (h.entered_good s b p.0 p.1).is_kept)
        ] in
        let black_leads : fact.BlackLeadsToNoWhite white' black' sh.kept names contents.link = λ n b kept black. refuted (black' n) (none_black n (m.kept n kept).within) black in
        let black_frames : fact.BlackFrameHasNoWhite g white' frame' w.register = λ s r b c black. refuted (frame' s) (no_black_frame s b) black in
        let late : fact.LateInNoBlackObject g (w.cycle + 1) black' flight = λ s b e a. entered_not_black s b (cycle_inside_through (flight s) e) in
        let late_frame : fact.LateInNoBlackFrame g (w.cycle + 1) frame' flight = λ s b e a. no_black_frame s b in
        let from : fact.LoadedWhiteFromNoBlack g white' black' flight = λ s b e black. refuted _ (entered_not_black s b (loaded_inside_through (flight s) e)) black in
        let entered : fact.EnteredWhiteInNoBlackFrame g white' frame' flight = λ s b e black. refuted (frame' s) (no_black_frame s b) black in
        record {
          spot_knows_cycle = knows;
          cycle_fits = fits;
          marks_above_are_written = above;
          frames_not_ahead = frames;
          objects_have_two_words = two;
          used_stays_bounded = used;
          objects_stay_bounded = objects;
          begun_bounded = h.begun_bounded;
          versions_bounded = h.versions_bounded;
          frame_versions_bounded = h.frame_versions_bounded;
          accessors_counted = h.accessors_counted;
          frame_accessors_counted = h.frame_accessors_counted;
          registers_shown = h.registers_shown;
          registers_good = h.registers_good;
          registers_kept = h.registers_kept;
          entered_good = h.entered_good;
          loaded_good = h.loaded_good;
          cell_good = λ e. never e;
          links_kept = h.links_kept;
          links_shown = h.links_shown;
          values_shown = h.values_shown;
          objects_in_one_space = one_space;
          objects_apart = h.objects_apart;
          objects_apart_from_new = h.objects_apart_from_new;
          news_apart = h.news_apart;
          unclaimed_is_old = old;
          objects_below_used = below_used;
          moved_stands_in_range = moved;
          free_is_zero = free;
          unreserved_is_zero = unreserved;
          unused_is_zero = λ e. never e;
          cleared_is_zero = λ i b. absurd (omega arith);
          ranges_within = h.ranges_within;
          ranges_join = h.ranges_join;
          first_range = h.first_range;
          ranges_apart = h.ranges_apart;
          nothing_reserved_at_rest = λ e. never e;
          one_range_each = h.one_range_each;
          ranges_below_moved = below;
          ranges_above_grey = grey;
          ranges_linked = linked;
          scan_bounded = scan;
          marks_few = few;
          claims_unreserved = claims;
          claims_unlinked = links;
          grey_waits = λ n b e. absurd (both_ways _ (none_grey n b) e);
          unlinked_waits = λ x n e. never_both (range x) n (no_ranges x) e;
          claims_apart = h.claims_apart;
          unread_free = unread;
          unread_distinct = distinct;
          own_entries = h.own_entries;
          own_entries_distinct = h.own_entries_distinct;
          own_entries_read = read;
          number_is_own = h.number_is_own;
          written_numbers = numbered;
          written_distinct = listed_once;
          written_marked = written;
          written_empty = empty;
          sweep_in_step = refl;
          swept_marked = λ n k e. never_some e;
          news_found_room = room;
          news_clean = h.news_clean;
          news_recent = recent;
          flights_formed = h.flights_formed;
          news_in_step = h.news_in_step;
          fields_there = h.fields_there;
          entered_stays = h.entered_stays;
          place_known = h.place_known;
          loaded_recent = loaded;
          loaded_stays = h.loaded_stays;
          copied_stays = h.copied_stays;
          claims_last = h.claims_last;
          black_leads_to_no_white = black_leads;
          black_frame_has_no_white = black_frames;
          late_in_no_black_object = late;
          late_in_no_black_frame = late_frame;
          loaded_white_from_no_black = from;
          entered_white_in_no_black_frame = entered;
          spot_formed = seats;
          frames_blackened = λ s b. absurd (omega arith);
          frame_attempt_behind = λ s p e. never_some e;
          registers_passed = λ s p r e. never_some e;
          register_in_work = λ s r e. never_some e;
          cell_claimed = λ i e. never_some e;
          scan_at_range = λ e. never e;
          item_is_linked = λ e. never e;
          object_attempt_behind = λ p e. never_some e;
          cells_passed = λ p i e. never_some e;
          cells_copied = λ p i e. never_some e;
          cell_loaded = λ i e. never_some e;
          pass_meets_grey = λ n e. never_some e;
          settled_from_sweep = λ e. marks_not e;
          spent_bounded = λ n e. never_some e;
        }
      where
        marks_not : {A : Type 0} → true ≡ false → A
        marks_not e = absurd (cc)

-- THE FLIP

-- no number is grey or black after it, and no frame
within_some : (z : Spaces) (first place : ℕ) → 0 < first → place ≡ 0 → is_within z first place ≡ false
within_some z first place some none = and_left _ _ (lt-leb first place (omega arith))

some_place : (g : Geometry) (space : ℕ) → 0 < place_at g space 0
some_place g space = some (space * space_words g)
  where
    some : (from : ℕ) → 0 < 1 + from + 0
    some from = omega arith

-- all facts hold after the flip
pub flip : (g : Geometry) (w : Words) (flight : ℕ → Flight) (begun : ℕ → ℕ) (t : Spot) (names : Names) (contents : Contents) (range : ℕ → Option ℕ)
    → t.line ≡ line.Rest → t.cycle < last_cycle → FactsOf g w flight begun t names contents range
    → FactsOf g (flipped_words w) flight begun (flipped_spot t) names contents range
unfolding l.is_marking l.hand_of_spot l.hand_at_line shades_of
flip g w flight begun t names contents range at_rest early h =
    let c = w.cycle + 1 in
    let z = spaces_of g w.cycle in
    let sh = shades_of g w flight t.line names in
    let m : ShadesMean g w z sh flight t.line names = shades_mean g w flight t.line names in
    let colours : ColoursMean w z sh = colours_mean g w flight t.line names in
    let white' = white_by c w.place w.mark in
    let grey' = grey_by (spaces_of g c) c w.place w.mark in
    let black' = black_by (spaces_of g c) c w.place w.mark in
    let frame' = black_frame_by c w.frame_cycle in
    let marks : l.is_marking t.line ≡ false = ap l.is_marking at_rest in
    let knows : t.cycle ≡ w.cycle = h.spot_knows_cycle in
    let empty : (n : ℕ) → n < numbers g → w.mark n ≡ c → w.place n ≡ 0 = λ n within e.
    (above_empty g w z sh flight begun (hands_of g flight t) t names contents range h m colours at_rest n within (omega arith)).1 in
    let colourless : (first n : ℕ) → 0 < first → n < numbers g → (nat_eq (w.mark n) c && is_within (spaces_of g c) first (w.place n)) ≡ false = λ first n some within.
    elim (cases_eq (w.mark n) c) [
      | inl e ↦ and_right _ _ (within_some (spaces_of g c) first (w.place n) some (empty n within e))
      | inr d ↦ and_left _ _ (ne_eqb (w.mark n) c d)
    ] in
    let frames : (s : ℕ) → s < tasks g → frame' s ≡ false = λ s b.
    let e : w.frame_cycle s ≤ w.cycle = h.frames_not_ahead s b in ne_eqb (w.frame_cycle s) c (omega arith) in
    let hands : hands_of g flight (flipped_spot t) ≡ hands_of g flight t = hands_kept g flight t (flipped_spot t) (sym (ap (l.hand_at_line t) at_rest)) in
    let kept : kept_by g c true (held_by g flight) names.bearer w.place w.mark ≡ sh.kept = λ i n.
    (kept_again g w.cycle (held_by g flight) names.bearer w.place w.mark empty n
    ∙ ap (λ (b : Bool). kept_by g w.cycle b (held_by g flight) names.bearer w.place w.mark n) (sym marks)) i in
    let shades : shades_of g (flipped_words w) flight (line.Frame 0) names ≡ record sh { white = white'; grey = grey'; black = black'; black_frame = frame' } =
    ap (λ (k : ℕ → Bool). record { white = white'; grey = grey'; black = black'; black_frame = frame'; kept = k; size = sh.size }) kept in
    rw (hands, shades)
    (subst (λ (k : Spaces). Facts g (flipped_words w) k (record sh { white = white'; grey = grey'; black = black'; black_frame = frame' }) flight begun (hands_of g flight t) (flipped_spot t) names contents range)
    (sym (spaces_turned g w.cycle))
    (flip_facts g w z sh flight begun (hands_of g flight t) t names contents range h m colours at_rest (omega arith) white' grey' black' frame'
    (λ n within. colourless (spaces_of g c).old n (some_place g ((c + 1) % 2)) within)
    (λ n within. colourless (spaces_of g c).current n (some_place g (c % 2)) within)
    frames (none_reserves g w flight begun t names contents range marks h)))

-- the spot takes that
pub flip_took : (t : Spot) → t.cycle < last_cycle → rest_took t ≡ flipped_spot t
unfolding rest_took
flip_took t early = rw (ne_eqb t.cycle last_cycle (omega arith)) refl
