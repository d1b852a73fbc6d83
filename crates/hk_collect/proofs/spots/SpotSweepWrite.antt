-- The sweep writes a number that wasn't claimed as the next entry of the list of the next cycle. No New reads that list, since the
-- state is settled; and the number isn't among the entries before it, which are marked for the next cycle.
use Rattle.std.proofs.Common.{◌≡◌, ◌≢◌, ℕ, ◌+◌, ◌%◌, ◌<◌, ◌≤◌, true, false, inl, inr, refl, sym, ◌∙◌, ap, subst, arith, Option}
use Rattle.std.proofs.lemmas.Bool.{cases_lt, and_parts, and_from, leb-true, le-leb}
use Rattle.std.specs.Prelude.{nat_le, not}
use Rattle.hk_words.specs.declared.geometry.Geometry.{Geometry}
use Rattle.hk_words.specs.declared.call.Call.{Call}
use Rattle.hk_words.specs.declared.call.Call.TheVariants as call
use Rattle.hk_words.specs.Geometry.{tasks, numbers, list_length}
use Rattle.hk_model.specs.View.{upd2}
use Rattle.hk_model.proofs.Updates.{upd2_same, upd2_other}
use Rattle.hk_core.specs.declared.flight.Flight.{Flight}
use Rattle.hk_core.specs.declared.spot.Spot.{Spot}
use Rattle.hk_core.specs.declared.spot.Line.TheVariants as line
use Rattle.hk_core.specs.declared.spot.Stage.TheVariants as stage
use Rattle.hk_core.specs.Collect.{current_space, next_list}
use Rattle.hk_core.specs.View.{Words, Names, Contents}
use Rattle.hk_core.specs.Flights as f
use Rattle.hk_core.specs.Flights.{Hand}
use Rattle.hk_core.specs.Lines as l
use Rattle.hk_core.specs.Colours.{Spaces, spaces_of, Shades, shades_of}
use Rattle.hk_core.specs.Facts as fact
use Rattle.hk_core.specs.Facts.{IsUnread, IsOwn, IsSettled}
use Rattle.hk_core.specs.Lawful.{Facts, FactsOf, hands_of}
use Rattle.hk_core.proofs.kinds.NewRaise.{making_raised}
use Rattle.hk_collect.proofs.spots.SpotSweepLines.{sweep_spot}
use Rattle.hk_collect.proofs.spots.Spots.{SpotFacts, hands_kept, shades_kept}
use Rattle.hk_core.proofs.Shared.{never_false}
use Rattle.hk_collect.proofs.Small.{is_at}

-- a New that has loaded its entry makes an object
numbered_at : (call : Call) (place : ℕ) → f.is_new_at 5 6 call place ≡ true → f.is_new_at 4 6 call place ≡ true
unfolding f.is_new_at
numbered_at (call.Get reg field) place e = e
numbered_at (call.Put reg field value) place e = e
numbered_at (call.Load dest reg field) place e = e
numbered_at (call.Store reg field from) place e = e
numbered_at (call.Move dest from) place e = e
numbered_at (call.Clear dest) place e = e
numbered_at (call.New dest shape) place e =
    let p = and_parts (nat_le 5 place) (nat_le place 6) e in let low : 5 ≤ place = leb-true 5 place p.0 in and_from _ _ (le-leb 4 place (omega arith)) p.1
numbered_at (call.Same a b) place e = e
numbered_at (call.IsNull reg) place e = e

numbered_makes : (v : Flight) → f.has_number v ≡ true → f.is_making v ≡ true
unfolding f.has_number f.is_making
numbered_makes v e = let p = and_parts (f.is_new_at 5 6 v.call v.place) (not v.full) e in and_from _ _ (numbered_at v.call v.place p.0) p.1

module _ (g : Geometry) (w : Words) (z : Spaces) (sh : Shades) (flight : ℕ → Flight) (begun : ℕ → ℕ) (hand : ℕ → Hand) (t : Spot)
    (names : Names) (contents : Contents) (range : ℕ → Option ℕ) (h : Facts g w z sh flight begun hand t names contents range)
    (n : ℕ) (at_write : t.line ≡ line.Sweep n stage.Write) where
  -- the entries of the next cycle, and all entries after the write
  abbrev next : ℕ → ℕ
  next = w.entry (next_list w.cycle)

  abbrev entry' : ℕ → ℕ → ℕ
  entry' = upd2 w.entry (next_list w.cycle) t.entries n

  abbrev w' : Words
  w' = record w { entry = entry' }

  abbrev t' : Spot
  t' = record t { line = line.Sweep n stage.Mark; entries = t.entries + 1 }

  quiet : l.is_marking t.line ≡ false
  unfolding l.is_marking
  quiet = ap l.is_marking at_write

  settled : IsSettled g w.cycle sh.white sh.grey w.register flight
  settled = h.settled_from_sweep quiet

  has_room : (t.entries < list_length g) × (w.mark n < w.cycle)
  has_room = subst (l.InStep (list_length g) w.cycle t.entries w.mark next) at_write h.sweep_in_step

  fits : n < numbers g
  fits = (subst (l.LineFits g t) at_write h.spot_formed).0

  was_written : l.written g t t.line ≡ t.entries
  unfolding l.written
  was_written = ap (l.written g t) at_write

  was_marked : l.marked g t t.line ≡ t.entries
  unfolding l.marked l.unmarked_at
  was_marked = ap (l.marked g t) at_write ∙ omega arith

  was_emptied : l.emptied g t t.line ≡ t.entries
  unfolding l.emptied l.headed_at
  was_emptied = ap (l.emptied g t) at_write ∙ omega arith

  -- the new entry, and those before it
  new_entry : entry' (next_list w.cycle) t.entries ≡ n
  new_entry = upd2_same w.entry (next_list w.cycle) t.entries n

  old_entry : (j : ℕ) → j < t.entries → entry' (next_list w.cycle) j ≡ next j
  old_entry j below = upd2_other w.entry (next_list w.cycle) t.entries n (next_list w.cycle) j (inr (omega arith))

  -- those of the list of this cycle, and those of News
  current_entry : (j : ℕ) → entry' (current_space w.cycle) j ≡ w.entry (current_space w.cycle) j
  current_entry j = upd2_other w.entry (next_list w.cycle) t.entries n (current_space w.cycle) j (inl (omega arith))

  own_entry : (s : ℕ) → s < tasks g → f.is_making (flight s) ≡ true → fact.own_entry entry' (flight s) ≡ fact.own_entry w.entry (flight s)
  own_entry s b making =
      let cycle : f.cycle_of (flight s) ≡ w.cycle = settled.none_late s b (making_raised (flight s) (h.news_in_step s b) making) in
      upd2_other w.entry (next_list w.cycle) t.entries n (f.cycle_of (flight s) % 2) (f.objects_before (flight s))
      (inl (λ same. let now : f.cycle_of (flight s) % 2 ≡ w.cycle % 2 = ap (λ c. c % 2) cycle in absurd (omega arith)))

  -- the number isn't among the entries before
  not_written_yet : (j : ℕ) → j < t.entries → next j ≢ n
  not_written_yet j below same =
      let a = was_marked in
      let marked : w.mark (next j) ≡ w.cycle + 1 = h.written_marked j (omega arith) in
      let there : w.mark (next j) ≡ w.mark n = ap w.mark same in
      let low : w.mark n < w.cycle = has_room.1 in
      omega arith

  its_spot : SpotFacts g w' z sh flight hand t' names range
  unfolding l.is_marking l.is_resting l.is_sweeping_or_marking l.sweeping l.written l.marked l.emptied l.cleared l.unmarked_at l.headed_at
  its_spot =
      let room : t.entries < list_length g = has_room.0 in
      let a = was_marked in
      let b = was_written in
      let c = was_emptied in
      let busy : l.is_resting t.line ≡ false = ap l.is_resting at_write in
      let sweeps : l.is_sweeping_or_marking t.line ≡ true = ap l.is_sweeping_or_marking at_write in
      sweep_spot g w' z sh flight hand t' names range refl (record {
        spot_knows_cycle = h.spot_knows_cycle;
        marks_above_are_written = λ k within above.
            let o = h.marks_above_are_written k within above in
            let below : o.0 < l.marked g t t.line = o.1 in
            (o.0, omega arith, old_entry o.0 (omega arith) ∙ o.2);
        moved_stands_in_range = λ e. h.moved_stands_in_range busy;
        unreserved_is_zero = λ e. h.unreserved_is_zero busy;
        unused_is_zero = λ e. never_false (sym e);
        cleared_is_zero = λ i d. absurd (omega arith);
        nothing_reserved_at_rest = λ e. never_false (sym e);
        ranges_below_moved = h.ranges_below_moved;
        ranges_above_grey = h.ranges_above_grey;
        scan_bounded = λ e. h.scan_bounded busy;
        marks_few = λ e. h.marks_few sweeps;
        written_numbers = λ j below. elim (cases_lt j t.entries) [
          | inl before ↦ subst (λ k. k < numbers g) (sym (old_entry j before)) (h.written_numbers j (omega arith))
          | inr last ↦ let here : j ≡ t.entries = omega arith in subst (λ k. k < numbers g) (sym (ap (entry' (next_list w.cycle)) here ∙ new_entry)) fits
        ];
        written_distinct = λ i j lower below. elim (cases_lt j t.entries) [
          | inl before ↦ λ same. h.written_distinct i j lower (omega arith) (sym (old_entry i (omega arith)) ∙ same ∙ old_entry j before)
          | inr last ↦
              let here : j ≡ t.entries = omega arith in
              λ same. not_written_yet i (omega arith) (sym (old_entry i (omega arith)) ∙ same ∙ ap (entry' (next_list w.cycle)) here ∙ new_entry)
        ];
        written_marked = λ j below. subst (λ k. w.mark k ≡ w.cycle + 1) (sym (old_entry j (omega arith))) (h.written_marked j (omega arith));
        written_empty = λ j below. subst (λ k. fact.HasNoHeader w.accessors w.place w.version k) (sym (old_entry j (omega arith))) (h.written_empty j (omega arith));
        sweep_in_step = (omega arith, omega arith, ap (entry' (next_list w.cycle)) (omega arith) ∙ new_entry, has_room.1);
        swept_marked = λ k j e below. h.swept_marked n j (ap l.sweeping at_write) (let same : n ≡ k = is_at n k e in omega arith);
        spot_formed = (fits, tt);
        settled = settled;
      })

  pub sweep_write_facts : Facts g w' z sh flight begun hand t' names contents range
  sweep_write_facts =
      let spot : SpotFacts g w' z sh flight hand t' names range = its_spot in
      let unread : fact.UnreadFree g w.cycle w.objects w.accessors w.place w.version w.mark (entry' (current_space w.cycle)) = λ j a b.
      subst (λ k. IsUnread g w.cycle w.accessors w.place w.version w.mark k) (sym (current_entry j)) (h.unread_free j a b) in
      let distinct : fact.UnreadDistinct g w.objects (entry' (current_space w.cycle)) = λ i j a b c same.
      h.unread_distinct i j a b c (sym (current_entry i) ∙ same ∙ current_entry j) in
      let own : fact.OwnEntries g w.accessors w.place w.version w.mark entry' flight = λ s b making.
      subst (λ k. IsOwn g w.accessors w.place w.version w.mark (flight s) k) (sym (own_entry s b making)) (h.own_entries s b making) in
      let own_distinct : fact.OwnEntriesDistinct g entry' flight = λ s u b c d making other same.
      h.own_entries_distinct s u b c d making other (sym (own_entry s b making) ∙ same ∙ own_entry u c other) in
      let own_read : fact.OwnEntriesRead g w.objects (entry' (current_space w.cycle)) entry' flight = λ s j b making a c same.
      h.own_entries_read s j b making a c (sym (own_entry s b making) ∙ same ∙ current_entry j) in
      let numbered : fact.NumberIsOwn g entry' flight = λ s b e. h.number_is_own s b e ∙ sym (own_entry s b (numbered_makes (flight s) e)) in
      assumption

-- all facts hold after the sweep has written an entry
pub sweep_writes : (g : Geometry) (w : Words) (flight : ℕ → Flight) (begun : ℕ → ℕ) (t : Spot) (names : Names) (contents : Contents) (range : ℕ → Option ℕ) (n : ℕ)
    → t.line ≡ line.Sweep n stage.Write → FactsOf g w flight begun t names contents range
    → FactsOf g (record w { entry = upd2 w.entry (next_list w.cycle) t.entries n }) flight begun (record t { line = line.Sweep n stage.Mark; entries = t.entries + 1 }) names contents range
unfolding shades_of l.hand_of_spot l.hand_at_line l.is_marking
sweep_writes g w flight begun t names contents range n at_write h =
    let t' = record t { line = line.Sweep n stage.Mark; entries = t.entries + 1 } in
    let hands : hands_of g flight t' ≡ hands_of g flight t = hands_kept g flight t t' (sym (ap (l.hand_at_line t) at_write)) in
    let shades : shades_of g w flight (line.Sweep n stage.Mark) names ≡ shades_of g w flight t.line names =
    shades_kept g w flight t.line (line.Sweep n stage.Mark) names (sym (ap l.is_marking at_write)) in
    rw (hands, shades)
    (sweep_write_facts g w (spaces_of g w.cycle) (shades_of g w flight t.line names) flight begun (hands_of g flight t) t names contents range h n at_write)
