-- A New that found room writes the header of its number: the number has the place of the new object then, and is still
-- held, so that it isn't kept.
use Rattle.std.proofs.Common.{◌≡◌, ◌≢◌, ℕ, ◌+◌, ◌<◌, ◌≤◌, Bool, true, false, inl, inr, refl, sym, ◌∙◌, ap, arith, subst, Option, Some}
use Rattle.std.proofs.lemmas.Bool.{both_ways, cases_eq, and_parts, and_from, and_left, and_right, leb-true, le-leb, lt-leb, le-ltb, lt-ltb, eq-eqb, ne_eqb, not_from_true}
use Rattle.std.specs.Prelude.{nat_eq, nat_le, nat_lt, not, ◌&&◌}
use Rattle.hk_words.specs.declared.geometry.Geometry.{Geometry}
use Rattle.hk_words.specs.declared.shape.Shape.{Shape}
use Rattle.hk_words.specs.declared.call.Call.{Call}
use Rattle.hk_words.specs.declared.call.Call.TheVariants as call
use Rattle.hk_words.specs.Geometry.{tasks, numbers, list_length}
use Rattle.hk_words.specs.Layout as layout
use Rattle.hk_model.specs.View.{upd}
use Rattle.hk_model.proofs.Updates.{upd_same, upd_other}
use Rattle.hk_core.specs.declared.flight.Flight.{Flight}
use Rattle.hk_core.specs.declared.spot.Spot.{Spot}
use Rattle.hk_core.specs.declared.spot.Line.{Line}
use Rattle.hk_core.specs.declared.spot.Line.TheVariants as line
use Rattle.hk_core.specs.declared.spot.Stage.TheVariants as stage
use Rattle.hk_core.specs.Counts.{any_below}
use Rattle.hk_core.specs.Collect.{current_space, next_list}
use Rattle.hk_core.specs.Step.{new_place}
use Rattle.hk_core.specs.View.{Words, Names, Contents, reference_at}
use Rattle.hk_core.specs.Flights as f
use Rattle.hk_core.specs.Flights.{Hand, IsNewInStep}
use Rattle.hk_core.specs.Lines as l
use Rattle.hk_core.specs.Colours.{Spaces, spaces_of, Shades, shades_of, held_by, kept_by, grey_by, black_by, white_by, is_within, IsGood, IsNullOrGood, IsNullOrKept, NamesNoWhite}
use Rattle.hk_core.specs.Facts as fact
use Rattle.hk_core.specs.Facts.{IsOwn, FoundRoom, IsRecent, IsSettled}
use Rattle.hk_core.specs.Lawful.{Facts, FactsOf, hands_of}
use Rattle.hk_core.proofs.Update.{upd_own}
use Rattle.hk_core.proofs.Counts.{count_kept, count_some}
use Rattle.hk_core.proofs.kinds.Seats.{FlightFacts, FlightsFacts, KeptMeans, facts_of_flight, kept_means, pass_upd, hands_upd}
use Rattle.hk_core.proofs.kinds.NewFlight.{MakingFacts, MakesWell, CountFacts, counts_set, flights_set, settled_set, making_set, well_of, apart_of, new_hand, new_has_number, new_has_header, new_has_size}
use Rattle.hk_core.proofs.kinds.NewLoads.{new_on}
use Rattle.hk_core.proofs.kinds.NewEntry.{HasMade, made_is_making, made_raised, made_room, on_apart, on_counts, on_raising, on_facts, on_settles, held_elsewhere}
use Rattle.hk_core.proofs.kinds.NewRaise.{SpacesMean, spaces_mean}
use Rattle.hk_core.proofs.kinds.NewWords.{headed_words}

-- TABLES

later_place : (a b p : ℕ) → 1 ≤ a → (nat_le a p && nat_le p b) ≡ true → nat_le 1 p ≡ true
later_place a b p some e = let low : a ≤ p = leb-true a p (and_parts (nat_le a p) (nat_le p b) e).0 in le-leb 1 p (omega arith)

-- a call that is inside an object goes through it
inside_through : (call : Call) (place : ℕ) → f.in_object_at call place ≡ true → (f.is_through call ≡ true) × (nat_le 1 place ≡ true)
unfolding f.in_object_at f.is_through
inside_through (call.Get reg field) place e = (refl, later_place 2 3 place (omega arith) e)
inside_through (call.Put reg field value) place e = (refl, later_place 2 3 place (omega arith) e)
inside_through (call.Load dest reg field) place e = (refl, later_place 3 9 place (omega arith) e)
inside_through (call.Store reg field from) place e = (refl, later_place 2 7 place (omega arith) e)
inside_through (call.Move dest from) place e = absurd (cc)
inside_through (call.Clear dest) place e = absurd (cc)
inside_through (call.New dest shape) place e = absurd (cc)
inside_through (call.Same a b) place e = absurd (cc)
inside_through (call.IsNull reg) place e = absurd (cc)

cycle_through : (call : Call) (place : ℕ) (is_null : Bool) → f.has_cycle_inside_at call place is_null ≡ true → (f.is_through call ≡ true) × (nat_le 1 place ≡ true)
unfolding f.has_cycle_inside_at f.is_through
cycle_through (call.Get reg field) place is_null e = absurd (cc)
cycle_through (call.Put reg field value) place is_null e = absurd (cc)
cycle_through (call.Load dest reg field) place is_null e = (refl, later_place 4 9 place (omega arith) e)
cycle_through (call.Store reg field from) place is_null e = (refl, later_place 3 7 place (omega arith) (and_parts (nat_le 3 place && nat_le place 7) (not is_null) e).0)
cycle_through (call.Move dest from) place is_null e = absurd (cc)
cycle_through (call.Clear dest) place is_null e = absurd (cc)
cycle_through (call.New dest shape) place is_null e = absurd (cc)
cycle_through (call.Same a b) place is_null e = absurd (cc)
cycle_through (call.IsNull reg) place is_null e = absurd (cc)

load_through : (first last : ℕ) (call : Call) (place : ℕ) → 1 ≤ first → f.is_load_at first last call place ≡ true → (f.is_through call ≡ true) × (nat_le 1 place ≡ true)
unfolding f.is_load_at f.is_through
load_through first last (call.Get reg field) place some e = absurd (cc)
load_through first last (call.Put reg field value) place some e = absurd (cc)
load_through first last (call.Load dest reg field) place some e = (refl, later_place first last place some e)
load_through first last (call.Store reg field from) place some e = absurd (cc)
load_through first last (call.Move dest from) place some e = absurd (cc)
load_through first last (call.Clear dest) place some e = absurd (cc)
load_through first last (call.New dest shape) place some e = absurd (cc)
load_through first last (call.Same a b) place some e = absurd (cc)
load_through first last (call.IsNull reg) place some e = absurd (cc)

load_later : (call : Call) (place : ℕ) → f.is_load_at 5 9 call place ≡ true → f.is_load_at 5 10 call place ≡ true
unfolding f.is_load_at
load_later (call.Get reg field) place e = e
load_later (call.Put reg field value) place e = e
load_later (call.Load dest reg field) place e =
    let p = and_parts (nat_le 5 place) (nat_le place 9) e in let high : place ≤ 9 = leb-true place 9 p.1 in and_from _ _ p.0 (le-leb place 10 (omega arith))
load_later (call.Store reg field from) place e = e
load_later (call.Move dest from) place e = e
load_later (call.Clear dest) place e = e
load_later (call.New dest shape) place e = e
load_later (call.Same a b) place e = e
load_later (call.IsNull reg) place e = e

module _ (v : Flight) where
  pub object_through : f.in_object v ≡ true → (f.is_through v.call ≡ true) × (f.is_flying v ≡ true)
  unfolding f.in_object
  object_through e = inside_through v.call v.place e

  pub cycle_inside_through : f.has_cycle_inside v ≡ true → (f.is_through v.call ≡ true) × (f.is_flying v ≡ true)
  unfolding f.has_cycle_inside
  cycle_inside_through e = cycle_through v.call v.place (nat_eq v.item 0) e

  pub loaded_inside_through : f.has_loaded_inside v ≡ true → (f.is_through v.call ≡ true) × (f.is_flying v ≡ true)
  unfolding f.has_loaded_inside
  loaded_inside_through e = load_through 5 9 v.call v.place (omega arith) e

  pub loaded_inside_loaded : f.has_loaded_inside v ≡ true → f.has_loaded v ≡ true
  unfolding f.has_loaded_inside f.has_loaded
  loaded_inside_loaded e = load_later v.call v.place e

  pub is_load_through : f.is_load v ≡ true → (f.is_through v.call ≡ true) × (f.is_flying v ≡ true)
  unfolding f.is_load
  is_load_through e = load_through 1 10 v.call v.place (omega arith) e

-- an entry that has no header is marked
emptied_marked : (g : Geometry) (t : Spot) (ln : Line) (j : ℕ) → j < l.emptied g t ln → j < l.marked g t ln
unfolding l.emptied l.marked l.unmarked_at l.headed_at
emptied_marked g t line.Rest j e = e
emptied_marked g t (line.Frame s) j e = e
emptied_marked g t (line.Register s r stage) j e = e
emptied_marked g t (line.FrameTrade s) j e = e
emptied_marked g t line.Scan j e = e
emptied_marked g t line.Link j e = e
emptied_marked g t line.Look j e = e
emptied_marked g t (line.Cell i stage) j e = e
emptied_marked g t line.ObjectTrade j e = e
emptied_marked g t (line.Pass n) j e = e
emptied_marked g t (line.PassHead n) j e = e
emptied_marked g t (line.Sweep n stage.Read) j e = e
emptied_marked g t (line.Sweep n stage.Claim) j e = e
emptied_marked g t (line.Sweep n stage.Reserve) j e = e
emptied_marked g t (line.Sweep n stage.Tie) j e = e
emptied_marked g t (line.Sweep n stage.Write) j e = e
emptied_marked g t (line.Sweep n stage.Mark) j e = e
emptied_marked g t (line.Sweep n stage.Empty) j e = omega arith
emptied_marked g t (line.Clear i) j e = e
emptied_marked g t line.Reset j e = e

-- an attempt on an object is at a range, and has an item
attempt_at_range : (t : Spot) (ln : Line) (passed : ℕ) → l.object_attempt t ln ≡ Some passed → (l.has_item ln ≡ true) × (l.is_at_range ln ≡ true)
unfolding l.object_attempt l.has_item l.is_at_range
attempt_at_range t line.Rest passed e = absurd (cc)
attempt_at_range t (line.Frame s) passed e = absurd (cc)
attempt_at_range t (line.Register s r stage) passed e = absurd (cc)
attempt_at_range t (line.FrameTrade s) passed e = absurd (cc)
attempt_at_range t line.Scan passed e = absurd (cc)
attempt_at_range t line.Link passed e = absurd (cc)
attempt_at_range t line.Look passed e = absurd (cc)
attempt_at_range t (line.Cell j stage) passed e = (refl, refl)
attempt_at_range t line.ObjectTrade passed e = (refl, refl)
attempt_at_range t (line.Pass n) passed e = absurd (cc)
attempt_at_range t (line.PassHead n) passed e = absurd (cc)
attempt_at_range t (line.Sweep n stage) passed e = absurd (cc)
attempt_at_range t (line.Clear j) passed e = absurd (cc)
attempt_at_range t line.Reset passed e = absurd (cc)

pub number_of_reference : (g : Geometry) (names : Names) (n word : ℕ) → n < numbers g → word ≡ reference_at names n → layout.reference_number word ≡ n
unfolding reference_at
number_of_reference g names n word within e = rw e (omega arith)

-- WHAT NAMES THE NUMBER

-- a New that has a number holds it
pub holder_holds : (g : Geometry) (flight : ℕ → Flight) (s : ℕ) → s < tasks g → f.has_number (flight s) ≡ true → held_by g flight (flight s).number ≡ true
unfolding f.holds_number any_below
holder_holds g flight s b e =
    lt-ltb 0 _ (count_some (λ u. f.has_number (flight u) && nat_eq (flight u).number (flight s).number) s (tasks g) b (and_from _ _ e (eq-eqb (flight s).number (flight s).number refl)))

-- a word that is null or good names no white number, if it named none, where only a number that isn't kept has become white
pub names_no_white : (white white' kept : ℕ → Bool) (names : Names) (word : ℕ) → ((m : ℕ) → kept m ≡ true → white' m ≡ white m) → IsNullOrGood kept names word
    → NamesNoWhite white word → NamesNoWhite white' word
names_no_white white white' kept names word same good (inl null) = inl null
names_no_white white white' kept names word same (inl null) (inr dark) = inl null
names_no_white white white' kept names word same (inr o) (inr dark) = inr (same _ o.is_kept ∙ dark)

module _ (g : Geometry) (w : Words) (z : Spaces) (sh : Shades) (flight : ℕ → Flight) (begun : ℕ → ℕ) (hand : ℕ → Hand) (t : Spot)
    (names : Names) (contents : Contents) (range : ℕ → Option ℕ) (s dest : ℕ) (shape : Shape) (white' black' : ℕ → Bool)
    (below : s < tasks g) (is_new : (flight s).call ≡ call.New dest shape) (at_5 : (flight s).place ≡ 5) (not_full : (flight s).full ≡ false)
    (means : KeptMeans g w (held_by g flight) t.line names sh)
    (white_else : (m : ℕ) → m ≢ (flight s).number → white' m ≡ sh.white m) (black_else : (m : ℕ) → m ≢ (flight s).number → black' m ≡ sh.black m)
    (white_here : f.cycle_of (flight s) ≡ w.cycle → white' (flight s).number ≡ false)
    (h : Facts g w z sh flight begun hand t names contents range) where
  -- the number, the place of its object, the places, words and shades after the write, and the flight
  abbrev n : ℕ
  n = (flight s).number

  abbrev p : ℕ
  p = new_place g (flight s)

  abbrev place' : ℕ → ℕ
  place' = upd w.place n p

  abbrev w' : Words
  w' = record w { place = place' }

  abbrev sh' : Shades
  sh' = record sh { white = white'; black = black' }

  abbrev y : Flight
  y = new_on (flight s) 6 n

  was : HasMade (flight s) dest shape
  was =
      let step : IsNewInStep (flight s).place (flight s).full (flight s).raised = rw is_new at (h.news_in_step s below) in
      record { is_new = is_new; not_full = not_full; raised = step.raised_by_then (omega arith) not_full; from = omega arith; to = omega arith }

  early : (flight s).place ≤ 6
  early = omega arith

  its_making : f.is_making (flight s) ≡ true
  its_making = made_is_making (flight s) dest shape was early

  numbered : f.has_number (flight s) ≡ true
  numbered = new_has_number (flight s) dest shape is_new ∙ rw (at_5, not_full) refl

  its_number : n ≡ fact.own_entry w.entry (flight s)
  its_number = h.number_is_own s below numbered

  own : IsOwn g w.accessors w.place w.version w.mark (flight s) n
  own = subst (λ k. IsOwn g w.accessors w.place w.version w.mark (flight s) k) (sym its_number) (h.own_entries s below its_making)

  -- the number isn't kept
  kept_else : (m : ℕ) → sh.kept m ≡ true → m ≢ n
  kept_else m kept same = both_ways _ (means m kept).not_held (ap (held_by g flight) same ∙ holder_holds g flight s below numbered)

  placed : (m : ℕ) → m ≢ n → place' m ≡ w.place m
  placed m differ = upd_other w.place n p m differ

  kept_placed : (m : ℕ) → sh.kept m ≡ true → place' m ≡ w.place m
  kept_placed m kept = placed m (kept_else m kept)

  kept_white : (m : ℕ) → sh.kept m ≡ true → white' m ≡ sh.white m
  kept_white m kept = white_else m (kept_else m kept)

  good_black : (word : ℕ) → IsGood sh.kept names word → black' (layout.reference_number word) ≡ sh.black (layout.reference_number word)
  good_black word o = black_else _ (kept_else _ o.is_kept)

  -- the flights of the others
  others_flight : (u : ℕ) → u < tasks g → FlightFacts g w' sh' names contents.register u (flight u)
  others_flight u b =
      let flies : FlightsFacts g w sh names contents.register flight = assumption in
      let o = facts_of_flight g w sh names contents.register flight flies u b in
      record {
        registers_shown = o.registers_shown;
        entered_good = o.entered_good;
        loaded_good = o.loaded_good;
        formed = o.formed;
        in_step = o.in_step;
        field_there = o.field_there;
        entered_stays = o.entered_stays;
        place_known = λ e.
            let q = object_through (flight u) e in
            o.place_known e ∙ sym (kept_placed _ (o.entered_good q.0 q.1).is_kept);
        loaded_recent = o.loaded_recent;
        loaded_stays = o.loaded_stays;
        copied_stays = o.copied_stays;
        claims_last = o.claims_last;
        late_in_no_black_object = λ e late.
            let q = cycle_inside_through (flight u) e in
            good_black _ (o.entered_good q.0 q.1) ∙ o.late_in_no_black_object e late;
        late_in_no_black_frame = o.late_in_no_black_frame;
        loaded_white = λ e black.
            let q = loaded_inside_through (flight u) e in
            names_no_white sh.white white' sh.kept names (flight u).item kept_white (o.loaded_good (loaded_inside_loaded (flight u) e))
            (o.loaded_white e (sym (good_black _ (o.entered_good q.0 q.1)) ∙ black));
        entered_white = λ e black.
            let q = is_load_through (flight u) e in
            names_no_white sh.white white' sh.kept names (flight u).entered kept_white (inr (o.entered_good q.0 q.1)) (o.entered_white e black);
      }

  -- and what their News make
  others_well : (u : ℕ) → u < tasks g → u ≢ s → MakesWell g w' sh' (flight u)
  others_well u b differ =
      let makes : MakingFacts g w sh flight = assumption in
      let o = well_of g w sh flight makes u b in
      record {
        apart_from_kept = λ k e kept. rw (kept_placed k kept) (o.apart_from_kept k e kept);
        own = λ e.
            let i = o.own e in
            record {
              within = i.within;
              is_marked = i.is_marked;
              no_accessors = i.no_accessors;
              no_version = i.no_version;
              placed = placed _ (λ same. h.own_entries_distinct u s b below differ e its_making (same ∙ its_number)) ∙ i.placed;
            };
        unread = o.unread;
        number = o.number;
        room = o.room;
        clean = o.clean;
        recent = o.recent;
      }

  its_header : f.has_header y ≡ true
  its_header = new_has_header y dest shape is_new ∙ rw not_full refl

  own_well : MakesWell g w' sh' y
  unfolding f.new_size
  own_well =
      let makes : MakingFacts g w sh flight = assumption in
      let o = well_of g w sh flight makes s below in
      record {
        apart_from_kept = λ k e kept. rw (kept_placed k kept) (o.apart_from_kept k its_making kept);
        own = λ e. subst (λ k. IsOwn g w.accessors place' w.version w.mark y k) its_number (record {
          within = own.within;
          is_marked = own.is_marked;
          no_accessors = own.no_accessors;
          no_version = own.no_version;
          placed = rw its_header (upd_same w.place n p);
        });
        unread = λ j e. o.unread j its_making;
        number = λ e. its_number;
        room = λ e. let r = o.room (made_room (flight s) dest shape was) in record { words = r.words; entry = r.entry; counted = r.counted };
        clean = λ i e. o.clean i its_making;
        recent = λ e. o.recent (made_raised (flight s) dest shape was);
      }

  its_cycle : IsRecent w.cycle (f.cycle_of (flight s))
  its_cycle = h.news_recent s below (made_raised (flight s) dest shape was)

  -- the number is on no list
  not_unread : (j : ℕ) → w.objects ≤ j → j < list_length g → w.entry (current_space w.cycle) j ≢ n
  not_unread j after within same = h.own_entries_read s j below its_making after within (sym its_number ∙ sym same)

  not_written : (j : ℕ) → j < l.emptied g t t.line → w.entry (next_list w.cycle) j ≢ n
  not_written j within same =
      let mark : w.mark (w.entry (next_list w.cycle) j) ≡ w.cycle + 1 = h.written_marked j (emptied_marked g t t.line j within) in
      let there : w.mark (w.entry (next_list w.cycle) j) ≡ w.mark n = ap w.mark same in
      let marked : w.mark n ≡ f.cycle_of (flight s) = own.is_marked in
      elim its_cycle [ inl e ↦ omega arith | inr e ↦ omega arith ]

  -- nor is it that of the object that is moved
  not_item : (passed : ℕ) → l.object_attempt t t.line ≡ Some passed → layout.reference_number t.item ≢ n
  not_item passed attempt =
      let at = attempt_at_range t t.line passed attempt in
      let found = h.scan_at_range at.1 in
      let k = found.0 in
      let linked = h.item_is_linked at.0 in
      let kept : sh.kept k ≡ true = (h.ranges_above_grey t.scan k found.1 (omega arith)).0 in
      let shows : t.item ≡ reference_at names k = elim (h.ranges_linked t.scan k found.1 found.2) [
        | inl none ↦ absurd (linked.0 (sym linked.1 ∙ none))
        | inr some ↦ sym linked.1 ∙ some
      ] in
      let number : layout.reference_number t.item ≡ k = number_of_reference g names k t.item (means k kept).within shows in
      λ same. kept_else k kept (sym number ∙ same)

  -- a settled state stays settled
  settling : IsSettled g w.cycle sh.white sh.grey w.register flight → IsSettled g w.cycle white' sh.grey w.register (upd flight s y)
  settling o =
      let late : f.cycle_of (flight s) ≡ w.cycle = o.none_late s below (made_raised (flight s) dest shape was) in
      let dark : (m : ℕ) → sh.white m ≡ false → white' m ≡ false = λ m e. elim (cases_eq m n) [
        | inl same ↦ ap white' same ∙ white_here late
        | inr differ ↦ white_else m differ ∙ e
      ] in
      let darker : (word : ℕ) → NamesNoWhite sh.white word → NamesNoWhite white' word = λ word e. elim e [ inl null ↦ inl null | inr d ↦ inr (dark _ d) ] in
      let settled : IsSettled g w.cycle sh.white sh.grey w.register (upd flight s y) = settled_set g w.cycle sh.white sh.grey w.register flight s y
      (on_settles g w.cycle sh.white sh.grey w.register flight s 6 n dest shape below was o) o in
      record {
        none_grey = settled.none_grey;
        none_late = settled.none_late;
        registers = λ u r b c. darker _ (settled.registers u r b c);
        entered = λ u b e. darker _ (settled.entered u b e);
        items = λ u b e. darker _ (settled.items u b e);
      }

  pub header_facts : Facts g w' z sh' (upd flight s y) begun hand t names contents range
  header_facts =
      let before : CountFacts g w' flight begun = assumption in
      let counts : CountFacts g w' (upd flight s y) begun = counts_set g w' flight begun s y below (on_counts (flight s) 6 n dest shape was early (omega arith) (omega arith)) before in
      let raising : f.will_raise y ≡ f.will_raise (flight s) = on_raising (flight s) 6 n dest shape was early (omega arith) (omega arith) in
      let used : fact.UsedStaysBounded g w.used (upd flight s y) = rw (count_kept f.will_raise flight s y (tasks g) raising) h.used_stays_bounded in
      let objects : fact.ObjectsStayBounded g w.objects (upd flight s y) = rw (count_kept f.will_raise flight s y (tasks g) raising) h.objects_stay_bounded in
      let making : MakingFacts g w' sh' (upd flight s y) = making_set g w' sh' flight s y others_well own_well
      (apart_of g w.entry flight h.news_apart h.own_entries_distinct)
      (λ u b d. on_apart (flight s) 6 n dest shape was early g w.entry (flight u) (apart_of g w.entry flight h.news_apart h.own_entries_distinct s u below b (λ e. d (sym e)))) in
      let flights : FlightsFacts g w' sh' names contents.register (upd flight s y) = flights_set g w' sh' names contents.register flight s y (λ u b d. others_flight u b)
      (on_facts g w' sh' names contents.register s (flight s) 6 n dest shape was (omega arith) (omega arith) (others_flight s below)) in
      let passes : fact.PassMeetsGrey g t.line sh.grey (IsSettled g w.cycle white' sh.grey w.register (upd flight s y)) = pass_upd g t.line sh.grey _ _ settling h.pass_meets_grey in
      let sweeps : fact.SettledFromSweep t.line (IsSettled g w.cycle white' sh.grey w.register (upd flight s y)) = λ e. settling (h.settled_from_sweep e) in
      let links : fact.LinksShown sh.kept names place' w.cell contents.link = λ k b kept. rw (kept_placed k kept) (h.links_shown k b kept) in
      let values : fact.ValuesShown sh.kept names place' w.cell contents.value = λ k b kept. rw (kept_placed k kept) (h.values_shown k b kept) in
      let one_space : fact.ObjectsInOneSpace z sh.kept place' sh.size = λ k kept. rw (kept_placed k kept) (h.objects_in_one_space k kept) in
      let apart : fact.ObjectsApart sh.kept place' sh.size = λ j k kept kept' differ. rw (kept_placed j kept, kept_placed k kept') (h.objects_apart j k kept kept' differ) in
      let unclaimed : fact.UnclaimedIsOld z w.cycle sh.kept place' w.mark sh.size = λ k kept. rw (kept_placed k kept) (h.unclaimed_is_old k kept) in
      let below_used : fact.ObjectsBelowUsed z w.used sh.kept place' sh.size = λ k kept. rw (kept_placed k kept) (h.objects_below_used k kept) in
      let moved : fact.MovedStandsInRange z (l.is_resting t.line) sh.kept place' range = λ busy k i kept. rw (kept_placed k kept) (h.moved_stands_in_range busy k i kept) in
      let free : fact.FreeIsZero z sh.kept place' sh.size w.cell = λ i within none. h.free_is_zero i within (λ k kept. rw (kept_placed k kept) at (none k kept)) in
      let unused : fact.UnusedIsZero z (l.is_resting t.line) sh.kept place' sh.size w.cell = λ rests i within none. h.unused_is_zero rests i within (λ k kept. rw (kept_placed k kept) at (none k kept)) in
      let ranges : fact.RangesBelowMoved z w.cycle t.scan sh.kept place' w.mark sh.size range = λ i k there within.
      let o = h.ranges_below_moved i k there within in
      record { is_kept = o.is_kept; is_claimed = o.is_claimed; stands = kept_placed k o.is_kept ∙ o.stands; ends = o.ends } in
      let unread : fact.UnreadFree g w.cycle w.objects w.accessors place' w.version w.mark (w.entry (current_space w.cycle)) = λ j a b.
      let o = h.unread_free j a b in
      record {
        within = o.within;
        is_marked = o.is_marked;
        no_header = record { no_accessors = o.no_header.no_accessors; no_place = placed _ (not_unread j a b) ∙ o.no_header.no_place; no_version = o.no_header.no_version };
      } in
      let written : fact.WrittenEmpty (l.emptied g t t.line) w.accessors place' w.version (w.entry (next_list w.cycle)) = λ j b.
      let o = h.written_empty j b in
      record { no_accessors = o.no_accessors; no_place = placed _ (not_written j b) ∙ o.no_place; no_version = o.no_version } in
      let attempt : fact.ObjectAttemptBehind t t.line t.first t.item w.accessors place' w.version = λ passed e.
      let o = h.object_attempt_behind passed e in
      record { nobody = o.nobody; placed = o.placed ∙ sym (placed _ (not_item passed e)); behind = o.behind; same_accessors = o.same_accessors } in
      let black_leads : fact.BlackLeadsToNoWhite white' black' sh.kept names contents.link = λ k b kept is_black borne i child within holds.
      kept_child (h.links_kept k b kept borne i within) child holds
      (h.black_leads_to_no_white k b kept (sym (black_else k (kept_else k kept)) ∙ is_black) borne i child within holds) in
      let black_frames : fact.BlackFrameHasNoWhite g white' sh.black_frame w.register = λ u r b c black.
      names_no_white sh.white white' sh.kept names (w.register u r) kept_white (h.registers_good u r b c) (h.black_frame_has_no_white u r b c black) in
      assumption
    where
      kept_child : {link : Option ℕ} → IsNullOrKept sh.kept names link → (child : ℕ) → link ≡ Some child → sh.white (names.number child) ≡ false → white' (names.number child) ≡ false
      kept_child (inl none) child e dark = absurd (cc)
      kept_child (inr o) child e dark = let same : o.0 ≡ child = cc in kept_white _ (ap (λ k. sh.kept (names.number k)) (sym same) ∙ o.2.is_kept) ∙ dark

-- THE SHADES

-- a held number isn't kept
pub held_not_kept : (g : Geometry) (cycle : ℕ) (marking : Bool) (held : ℕ → Bool) (bearer : ℕ → Option ℕ) (place mark : ℕ → ℕ) (n : ℕ) → held n ≡ true
    → kept_by g cycle marking held bearer place mark n ≡ false
held_not_kept g cycle marking held bearer place mark n e = and_left _ _ (and_right _ _ (and_right _ _ (not_from_true (held n) e)))

-- the shades after a number that is held has got a place in the current space, or has become white
module _ (g : Geometry) (w : Words) (flight : ℕ → Flight) (s : ℕ) (y : Flight) (ln : Line) (names : Names) (n p : ℕ) where
  abbrev headed_white : ℕ → Bool
  headed_white = white_by w.cycle (upd w.place n p) w.mark

  abbrev headed_black : ℕ → Bool
  headed_black = black_by (spaces_of g w.cycle) w.cycle (upd w.place n p) w.mark

  white_elsewhere : (m : ℕ) → m ≢ n → headed_white m ≡ (shades_of g w flight ln names).white m
  unfolding shades_of
  white_elsewhere m differ = rw (upd_other w.place n p m differ) refl

  black_elsewhere : (m : ℕ) → m ≢ n → headed_black m ≡ (shades_of g w flight ln names).black m
  unfolding shades_of
  black_elsewhere m differ = rw (upd_other w.place n p m differ) refl

  white_there : w.mark n ≡ w.cycle → headed_white n ≡ false
  white_there e = and_right _ _ (le-ltb (w.mark n) w.cycle (omega arith))

  grey_same : grey_by (spaces_of g w.cycle) w.cycle (upd w.place n p) w.mark n ≡ false → grey_by (spaces_of g w.cycle) w.cycle w.place w.mark n ≡ false
      → grey_by (spaces_of g w.cycle) w.cycle (upd w.place n p) w.mark ≡ grey_by (spaces_of g w.cycle) w.cycle w.place w.mark
  grey_same now was = λ i m. at m i
    where
      at : (m : ℕ) → grey_by (spaces_of g w.cycle) w.cycle (upd w.place n p) w.mark m ≡ grey_by (spaces_of g w.cycle) w.cycle w.place w.mark m
      at m = elim (cases_eq m n) [
        | inl e ↦ rw e (now ∙ sym was)
        | inr d ↦ rw (upd_other w.place n p m d) refl
      ]

  kept_unchanged : ((m : ℕ) → held_by g (upd flight s y) m ≡ held_by g flight m) → held_by g flight n ≡ true
      → kept_by g w.cycle (l.is_marking ln) (held_by g (upd flight s y)) names.bearer (upd w.place n p) w.mark
      ≡ kept_by g w.cycle (l.is_marking ln) (held_by g flight) names.bearer w.place w.mark
  kept_unchanged same held = λ i m. at m i
    where
      at : (m : ℕ) → kept_by g w.cycle (l.is_marking ln) (held_by g (upd flight s y)) names.bearer (upd w.place n p) w.mark m
          ≡ kept_by g w.cycle (l.is_marking ln) (held_by g flight) names.bearer w.place w.mark m
      at m = elim (cases_eq m n) [
        | inl e ↦
            rw e (held_not_kept g w.cycle (l.is_marking ln) (held_by g (upd flight s y)) names.bearer (upd w.place n p) w.mark n (same n ∙ held)
            ∙ sym (held_not_kept g w.cycle (l.is_marking ln) (held_by g flight) names.bearer w.place w.mark n held))
        | inr d ↦ rw (same m, upd_other w.place n p m d) refl
      ]

  shades_header : grey_by (spaces_of g w.cycle) w.cycle (upd w.place n p) w.mark n ≡ false → grey_by (spaces_of g w.cycle) w.cycle w.place w.mark n ≡ false
      → ((m : ℕ) → held_by g (upd flight s y) m ≡ held_by g flight m) → held_by g flight n ≡ true
      → shades_of g (record w { place = upd w.place n p }) (upd flight s y) ln names ≡ record (shades_of g w flight ln names) { white = headed_white; black = headed_black }
  unfolding shades_of
  shades_header now was same held = λ i. record {
    white = headed_white;
    grey = grey_same now was i;
    black = headed_black;
    black_frame = (shades_of g w flight ln names).black_frame;
    kept = kept_unchanged same held i;
    size = (shades_of g w flight ln names).size;
  }

-- a number without a place isn't grey
no_place_not_grey : (z : Spaces) (cycle : ℕ) (place mark : ℕ → ℕ) (n : ℕ) → 0 < z.old → place n ≡ 0 → grey_by z cycle place mark n ≡ false
no_place_not_grey z cycle place mark n some e = and_right _ _ (and_left _ _ (lt-leb z.old (place n) (omega arith)))

-- nor is that of a New: its object is in the current space, or it was marked for the cycle before
new_not_grey : (g : Geometry) (cycle : ℕ) (z : Spaces) (place mark : ℕ → ℕ) (x : Flight) (n : ℕ) → SpacesMean g cycle z → IsRecent cycle (f.cycle_of x) → mark n ≡ f.cycle_of x
    → f.words_before x < g.alloc → place n ≡ new_place g x → grey_by z cycle place mark n ≡ false
new_not_grey g cycle z place mark x n m recent marked few stands =
    let alloc = m.alloc in
    elim (m.stands x recent) [
      | inl o ↦
          let at : new_place g x ≡ z.current + (z.live + f.words_before x) = o.stands in
          and_right (nat_eq (mark n) cycle) (is_within z z.old (place n)) (elim m.apart [
            | inl c ↦ and_right (nat_le z.old (place n)) (nat_lt (place n) (z.old + (z.live + z.alloc))) (le-ltb (place n) (z.old + (z.live + z.alloc)) (omega arith))
            | inr c ↦ and_left (nat_le z.old (place n)) (nat_lt (place n) (z.old + (z.live + z.alloc))) (lt-leb z.old (place n) (omega arith))
          ])
      | inr o ↦ let past : f.cycle_of x + 1 ≡ cycle = o.of_cycle_before in and_left (nat_eq (mark n) cycle) (is_within z z.old (place n)) (ne_eqb (mark n) cycle (λ e. omega arith))
    ]

same_holder : (x : Flight) (q m : ℕ) → f.has_number (new_on x q x.number) ≡ f.has_number x → f.holds_number m (new_on x q x.number) ≡ f.holds_number m x
unfolding f.holds_number
same_holder x q m same = rw same refl

-- all facts hold after a New that found room has written the header of its number
pub new_writes_header : (g : Geometry) (w : Words) (flight : ℕ → Flight) (begun : ℕ → ℕ) (t : Spot) (names : Names) (contents : Contents) (range : ℕ → Option ℕ) (s dest : ℕ) (shape : Shape)
    → s < tasks g → (flight s).call ≡ call.New dest shape → (flight s).place ≡ 5 → (flight s).full ≡ false → FactsOf g w flight begun t names contents range
    → FactsOf g (headed_words w (flight s).number (new_place g (flight s))) (upd flight s (new_on (flight s) 6 (flight s).number)) begun t names contents range
new_writes_header g w flight begun t names contents range s dest shape below is_new at_5 not_full h =
    let x = flight s in
    let n = x.number in
    let p = new_place g x in
    let y = new_on x 6 n in
    let z = spaces_of g w.cycle in
    let sh = shades_of g w flight t.line names in
    let hand = hands_of g flight t in
    let means = kept_means g w flight t.line names in
    let mean = spaces_mean g w.cycle in
    let white' = headed_white g w flight s y t.line names n p in
    let black' = headed_black g w flight s y t.line names n p in
    let step : IsNewInStep x.place x.full x.raised = rw is_new at (h.news_in_step s below) in
    let was : HasMade x dest shape = record { is_new = is_new; not_full = not_full; raised = step.raised_by_then (omega arith) not_full; from = omega arith; to = omega arith } in
    let making : f.is_making x ≡ true = made_is_making x dest shape was (omega arith) in
    let numbered : f.has_number x ≡ true = new_has_number x dest shape is_new ∙ rw (at_5, not_full) refl in
    let numbered_still : f.has_number y ≡ true = new_has_number y dest shape is_new ∙ rw not_full refl in
    let number : n ≡ fact.own_entry w.entry x = h.number_is_own s below numbered in
    let own : IsOwn g w.accessors w.place w.version w.mark x n = subst (λ k. IsOwn g w.accessors w.place w.version w.mark x k) (sym number) (h.own_entries s below making) in
    let bare : f.has_header x ≡ false = new_has_header x dest shape is_new ∙ rw at_5 refl in
    let placeless : w.place n ≡ 0 = own.placed ∙ rw bare refl in
    let room : FoundRoom g w.cycle w.used x = h.news_found_room s below (made_room x dest shape was) in
    let few : f.words_before x < g.alloc = let a : f.words_before x + f.new_size x ≤ g.alloc = room.words in let b = new_has_size x dest shape is_new in omega arith in
    let recent = h.news_recent s below (made_raised x dest shape was) in
    let marked : w.mark n ≡ f.cycle_of x = own.is_marked in
    let held : (m : ℕ) → held_by g (upd flight s y) m ≡ held_by g flight m = λ m. held_elsewhere g flight s y m (same_holder x 6 m (numbered_still ∙ sym numbered)) in
    let hands : hands_of g (upd flight s y) t ≡ hand = hands_upd g t flight s y (new_hand y dest shape is_new g ∙ sym (new_hand x dest shape is_new g)) in
    let now : grey_by z w.cycle (upd w.place n p) w.mark n ≡ false = new_not_grey g w.cycle z (upd w.place n p) w.mark x n mean recent marked few (upd_same w.place n p) in
    let before : grey_by z w.cycle w.place w.mark n ≡ false = no_place_not_grey z w.cycle w.place w.mark n mean.some_old placeless in
    let shades : shades_of g (record w { place = upd w.place n p }) (upd flight s y) t.line names ≡ record sh { white = white'; black = black' } =
    shades_header g w flight s y t.line names n p now before held (holder_holds g flight s below numbered) in
    let facts : Facts g (record w { place = upd w.place n p }) z (record sh { white = white'; black = black' }) (upd flight s y) begun hand t names contents range =
    header_facts g w z sh flight begun hand t names contents range s dest shape white' black' below is_new at_5 not_full means
    (white_elsewhere g w flight s y t.line names n p) (black_elsewhere g w flight s y t.line names n p)
    (λ e. white_there g w flight s y t.line names n p (marked ∙ e)) h in
    let all : FactsOf g (record w { place = upd w.place n p }) (upd flight s y) begun t names contents range = rw (hands, shades) facts in
    rw (upd_own w.accessors n 0 (sym own.no_accessors), upd_own w.version n 0 (sym own.no_version)) all

-- a call that is inside an object isn't inside the one that a New is making
pub inside_elsewhere : (g : Geometry) (w : Words) (flight : ℕ → Flight) (begun : ℕ → ℕ) (t : Spot) (names : Names) (contents : Contents) (range : ℕ → Option ℕ) (s u : ℕ)
    → s < tasks g → u < tasks g → f.has_number (flight s) ≡ true → f.in_object (flight u) ≡ true → FactsOf g w flight begun t names contents range
    → layout.reference_number (flight u).entered ≢ (flight s).number
inside_elsewhere g w flight begun t names contents range s u below other numbered inside h same =
    let q = object_through (flight u) inside in
    let kept = (h.entered_good u other q.0 q.1).is_kept in
    both_ways _ (kept_means g w flight t.line names _ kept).not_held (ap (held_by g flight) same ∙ holder_holds g flight s below numbered)
