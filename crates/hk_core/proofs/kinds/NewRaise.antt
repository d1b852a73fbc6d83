-- A New raises W0 by its words and by one object. Where it found room it speaks for these words, and for an entry.
use Rattle.std.proofs.Common.{◌≡◌, ◌⊎◌, ℕ, ◌+◌, ◌*◌, ◌%◌, ◌<◌, ◌≤◌, Bool, true, false, inl, inr, refl, sym, ◌∙◌, ap, arith, Option}
use Rattle.std.proofs.lemmas.Bool.{both_ways, cases_eq, cases_lt, and_parts, and_from, leb-true, le-leb, lt-ltb}
use Rattle.std.specs.Prelude.{nat_le, not, ◌&&◌}
use Rattle.hk_words.specs.declared.geometry.Geometry.{Geometry}
use Rattle.hk_words.specs.declared.shape.Shape.{Shape}
use Rattle.hk_words.specs.declared.call.Call.{Call}
use Rattle.hk_words.specs.declared.call.Call.TheVariants as call
use Rattle.hk_words.specs.Geometry.{tasks, list_length, space_words}
use Rattle.hk_words.specs.Shape.{size}
use Rattle.hk_words.specs.Layout as layout
use Rattle.hk_words.specs.Row.{place_at}
use Rattle.hk_model.specs.View.{upd}
use Rattle.hk_core.specs.declared.flight.Flight.{Flight}
use Rattle.hk_core.specs.declared.spot.Spot.{Spot}
use Rattle.hk_core.specs.declared.spot.Line.{Line}
use Rattle.hk_core.specs.Collect.{current_space}
use Rattle.hk_core.specs.Step.{full_to_all, new_place, side_of}
use Rattle.hk_core.specs.Counts.{count_below}
use Rattle.hk_core.specs.View.{Words, Names, Contents}
use Rattle.hk_core.specs.Flights as f
use Rattle.hk_core.specs.Flights.{Hand}
use Rattle.hk_core.specs.Colours.{Spaces, spaces_of, Shades, shades_of, Apart}
use Rattle.hk_core.specs.Facts as fact
use Rattle.hk_core.specs.Facts.{IsUnread, FoundRoom, IsRecent, IsSettled}
use Rattle.hk_core.specs.Lawful.{Facts, FactsOf, hands_of}
use Rattle.hk_core.proofs.Counts.{count_less}
use Rattle.hk_core.proofs.kinds.Seats.{FlightsFacts, flights_upd, pass_upd, hands_upd, shades_upd}
use Rattle.hk_core.proofs.kinds.WriteCell.{SpacesApart}
use Rattle.hk_core.proofs.kinds.NewFlight.{MakingFacts, MakesWell, MakeApartIf, SameCounts, CountFacts, counts_set, settled_set, making_set, well_of, apart_of}
use Rattle.hk_core.proofs.kinds.NewFlight.{new_inside, new_before_object, new_has_item, new_hand, new_holds_back, new_in_frame, new_before_frame, new_will_raise, new_is_making, new_has_number, new_has_header, new_has_size, new_flight_facts}
use Rattle.hk_core.proofs.Shared.{refuted}

-- WHERE THE WORDS OF A NEW ARE

-- a New's object stands in the current space, if it raised W0 in this cycle
pub record StandsNow (g : Geometry) (cycle : ℕ) (z : Spaces) (y : Flight) : Type 0 where
  pub of_cycle : f.cycle_of y ≡ cycle
  pub stands : new_place g y ≡ z.current + (z.live + f.words_before y)

-- and in the old one, if it raised W0 in the cycle before
pub record StandsBefore (g : Geometry) (cycle : ℕ) (z : Spaces) (y : Flight) : Type 0 where
  pub of_cycle_before : f.cycle_of y + 1 ≡ cycle
  pub stands : new_place g y ≡ z.old + (z.live + f.words_before y)

-- what the two spaces are to a geometry in a cycle
pub record SpacesMean (g : Geometry) (cycle : ℕ) (z : Spaces) : Type 0 where
  pub live : z.live ≡ g.live
  pub alloc : z.alloc ≡ g.alloc
  pub some_current : 0 < z.current
  pub some_old : 0 < z.old
  pub apart : SpacesApart z
  pub stands : (y : Flight) → IsRecent cycle (f.cycle_of y) → StandsNow g cycle z y ⊎ StandsBefore g cycle z y

two_spaces : (g : Geometry) (cycle : ℕ) → SpacesApart (spaces_of g cycle)
two_spaces g cycle =
    elim (cases_eq (cycle % 2) 0) [
      | inl e ↦ let o : (cycle + 1) % 2 ≡ 1 = omega arith in inr (rw (e, o) (omega arith))
      | inr d ↦ let c : cycle % 2 ≡ 1 = omega arith in let o : (cycle + 1) % 2 ≡ 0 = omega arith in inl (rw (c, o) (omega arith))
    ]

word_at : (g : Geometry) (space word : ℕ) → place_at g space word ≡ place_at g space 0 + word
word_at g space word = at (space * space_words g) word
  where
    at : (from word : ℕ) → 1 + from + word ≡ 1 + from + 0 + word
    at from word = omega arith

pub spaces_mean : (g : Geometry) (cycle : ℕ) → SpacesMean g cycle (spaces_of g cycle)
spaces_mean g cycle = record {
  live = refl;
  alloc = refl;
  some_current = some (cycle % 2 * space_words g);
  some_old = some ((cycle + 1) % 2 * space_words g);
  apart = two_spaces g cycle;
  stands = λ y recent. elim recent [
    | inl e ↦ inl (record { of_cycle = e; stands = word_at g (side_of y) (g.live + f.words_before y) ∙ ap (λ c. place_at g (c % 2) 0 + (g.live + f.words_before y)) e })
    | inr e ↦ inr (record { of_cycle_before = e; stands = word_at g (side_of y) (g.live + f.words_before y) ∙ ap (λ k. place_at g k 0 + (g.live + f.words_before y)) (turn (f.cycle_of y) cycle e) })
  ];
}
  where
    some : (from : ℕ) → 0 < 1 + from + 0
    some from = omega arith

    turn : (past cycle : ℕ) → past + 1 ≡ cycle → past % 2 ≡ (cycle + 1) % 2
    turn past cycle e = omega arith

-- a New that speaks for words has raised W0 and found room
making_room : (call : Call) (place : ℕ) (full raised : Bool) → f.IsInStepAt call place full raised → (f.is_new_at 4 6 call place && not full) ≡ true
    → ((f.is_new_at 4 7 call place && raised) ≡ true) × (not full ≡ true)
unfolding f.is_new_at
making_room (call.Get reg field) place full raised step e = absurd (cc)
making_room (call.Put reg field value) place full raised step e = absurd (cc)
making_room (call.Load dest reg field) place full raised step e = absurd (cc)
making_room (call.Store reg field from) place full raised step e = absurd (cc)
making_room (call.Move dest from) place full raised step e = absurd (cc)
making_room (call.Clear dest) place full raised step e = absurd (cc)
making_room (call.New dest shape) place full raised step e =
    let p = and_parts (nat_le 4 place && nat_le place 6) (not full) e in
    let r = and_parts (nat_le 4 place) (nat_le place 6) p.0 in
    let from : 4 ≤ place = leb-true 4 place r.0 in
    let to : place ≤ 6 = leb-true place 6 r.1 in
    (and_from _ _ (and_from _ _ r.0 (le-leb place 7 (omega arith))) (step.raised_by_then from (negated full p.1)), p.1)
  where
    negated : (b : Bool) → not b ≡ true → b ≡ false
    negated true e = absurd (cc)
    negated false e = refl
making_room (call.Same a b) place full raised step e = absurd (cc)
making_room (call.IsNull reg) place full raised step e = absurd (cc)

pub making_raised : (v : Flight) → f.IsInStep v → f.is_making v ≡ true → f.has_raised v ≡ true
unfolding f.has_raised f.is_making
making_raised v step e = (making_room v.call v.place v.full v.raised step e).0

pub making_has_room : (v : Flight) → f.IsInStep v → f.is_making v ≡ true → f.has_room v ≡ true
unfolding f.has_room f.has_raised f.is_making
making_has_room v step e = let o = making_room v.call v.place v.full v.raised step e in and_from _ _ o.0 o.1

-- THE RAISE

-- the words after a raise of W0 by so many words
abbrev pub raised_words : Words → ℕ → Words
raised_words w q = record w { used = w.used + q; objects = w.objects + 1 }

-- the flight of a New that has raised W0, and found this word there
abbrev pub new_raised : Geometry → Flight → Shape → ℕ → Flight
new_raised g x shape word = record x { place = 4; word = word; full = full_to_all g shape word; raised = true }

room_fits : (g : Geometry) (shape : Shape) (word used : ℕ) → layout.w0_words word ≡ used → not (full_to_all g shape word) ≡ true → used + size shape ≤ g.alloc
room_fits g shape word used e room =
    elim (cases_lt g.alloc (layout.w0_words word + size shape)) [
      | inl less ↦ absurd (both_ways _ (ap not (lt-ltb _ _ less)) room)
      | inr more ↦ omega arith
    ]

module _ (g : Geometry) (w : Words) (z : Spaces) (sh : Shades) (flight : ℕ → Flight) (begun : ℕ → ℕ) (hand : ℕ → Hand) (t : Spot)
    (names : Names) (contents : Contents) (range : ℕ → Option ℕ) (s dest : ℕ) (shape : Shape) (word : ℕ)
    (below : s < tasks g) (is_new : (flight s).call ≡ call.New dest shape) (at_3 : (flight s).place ≡ 3) (not_full : (flight s).full ≡ false)
    (found : layout.IsW0 word w.used w.objects w.cycle) (m : SpacesMean g w.cycle z) (h : Facts g w z sh flight begun hand t names contents range) where
  -- the flight and the words after the raise
  abbrev y : Flight
  y = new_raised g (flight s) shape word

  abbrev w' : Words
  w' = raised_words w (size shape)

  -- what the new flight knows
  room_in : f.is_making y ≡ true → w.used + size shape ≤ g.alloc
  room_in e = room_fits g shape word w.used found.words (sym (new_is_making y dest shape is_new) ∙ e)

  its_size : f.new_size y ≡ size shape
  its_size = new_has_size y dest shape is_new

  its_place : new_place g y ≡ z.current + (z.live + w.used)
  its_place = elim (m.stands y (inl found.cycle)) [
    | inl o ↦ o.stands ∙ ap (λ k. z.current + (z.live + k)) found.words
    | inr o ↦ let a : layout.w0_cycle word + 1 ≡ w.cycle = o.of_cycle_before in let b : layout.w0_cycle word ≡ w.cycle = found.cycle in absurd (omega arith)
  ]

  its_entry : fact.own_entry w.entry y ≡ w.entry (current_space w.cycle) w.objects
  its_entry = ap (λ k. w.entry (k % 2) (layout.w0_objects word)) found.cycle ∙ ap (λ j. w.entry (current_space w.cycle) j) found.objects

  entry_there : f.is_making y ≡ true → w.objects < list_length g
  entry_there e = let fits = room_in e in let two : 2 * w.objects ≤ w.used = h.objects_have_two_words in let some = shape.some in omega arith

  it_has_no_number : f.has_number y ≡ false
  it_has_no_number = new_has_number y dest shape is_new

  it_has_no_header : f.has_header y ≡ false
  it_has_no_header = new_has_header y dest shape is_new

  it_making : f.has_room y ≡ true → f.is_making y ≡ true
  unfolding f.has_room
  it_making e = new_is_making y dest shape is_new ∙ (and_parts _ _ e).1

  -- its words lie in no kept object
  apart_from_kept : (n : ℕ) → f.is_making y ≡ true → sh.kept n ≡ true → Apart (w.place n) (sh.size n) (new_place g y) (f.new_size y)
  apart_from_kept n making kept =
      let place = its_place in
      let words = its_size in
      let fits = room_in making in
      let alloc = m.alloc in
      elim (h.objects_in_one_space n kept) [
        | inl o ↦
            let a : z.old ≤ w.place n = o.after in
            let b : w.place n + sh.size n ≤ z.old + (z.live + z.alloc) = o.before in
            elim m.apart [ inl c ↦ inl (omega arith) | inr c ↦ inr (omega arith) ]
        | inr o ↦ let a : w.place n + sh.size n ≤ z.current + (z.live + w.used) = h.objects_below_used n kept o in inl (omega arith)
      ]

  -- they are 0
  clean : (i : ℕ) → f.is_making y ≡ true → i < f.new_size y → w.cell (new_place g y + i) ≡ 0
  clean i making within =
      let place = its_place in
      let words = its_size in
      let fits = room_in making in
      let alloc = m.alloc in
      let here : new_place g y + i ≡ z.current + (z.live + (w.used + i)) = omega arith in
      ap w.cell here
      ∙ h.free_is_zero (w.used + i) (omega arith) (λ n kept covers.
      let after : w.place n ≤ z.current + (z.live + (w.used + i)) = covers.after in
      let before : z.current + (z.live + (w.used + i)) < w.place n + sh.size n = covers.before in
      elim (apart_from_kept n making kept) [ inl a ↦ omega arith | inr a ↦ omega arith ])

  -- its entry is free
  entry_free : f.is_making y ≡ true → IsUnread g w.cycle w.accessors w.place w.version w.mark (fact.own_entry w.entry y)
  entry_free e = rw its_entry (h.unread_free w.objects (omega arith) (entry_there e))

  well : MakesWell g w' sh y
  well = record {
    apart_from_kept = apart_from_kept;
    own = λ e.
        let o = entry_free e in
        record {
          within = o.within;
          is_marked = o.is_marked ∙ sym found.cycle;
          no_accessors = o.no_header.no_accessors;
          no_version = o.no_header.no_version;
          placed = rw it_has_no_header o.no_header.no_place;
        };
    unread = λ j e after within same. h.unread_distinct w.objects j (omega arith) (omega arith) within (sym its_entry ∙ same);
    number = λ e. refuted _ it_has_no_number e;
    room = λ e.
        let making = it_making e in
        let fits = room_in making in
        let words = its_size in
        let used : layout.w0_words word ≡ w.used = found.words in
        let objects : layout.w0_objects word ≡ w.objects = found.objects in
        let there = entry_there making in
        record { words = omega arith; entry = omega arith; counted = λ c. omega arith };
    clean = clean;
    recent = λ e. inl found.cycle;
  }

  others_well : (u : ℕ) → u < tasks g → MakesWell g w' sh (flight u)
  others_well u b =
      let makes : MakingFacts g w sh flight = assumption in
      let o = well_of g w sh flight makes u b in
      record {
        apart_from_kept = o.apart_from_kept;
        own = o.own;
        unread = λ j e after. o.unread j e (omega arith);
        number = o.number;
        room = λ e. let r = o.room e in record { words = r.words; entry = r.entry; counted = λ c. let a = r.counted c in omega arith };
        clean = o.clean;
        recent = o.recent;
      }

  -- its words are no other New's
  words_apart : (u : ℕ) → u < tasks g → f.is_making y ≡ true → f.is_making (flight u) ≡ true → Apart (new_place g y) (f.new_size y) (new_place g (flight u)) (f.new_size (flight u))
  words_apart u b making other =
      let place = its_place in
      let words = its_size in
      let fits = room_in making in
      let alloc = m.alloc in
      let step = h.news_in_step u b in
      let r : FoundRoom g w.cycle w.used (flight u) = h.news_found_room u b (making_has_room (flight u) step other) in
      let few : f.words_before (flight u) + f.new_size (flight u) ≤ g.alloc = r.words in
      elim (m.stands (flight u) (h.news_recent u b (making_raised (flight u) step other))) [
        | inl o ↦
            let stands : new_place g (flight u) ≡ z.current + (z.live + f.words_before (flight u)) = o.stands in
            let counted : f.words_before (flight u) + f.new_size (flight u) ≤ w.used = r.counted o.of_cycle in
            inr (omega arith)
        | inr o ↦
            let stands : new_place g (flight u) ≡ z.old + (z.live + f.words_before (flight u)) = o.stands in
            elim m.apart [ inl c ↦ inr (omega arith) | inr c ↦ inl (omega arith) ]
      ]

  apart : (u : ℕ) → u < tasks g → MakeApartIf g w.entry y (flight u)
  apart u b making other = record {
    words = words_apart u b making other;
    entries = λ same. h.own_entries_read u w.objects b other (omega arith) (entry_there making) (sym same ∙ its_entry);
  }

  -- the counts
  raising_before : f.will_raise (flight s) ≡ true
  raising_before = new_will_raise (flight s) dest shape is_new ∙ rw (at_3, not_full) refl

  raising_after : f.will_raise y ≡ false
  raising_after = new_will_raise y dest shape is_new

  used_bounded : fact.UsedStaysBounded g (w.used + size shape) (upd flight s y)
  used_bounded =
      let less : count_below (tasks g) (λ u. f.will_raise (upd flight s y u)) + 1 ≡ count_below (tasks g) (λ u. f.will_raise (flight u)) =
      count_less f.will_raise flight s y (tasks g) below raising_before raising_after in
      let before = h.used_stays_bounded in
      let few = shape.few in
      omega arith

  objects_bounded : fact.ObjectsStayBounded g (w.objects + 1) (upd flight s y)
  objects_bounded =
      let less : count_below (tasks g) (λ u. f.will_raise (upd flight s y u)) + 1 ≡ count_below (tasks g) (λ u. f.will_raise (flight u)) =
      count_less f.will_raise flight s y (tasks g) below raising_before raising_after in
      let before = h.objects_stay_bounded in
      omega arith

  same_counts : SameCounts (flight s) y
  same_counts = record {
    inside = λ k. new_inside y dest shape is_new k ∙ sym (new_inside (flight s) dest shape is_new k);
    before_object = λ e. refuted _ (new_before_object y dest shape is_new) e;
    in_frame = new_in_frame y dest shape is_new ∙ inside (full_to_all g shape word) ∙ sym (new_in_frame (flight s) dest shape is_new ∙ rw (at_3, not_full) refl);
    before_frame = λ e. refuted _ (new_before_frame y dest shape is_new) e;
  }
    where
      inside : (full : Bool) → not (full && false) ≡ true
      inside true = refl
      inside false = refl

  pub raise_facts : Facts g w' z sh (upd flight s y) begun hand t names contents range
  raise_facts =
      let x = flight s in
      let formed = h.flights_formed s below in
      let flying : f.is_flying x ≡ true = rw at_3 refl in
      let before : CountFacts g w' flight begun = assumption in
      let counts : CountFacts g w' (upd flight s y) begun = counts_set g w' flight begun s y below same_counts before in
      let used : fact.UsedStaysBounded g (w.used + size shape) (upd flight s y) = used_bounded in
      let objects : fact.ObjectsStayBounded g (w.objects + 1) (upd flight s y) = objects_bounded in
      let two_words : fact.ObjectsHaveTwoWords (w.objects + 1) (w.used + size shape) = let two : 2 * w.objects ≤ w.used = h.objects_have_two_words in let some = shape.some in omega arith in
      let making : MakingFacts g w' sh (upd flight s y) = making_set g w' sh flight s y (λ u b d. others_well u b) well
      (apart_of g w.entry flight h.news_apart h.own_entries_distinct) (λ u b d. apart u b) in
      let flies : FlightsFacts g w' sh names contents.register flight = assumption in
      let flights : FlightsFacts g w' sh names contents.register (upd flight s y) = flights_upd g w' sh names contents.register flight s y flies
      (new_flight_facts y dest shape is_new g w' sh names contents.register s
      (record { seated = formed.seated; in_row = rw is_new (omega arith); registers = λ e. formed.registers flying; no_question = formed.no_question; entered_null = formed.entered_null })
      (record { not_full_yet = λ b. absurd (omega arith); not_raised_yet = λ b. absurd (omega arith); raised_by_then = λ b e. refl })
      (λ r b. rw (new_holds_back x dest shape is_new r) at (h.registers_shown s r below b))
      (λ e late. let cycle : layout.w0_cycle word ≡ w.cycle = found.cycle in absurd (omega arith))) in
      let settling : IsSettled g w.cycle sh.white sh.grey w.register flight → IsSettled g w.cycle sh.white sh.grey w.register (upd flight s y) = λ o.
      settled_set g w.cycle sh.white sh.grey w.register flight s y
      (record { not_late = λ e. found.cycle; entered = λ e. o.entered s below flying; item = λ e. refuted _ (new_has_item y dest shape is_new) e }) o in
      let passes : fact.PassMeetsGrey g t.line sh.grey (IsSettled g w.cycle sh.white sh.grey w.register (upd flight s y)) = pass_upd g t.line sh.grey _ _ settling h.pass_meets_grey in
      let sweeps : fact.SettledFromSweep t.line (IsSettled g w.cycle sh.white sh.grey w.register (upd flight s y)) = λ e. settling (h.settled_from_sweep e) in
      let below_used : fact.ObjectsBelowUsed z (w.used + size shape) sh.kept w.place sh.size = λ n kept current. let a = h.objects_below_used n kept current in omega arith in
      let unread : fact.UnreadFree g w.cycle (w.objects + 1) w.accessors w.place w.version w.mark (w.entry (current_space w.cycle)) = λ j a b. h.unread_free j (omega arith) b in
      let distinct : fact.UnreadDistinct g (w.objects + 1) (w.entry (current_space w.cycle)) = λ i j a b c. h.unread_distinct i j (omega arith) b c in
      assumption

-- what many facts read of the words is the same after the raise
shades_raise : (g : Geometry) (w : Words) (q : ℕ) (flight : ℕ → Flight) (ln : Line) (names : Names) → shades_of g (raised_words w q) flight ln names ≡ shades_of g w flight ln names
unfolding shades_of
shades_raise g w q flight ln names = refl

-- all facts hold after a New has raised W0, whether it found room or too few words
pub new_raises : (g : Geometry) (w : Words) (flight : ℕ → Flight) (begun : ℕ → ℕ) (t : Spot) (names : Names) (contents : Contents) (range : ℕ → Option ℕ) (s dest : ℕ) (shape : Shape) (word : ℕ)
    → s < tasks g → (flight s).call ≡ call.New dest shape → (flight s).place ≡ 3 → (flight s).full ≡ false → layout.IsW0 word w.used w.objects w.cycle
    → FactsOf g w flight begun t names contents range
    → FactsOf g (raised_words w (size shape)) (upd flight s (new_raised g (flight s) shape word)) begun t names contents range
new_raises g w flight begun t names contents range s dest shape word below is_new at_3 not_full found h =
    let x = flight s in
    let y = new_raised g x shape word in
    let words = raised_words w (size shape) in
    let hands : hands_of g (upd flight s y) t ≡ hands_of g flight t = hands_upd g t flight s y (new_hand y dest shape is_new g ∙ sym (new_hand x dest shape is_new g)) in
    let shades : shades_of g words (upd flight s y) t.line names ≡ shades_of g words flight t.line names =
    shades_upd g words t.line names flight s y (new_has_number x dest shape is_new ∙ rw at_3 refl) (new_has_number y dest shape is_new) in
    rw (hands, shades, shades_raise g w (size shape) flight t.line names)
    (raise_facts g w (spaces_of g w.cycle) (shades_of g w flight t.line names) flight begun (hands_of g flight t) t names contents range s dest shape word below is_new at_3 not_full found
    (spaces_mean g w.cycle) h)
