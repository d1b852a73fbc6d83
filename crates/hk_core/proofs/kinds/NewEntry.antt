-- A New that found room loads the entry that the raise of W0 gave to it. No word changes; the New holds the number then.
use Rattle.std.proofs.Common.{◌≡◌, ◌≢◌, ℕ, ◌<◌, ◌≤◌, Bool, true, false, inl, inr, refl, sym, ◌∙◌, ap, arith, Option, List}
use Rattle.std.proofs.lemmas.Bool.{cases_eq, cases_Bool, and_right, and_from, le-leb, lt-leb, ne_eqb}
use Rattle.std.specs.Prelude.{nat_eq, nat_le, not, ◌&&◌}
use Rattle.hk_words.specs.declared.geometry.Geometry.{Geometry}
use Rattle.hk_words.specs.declared.shape.Shape.{Shape}
use Rattle.hk_words.specs.declared.call.Call.TheVariants as call
use Rattle.hk_words.specs.Geometry.{tasks, list_length}
use Rattle.hk_words.specs.Row.{word_of}
use Rattle.hk_words.specs.Row.Slot.{Entry}
use Rattle.hk_model.specs.View.{upd}
use Rattle.hk_core.specs.declared.flight.Flight.{Flight}
use Rattle.hk_core.specs.declared.spot.Spot.{Spot}
use Rattle.hk_core.specs.declared.spot.Line.{Line}
use Rattle.hk_core.specs.View.{Words, Names, Contents, words_of, decoded}
use Rattle.hk_core.specs.Flights as f
use Rattle.hk_core.specs.Flights.{IsNewInStep}
use Rattle.hk_core.specs.Lines.{is_marking}
use Rattle.hk_core.specs.Colours.{Shades, spaces_of, shades_of, held_by, kept_by, is_fresh}
use Rattle.hk_core.specs.Facts as fact
use Rattle.hk_core.specs.Facts.{IsOwn, IsSettled}
use Rattle.hk_core.specs.Lawful.{FactsOf, hands_of}
use Rattle.hk_core.proofs.Counts.{count_kept, any_kept}
use Rattle.hk_core.proofs.Columns.{raw_entry}
use Rattle.hk_core.proofs.kinds.Seats.{FlightFacts, FlightsFacts, facts_of_flight}
use Rattle.hk_core.proofs.kinds.NewFlight.{MakingFacts, MakesWell, MakeApartIf, Settles, SameCounts, GoesQuietly, well_of, apart_of, new_inside, new_before_object, new_has_item, new_hand, new_holds_back}
use Rattle.hk_core.proofs.kinds.NewFlight.{new_in_frame, new_before_frame, new_will_raise, new_has_raised, new_is_making, new_has_number, new_has_header, new_cycle_in_frame, new_flight_facts}
use Rattle.hk_core.proofs.kinds.NewLoads.{new_on, between, quiet}
use Rattle.hk_core.proofs.Shared.{refuted}

not_between : (a b p : ℕ) → b < p → (nat_le a p && nat_le p b) ≡ false
not_between a b p high = and_right (nat_le a p) (nat_le p b) (lt-leb p b high)

-- A NEW THAT FOUND ROOM

-- a New that has raised W0 and found room
pub record HasMade (x : Flight) (dest : ℕ) (shape : Shape) : Type 0 where
  pub is_new : x.call ≡ call.New dest shape
  pub not_full : x.full ≡ false
  pub raised : x.raised ≡ true
  pub from : 4 ≤ x.place
  pub to : x.place ≤ 7

module _ (v : Flight) (dest : ℕ) (shape : Shape) (o : HasMade v dest shape) where
  pub made_in_frame : f.in_frame v ≡ true
  made_in_frame = let from = o.from in new_in_frame v dest shape o.is_new ∙ rw (o.not_full, between 3 7 v.place (omega arith) o.to) refl

  pub made_raised : f.has_raised v ≡ true
  made_raised = new_has_raised v dest shape o.is_new ∙ rw (o.raised, between 4 7 v.place o.from o.to) refl

  pub made_room : f.has_room v ≡ true
  unfolding f.has_room
  made_room = and_from _ _ made_raised (rw o.not_full refl)

  pub made_raises_no_more : f.will_raise v ≡ false
  made_raises_no_more = let from = o.from in new_will_raise v dest shape o.is_new ∙ rw (not_between 2 3 v.place (omega arith)) refl

  pub made_is_making : v.place ≤ 6 → f.is_making v ≡ true
  made_is_making early = new_is_making v dest shape o.is_new ∙ rw (o.not_full, between 4 6 v.place o.from early) refl

  pub made_before_frame : f.before_frame v ≡ false
  made_before_frame = let from = o.from in new_before_frame v dest shape o.is_new ∙ rw (not_between 1 2 v.place (omega arith)) refl

-- IT GOES ON, WITH WHAT IT WAS GIVEN

-- at a later place, with the same W0, it speaks for the same words and the same entry
module _ (x : Flight) (q n : ℕ) (dest : ℕ) (shape : Shape) (was : HasMade x dest shape) (early : x.place ≤ 6) where
  pub on_apart : (g : Geometry) (entry : ℕ → ℕ → ℕ) (v : Flight) → MakeApartIf g entry x v → MakeApartIf g entry (new_on x q n) v
  unfolding f.new_size
  on_apart g entry v h i j = let o = h (made_is_making x dest shape was early) j in record { words = o.words; entries = o.entries }

  pub on_well : (g : Geometry) (w : Words) (sh : Shades) → MakesWell g w sh x → IsOwn g w.accessors w.place w.version w.mark (new_on x q n) (fact.own_entry w.entry x)
      → (f.has_number (new_on x q n) ≡ true → n ≡ fact.own_entry w.entry x) → MakesWell g w sh (new_on x q n)
  unfolding f.new_size
  on_well g w sh h own number =
      let making = made_is_making x dest shape was early in
      record {
        apart_from_kept = λ k e kept. h.apart_from_kept k making kept;
        own = λ e. own;
        unread = λ j e. h.unread j making;
        number = number;
        room = λ e. let o = h.room (made_room x dest shape was) in record { words = o.words; entry = o.entry; counted = o.counted };
        clean = λ i e below. h.clean i making below;
        recent = λ e. h.recent (made_raised x dest shape was);
      }

  pub on_made : x.place ≤ q → q ≤ 7 → HasMade (new_on x q n) dest shape
  on_made after within = let from = was.from in record { is_new = was.is_new; not_full = was.not_full; raised = was.raised; from = omega arith; to = within }

  pub on_counts : x.place ≤ q → q ≤ 7 → SameCounts x (new_on x q n)
  on_counts after within =
      let o = on_made after within in
      record {
        inside = λ k. new_inside (new_on x q n) dest shape was.is_new k ∙ sym (new_inside x dest shape was.is_new k);
        before_object = λ e. refuted _ (new_before_object (new_on x q n) dest shape was.is_new) e;
        in_frame = made_in_frame (new_on x q n) dest shape o ∙ sym (made_in_frame x dest shape was);
        before_frame = λ e. refuted _ (made_before_frame (new_on x q n) dest shape o) e;
      }

  pub on_raising : x.place ≤ q → q ≤ 7 → f.will_raise (new_on x q n) ≡ f.will_raise x
  on_raising after within = made_raises_no_more (new_on x q n) dest shape (on_made after within) ∙ sym (made_raises_no_more x dest shape was)

-- the facts of such a flight, in words in which those of the old one hold
pub on_facts : (g : Geometry) (w : Words) (sh : Shades) (names : Names) (plain : ℕ → ℕ → Option ℕ) (s : ℕ) (x : Flight) (q n dest : ℕ) (shape : Shape) → HasMade x dest shape
    → x.place ≤ q → q ≤ 7 → FlightFacts g w sh names plain s x → FlightFacts g w sh names plain s (new_on x q n)
on_facts g w sh names plain s x q n dest shape was after within o =
    let from = was.from in
    let flying : f.is_flying x ≡ true = le-leb 1 x.place (omega arith) in
    new_flight_facts (new_on x q n) dest shape was.is_new g w sh names plain s
    (record { seated = o.formed.seated; in_row = rw was.is_new within; registers = λ e. o.formed.registers flying; no_question = o.formed.no_question; entered_null = o.formed.entered_null })
    (record { not_full_yet = λ b. absurd (omega arith); not_raised_yet = λ b. absurd (omega arith); raised_by_then = λ b e. was.raised })
    (λ r b. rw (new_holds_back x dest shape was.is_new r) at (o.registers_shown r b))
    (λ e. o.late_in_no_black_frame (new_cycle_in_frame x dest shape was.is_new ∙ made_raised x dest shape was))

pub on_settles : (g : Geometry) (cycle : ℕ) (white grey : ℕ → Bool) (register : ℕ → ℕ → ℕ) (flight : ℕ → Flight) (s q n dest : ℕ) (shape : Shape) → s < tasks g → HasMade (flight s) dest shape
    → IsSettled g cycle white grey register flight → Settles cycle white (new_on (flight s) q n)
on_settles g cycle white grey register flight s q n dest shape below was o =
    let from = was.from in
    record {
      not_late = λ e. o.none_late s below (made_raised (flight s) dest shape was);
      entered = λ e. o.entered s below (le-leb 1 (flight s).place (omega arith));
      item = λ e. refuted _ (new_has_item (new_on (flight s) q n) dest shape was.is_new) e;
    }

-- THE HELD NUMBERS

-- the flight of a seat decides only of its own numbers
pub held_elsewhere : (g : Geometry) (flight : ℕ → Flight) (s : ℕ) (y : Flight) (m : ℕ) → f.holds_number m y ≡ f.holds_number m (flight s)
    → held_by g (upd flight s y) m ≡ held_by g flight m
held_elsewhere g flight s y m same = any_kept (f.holds_number m) flight s y (tasks g) same

pub holds_not : (y : Flight) (m : ℕ) → (f.has_number y ≡ true → y.number ≢ m) → f.holds_number m y ≡ false
unfolding f.holds_number
holds_not y m other = elim (cases_Bool (f.has_number y)) [
  | inl e ↦ and_right _ _ (ne_eqb y.number m (other e))
  | inr e ↦ rw e refl
]

-- a number without a place isn't kept, so that it makes no difference who holds it
pub kept_same : (g : Geometry) (cycle : ℕ) (marking : Bool) (held held' : ℕ → Bool) (bearer : ℕ → Option ℕ) (place mark : ℕ → ℕ)
    → ((m : ℕ) → place m ≢ 0 → held' m ≡ held m) → kept_by g cycle marking held' bearer place mark ≡ kept_by g cycle marking held bearer place mark
kept_same g cycle marking held held' bearer place mark same = λ i m. at m i
  where
    at : (m : ℕ) → kept_by g cycle marking held' bearer place mark m ≡ kept_by g cycle marking held bearer place mark m
    at m = elim (cases_eq (place m) 0) [
      | inl e ↦ and_right _ _ (placeless (place m) (mark m) e) ∙ sym (and_right _ _ (placeless (place m) (mark m) e))
      | inr d ↦ rw (same m d) refl
    ]
      where
        placeless : (p k : ℕ) → p ≡ 0 → (not (nat_eq p 0) && is_fresh cycle marking k) ≡ false
        placeless p k e = rw e refl

-- the shades with other kept numbers
abbrev pub keeping : Shades → (ℕ → Bool) → Shades
keeping sh kept = record sh { kept = kept }

pub shades_held : (g : Geometry) (w : Words) (flight : ℕ → Flight) (s : ℕ) (y : Flight) (ln : Line) (names : Names)
    → ((m : ℕ) → w.place m ≢ 0 → held_by g (upd flight s y) m ≡ held_by g flight m) → shades_of g w (upd flight s y) ln names ≡ shades_of g w flight ln names
unfolding shades_of
shades_held g w flight s y ln names same =
    ap (keeping (shades_of g w flight ln names)) (kept_same g w.cycle (is_marking ln) (held_by g flight) (held_by g (upd flight s y)) names.bearer w.place w.mark same)

-- THE ENTRY IS LOADED

-- what the row says of the entry
pub loads_entry : (g : Geometry) (row : List ℕ) (list j : ℕ) → list < 2 → j < list_length g → word_of g row (Entry list j) ≡ (words_of g row).entry list j
unfolding words_of decoded
loads_entry g row list j a b = sym (raw_entry g row list j a b)

-- all facts hold after a New that found room has loaded its entry
pub new_loads_entry : (g : Geometry) (w : Words) (flight : ℕ → Flight) (begun : ℕ → ℕ) (t : Spot) (names : Names) (contents : Contents) (range : ℕ → Option ℕ) (s dest : ℕ) (shape : Shape)
    → s < tasks g → (flight s).call ≡ call.New dest shape → (flight s).place ≡ 4 → (flight s).full ≡ false → FactsOf g w flight begun t names contents range
    → FactsOf g w (upd flight s (new_on (flight s) 5 (fact.own_entry w.entry (flight s)))) begun t names contents range
new_loads_entry g w flight begun t names contents range s dest shape below is_new at_4 not_full h =
    let x = flight s in
    let n = fact.own_entry w.entry x in
    let y = new_on x 5 n in
    let sh = shades_of g w flight t.line names in
    let step : IsNewInStep x.place x.full x.raised = rw is_new at (h.news_in_step s below) in
    let was : HasMade x dest shape = record { is_new = is_new; not_full = not_full; raised = step.raised_by_then (omega arith) not_full; from = omega arith; to = omega arith } in
    let making : f.is_making x ≡ true = made_is_making x dest shape was (omega arith) in
    let makes : MakingFacts g w sh flight = assumption in
    let flies : FlightsFacts g w sh names contents.register flight = assumption in
    let own : IsOwn g w.accessors w.place w.version w.mark x n = h.own_entries s below making in
    let bare : f.has_header x ≡ false = new_has_header x dest shape is_new ∙ rw at_4 refl in
    let bare_still : f.has_header y ≡ false = new_has_header y dest shape is_new in
    let placeless : w.place n ≡ 0 = own.placed ∙ rw bare refl in
    let no_number : f.has_number x ≡ false = new_has_number x dest shape is_new ∙ rw at_4 refl in
    let o : GoesQuietly g w (spaces_of g w.cycle) sh flight begun (hands_of g flight t) t names contents range s y = record {
      counts = on_counts x 5 n dest shape was (omega arith) (omega arith) (omega arith);
      used = rw (count_kept f.will_raise flight s y (tasks g) (on_raising x 5 n dest shape was (omega arith) (omega arith) (omega arith))) h.used_stays_bounded;
      objects = rw (count_kept f.will_raise flight s y (tasks g) (on_raising x 5 n dest shape was (omega arith) (omega arith) (omega arith))) h.objects_stay_bounded;
      well = on_well x 5 n dest shape was (omega arith) g w sh (well_of g w sh flight makes s below)
          (record { within = own.within; is_marked = own.is_marked; no_accessors = own.no_accessors; no_version = own.no_version; placed = rw bare_still placeless }) (λ e. refl);
      apart = λ u b d. on_apart x 5 n dest shape was (omega arith) g w.entry (flight u) (apart_of g w.entry flight h.news_apart h.own_entries_distinct s u below b (λ e. d (sym e)));
      facts = on_facts g w sh names contents.register s x 5 n dest shape was (omega arith) (omega arith) (facts_of_flight g w sh names contents.register flight flies s below);
      settles = on_settles g w.cycle sh.white sh.grey w.register flight s 5 n dest shape below was;
    } in
    let held : (m : ℕ) → w.place m ≢ 0 → held_by g (upd flight s y) m ≡ held_by g flight m = λ m placed.
    held_elsewhere g flight s y m (holds_not y m (λ e same. placed (ap w.place (sym same) ∙ placeless)) ∙ sym (holds_not x m (λ e. refuted _ no_number e))) in
    quiet g w flight begun t names contents range s y below (new_hand y dest shape is_new g ∙ sym (new_hand x dest shape is_new g))
    (shades_held g w flight s y t.line names held) o h
