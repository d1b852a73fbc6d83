-- A New loads W0, and finds room or too few words; and the rests of a New that found too few. No word changes.
use Rattle.std.proofs.Common.{◌≡◌, ℕ, ◌+◌, ◌-◌, ◌<◌, ◌≤◌, Bool, true, false, inl, inr, refl, sym, ◌∙◌, ap, arith, Option, [], ◌∷◌, ◌++◌, List}
use Rattle.std.proofs.lemmas.Bool.{both_ways, cases_Bool, cases_lt, and_parts, and_from, and_right, leb-true, le-leb, lt-ltb}
use Rattle.std.specs.Prelude.{nat_le, nat_lt, not, ◌&&◌, if◌then◌else◌}
use Rattle.hk_words.specs.declared.geometry.Geometry.{Geometry}
use Rattle.hk_words.specs.declared.shape.Shape.{Shape}
use Rattle.hk_words.specs.declared.call.Call.TheVariants as call
use Rattle.hk_words.specs.declared.call.Reply.TheVariants as reply
use Rattle.hk_words.specs.Geometry.{tasks}
use Rattle.hk_words.specs.Shape.{size}
use Rattle.hk_words.specs.Layout as layout
use Rattle.hk_words.specs.Row.{word_of}
use Rattle.hk_words.specs.Row.Slot.{W0}
use Rattle.hk_model.specs.View.{upd}
use Rattle.hk_model.specs.Heap as heap
use Rattle.hk_model.specs.History.{Entry, History, Legal, after}
use Rattle.hk_model.proofs.Histories.{after-push, after_entry-refused, Legal-push, number_of-push_other, bearer-push_other}
use Rattle.hk_core.specs.declared.flight.Flight.{Flight}
use Rattle.hk_core.specs.declared.spot.Spot.{Spot}
use Rattle.hk_core.specs.State.{idle}
use Rattle.hk_core.specs.Step.{full_to, limit_of}
use Rattle.hk_core.specs.Counts.{count_below}
use Rattle.hk_core.specs.View.{Words, Names, Contents, names_of, contents_of, words_of, decoded, raw}
use Rattle.hk_core.specs.Flights as f
use Rattle.hk_core.specs.Flights.{hand_of_flight, IsNewInStep, no_claim}
use Rattle.hk_core.specs.Colours.{Shades, spaces_of, shades_of}
use Rattle.hk_core.specs.Facts as fact
use Rattle.hk_core.specs.Lawful.{FactsOf, hands_of}
use Rattle.hk_core.proofs.Counts.{count_kept, count_more, count_room}
use Rattle.hk_core.proofs.kinds.Seats.{FlightsFacts, facts_of_flight, hands_upd, shades_upd, idle_facts, idle_makes_nothing}
use Rattle.hk_core.proofs.kinds.NewFlight.{MakesWell, SameCounts, GoesQuietly, quiet_facts, new_inside, new_before_object, new_has_item, new_hand, new_holds_back}
use Rattle.hk_core.proofs.kinds.NewFlight.{new_in_frame, new_before_frame, new_will_raise, new_has_raised, new_is_making, new_has_number, new_cycle_in_frame, new_flight_facts}
use Rattle.hk_core.proofs.Shared.{refuted}

-- A NEW THAT MAKES NOTHING

-- the new flight of a New that speaks for nothing
pub well_of_nothing : (g : Geometry) (w : Words) (sh : Shades) (y : Flight) → f.is_making y ≡ false → f.has_number y ≡ false → f.has_room y ≡ false
    → (f.has_raised y ≡ true → fact.IsRecent w.cycle (f.cycle_of y)) → MakesWell g w sh y
well_of_nothing g w sh y making number room recent = record {
  apart_from_kept = λ n e. refuted _ making e;
  own = λ e. refuted _ making e;
  unread = λ j e. refuted _ making e;
  number = λ e. refuted _ number e;
  room = λ e. refuted _ room e;
  clean = λ i e. refuted _ making e;
  recent = recent;
}

-- the step of a New that changes no word and no shade
pub quiet : (g : Geometry) (w : Words) (flight : ℕ → Flight) (begun : ℕ → ℕ) (t : Spot) (names : Names) (contents : Contents) (range : ℕ → Option ℕ) (s : ℕ) (y : Flight)
    → s < tasks g → hand_of_flight g y ≡ hand_of_flight g (flight s) → shades_of g w (upd flight s y) t.line names ≡ shades_of g w flight t.line names
    → GoesQuietly g w (spaces_of g w.cycle) (shades_of g w flight t.line names) flight begun (hands_of g flight t) t names contents range s y
    → FactsOf g w flight begun t names contents range → FactsOf g w (upd flight s y) begun t names contents range
quiet g w flight begun t names contents range s y below hand shades o h =
    let hands : hands_of g (upd flight s y) t ≡ hands_of g flight t = hands_upd g t flight s y hand in
    rw (hands, shades)
    (quiet_facts g w (spaces_of g w.cycle) (shades_of g w flight t.line names) flight begun (hands_of g flight t) t names contents range s y below o h)

-- W0 IS LOADED

-- the flight of a New that has loaded W0
abbrev pub new_loaded : Geometry → Flight → Shape → ℕ → Flight
new_loaded g x shape word = record x { place = 2; word = word; full = full_to g x.seat shape word }

-- the words of a row say what W0 says
pub loads_w0 : (g : Geometry) (row : List ℕ) → layout.IsW0 (word_of g row W0) (words_of g row).used (words_of g row).objects (words_of g row).cycle
unfolding words_of decoded raw
loads_w0 g row = record { words = refl; objects = refl; cycle = refl }

-- what a seat may use is at most what there is
limit_within : (g : Geometry) (seat : ℕ) → limit_of g seat ≤ g.alloc
limit_within g seat = by_rank (nat_lt seat g.high)
  where
    by_rank : (high : Bool) → (if high then g.alloc else g.alloc - g.reserve) ≤ g.alloc
    by_rank true = omega arith
    by_rank false = omega arith

module _ (g : Geometry) (x : Flight) (dest : ℕ) (shape : Shape) (word : ℕ) (is_new : x.call ≡ call.New dest shape) (at_1 : x.place ≡ 1)
    (step : f.IsInStep x) where
  begins : IsNewInStep x.place x.full x.raised
  begins = rw is_new at step

  not_full : x.full ≡ false
  not_full = begins.not_full_yet (omega arith)

  not_raised : x.raised ≡ false
  not_raised = begins.not_raised_yet (omega arith)

  before_raise : f.will_raise x ≡ false
  before_raise = new_will_raise x dest shape is_new ∙ rw at_1 refl

  no_number_before : f.has_number x ≡ false
  no_number_before = new_has_number x dest shape is_new ∙ rw at_1 refl

  loaded_counts : SameCounts x (new_loaded g x shape word)
  loaded_counts = record {
    inside = λ m. new_inside (new_loaded g x shape word) dest shape is_new m ∙ sym (new_inside x dest shape is_new m);
    before_object = λ e. refuted _ (new_before_object (new_loaded g x shape word) dest shape is_new) e;
    in_frame = new_in_frame (new_loaded g x shape word) dest shape is_new ∙ sym (new_in_frame x dest shape is_new ∙ rw at_1 refl);
    before_frame = λ e. new_before_frame x dest shape is_new ∙ rw (at_1, not_full) refl;
  }

  loaded_making : f.is_making (new_loaded g x shape word) ≡ false
  loaded_making = new_is_making (new_loaded g x shape word) dest shape is_new

  loaded_number : f.has_number (new_loaded g x shape word) ≡ false
  loaded_number = new_has_number (new_loaded g x shape word) dest shape is_new

  loaded_raised : f.has_raised (new_loaded g x shape word) ≡ false
  loaded_raised = new_has_raised (new_loaded g x shape word) dest shape is_new

  loaded_room : f.has_room (new_loaded g x shape word) ≡ false
  unfolding f.has_room
  loaded_room = rw loaded_raised refl

  loaded_step : IsNewInStep 2 (full_to g x.seat shape word) x.raised
  loaded_step = record { not_full_yet = λ b. absurd (omega arith); not_raised_yet = λ b. not_raised; raised_by_then = λ b. absurd (omega arith) }

  loaded_will_raise : f.will_raise (new_loaded g x shape word) ≡ not (full_to g x.seat shape word)
  loaded_will_raise = new_will_raise (new_loaded g x shape word) dest shape is_new

-- one more New will raise W0, where it found room
module _ (g : Geometry) (w : Words) (flight : ℕ → Flight) (s : ℕ) (y : Flight) (words : ℕ) (below : s < tasks g) (was : f.will_raise (flight s) ≡ false)
    (room : f.will_raise y ≡ true → w.used + words ≤ g.alloc) where
  used_bounded : fact.UsedStaysBounded g w.used flight → fact.UsedStaysBounded g w.used (upd flight s y)
  used_bounded h = elim (cases_Bool (f.will_raise y)) [
    | inl e ↦
        let more : count_below (tasks g) (λ t. f.will_raise (upd flight s y t)) ≡ count_below (tasks g) (λ t. f.will_raise (flight t)) + 1 =
        count_more f.will_raise flight s y (tasks g) below was e in
        let few : count_below (tasks g) (λ t. f.will_raise (flight t)) < tasks g = count_room (λ t. f.will_raise (flight t)) s (tasks g) below was in
        let fits : w.used + words ≤ g.alloc = room e in
        omega arith
    | inr e ↦ rw (count_kept f.will_raise flight s y (tasks g) (e ∙ sym was)) h
  ]

  objects_bounded : fact.ObjectsHaveTwoWords w.objects w.used → fact.ObjectsStayBounded g w.objects flight → fact.ObjectsStayBounded g w.objects (upd flight s y)
  objects_bounded two h = elim (cases_Bool (f.will_raise y)) [
    | inl e ↦
        let more : count_below (tasks g) (λ t. f.will_raise (upd flight s y t)) ≡ count_below (tasks g) (λ t. f.will_raise (flight t)) + 1 =
        count_more f.will_raise flight s y (tasks g) below was e in
        let few : count_below (tasks g) (λ t. f.will_raise (flight t)) < tasks g = count_room (λ t. f.will_raise (flight t)) s (tasks g) below was in
        let fits : w.used + words ≤ g.alloc = room e in
        omega arith
    | inr e ↦ rw (count_kept f.will_raise flight s y (tasks g) (e ∙ sym was)) h
  ]

-- all facts hold after a New has loaded W0, whether it found room or too few words
pub new_loads : (g : Geometry) (w : Words) (flight : ℕ → Flight) (begun : ℕ → ℕ) (t : Spot) (names : Names) (contents : Contents) (range : ℕ → Option ℕ) (s dest : ℕ) (shape : Shape) (word : ℕ)
    → s < tasks g → (flight s).call ≡ call.New dest shape → (flight s).place ≡ 1 → layout.IsW0 word w.used w.objects w.cycle → FactsOf g w flight begun t names contents range
    → FactsOf g w (upd flight s (new_loaded g (flight s) shape word)) begun t names contents range
new_loads g w flight begun t names contents range s dest shape word below is_new at_1 found h =
    let x = flight s in
    let y = new_loaded g x shape word in
    let sh = shades_of g w flight t.line names in
    let step = h.news_in_step s below in
    let formed = h.flights_formed s below in
    let flying : f.is_flying x ≡ true = rw at_1 refl in
    let room : f.will_raise y ≡ true → w.used + size shape ≤ g.alloc = λ e.
    found_room g x.seat shape word w.used found.words (sym (loaded_will_raise g x dest shape word is_new at_1 step) ∙ e) in
    let o : GoesQuietly g w (spaces_of g w.cycle) sh flight begun (hands_of g flight t) t names contents range s y = record {
      counts = loaded_counts g x dest shape word is_new at_1 step;
      used = used_bounded g w flight s y (size shape) below (before_raise g x dest shape word is_new at_1 step) room h.used_stays_bounded;
      objects = objects_bounded g w flight s y (size shape) below (before_raise g x dest shape word is_new at_1 step) room h.objects_have_two_words h.objects_stay_bounded;
      well = well_of_nothing g w sh y (loaded_making g x dest shape word is_new at_1 step) (loaded_number g x dest shape word is_new at_1 step) (loaded_room g x dest shape word is_new at_1 step)
          (λ e. refuted _ (loaded_raised g x dest shape word is_new at_1 step) e);
      apart = λ u b d e. refuted _ (loaded_making g x dest shape word is_new at_1 step) e;
      facts = new_flight_facts y dest shape is_new g w sh names contents.register s
          (record { seated = formed.seated; in_row = rw is_new (omega arith); registers = λ e. formed.registers flying; no_question = formed.no_question; entered_null = formed.entered_null })
          (loaded_step g x dest shape word is_new at_1 step)
          (λ r b. rw (new_holds_back x dest shape is_new r) at (h.registers_shown s r below b))
          (λ e. refuted _ (loaded_raised g x dest shape word is_new at_1 step) e);
      settles = λ o. record {
        not_late = λ e. refuted _ (loaded_raised g x dest shape word is_new at_1 step) e;
        entered = λ e. o.entered s below flying;
        item = λ e. refuted _ (new_has_item y dest shape is_new) e;
      };
    } in
    quiet g w flight begun t names contents range s y below (new_hand y dest shape is_new g ∙ sym (new_hand x dest shape is_new g))
    (shades_upd g w t.line names flight s y (no_number_before g x dest shape word is_new at_1 step) (loaded_number g x dest shape word is_new at_1 step)) o h
  where
    found_room : (g : Geometry) (seat : ℕ) (shape : Shape) (word used : ℕ) → layout.w0_words word ≡ used → not (full_to g seat shape word) ≡ true → used + size shape ≤ g.alloc
    found_room g seat shape word used e room =
        let limit = limit_within g seat in
        elim (cases_lt (limit_of g seat) (layout.w0_words word + size shape)) [
          | inl less ↦ absurd (both_ways _ (ap not (lt-ltb _ _ less)) room)
          | inr more ↦ omega arith
        ]

-- RESTS

-- a New goes on to its next place, with a number
abbrev pub new_on : Flight → (q number : ℕ) → Flight
new_on x q number = record x { place = q; number = number }

pub between : (a b p : ℕ) → a ≤ p → p ≤ b → (nat_le a p && nat_le p b) ≡ true
between a b p low high = and_from _ _ (le-leb a p low) (le-leb p b high)

-- a New that found too few words is inside its frame, and has raised W0, where it is said to have
module _ (v : Flight) (dest : ℕ) (shape : Shape) (is_new : v.call ≡ call.New dest shape) (full : v.full ≡ true) (late : v.raised ≡ true → 4 ≤ v.place) (within : v.place ≤ 7) where
  full_in_frame : f.in_frame v ≡ v.raised
  full_in_frame = elim (cases_Bool v.raised) [
    | inl e ↦ let from = late e in new_in_frame v dest shape is_new ∙ rw (full, e, between 3 7 v.place (omega arith) within) refl
    | inr e ↦ new_in_frame v dest shape is_new ∙ rw (full, e, and_right (nat_le 3 v.place && nat_le v.place 7) false refl) refl
  ]

  full_has_raised : f.has_raised v ≡ v.raised
  full_has_raised = elim (cases_Bool v.raised) [
    | inl e ↦ let from = late e in new_has_raised v dest shape is_new ∙ rw (e, between 4 7 v.place from within) refl
    | inr e ↦ new_has_raised v dest shape is_new ∙ rw (e, and_right (nat_le 4 v.place && nat_le v.place 7) false refl) refl
  ]

  full_will_raise : f.will_raise v ≡ false
  full_will_raise = new_will_raise v dest shape is_new ∙ rw (full, and_right (nat_le 2 v.place && nat_le v.place 3) false refl) refl

  full_making : f.is_making v ≡ false
  full_making = new_is_making v dest shape is_new ∙ rw (full, and_right (nat_le 4 v.place && nat_le v.place 6) false refl) refl

  full_number : f.has_number v ≡ false
  full_number = new_has_number v dest shape is_new ∙ rw (full, and_right (nat_le 5 v.place && nat_le v.place 6) false refl) refl

  full_room : f.has_room v ≡ false
  unfolding f.has_room f.has_raised
  full_room = rw (full, and_right (f.has_raised v) false refl) refl

module _ (x : Flight) (q m dest : ℕ) (shape : Shape) (is_new : x.call ≡ call.New dest shape) (full : x.full ≡ true) (step : IsNewInStep x.place x.full x.raised)
    (from : 2 ≤ x.place) (within : x.place ≤ 6) (to : q ≡ x.place + 1) where
  rest_late : x.raised ≡ true → 4 ≤ x.place
  rest_late e = elim (cases_lt x.place 4) [ inl l ↦ absurd (both_ways _ (step.not_raised_yet (omega arith)) e) | inr l ↦ l ]

  rest_later : x.raised ≡ true → 4 ≤ q
  rest_later e = let l = rest_late e in omega arith

  rest_counts : SameCounts x (new_on x q m)
  rest_counts = record {
    inside = λ k. new_inside (new_on x q m) dest shape is_new k ∙ sym (new_inside x dest shape is_new k);
    before_object = λ e. refuted _ (new_before_object (new_on x q m) dest shape is_new) e;
    in_frame = full_in_frame (new_on x q m) dest shape is_new full rest_later (omega arith) ∙ sym (full_in_frame x dest shape is_new full rest_late (omega arith));
    before_frame = λ e. rest_past (sym (new_before_frame (new_on x q m) dest shape is_new) ∙ e);
  }
    where
      rest_past : {A : Type 0} → (nat_le 1 q && nat_le q 2 && not (x.full && not x.raised)) ≡ true → A
      rest_past e =
          let inside = (and_parts (nat_le 1 q && nat_le q 2) (not (x.full && not x.raised)) e).0 in
          let low : q ≤ 2 = leb-true q 2 (and_parts (nat_le 1 q) (nat_le q 2) inside).1 in
          absurd (omega arith)

  rest_step : IsNewInStep q x.full x.raised
  rest_step = record { not_full_yet = λ b. absurd (omega arith); not_raised_yet = λ b. step.not_raised_yet (omega arith); raised_by_then = λ b e. absurd (both_ways _ e full) }

-- all facts hold after a rest of a New that found too few words, and goes on
pub new_rests : (g : Geometry) (w : Words) (flight : ℕ → Flight) (begun : ℕ → ℕ) (t : Spot) (names : Names) (contents : Contents) (range : ℕ → Option ℕ) (s q m dest : ℕ) (shape : Shape)
    → s < tasks g → (flight s).call ≡ call.New dest shape → (flight s).full ≡ true → 2 ≤ (flight s).place → (flight s).place ≤ 6 → q ≡ (flight s).place + 1
    → FactsOf g w flight begun t names contents range → FactsOf g w (upd flight s (new_on (flight s) q m)) begun t names contents range
new_rests g w flight begun t names contents range s q m dest shape below is_new full from within to h =
    let x = flight s in
    let y = new_on x q m in
    let sh = shades_of g w flight t.line names in
    let step : IsNewInStep x.place x.full x.raised = rw is_new at (h.news_in_step s below) in
    let formed = h.flights_formed s below in
    let flying : f.is_flying x ≡ true = le-leb 1 x.place (omega arith) in
    let late = rest_late x q m dest shape is_new full step from within to in
    let later = rest_later x q m dest shape is_new full step from within to in
    let seven : q ≤ 7 = omega arith in
    let raised : f.has_raised y ≡ true → f.has_raised x ≡ true = λ e.
    full_has_raised x dest shape is_new full late (omega arith) ∙ (sym (full_has_raised y dest shape is_new full later seven) ∙ e) in
    let raising : f.will_raise y ≡ f.will_raise x = full_will_raise y dest shape is_new full later seven ∙ sym (full_will_raise x dest shape is_new full late (omega arith)) in
    let making : f.is_making y ≡ false = full_making y dest shape is_new full later seven in
    let number : f.has_number y ≡ false = full_number y dest shape is_new full later seven in
    let o : GoesQuietly g w (spaces_of g w.cycle) sh flight begun (hands_of g flight t) t names contents range s y = record {
      counts = rest_counts x q m dest shape is_new full step from within to;
      used = rw (count_kept f.will_raise flight s y (tasks g) raising) h.used_stays_bounded;
      objects = rw (count_kept f.will_raise flight s y (tasks g) raising) h.objects_stay_bounded;
      well = well_of_nothing g w sh y making number (full_room y dest shape is_new full later seven) (λ e. h.news_recent s below (raised e));
      apart = λ u b d e. refuted _ making e;
      facts = new_flight_facts y dest shape is_new g w sh names contents.register s
          (record { seated = formed.seated; in_row = rw is_new seven; registers = λ e. formed.registers flying; no_question = formed.no_question; entered_null = formed.entered_null })
          (rest_step x q m dest shape is_new full step from within to)
          (λ r b. rw (new_holds_back x dest shape is_new r) at (h.registers_shown s r below b))
          (λ e. h.late_in_no_black_frame s below (new_cycle_in_frame x dest shape is_new ∙ raised e));
      settles = λ o. record {
        not_late = λ e. o.none_late s below (raised e);
        entered = λ e. o.entered s below flying;
        item = λ e. refuted _ (new_has_item y dest shape is_new) e;
      };
    } in
    quiet g w flight begun t names contents range s y below (new_hand y dest shape is_new g ∙ sym (new_hand x dest shape is_new g))
    (shades_upd g w t.line names flight s y (full_number x dest shape is_new full late (omega arith)) number) o h

-- THE LAST REST

idle_inside : (seat m : ℕ) → f.is_inside (idle seat) m ≡ false
unfolding f.is_inside f.in_object f.in_object_at idle
idle_inside seat m = refl

idle_before_object : (seat : ℕ) → f.before_object (idle seat) ≡ false
unfolding f.before_object f.before_object_at idle
idle_before_object seat = refl

idle_in_frame : (seat : ℕ) → f.in_frame (idle seat) ≡ false
unfolding f.in_frame f.in_frame_at idle
idle_in_frame seat = refl

idle_before_frame : (seat : ℕ) → f.before_frame (idle seat) ≡ false
unfolding f.before_frame f.before_frame_at idle
idle_before_frame seat = refl

idle_raises_nothing : (seat : ℕ) → f.will_raise (idle seat) ≡ false
unfolding f.will_raise f.is_new_at idle
idle_raises_nothing seat = refl

idle_flies_not : (seat : ℕ) → f.is_flying (idle seat) ≡ false
unfolding idle
idle_flies_not seat = refl

idle_has_item : (seat : ℕ) → f.has_item (idle seat) ≡ false
unfolding f.has_item f.has_item_at idle
idle_has_item seat = refl

idle_hand : (g : Geometry) (seat : ℕ) → hand_of_flight g (idle seat) ≡ no_claim
unfolding f.hand_of_flight f.reserves_at f.links_at idle
idle_hand g seat = refl

-- all facts hold after the last rest of a New that found too few words before it raised W0: the call has ended
pub new_ends : (g : Geometry) (w : Words) (flight : ℕ → Flight) (begun : ℕ → ℕ) (t : Spot) (names : Names) (contents : Contents) (range : ℕ → Option ℕ) (s dest : ℕ) (shape : Shape)
    → s < tasks g → (flight s).call ≡ call.New dest shape → (flight s).place ≡ 7 → (flight s).full ≡ true → (flight s).raised ≡ false
    → FactsOf g w flight begun t names contents range → FactsOf g w (upd flight s (idle (flight s).seat)) begun t names contents range
new_ends g w flight begun t names contents range s dest shape below is_new at_7 full raised h =
    let x = flight s in
    let y = idle x.seat in
    let sh = shades_of g w flight t.line names in
    let flies : FlightsFacts g w sh names contents.register flight = assumption in
    let nothing = idle_makes_nothing x.seat in
    let raising : f.will_raise y ≡ f.will_raise x = idle_raises_nothing x.seat ∙ sym (new_will_raise x dest shape is_new ∙ rw at_7 refl) in
    let o : GoesQuietly g w (spaces_of g w.cycle) sh flight begun (hands_of g flight t) t names contents range s y = record {
      counts = record {
        inside = λ k. idle_inside x.seat k ∙ sym (new_inside x dest shape is_new k);
        before_object = λ e. refuted _ (idle_before_object x.seat) e;
        in_frame = idle_in_frame x.seat ∙ sym (new_in_frame x dest shape is_new ∙ rw (at_7, full, raised) refl);
        before_frame = λ e. refuted _ (idle_before_frame x.seat) e;
      };
      used = rw (count_kept f.will_raise flight s y (tasks g) raising) h.used_stays_bounded;
      objects = rw (count_kept f.will_raise flight s y (tasks g) raising) h.objects_stay_bounded;
      well = well_of_nothing g w sh y nothing.not_making nothing.no_number nothing.no_room (λ e. refuted _ nothing.not_raised e);
      apart = λ u b d e. refuted _ nothing.not_making e;
      facts = idle_facts g w sh names contents.register s x (new_holds_back x dest shape is_new) (facts_of_flight g w sh names contents.register flight flies s below);
      settles = λ o. record {
        not_late = λ e. refuted _ nothing.not_raised e;
        entered = λ e. refuted _ (idle_flies_not x.seat) e;
        item = λ e. refuted _ (idle_has_item x.seat) e;
      };
    } in
    quiet g w flight begun t names contents range s y below (idle_hand g x.seat ∙ sym (new_hand x dest shape is_new g))
    (shades_upd g w t.line names flight s y (new_has_number x dest shape is_new ∙ rw at_7 refl) nothing.no_number) o h

-- THE HISTORY

-- the entry of a New that found too few words
abbrev pub refused : (seat dest : ℕ) → Shape → (used : ℕ) → Entry
refused seat dest shape used = record { seat = seat; call = call.New dest shape; reply = reply.Full; number = used }

after-full : (start : heap.Heap) (history : History) (seat dest : ℕ) (shape : Shape) (used : ℕ) → after start (history ++ refused seat dest shape used ∷ []) ≡ after start history
after-full start history seat dest shape used =
    after-push start history (refused seat dest shape used) ∙ after_entry-refused (after start history) (refused seat dest shape used) refl

-- it leaves the plain heap as it is
pub names-full : (g : Geometry) (history : History) (seat dest : ℕ) (shape : Shape) (used : ℕ) → names_of g (history ++ refused seat dest shape used ∷ []) ≡ names_of g history
unfolding names_of
names-full g history seat dest shape used =
    let same = after-full (heap.opening_of g) history seat dest shape used in
    λ i. record {
      bearer = bearer-push_other history (refused seat dest shape used) refl i;
      number = number_of-push_other history (refused seat dest shape used) refl i;
      refs = heap.refs (same i);
      nums = heap.nums (same i);
    }

pub contents-full : (g : Geometry) (history : History) (seat dest : ℕ) (shape : Shape) (used : ℕ) → contents_of g (history ++ refused seat dest shape used ∷ []) ≡ contents_of g history
unfolding contents_of
contents-full g history seat dest shape used =
    let same = after-full (heap.opening_of g) history seat dest shape used in
    λ i. record { register = heap.register (same i); link = heap.link (same i); value = heap.value (same i) }

-- and is legal
pub legal-full : (g : Geometry) (history : History) (seat dest : ℕ) (shape : Shape) (used : ℕ)
    → Legal (heap.opening_of g) history → Legal (heap.opening_of g) (history ++ refused seat dest shape used ∷ [])
legal-full g history seat dest shape used legal = Legal-push (heap.opening_of g) history (refused seat dest shape used) legal (refl, inr refl)
