-- The flight of a New, and the facts of the flights after that of one seat's New has changed.
use Rattle.std.proofs.Common.{◌≡◌, ◌≢◌, ℕ, ◌+◌, ◌<◌, ◌≤◌, Bool, true, false, inl, inr, refl, sym, ◌∙◌, ap, arith, Option, Some, None}
use Rattle.std.proofs.lemmas.Bool.{and_right}
use Rattle.std.specs.Prelude.{nat_le, not, ◌&&◌, ◌||◌}
use Rattle.hk_words.specs.declared.geometry.Geometry.{Geometry}
use Rattle.hk_words.specs.declared.shape.Shape.{Shape}
use Rattle.hk_words.specs.declared.call.Call.{Call}
use Rattle.hk_words.specs.declared.call.Call.TheVariants as call
use Rattle.hk_words.specs.Geometry.{tasks, list_length}
use Rattle.hk_words.specs.Shape.{size}
use Rattle.hk_model.specs.View.{upd}
use Rattle.hk_core.specs.declared.flight.Flight.{Flight}
use Rattle.hk_core.specs.declared.spot.Spot.{Spot}
use Rattle.hk_core.specs.Collect.{current_space}
use Rattle.hk_core.specs.Step.{new_place}
use Rattle.hk_core.specs.View.{Words, Names, Contents, shown}
use Rattle.hk_core.specs.Flights as f
use Rattle.hk_core.specs.Flights.{Hand, no_claim, hand_of_flight, IsNewInStep}
use Rattle.hk_core.specs.Colours.{Spaces, Shades, Apart, NamesNoWhite}
use Rattle.hk_core.specs.Facts as fact
use Rattle.hk_core.specs.Facts.{IsFormed, IsRecent, IsSettled, IsOwn, FoundRoom}
use Rattle.hk_core.specs.Lawful.{Facts}
use Rattle.hk_core.proofs.Update.{upd_cases, each_upd, pairs_upd}
use Rattle.hk_core.proofs.Counts.{count_at_most}
use Rattle.hk_core.proofs.kinds.Seats.{FlightFacts, FlightsFacts, facts_of_flights, flights_upd, pass_upd, counted_kept, frames_counted_kept}
use Rattle.hk_core.proofs.Shared.{refuted}

-- WHAT NEWS SHOW THAT HAVE RAISED W0

-- the facts of News that have raised W0
pub record MakingFacts (g : Geometry) (w : Words) (sh : Shades) (flight : ℕ → Flight) : Type 0 where
  pub objects_apart_from_new : fact.ObjectsApartFromNew g sh.kept w.place sh.size flight
  pub news_apart : fact.NewsApart g flight
  pub own_entries : fact.OwnEntries g w.accessors w.place w.version w.mark w.entry flight
  pub own_entries_distinct : fact.OwnEntriesDistinct g w.entry flight
  pub own_entries_read : fact.OwnEntriesRead g w.objects (w.entry (current_space w.cycle)) w.entry flight
  pub number_is_own : fact.NumberIsOwn g w.entry flight
  pub news_found_room : fact.NewsFoundRoom g w.cycle w.used flight
  pub news_clean : fact.NewsClean g w.cell flight
  pub news_recent : fact.NewsRecent g w.cycle flight

-- those of one flight
pub record MakesWell (g : Geometry) (w : Words) (sh : Shades) (y : Flight) : Type 0 where
  pub apart_from_kept : (n : ℕ) → f.is_making y ≡ true → sh.kept n ≡ true → Apart (w.place n) (sh.size n) (new_place g y) (f.new_size y)
  pub own : f.is_making y ≡ true → IsOwn g w.accessors w.place w.version w.mark y (fact.own_entry w.entry y)
  pub unread : (j : ℕ) → f.is_making y ≡ true → w.objects ≤ j → j < list_length g → fact.own_entry w.entry y ≢ w.entry (current_space w.cycle) j
  pub number : f.has_number y ≡ true → y.number ≡ fact.own_entry w.entry y
  pub room : f.has_room y ≡ true → FoundRoom g w.cycle w.used y
  pub clean : (i : ℕ) → f.is_making y ≡ true → i < f.new_size y → w.cell (new_place g y + i) ≡ 0
  pub recent : f.has_raised y ≡ true → IsRecent w.cycle (f.cycle_of y)

-- and of two
pub record MakeApart (g : Geometry) (entry : ℕ → ℕ → ℕ) (y v : Flight) : Type 0 where
  pub words : Apart (new_place g y) (f.new_size y) (new_place g v) (f.new_size v)
  pub entries : fact.own_entry entry y ≢ fact.own_entry entry v

abbrev pub MakeApartIf : Geometry → (ℕ → ℕ → ℕ) → Flight → Flight → Type 0
MakeApartIf g entry y v = f.is_making y ≡ true → f.is_making v ≡ true → MakeApart g entry y v

turned : (a b c d : ℕ) → Apart a b c d → Apart c d a b
turned a b c d (inl e) = inr e
turned a b c d (inr e) = inl e

make_turned : (g : Geometry) (entry : ℕ → ℕ → ℕ) (y v : Flight) → MakeApart g entry y v → MakeApart g entry v y
make_turned g entry y v o = record { words = turned _ _ _ _ o.words; entries = λ e. o.entries (sym e) }

pub well_of : (g : Geometry) (w : Words) (sh : Shades) (flight : ℕ → Flight) → MakingFacts g w sh flight → (s : ℕ) → s < tasks g → MakesWell g w sh (flight s)
well_of g w sh flight h s b = record {
  apart_from_kept = λ n. h.objects_apart_from_new s n b;
  own = h.own_entries s b;
  unread = λ j. h.own_entries_read s j b;
  number = h.number_is_own s b;
  room = h.news_found_room s b;
  clean = λ i. h.news_clean s i b;
  recent = h.news_recent s b;
}

pub apart_of : (g : Geometry) (entry : ℕ → ℕ → ℕ) (flight : ℕ → Flight) → fact.NewsApart g flight → fact.OwnEntriesDistinct g entry flight
    → (s t : ℕ) → s < tasks g → t < tasks g → s ≢ t → MakeApartIf g entry (flight s) (flight t)
apart_of g entry flight a d s t b c differ i j = record { words = a s t b c differ i j; entries = d s t b c differ i j }

pub making_of : (g : Geometry) (w : Words) (sh : Shades) (flight : ℕ → Flight) → ((s : ℕ) → s < tasks g → MakesWell g w sh (flight s))
    → ((s t : ℕ) → s < tasks g → t < tasks g → s ≢ t → MakeApartIf g w.entry (flight s) (flight t)) → MakingFacts g w sh flight
making_of g w sh flight h a = record {
  objects_apart_from_new = λ s n b. (h s b).apart_from_kept n;
  news_apart = λ s t b c d i j. (a s t b c d i j).words;
  own_entries = λ s b. (h s b).own;
  own_entries_distinct = λ s t b c d i j. (a s t b c d i j).entries;
  own_entries_read = λ s j b. (h s b).unread j;
  number_is_own = λ s b. (h s b).number;
  news_found_room = λ s b. (h s b).room;
  news_clean = λ s i b. (h s b).clean i;
  news_recent = λ s b. (h s b).recent;
}

-- the seat's New has another flight, and the words are others
pub making_set : (g : Geometry) (w : Words) (sh : Shades) (flight : ℕ → Flight) (s : ℕ) (y : Flight)
    → ((t : ℕ) → t < tasks g → t ≢ s → MakesWell g w sh (flight t)) → MakesWell g w sh y
    → ((t u : ℕ) → t < tasks g → u < tasks g → t ≢ u → MakeApartIf g w.entry (flight t) (flight u))
    → ((t : ℕ) → t < tasks g → t ≢ s → MakeApartIf g w.entry y (flight t))
    → MakingFacts g w sh (upd flight s y)
making_set g w sh flight s y others mine apart mine_apart =
    making_of g w sh (upd flight s y)
    (λ t b. elim (upd_cases flight s y t) [ inl (e, u) ↦ rw u mine | inr (d, u) ↦ rw u (others t b d) ])
    (pairs_upd (λ (v x : Flight). MakeApartIf g w.entry v x) flight s y (tasks g) apart
    (λ t b d. (mine_apart t b d, λ i j. make_turned g w.entry y (flight t) (mine_apart t b d j i))))

-- THE FACTS OF ALL FLIGHTS

-- the seat has another flight, and the words are others
pub flights_set : (g : Geometry) (w : Words) (sh : Shades) (names : Names) (plain : ℕ → ℕ → Option ℕ) (flight : ℕ → Flight) (s : ℕ) (y : Flight)
    → ((t : ℕ) → t < tasks g → t ≢ s → FlightFacts g w sh names plain t (flight t)) → FlightFacts g w sh names plain s y
    → FlightsFacts g w sh names plain (upd flight s y)
flights_set g w sh names plain flight s y others mine =
    facts_of_flights g w sh names plain (upd flight s y) (λ t b.
    elim (upd_cases flight s y t) [ inl (e, u) ↦ rw (u, e) mine | inr (d, u) ↦ rw u (others t b d) ])

-- what a flight shows in a settled state
pub record Settles (cycle : ℕ) (white : ℕ → Bool) (y : Flight) : Type 0 where
  pub not_late : f.has_raised y ≡ true → f.cycle_of y ≡ cycle
  pub entered : f.is_flying y ≡ true → NamesNoWhite white y.entered
  pub item : f.has_item y ≡ true → NamesNoWhite white y.item

pub settled_set : (g : Geometry) (cycle : ℕ) (white grey : ℕ → Bool) (register : ℕ → ℕ → ℕ) (flight : ℕ → Flight) (s : ℕ) (y : Flight) → Settles cycle white y
    → IsSettled g cycle white grey register flight → IsSettled g cycle white grey register (upd flight s y)
settled_set g cycle white grey register flight s y o h = record {
  none_grey = h.none_grey;
  none_late = each_upd (λ t v. f.has_raised v ≡ true → f.cycle_of v ≡ cycle) flight s y (tasks g) h.none_late o.not_late;
  registers = h.registers;
  entered = each_upd (λ t v. f.is_flying v ≡ true → NamesNoWhite white v.entered) flight s y (tasks g) h.entered o.entered;
  items = each_upd (λ t v. f.has_item v ≡ true → NamesNoWhite white v.item) flight s y (tasks g) h.items o.item;
}

-- THE COUNTS

-- the new flight is inside the objects and the frame in which the old one was, and has still to enter only what that had
pub record SameCounts (x y : Flight) : Type 0 where
  pub inside : (m : ℕ) → f.is_inside y m ≡ f.is_inside x m
  pub before_object : f.before_object y ≡ true → f.before_object x ≡ true
  pub in_frame : f.in_frame y ≡ f.in_frame x
  pub before_frame : f.before_frame y ≡ true → f.before_frame x ≡ true

module _ (g : Geometry) (flight : ℕ → Flight) (s : ℕ) (y : Flight) (below : s < tasks g) where
  versions_at_most : (version begun : ℕ → ℕ) → (f.before_object y ≡ true → f.before_object (flight s) ≡ true)
      → fact.VersionsBounded g version flight begun → fact.VersionsBounded g version (upd flight s y) begun
  versions_at_most version begun only h m b =
      let fewer = count_at_most f.before_object flight s y (tasks g) below only in let bounded = h m b in omega arith

  frame_versions_at_most : (version begun : ℕ → ℕ) → (f.before_frame y ≡ true → f.before_frame (flight s) ≡ true)
      → fact.FrameVersionsBounded g version flight begun → fact.FrameVersionsBounded g version (upd flight s y) begun
  frame_versions_at_most version begun only h m b =
      let fewer = count_at_most f.before_frame flight s y (tasks g) below only in let bounded = h m b in omega arith

-- the facts that count flights
pub record CountFacts (g : Geometry) (w : Words) (flight : ℕ → Flight) (begun : ℕ → ℕ) : Type 0 where
  pub versions_bounded : fact.VersionsBounded g w.version flight begun
  pub frame_versions_bounded : fact.FrameVersionsBounded g w.frame_version flight begun
  pub accessors_counted : fact.AccessorsCounted g w.accessors flight
  pub frame_accessors_counted : fact.FrameAccessorsCounted g w.frame_accessors flight

pub counts_set : (g : Geometry) (w : Words) (flight : ℕ → Flight) (begun : ℕ → ℕ) (s : ℕ) (y : Flight) → s < tasks g → SameCounts (flight s) y
    → CountFacts g w flight begun → CountFacts g w (upd flight s y) begun
counts_set g w flight begun s y below same h = record {
  versions_bounded = versions_at_most g flight s y below w.version begun same.before_object h.versions_bounded;
  frame_versions_bounded = frame_versions_at_most g flight s y below w.frame_version begun same.before_frame h.frame_versions_bounded;
  accessors_counted = counted_kept g flight s y w.accessors same.inside h.accessors_counted;
  frame_accessors_counted = frames_counted_kept g flight s y w.frame_accessors below same.in_frame h.frame_accessors_counted;
}

-- A NEW WHOSE STEP CHANGES NO WORD

module _ (g : Geometry) (w : Words) (z : Spaces) (sh : Shades) (flight : ℕ → Flight) (begun : ℕ → ℕ) (hand : ℕ → Hand) (t : Spot)
    (names : Names) (contents : Contents) (range : ℕ → Option ℕ) (s : ℕ) (y : Flight) where
  -- what the new flight shows
  pub record GoesQuietly : Type 0 where
    pub counts : SameCounts (flight s) y
    pub used : fact.UsedStaysBounded g w.used (upd flight s y)
    pub objects : fact.ObjectsStayBounded g w.objects (upd flight s y)
    pub well : MakesWell g w sh y
    pub apart : (u : ℕ) → u < tasks g → u ≢ s → MakeApartIf g w.entry y (flight u)
    pub facts : FlightFacts g w sh names contents.register s y
    pub settles : IsSettled g w.cycle sh.white sh.grey w.register flight → Settles w.cycle sh.white y

  pub quiet_facts : s < tasks g → GoesQuietly → Facts g w z sh flight begun hand t names contents range
      → Facts g w z sh (upd flight s y) begun hand t names contents range
  quiet_facts below o h =
      let before : CountFacts g w flight begun = assumption in
      let counts : CountFacts g w (upd flight s y) begun = counts_set g w flight begun s y below o.counts before in
      let used : fact.UsedStaysBounded g w.used (upd flight s y) = o.used in
      let objects : fact.ObjectsStayBounded g w.objects (upd flight s y) = o.objects in
      let makes : MakingFacts g w sh flight = assumption in
      let making : MakingFacts g w sh (upd flight s y) = making_set g w sh flight s y (λ u b d. well_of g w sh flight makes u b) o.well
      (apart_of g w.entry flight h.news_apart h.own_entries_distinct) o.apart in
      let flies : FlightsFacts g w sh names contents.register flight = assumption in
      let flights : FlightsFacts g w sh names contents.register (upd flight s y) = flights_upd g w sh names contents.register flight s y flies o.facts in
      let settling : IsSettled g w.cycle sh.white sh.grey w.register flight → IsSettled g w.cycle sh.white sh.grey w.register (upd flight s y) = λ e.
      settled_set g w.cycle sh.white sh.grey w.register flight s y (o.settles e) e in
      let passes : fact.PassMeetsGrey g t.line sh.grey (IsSettled g w.cycle sh.white sh.grey w.register (upd flight s y)) = pass_upd g t.line sh.grey _ _ settling h.pass_meets_grey in
      let sweeps : fact.SettledFromSweep t.line (IsSettled g w.cycle sh.white sh.grey w.register (upd flight s y)) = λ m. settling (h.settled_from_sweep m) in
      assumption

-- THE FLIGHT OF A NEW

module _ (y : Flight) (dest : ℕ) (shape : Shape) (is_new : y.call ≡ call.New dest shape) where
  -- it has no object and no reference
  pub new_inside : (m : ℕ) → f.is_inside y m ≡ false
  unfolding f.is_inside f.in_object f.in_object_at
  new_inside m = rw is_new refl

  pub new_before_object : f.before_object y ≡ false
  unfolding f.before_object f.before_object_at
  new_before_object = rw is_new refl

  pub new_has_item : f.has_item y ≡ false
  unfolding f.has_item f.has_item_at
  new_has_item = rw is_new refl

  pub new_hand : (g : Geometry) → hand_of_flight g y ≡ no_claim
  unfolding f.hand_of_flight f.reserves_at f.links_at
  new_hand g = rw (is_new, and_right y.claimer false refl) refl

  pub new_holds_back : (r : ℕ) → f.holds_back y r ≡ false
  unfolding f.holds_back f.holds_back_at
  new_holds_back r = rw is_new refl

  pub new_stays : f.register_stays y ≡ false
  unfolding f.register_stays f.register_stays_at
  new_stays = rw is_new refl

  pub new_has_written : f.has_written y ≡ false
  unfolding f.has_written f.is_load_at
  new_has_written = rw is_new refl

  -- what its places say
  pub new_in_frame : f.in_frame y ≡ (nat_le 3 y.place && nat_le y.place 7 && not (y.full && not y.raised))
  unfolding f.in_frame f.in_frame_at
  new_in_frame = rw is_new refl

  pub new_before_frame : f.before_frame y ≡ (nat_le 1 y.place && nat_le y.place 2 && not (y.full && not y.raised))
  unfolding f.before_frame f.before_frame_at
  new_before_frame = rw is_new refl

  pub new_will_raise : f.will_raise y ≡ (nat_le 2 y.place && nat_le y.place 3 && not y.full)
  unfolding f.will_raise f.is_new_at
  new_will_raise = rw is_new refl

  pub new_has_raised : f.has_raised y ≡ (nat_le 4 y.place && nat_le y.place 7 && y.raised)
  unfolding f.has_raised f.is_new_at
  new_has_raised = rw is_new refl

  pub new_is_making : f.is_making y ≡ (nat_le 4 y.place && nat_le y.place 6 && not y.full)
  unfolding f.is_making f.is_new_at
  new_is_making = rw is_new refl

  pub new_has_number : f.has_number y ≡ (nat_le 5 y.place && nat_le y.place 6 && not y.full)
  unfolding f.has_number f.is_new_at
  new_has_number = rw is_new refl

  pub new_has_header : f.has_header y ≡ (nat_le 6 y.place && nat_le y.place 6 && not y.full)
  unfolding f.has_header f.is_new_at
  new_has_header = rw is_new refl

  pub new_cycle_in_frame : f.has_cycle_in_frame y ≡ f.has_raised y
  unfolding f.has_cycle_in_frame f.is_load_at
  new_cycle_in_frame = ap (λ (c : Call). f.is_load_at 4 10 c y.place || f.has_raised y) is_new

  pub new_has_size : f.new_size y ≡ size shape
  unfolding f.new_size f.new_size_of
  new_has_size = rw is_new refl

  -- its facts
  pub new_flight_facts : (g : Geometry) (w : Words) (sh : Shades) (names : Names) (plain : ℕ → ℕ → Option ℕ) (s : ℕ)
      → IsFormed g s y → IsNewInStep y.place y.full y.raised → ((r : ℕ) → r < g.registers → w.register s r ≡ shown names (plain s r))
      → (f.has_raised y ≡ true → f.cycle_of y < w.cycle → sh.black_frame s ≡ false) → FlightFacts g w sh names plain s y
  unfolding f.is_load_at f.is_through f.has_loaded f.in_object f.in_object_at f.has_cycle_inside f.has_cycle_inside_at f.has_claimed f.has_claimed_at f.has_loaded_inside f.is_load
  new_flight_facts g w sh names plain s formed step shows dark = record {
    registers_shown = λ r b. rw (new_holds_back r) (shows r b);
    entered_good = λ a b. refuted (f.is_through y.call) (rw is_new refl) a;
    loaded_good = λ e. refuted (f.has_loaded y) (rw is_new refl) e;
    formed = formed;
    in_step = rw is_new step;
    field_there = λ e. rw is_new refl;
    entered_stays = λ r e. refuted _ new_stays e;
    place_known = λ e. refuted (f.in_object y) (rw is_new refl) e;
    loaded_recent = λ e. refuted (f.has_cycle_inside y) (rw is_new refl) e;
    loaded_stays = λ r e. refuted _ new_has_written e;
    copied_stays = λ r e c. absurd (no_copy (rw is_new at c));
    claims_last = λ e. refuted (f.has_claimed y) (rw is_new refl) e;
    late_in_no_black_object = λ e. refuted (f.has_cycle_inside y) (rw is_new refl) e;
    late_in_no_black_frame = λ e. dark (sym new_cycle_in_frame ∙ e);
    loaded_white = λ e. refuted (f.has_loaded_inside y) (rw is_new refl) e;
    entered_white = λ e. refuted (f.is_load y) (rw is_new refl) e;
  }
    where
      no_copy : {r : ℕ} → ◌≡◌ {A = Option ℕ} None (Some r) → ⊥
      no_copy e = cc
