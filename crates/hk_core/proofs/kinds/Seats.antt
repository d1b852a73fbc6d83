-- The facts of the flights, after the flight of one seat has changed. A kind of step shows the facts of the seat's new
-- flight, and the lemmas here carry those of the other seats over.
use Rattle.std.proofs.Common.{◌≡◌, ◌≢◌, ℕ, ◌+◌, ◌<◌, ◌≤◌, Bool, true, false, inl, inr, refl, sym, ◌∙◌, ap, arith, Option, Some}
use Rattle.std.proofs.lemmas.Bool.{both_ways, and_parts, and_from, ltb-true, lt-ltb, cases_Bool, or_cases, not-true}
use Rattle.std.proofs.lemmas.Bool.Decides.{nat_tests}
use Rattle.std.specs.Prelude.{nat_eq, nat_lt, nat_le, is_some, ◌&&◌, ◌||◌, if◌then◌else◌}
use Rattle.hk_words.specs.declared.geometry.Geometry.{Geometry}
use Rattle.hk_words.specs.declared.call.Call.{Call}
use Rattle.hk_words.specs.declared.call.Call.TheVariants as call
use Rattle.hk_words.specs.Geometry.{tasks, numbers, list_length}
use Rattle.hk_words.specs.Calls.{entered, target}
use Rattle.hk_words.specs.Layout as layout
use Rattle.hk_model.specs.View.{upd}
use Rattle.hk_core.specs.declared.flight.Flight.{Flight}
use Rattle.hk_core.specs.declared.spot.Spot.{Spot}
use Rattle.hk_core.specs.declared.spot.Line.{Line}
use Rattle.hk_core.specs.Begin.{has_field, copied}
use Rattle.hk_core.specs.Collect.{current_space}
use Rattle.hk_words.specs.Bounds.{places_of}
use Rattle.hk_core.specs.Step.{new_place, reserved_fits}
use Rattle.hk_core.specs.State.{idle}
use Rattle.hk_core.specs.Counts.{any_below}
use Rattle.hk_core.specs.View.{Words, Names, Contents, shown}
use Rattle.hk_core.specs.Flights as f
use Rattle.hk_core.specs.Flights.{no_claim, to_reserve, to_link, hand_of_flight}
use Rattle.hk_core.specs.Lines.{is_marking, hand_of_spot}
use Rattle.hk_core.specs.Colours.{Shades, shades_of, held_by, kept_by, is_fresh, Apart, IsGood, IsNullOrGood, NamesNoWhite}
use Rattle.hk_core.specs.Facts as fact
use Rattle.hk_core.specs.Facts.{IsFormed, IsRecent, IsSettled, IsOwn, FoundRoom}
use Rattle.hk_core.specs.Lawful.{hands_of}
use Rattle.hk_core.proofs.Update.{upd_cases, each_upd, pairs_upd}
use Rattle.hk_core.proofs.Counts.{count_kept, count_some, any_kept}
use Rattle.hk_core.proofs.Shared.{never}

-- THE FACTS OF ONE FLIGHT

-- the facts of the flight of a seat, but those of a New that has raised W0
pub record FlightFacts (g : Geometry) (w : Words) (sh : Shades) (names : Names) (plain : ℕ → ℕ → Option ℕ) (s : ℕ) (x : Flight) : Type 0 where
  pub registers_shown : (r : ℕ) → r < g.registers → fact.shown_in x r (w.register s r) ≡ shown names (plain s r)
  pub entered_good : f.is_through x.call ≡ true → f.is_flying x ≡ true → IsGood sh.kept names x.entered
  pub loaded_good : f.has_loaded x ≡ true → IsNullOrGood sh.kept names x.item
  pub formed : IsFormed g s x
  pub in_step : f.IsInStep x
  pub field_there : f.is_flying x ≡ true → has_field x.call x.entered ≡ true
  pub entered_stays : (r : ℕ) → f.register_stays x ≡ true → entered x.call ≡ Some r → x.entered ≡ w.register s r
  pub place_known : f.in_object x ≡ true → x.at ≡ w.place (layout.reference_number x.entered)
  pub loaded_recent : f.has_cycle_inside x ≡ true → IsRecent w.cycle (f.cycle_of x)
  pub loaded_stays : (r : ℕ) → f.has_written x ≡ true → target x.call ≡ Some r → w.register s r ≡ x.item
  pub copied_stays : (r : ℕ) → f.is_flying x ≡ true → copied x.call ≡ Some r → x.item ≡ w.register s r
  pub claims_last : f.has_claimed x ≡ true → f.cycle_of x ≤ w.mark (layout.reference_number x.item)
  pub late_in_no_black_object : f.has_cycle_inside x ≡ true → f.cycle_of x < w.cycle → sh.black (layout.reference_number x.entered) ≡ false
  pub late_in_no_black_frame : f.has_cycle_in_frame x ≡ true → f.cycle_of x < w.cycle → sh.black_frame s ≡ false
  pub loaded_white : f.has_loaded_inside x ≡ true → sh.black (layout.reference_number x.entered) ≡ true → NamesNoWhite sh.white x.item
  pub entered_white : f.is_load x ≡ true → sh.black_frame s ≡ true → NamesNoWhite sh.white x.entered

-- these facts of all seats
pub record FlightsFacts (g : Geometry) (w : Words) (sh : Shades) (names : Names) (plain : ℕ → ℕ → Option ℕ) (flight : ℕ → Flight) : Type 0 where
  pub registers_shown : fact.RegistersShown g names w.register plain flight
  pub entered_good : fact.EnteredGood g sh.kept names flight
  pub loaded_good : fact.LoadedGood g sh.kept names flight
  pub flights_formed : fact.FlightsFormed g flight
  pub news_in_step : fact.NewsInStep g flight
  pub fields_there : fact.FieldsThere g flight
  pub entered_stays : fact.EnteredStays g w.register flight
  pub place_known : fact.PlaceKnown g w.place flight
  pub loaded_recent : fact.LoadedRecent g w.cycle flight
  pub loaded_stays : fact.LoadedStays g w.register flight
  pub copied_stays : fact.CopiedStays g w.register flight
  pub claims_last : fact.ClaimsLast g w.mark flight
  pub late_in_no_black_object : fact.LateInNoBlackObject g w.cycle sh.black flight
  pub late_in_no_black_frame : fact.LateInNoBlackFrame g w.cycle sh.black_frame flight
  pub loaded_white_from_no_black : fact.LoadedWhiteFromNoBlack g sh.white sh.black flight
  pub entered_white_in_no_black_frame : fact.EnteredWhiteInNoBlackFrame g sh.white sh.black_frame flight

module _ (g : Geometry) (w : Words) (sh : Shades) (names : Names) (plain : ℕ → ℕ → Option ℕ) (flight : ℕ → Flight) where
  -- those of one seat
  pub facts_of_flight : FlightsFacts g w sh names plain flight → (s : ℕ) → s < tasks g → FlightFacts g w sh names plain s (flight s)
  facts_of_flight h s b = record {
    registers_shown = λ r. h.registers_shown s r b;
    entered_good = h.entered_good s b;
    loaded_good = h.loaded_good s b;
    formed = h.flights_formed s b;
    in_step = h.news_in_step s b;
    field_there = h.fields_there s b;
    entered_stays = λ r. h.entered_stays s r b;
    place_known = h.place_known s b;
    loaded_recent = h.loaded_recent s b;
    loaded_stays = λ r. h.loaded_stays s r b;
    copied_stays = λ r. h.copied_stays s r b;
    claims_last = h.claims_last s b;
    late_in_no_black_object = h.late_in_no_black_object s b;
    late_in_no_black_frame = h.late_in_no_black_frame s b;
    loaded_white = h.loaded_white_from_no_black s b;
    entered_white = h.entered_white_in_no_black_frame s b;
  }

  -- those of all seats, from each
  pub facts_of_flights : ((s : ℕ) → s < tasks g → FlightFacts g w sh names plain s (flight s)) → FlightsFacts g w sh names plain flight
  facts_of_flights h = record {
    registers_shown = λ s r b. (h s b).registers_shown r;
    entered_good = λ s b. (h s b).entered_good;
    loaded_good = λ s b. (h s b).loaded_good;
    flights_formed = λ s b. (h s b).formed;
    news_in_step = λ s b. (h s b).in_step;
    fields_there = λ s b. (h s b).field_there;
    entered_stays = λ s r b. (h s b).entered_stays r;
    place_known = λ s b. (h s b).place_known;
    loaded_recent = λ s b. (h s b).loaded_recent;
    loaded_stays = λ s r b. (h s b).loaded_stays r;
    copied_stays = λ s r b. (h s b).copied_stays r;
    claims_last = λ s b. (h s b).claims_last;
    late_in_no_black_object = λ s b. (h s b).late_in_no_black_object;
    late_in_no_black_frame = λ s b. (h s b).late_in_no_black_frame;
    loaded_white_from_no_black = λ s b. (h s b).loaded_white;
    entered_white_in_no_black_frame = λ s b. (h s b).entered_white;
  }

-- a seat with another flight whose facts hold
pub flights_upd : (g : Geometry) (w : Words) (sh : Shades) (names : Names) (plain : ℕ → ℕ → Option ℕ) (flight : ℕ → Flight) (s : ℕ) (x : Flight)
    → FlightsFacts g w sh names plain flight → FlightFacts g w sh names plain s x → FlightsFacts g w sh names plain (upd flight s x)
flights_upd g w sh names plain flight s x h mine =
    facts_of_flights g w sh names plain (upd flight s x)
    (each_upd (λ t y. FlightFacts g w sh names plain t y) flight s x (tasks g) (facts_of_flight g w sh names plain flight h) mine)

-- THE FACTS OF NEWS

-- the facts of News that will raise W0, or have
pub record NewsFacts (g : Geometry) (w : Words) (sh : Shades) (flight : ℕ → Flight) : Type 0 where
  pub used_stays_bounded : fact.UsedStaysBounded g w.used flight
  pub objects_stay_bounded : fact.ObjectsStayBounded g w.objects flight
  pub objects_apart_from_new : fact.ObjectsApartFromNew g sh.kept w.place sh.size flight
  pub news_apart : fact.NewsApart g flight
  pub own_entries : fact.OwnEntries g w.accessors w.place w.version w.mark w.entry flight
  pub own_entries_distinct : fact.OwnEntriesDistinct g w.entry flight
  pub own_entries_read : fact.OwnEntriesRead g w.objects (w.entry (current_space w.cycle)) w.entry flight
  pub number_is_own : fact.NumberIsOwn g w.entry flight
  pub news_found_room : fact.NewsFoundRoom g w.cycle w.used flight
  pub news_clean : fact.NewsClean g w.cell flight
  pub news_recent : fact.NewsRecent g w.cycle flight

-- a flight that speaks for no entry and no words
pub record MakesNothing (x : Flight) : Type 0 where
  pub not_raised : f.has_raised x ≡ false
  pub no_room : f.has_room x ≡ false
  pub not_making : f.is_making x ≡ false
  pub no_number : f.has_number x ≡ false

module _ (g : Geometry) (w : Words) (sh : Shades) (flight : ℕ → Flight) (s : ℕ) (x : Flight) (n : MakesNothing x) where
  -- a seat with another flight that makes nothing
  pub news_upd : f.will_raise x ≡ f.will_raise (flight s) → NewsFacts g w sh flight → NewsFacts g w sh (upd flight s x)
  news_upd same h = record {
    used_stays_bounded = rw (count_kept f.will_raise flight s x (tasks g) same) h.used_stays_bounded;
    objects_stay_bounded = rw (count_kept f.will_raise flight s x (tasks g) same) h.objects_stay_bounded;
    objects_apart_from_new = λ t m b. each_upd (λ t y. f.is_making y ≡ true → sh.kept m ≡ true → Apart (w.place m) (sh.size m) (new_place g y) (f.new_size y))
        flight s x (tasks g) (λ t b. h.objects_apart_from_new t m b) (λ e. absurd (both_ways _ n.not_making e)) t b;
    news_apart = pairs_upd (λ y v. f.is_making y ≡ true → f.is_making v ≡ true → Apart (new_place g y) (f.new_size y) (new_place g v) (f.new_size v))
        flight s x (tasks g) h.news_apart (λ t b d. ((λ e. absurd (both_ways _ n.not_making e)), (λ _ e. absurd (both_ways _ n.not_making e))));
    own_entries = each_upd (λ t y. f.is_making y ≡ true → IsOwn g w.accessors w.place w.version w.mark y (fact.own_entry w.entry y))
        flight s x (tasks g) h.own_entries (λ e. absurd (both_ways _ n.not_making e));
    own_entries_distinct = pairs_upd (λ y v. f.is_making y ≡ true → f.is_making v ≡ true → fact.own_entry w.entry y ≢ fact.own_entry w.entry v)
        flight s x (tasks g) h.own_entries_distinct (λ t b d. ((λ e. absurd (both_ways _ n.not_making e)), (λ _ e. absurd (both_ways _ n.not_making e))));
    own_entries_read = λ t j b. each_upd (λ t y. f.is_making y ≡ true → w.objects ≤ j → j < list_length g → fact.own_entry w.entry y ≢ w.entry (current_space w.cycle) j)
        flight s x (tasks g) (λ t b. h.own_entries_read t j b) (λ e. absurd (both_ways _ n.not_making e)) t b;
    number_is_own = each_upd (λ t y. f.has_number y ≡ true → y.number ≡ fact.own_entry w.entry y)
        flight s x (tasks g) h.number_is_own (λ e. absurd (both_ways _ n.no_number e));
    news_found_room = each_upd (λ t y. f.has_room y ≡ true → FoundRoom g w.cycle w.used y)
        flight s x (tasks g) h.news_found_room (λ e. absurd (both_ways _ n.no_room e));
    news_clean = λ t i b. each_upd (λ t y. f.is_making y ≡ true → i < f.new_size y → w.cell (new_place g y + i) ≡ 0)
        flight s x (tasks g) (λ t b. h.news_clean t i b) (λ e. absurd (both_ways _ n.not_making e)) t b;
    news_recent = each_upd (λ t y. f.has_raised y ≡ true → IsRecent w.cycle (f.cycle_of y))
        flight s x (tasks g) h.news_recent (λ e. absurd (both_ways _ n.not_raised e));
  }

  -- a settled state stays settled, where the references of the new flight name no white number
  pub settled_upd : {grey : ℕ → Bool} → (f.is_flying x ≡ true → NamesNoWhite sh.white x.entered) → (f.has_item x ≡ true → NamesNoWhite sh.white x.item)
      → IsSettled g w.cycle sh.white grey w.register flight → IsSettled g w.cycle sh.white grey w.register (upd flight s x)
  settled_upd entered item h = record {
    none_grey = h.none_grey;
    none_late = each_upd (λ t y. f.has_raised y ≡ true → f.cycle_of y ≡ w.cycle) flight s x (tasks g) h.none_late (λ e. absurd (both_ways _ n.not_raised e));
    registers = h.registers;
    entered = each_upd (λ t y. f.is_flying y ≡ true → NamesNoWhite sh.white y.entered) flight s x (tasks g) h.entered entered;
    items = each_upd (λ t y. f.has_item y ≡ true → NamesNoWhite sh.white y.item) flight s x (tasks g) h.items item;
  }

-- a fact that holds of a settled state, moved to another
pub pass_upd : (g : Geometry) (line : Line) (grey : ℕ → Bool) (before after : Type 0) → (before → after)
    → fact.PassMeetsGrey g line grey before → fact.PassMeetsGrey g line grey after
pass_upd g ln grey before after go h n e = elim (h n e) [ inl found ↦ inl found | inr settled ↦ inr (go settled) ]

-- THE COUNTS, WHERE THE NEW FLIGHT COUNTS AS THE OLD ONE DID

module _ (g : Geometry) (flight : ℕ → Flight) (s : ℕ) (x : Flight) where
  pub counted_kept : (accessors : ℕ → ℕ) → ((m : ℕ) → f.is_inside x m ≡ f.is_inside (flight s) m)
      → fact.AccessorsCounted g accessors flight → fact.AccessorsCounted g accessors (upd flight s x)
  counted_kept accessors same h m b = rw (count_kept (λ y. f.is_inside y m) flight s x (tasks g) (same m)) (h m b)

  pub versions_kept : (version begun : ℕ → ℕ) → f.before_object x ≡ f.before_object (flight s)
      → fact.VersionsBounded g version flight begun → fact.VersionsBounded g version (upd flight s x) begun
  versions_kept version begun same h m b = rw (count_kept f.before_object flight s x (tasks g) same) (h m b)

  pub frame_versions_kept : (frame_version begun : ℕ → ℕ) → f.before_frame x ≡ f.before_frame (flight s)
      → fact.FrameVersionsBounded g frame_version flight begun → fact.FrameVersionsBounded g frame_version (upd flight s x) begun
  frame_versions_kept frame_version begun same h m b = rw (count_kept f.before_frame flight s x (tasks g) same) (h m b)

  pub frames_counted_kept : (frame_accessors : ℕ → ℕ) → s < tasks g → f.in_frame x ≡ f.in_frame (flight s)
      → fact.FrameAccessorsCounted g frame_accessors flight → fact.FrameAccessorsCounted g frame_accessors (upd flight s x)
  frames_counted_kept frame_accessors below same h =
      each_upd (λ t y. frame_accessors t ≡ (if f.in_frame y then 1 else 0)) flight s x (tasks g) h (rw same (h s below))

-- WHAT A KIND SHOWS OF THE NEW FLIGHT

-- the facts of the flights together
pub record CallsFacts (g : Geometry) (w : Words) (sh : Shades) (ln : Line) (names : Names) (contents : Contents) (flight : ℕ → Flight) : Type 0 where
  pub news : NewsFacts g w sh flight
  pub flights : FlightsFacts g w sh names contents.register flight
  pub passes : fact.PassMeetsGrey g ln sh.grey (IsSettled g w.cycle sh.white sh.grey w.register flight)
  pub sweeps : fact.SettledFromSweep ln (IsSettled g w.cycle sh.white sh.grey w.register flight)

-- a new flight that makes nothing, with its facts; in a settled state its references name no white number
pub record Changes (g : Geometry) (w : Words) (sh : Shades) (names : Names) (contents : Contents) (flight : ℕ → Flight) (s : ℕ) (x : Flight) : Type 0 where
  pub nothing : MakesNothing x
  pub raising : f.will_raise x ≡ f.will_raise (flight s)
  pub facts : FlightFacts g w sh names contents.register s x
  pub entered : IsSettled g w.cycle sh.white sh.grey w.register flight → f.is_flying x ≡ true → NamesNoWhite sh.white x.entered
  pub item : IsSettled g w.cycle sh.white sh.grey w.register flight → f.has_item x ≡ true → NamesNoWhite sh.white x.item

pub calls_upd : (g : Geometry) (w : Words) (sh : Shades) (ln : Line) (names : Names) (contents : Contents) (flight : ℕ → Flight) (s : ℕ) (x : Flight)
    → Changes g w sh names contents flight s x → CallsFacts g w sh ln names contents flight → CallsFacts g w sh ln names contents (upd flight s x)
calls_upd g w sh ln names contents flight s x c h =
    let settles : IsSettled g w.cycle sh.white sh.grey w.register flight → IsSettled g w.cycle sh.white sh.grey w.register (upd flight s x) = λ o.
    settled_upd g w sh flight s x c.nothing (c.entered o) (c.item o) o in
    record {
      news = news_upd g w sh flight s x c.nothing c.raising h.news;
      flights = flights_upd g w sh names contents.register flight s x h.flights c.facts;
      passes = pass_upd g ln sh.grey _ _ settles h.passes;
      sweeps = λ m. settles (h.sweeps m);
    }

-- WHAT THE FLIGHTS GIVE: THE CLAIMS IN HAND, AND THE KEPT NUMBERS

-- the claims in hand stay, where that of the seat does
pub hands_upd : (g : Geometry) (t : Spot) (flight : ℕ → Flight) (s : ℕ) (x : Flight) → hand_of_flight g x ≡ hand_of_flight g (flight s)
    → hands_of g (upd flight s x) t ≡ hands_of g flight t
unfolding hands_of
hands_upd g t flight s x same = λ i k. hand_at k i
  where
    hand_at : (k : ℕ) → (if nat_lt k (tasks g) then hand_of_flight g (upd flight s x k) else hand_of_spot t) ≡ (if nat_lt k (tasks g) then hand_of_flight g (flight k) else hand_of_spot t)
    hand_at k = elim (upd_cases flight s x k) [
      | inl (e, u) ↦ rw (u, same, e) refl
      | inr (d, u) ↦ rw u refl
    ]

-- the held numbers stay, where the flight held none and holds none
pub held_upd : (g : Geometry) (flight : ℕ → Flight) (s : ℕ) (x : Flight) → f.has_number (flight s) ≡ false → f.has_number x ≡ false
    → held_by g (upd flight s x) ≡ held_by g flight
unfolding f.holds_number
held_upd g flight s x was now = λ i n. any_kept (f.holds_number n) flight s x (tasks g) (rw (now, was) refl) i

-- so do all the columns that many facts read
pub shades_upd : (g : Geometry) (w : Words) (line : Line) (names : Names) (flight : ℕ → Flight) (s : ℕ) (x : Flight) → f.has_number (flight s) ≡ false → f.has_number x ≡ false
    → shades_of g w (upd flight s x) line names ≡ shades_of g w flight line names
unfolding shades_of
shades_upd g w line names flight s x was now = ap (λ (held : ℕ → Bool). record {
  white = (shades_of g w flight line names).white;
  grey = (shades_of g w flight line names).grey;
  black = (shades_of g w flight line names).black;
  black_frame = (shades_of g w flight line names).black_frame;
  kept = kept_by g w.cycle (is_marking line) held names.bearer w.place w.mark;
  size = (shades_of g w flight line names).size;
}) (held_upd g flight s x was now)

-- what it means that a number is kept
pub record IsKept (g : Geometry) (cycle : ℕ) (marking : Bool) (held : ℕ → Bool) (bearer : ℕ → Option ℕ) (place mark : ℕ → ℕ) (n : ℕ) : Type 0 where
  pub within : n < numbers g
  pub is_born : is_some (bearer n) ≡ true
  pub not_held : held n ≡ false
  pub placed : place n ≢ 0
  pub is_fresh : is_fresh cycle marking (mark n) ≡ true

not_equal : (m n : ℕ) → nat_eq m n ≡ false → m ≢ n
not_equal m n e = grind (arith, nat_tests)

pub kept_parts : (g : Geometry) (cycle : ℕ) (marking : Bool) (held : ℕ → Bool) (bearer : ℕ → Option ℕ) (place mark : ℕ → ℕ) (n : ℕ)
    → kept_by g cycle marking held bearer place mark n ≡ true → IsKept g cycle marking held bearer place mark n
kept_parts g cycle marking held bearer place mark n e =
    let p = and_parts _ _ e in
    let a = and_parts _ _ p.0 in
    let b = and_parts _ _ p.1 in
    let c = and_parts _ _ a.1 in
    record {
      within = ltb-true n (numbers g) a.0;
      is_born = c.0;
      not_held = not-true (held n) c.1;
      placed = not_equal (place n) 0 (not-true (nat_eq (place n) 0) b.0);
      is_fresh = b.1;
    }

-- what the shades say of a kept number
abbrev pub KeptMeans : Geometry → Words → (held : ℕ → Bool) → Line → Names → Shades → Type 0
KeptMeans g w held line names sh = (n : ℕ) → sh.kept n ≡ true → IsKept g w.cycle (is_marking line) held names.bearer w.place w.mark n

pub kept_means : (g : Geometry) (w : Words) (flight : ℕ → Flight) (line : Line) (names : Names) → KeptMeans g w (held_by g flight) line names (shades_of g w flight line names)
unfolding shades_of
kept_means g w flight line names n e = kept_parts g w.cycle (is_marking line) (held_by g flight) names.bearer w.place w.mark n e

-- A NUMBER THAT IS KEPT IS FREE NOWHERE

-- a New that has a number holds it
held_there : (g : Geometry) (flight : ℕ → Flight) (s : ℕ) → s < tasks g → f.has_number (flight s) ≡ true → held_by g flight (flight s).number ≡ true
unfolding f.holds_number any_below
held_there g flight s b h =
    lt-ltb 0 _ (count_some (λ t. f.has_number (flight t) && nat_eq (flight t).number (flight s).number) s (tasks g) b (and_from _ _ h (same (flight s).number)))
  where
    same : (n : ℕ) → nat_eq n n ≡ true
    same n = grind (arith, nat_tests)

-- the tables of a New at its place 6 are those of places 5 and 6
header_numbered : (x : Flight) → f.has_header x ≡ true → f.has_number x ≡ true
unfolding f.has_header f.has_number f.is_new_at
header_numbered x h = let p = and_parts _ _ h in and_from _ _ (at_6 x.call x.place p.0) p.1
  where
    between : (n : ℕ) → (nat_le 6 n && nat_le n 6) ≡ true → (nat_le 5 n && nat_le n 6) ≡ true
    between n h = grind (arith, nat_tests)

    at_6 : (call : Call) (place : ℕ) → f.is_new_at 6 6 call place ≡ true → f.is_new_at 5 6 call place ≡ true
    at_6 (call.Get reg field) place h = h
    at_6 (call.Put reg field value) place h = h
    at_6 (call.Load dest reg field) place h = h
    at_6 (call.Store reg field from) place h = h
    at_6 (call.Move dest from) place h = h
    at_6 (call.Clear dest) place h = h
    at_6 (call.New dest shape) place h = between place h
    at_6 (call.Same a b) place h = h
    at_6 (call.IsNull reg) place h = h

module _ (g : Geometry) (w : Words) (sh : Shades) (names : Names) (line : Line) (flight : ℕ → Flight) (means : KeptMeans g w (held_by g flight) line names sh) where
  -- no kept number is the entry of a New
  pub own_not_kept : NewsFacts g w sh flight → (s n : ℕ) → s < tasks g → f.is_making (flight s) ≡ true → sh.kept n ≡ true → fact.own_entry w.entry (flight s) ≢ n
  own_not_kept h s n b making kept same =
      let own : IsOwn g w.accessors w.place w.version w.mark (flight s) (fact.own_entry w.entry (flight s)) = h.own_entries s b making in
      let k = means n kept in
      elim (cases_Bool (f.has_header (flight s))) [
        | inl headed ↦
            let numbered = header_numbered (flight s) headed in
            let number : (flight s).number ≡ n = h.number_is_own s b numbered ∙ same in
            let held : held_by g flight n ≡ true = ap (held_by g flight) (sym number) ∙ held_there g flight s b numbered in
            absurd (both_ways _ k.not_held held)
        | inr bare ↦ k.placed (ap w.place (sym same) ∙ own.placed ∙ rw bare refl)
      ]

  -- nor is it a number without a header
  pub headless_not_kept : (n m : ℕ) → sh.kept n ≡ true → w.place m ≡ 0 → m ≢ n
  headless_not_kept n m kept none same = (means n kept).placed (ap w.place (sym same) ∙ none)

-- TABLES. A call that goes on from its place p to its place q. What a table of places says of the two, in groups: a kind
-- of step changes the tables of some of them, and leaves those of the others.

-- it stays in its row, is in the middle of no making, and its entered register stays what it was
pub record GoesOn (call : Call) (p q : ℕ) : Type 0 where
  pub flying : nat_le 1 p ≡ true
  pub in_row : q ≤ places_of call
  pub in_step : (full raised : Bool) → f.IsInStepAt call p full raised → f.IsInStepAt call q full raised
  pub register_stays : f.register_stays_at call q ≡ f.register_stays_at call p
  pub is_load : f.is_load_at 1 10 call q ≡ f.is_load_at 1 10 call p
  pub will_raise : f.is_new_at 2 3 call q ≡ f.is_new_at 2 3 call p
  pub raised_before : f.is_new_at 4 7 call p ≡ false
  pub raised : f.is_new_at 4 7 call q ≡ false
  pub making : f.is_new_at 4 6 call q ≡ false
  pub numbered_before : f.is_new_at 5 6 call p ≡ false
  pub numbered : f.is_new_at 5 6 call q ≡ false

-- it neither enters an object nor leaves it
pub record SameObject (call : Call) (p q : ℕ) : Type 0 where
  pub inside : f.in_object_at call q ≡ f.in_object_at call p
  pub before : f.before_object_at call q ≡ f.before_object_at call p

-- it neither enters its frame nor leaves it
pub record SameFrame (call : Call) (p q : ℕ) : Type 0 where
  pub inside : f.in_frame_at call q ≡ f.in_frame_at call p
  pub before : f.before_frame_at call q ≡ f.before_frame_at call p

-- it neither loads W0 nor claims, reserves or links
pub record SameClaim (call : Call) (p q : ℕ) : Type 0 where
  pub has_cycle_in_frame : f.is_load_at 4 10 call q ≡ true → f.is_load_at 4 10 call p ≡ true
  pub has_cycle : (is_null : Bool) → f.has_cycle_inside_at call q is_null ≡ true → f.has_cycle_inside_at call p is_null ≡ true
  pub has_claimed : f.has_claimed_at call q ≡ true → f.has_claimed_at call p ≡ true
  pub reserves : f.reserves_at call q ≡ f.reserves_at call p
  pub links : f.links_at call q ≡ f.links_at call p

-- it neither reads a reference nor writes one to a register
pub record SameItem (call : Call) (p q : ℕ) : Type 0 where
  pub has_item : f.has_item_at call q ≡ f.has_item_at call p
  pub has_loaded : f.is_load_at 5 10 call q ≡ f.is_load_at 5 10 call p
  pub has_loaded_inside : f.is_load_at 5 9 call q ≡ true → f.is_load_at 5 9 call p ≡ true
  pub has_written : f.is_load_at 9 10 call q ≡ f.is_load_at 9 10 call p
  pub holds_back : (reg : ℕ) → f.holds_back_at call q reg ≡ f.holds_back_at call p reg

-- a call that has loaded W0 in its frame had loaded it before
in_frame_before : (x : Flight) (q : ℕ) → GoesOn x.call x.place q → SameClaim x.call x.place q → (f.is_load_at 4 10 x.call q || (f.is_new_at 4 7 x.call q && x.raised)) ≡ true
    → (f.is_load_at 4 10 x.call x.place || (f.is_new_at 4 7 x.call x.place && x.raised)) ≡ true
in_frame_before x q t c h =
    elim (or_cases (f.is_load_at 4 10 x.call q) (f.is_new_at 4 7 x.call q && x.raised) h) [
      | inl e ↦ rw (c.has_cycle_in_frame e) refl
      | inr e ↦ absurd (both_ways (f.is_new_at 4 7 x.call q) t.raised (and_parts _ _ e).0)
    ]

-- a flight that goes on to another place with what it knew, but the place of its object
abbrev pub moved_on : Flight → (q at : ℕ) → Flight
moved_on x q at = record x { place = q; at = at }

module _ (x : Flight) (q at : ℕ) (t : GoesOn x.call x.place q) where
  pub goes_making_nothing : MakesNothing (moved_on x q at)
  unfolding f.has_raised f.has_room f.is_making f.has_number
  goes_making_nothing = record {
    not_raised = rw t.raised refl;
    no_room = rw t.raised refl;
    not_making = rw t.making refl;
    no_number = rw t.numbered refl;
  }

  pub goes_raising : f.will_raise (moved_on x q at) ≡ f.will_raise x
  unfolding f.will_raise
  goes_raising = rw t.will_raise refl

  pub goes_without_number : f.has_number x ≡ false
  unfolding f.has_number
  goes_without_number = rw t.numbered_before refl

  pub goes_in_object : SameObject x.call x.place q → f.in_object (moved_on x q at) ≡ f.in_object x
  unfolding f.in_object
  goes_in_object o = o.inside

  pub goes_is_inside : SameObject x.call x.place q → (m : ℕ) → f.is_inside (moved_on x q at) m ≡ f.is_inside x m
  unfolding f.is_inside f.in_object
  goes_is_inside o m = rw o.inside refl

  pub goes_before_object : SameObject x.call x.place q → f.before_object (moved_on x q at) ≡ f.before_object x
  unfolding f.before_object
  goes_before_object o = o.before

  pub goes_in_frame : SameFrame x.call x.place q → f.in_frame (moved_on x q at) ≡ f.in_frame x
  unfolding f.in_frame
  goes_in_frame o = rw o.inside refl

  pub goes_before_frame : SameFrame x.call x.place q → f.before_frame (moved_on x q at) ≡ f.before_frame x
  unfolding f.before_frame
  goes_before_frame o = rw o.before refl

  pub goes_hand : (g : Geometry) → SameClaim x.call x.place q → hand_of_flight g (moved_on x q at) ≡ hand_of_flight g x
  unfolding f.hand_of_flight
  goes_hand g c = rw (c.reserves, c.links) refl

  -- the facts of the flight, but that of its object's place
  pub goes_facts : (g : Geometry) (w : Words) (sh : Shades) (names : Names) (plain : ℕ → ℕ → Option ℕ) (s : ℕ)
      → SameClaim x.call x.place q → SameItem x.call x.place q
      → (f.in_object (moved_on x q at) ≡ true → at ≡ w.place (layout.reference_number x.entered))
      → FlightFacts g w sh names plain s x → FlightFacts g w sh names plain s (moved_on x q at)
  unfolding f.holds_back f.has_loaded f.register_stays f.has_cycle_inside f.has_written f.has_claimed f.has_cycle_in_frame f.has_raised f.has_loaded_inside f.is_load
  goes_facts g w sh names plain s claim item known o = record {
    registers_shown = λ r h. rw (item.holds_back r) (o.registers_shown r h);
    entered_good = λ a b. o.entered_good a t.flying;
    loaded_good = λ h. o.loaded_good (sym item.has_loaded ∙ h);
    formed = record { seated = o.formed.seated; in_row = t.in_row; registers = λ h. o.formed.registers t.flying; no_question = o.formed.no_question; entered_null = o.formed.entered_null };
    in_step = t.in_step x.full x.raised o.in_step;
    field_there = λ h. o.field_there t.flying;
    entered_stays = λ r h. o.entered_stays r (sym t.register_stays ∙ h);
    place_known = known;
    loaded_recent = λ h. o.loaded_recent (claim.has_cycle (nat_eq x.item 0) h);
    loaded_stays = λ r h. o.loaded_stays r (sym item.has_written ∙ h);
    copied_stays = λ r h. o.copied_stays r t.flying;
    claims_last = λ h. let p = and_parts _ _ h in o.claims_last (and_from _ _ (claim.has_claimed p.0) p.1);
    late_in_no_black_object = λ h. o.late_in_no_black_object (claim.has_cycle (nat_eq x.item 0) h);
    late_in_no_black_frame = λ h. o.late_in_no_black_frame (in_frame_before x q t claim h);
    loaded_white = λ h. o.loaded_white (item.has_loaded_inside h);
    entered_white = λ h. o.entered_white (sym t.is_load ∙ h);
  }

  -- so the flight changes so
  pub goes_so : (g : Geometry) (w : Words) (sh : Shades) (ln : Line) (names : Names) (contents : Contents) (flight : ℕ → Flight) (s : ℕ) → s < tasks g → flight s ≡ x
      → SameClaim x.call x.place q → SameItem x.call x.place q
      → (f.in_object (moved_on x q at) ≡ true → at ≡ w.place (layout.reference_number x.entered))
      → CallsFacts g w sh ln names contents flight → Changes g w sh names contents flight s (moved_on x q at)
  unfolding f.has_item
  goes_so g w sh ln names contents flight s below here claim item known h = record {
    nothing = goes_making_nothing;
    raising = rw here goes_raising;
    facts = goes_facts g w sh names contents.register s claim item known (rw (← here) (facts_of_flight g w sh names contents.register flight h.flights s below));
    entered = λ o e. rw (← here) (o.entered s below (rw here t.flying));
    item = λ o e. rw (← here) (o.items s below (rw here (sym item.has_item ∙ e)));
  }

-- A CALL THAT ENDS. Its seat is idle then.

-- the tables of the last place of a call
pub record Ends (call : Call) (p : ℕ) : Type 0 where
  pub before_object : f.before_object_at call p ≡ false
  pub before_frame : f.before_frame_at call p ≡ false
  pub reserves : f.reserves_at call p ≡ false
  pub links : f.links_at call p ≡ false
  pub holds_back : (reg : ℕ) → f.holds_back_at call p reg ≡ false
  pub will_raise : f.is_new_at 2 3 call p ≡ false
  pub numbered : f.is_new_at 5 6 call p ≡ false

pub idle_makes_nothing : (seat : ℕ) → MakesNothing (idle seat)
unfolding f.has_raised f.has_room f.is_making f.has_number f.is_new_at idle
idle_makes_nothing seat = record { not_raised = refl; no_room = refl; not_making = refl; no_number = refl }

idle_back : (seat r : ℕ) → f.holds_back (idle seat) r ≡ false
unfolding idle f.holds_back f.holds_back_at
idle_back seat r = refl

idle_shown : (x : Flight) (r word v : ℕ) → f.holds_back x r ≡ false → fact.shown_in x r word ≡ v → fact.shown_in (idle x.seat) r word ≡ v
idle_shown x r word v e h = rw (idle_back x.seat r) (rw e at h)

pub idle_facts : (g : Geometry) (w : Words) (sh : Shades) (names : Names) (plain : ℕ → ℕ → Option ℕ) (s : ℕ) (x : Flight) → ((reg : ℕ) → f.holds_back x reg ≡ false)
    → FlightFacts g w sh names plain s x → FlightFacts g w sh names plain s (idle x.seat)
unfolding idle f.is_through f.has_loaded f.is_load_at f.register_stays f.register_stays_at f.in_object f.in_object_at f.has_cycle_inside f.has_cycle_inside_at f.has_written f.has_claimed f.has_claimed_at f.has_cycle_in_frame f.has_raised f.is_new_at f.has_loaded_inside f.is_load
idle_facts g w sh names plain s x back o = record {
  registers_shown = λ r h. idle_shown x r (w.register s r) (shown names (plain s r)) (back r) (o.registers_shown r h);
  entered_good = λ a b. never a;
  loaded_good = λ h. never h;
  formed = record { seated = o.formed.seated; in_row = omega arith; registers = λ h. never h; no_question = refl; entered_null = λ h. refl };
  in_step = record { not_full = refl; not_raised = refl };
  field_there = λ h. never h;
  entered_stays = λ r h. never h;
  place_known = λ h. never h;
  loaded_recent = λ h. never h;
  loaded_stays = λ r h. never h;
  copied_stays = λ r h. never h;
  claims_last = λ h. never h;
  late_in_no_black_object = λ h. never h;
  late_in_no_black_frame = λ h. never h;
  loaded_white = λ h. never h;
  entered_white = λ h. never h;
}

module _ (x : Flight) (t : Ends x.call x.place) where
  pub ends_without_number : f.has_number x ≡ false
  unfolding f.has_number
  ends_without_number = rw t.numbered refl

  pub ends_hand : (g : Geometry) → hand_of_flight g (idle x.seat) ≡ hand_of_flight g x
  unfolding f.hand_of_flight f.reserves_at f.links_at idle
  ends_hand g = hand_none g x.claimer
    where
      hand_none : (g : Geometry) (claimer : Bool) → no_claim ≡ (if claimer && f.reserves_at x.call x.place then to_reserve x.item (layout.w0_cycle x.word)
          else if claimer && (f.links_at x.call x.place && reserved_fits g x.offset x.item) then to_link x.item (layout.w0_cycle x.word) x.offset else no_claim)
      hand_none g true = rw (t.reserves, t.links) refl
      hand_none g false = refl

  pub ends_so : (g : Geometry) (w : Words) (sh : Shades) (ln : Line) (names : Names) (contents : Contents) (flight : ℕ → Flight) (s : ℕ) → s < tasks g → flight s ≡ x
      → CallsFacts g w sh ln names contents flight → Changes g w sh names contents flight s (idle x.seat)
  unfolding idle f.will_raise f.is_new_at f.has_item f.has_item_at f.holds_back
  ends_so g w sh ln names contents flight s below here h = record {
    nothing = idle_makes_nothing x.seat;
    raising = rw (here, t.will_raise) refl;
    facts = idle_facts g w sh names contents.register s x t.holds_back (rw (← here) (facts_of_flight g w sh names contents.register flight h.flights s below));
    entered = λ o e. never e;
    item = λ o e. never e;
  }
