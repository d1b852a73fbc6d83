-- A Load writes the reference that it has read into its register. The plain heap has it there since the read, so only
-- the word changes, and from now on the word shows the plain heap's register.
use Rattle.std.proofs.Common.{◌≡◌, ◌≢◌, ℕ, ◌<◌, ◌≤◌, true, false, List, length, inl, inr, refl, sym, ◌∙◌, ap, arith, Option, Some, None}
use Rattle.std.proofs.lemmas.Bool.{cases_eq, cases_lt, and_right, not_from_false, eq-eqb, ne_eqb}
use Rattle.std.specs.Prelude.{nat_eq, not}
use Rattle.hk_words.specs.declared.geometry.Geometry.{Geometry}
use Rattle.hk_words.specs.declared.call.Call.TheVariants as call
use Rattle.hk_words.specs.Geometry.{tasks, row_length}
use Rattle.hk_words.specs.Calls.{entered, target, RegistersFit}
use Rattle.hk_words.specs.Layout as layout
use Rattle.hk_words.specs.Row.{register_at}
use Rattle.hk_model.specs.View.{upd, upd2}
use Rattle.hk_model.proofs.Updates.{upd2_same, upd2_other}
use Rattle.hk_core.specs.declared.event.Event.TheVariants as event
use Rattle.hk_core.specs.declared.flight.Flight.{Flight}
use Rattle.hk_core.specs.declared.spot.Spot.{Spot}
use Rattle.hk_core.specs.Begin.{copied}
use Rattle.hk_core.specs.Event.{fired, fired_if, learnt}
use Rattle.hk_words.specs.Bounds.{places_of}
use Rattle.hk_core.specs.Step.{write_register, load_event, load_took, load_entry_of, event_at, event_of, took_at, took_of, effect_at, effect_of}
use Rattle.hk_core.specs.View.{Words, Names, Contents, shown, words_of}
use Rattle.hk_core.specs.Flights as f
use Rattle.hk_core.specs.Flights.{Hand, hand_of_flight}
use Rattle.hk_core.specs.Colours.{Spaces, spaces_of, Shades, shades_of, IsNullOrGood, NamesNoWhite}
use Rattle.hk_core.specs.Facts as fact
use Rattle.hk_core.specs.Facts.{IsSettled}
use Rattle.hk_core.specs.Lawful.{Facts, FactsOf, hands_of}
use Rattle.hk_core.proofs.Update.{upd_cases, upd2_cases}
use Rattle.hk_core.proofs.Columns.{fired_if_some}
use Rattle.hk_core.proofs.kinds.Seats.{FlightFacts, FlightsFacts, NewsFacts, CallsFacts, MakesNothing, moved_on, facts_of_flight, facts_of_flights, news_upd, settled_upd, pass_upd}
use Rattle.hk_core.proofs.kinds.Seats.{hands_upd, shades_upd, counted_kept, versions_kept, frames_counted_kept, frame_versions_kept}
use Rattle.hk_core.proofs.kinds.Frame.{work_in_attempt}
use Rattle.hk_core.proofs.kinds.Words.{words-write_register}
use Rattle.hk_core.proofs.kinds.WriteRegister.{writing_words, settled_write, shades_write}
use Rattle.hk_core.proofs.kinds.LoadRead.{ColoursMean, colours_mean}
use Rattle.hk_core.proofs.Shared.{refuted}

-- ALL FACTS, AFTER A WRITE OF A REGISTER WORD ALONE

-- a flight of another seat
flight_elsewhere : (g : Geometry) (w : Words) (sh : Shades) (names : Names) (plain : ℕ → ℕ → Option ℕ) (s r v t : ℕ) (x : Flight) → t ≢ s
    → FlightFacts g w sh names plain t x → FlightFacts g (writing_words w s r v) sh names plain t x
flight_elsewhere g w sh names plain s r v t x d o = record {
  registers_shown = λ k b. rw (upd2_other w.register s r v t k (inl d)) (o.registers_shown k b);
  entered_good = o.entered_good;
  loaded_good = o.loaded_good;
  formed = o.formed;
  in_step = o.in_step;
  field_there = o.field_there;
  entered_stays = λ k a e. o.entered_stays k a e ∙ sym (upd2_other w.register s r v t k (inl d));
  place_known = o.place_known;
  loaded_recent = o.loaded_recent;
  loaded_stays = λ k a e. upd2_other w.register s r v t k (inl d) ∙ o.loaded_stays k a e;
  copied_stays = λ k a e. o.copied_stays k a e ∙ sym (upd2_other w.register s r v t k (inl d));
  claims_last = o.claims_last;
  late_in_no_black_object = o.late_in_no_black_object;
  late_in_no_black_frame = o.late_in_no_black_frame;
  loaded_white = o.loaded_white;
  entered_white = o.entered_white;
}

flights_write : (g : Geometry) (w : Words) (sh : Shades) (names : Names) (plain : ℕ → ℕ → Option ℕ) (flight : ℕ → Flight) (s r v : ℕ) (y : Flight)
    → FlightsFacts g w sh names plain flight → FlightFacts g (writing_words w s r v) sh names plain s y
    → FlightsFacts g (writing_words w s r v) sh names plain (upd flight s y)
flights_write g w sh names plain flight s r v y h mine =
    facts_of_flights g (writing_words w s r v) sh names plain (upd flight s y) (λ t b.
    elim (upd_cases flight s y t) [
      | inl (e, u) ↦ rw (u, e) mine
      | inr (d, u) ↦ rw u (flight_elsewhere g w sh names plain s r v t (flight t) d (facts_of_flight g w sh names plain flight h t b))
    ])

module _ (g : Geometry) (w : Words) (z : Spaces) (sh : Shades) (flight : ℕ → Flight) (begun : ℕ → ℕ) (hand : ℕ → Hand) (t : Spot)
    (names : Names) (contents : Contents) (range : ℕ → Option ℕ) (s r v : ℕ) (y : Flight) where
  -- what a write of a register word shows where the plain heap stays as it is: the word is null or good, and names no
  -- white number where the frame is black, or the state settled; the call is inside its frame. The facts of the new
  -- flight hold in the written words
  pub record WritesWord : Type 0 where
    pub inside : (m : ℕ) → f.is_inside y m ≡ f.is_inside (flight s) m
    pub before_object : f.before_object y ≡ f.before_object (flight s)
    pub in_frame : f.in_frame y ≡ f.in_frame (flight s)
    pub before_frame : f.before_frame y ≡ f.before_frame (flight s)
    pub nothing : MakesNothing y
    pub raising : f.will_raise y ≡ f.will_raise (flight s)
    pub facts : FlightFacts g (writing_words w s r v) sh names contents.register s y
    pub entered : IsSettled g w.cycle sh.white sh.grey w.register flight → f.is_flying y ≡ true → NamesNoWhite sh.white y.entered
    pub item : IsSettled g w.cycle sh.white sh.grey w.register flight → f.has_item y ≡ true → NamesNoWhite sh.white y.item
    pub good : IsNullOrGood sh.kept names v
    pub dark : sh.black_frame s ≡ true → NamesNoWhite sh.white v
    pub dark_when_settled : IsSettled g w.cycle sh.white sh.grey w.register flight → NamesNoWhite sh.white v
    pub in_attempt : 0 < w.frame_accessors s

  pub write_word_facts : s < tasks g → WritesWord → Facts g w z sh flight begun hand t names contents range
      → Facts g (writing_words w s r v) z sh (upd flight s y) begun hand t names contents range
  write_word_facts below e h =
      let between : CallsFacts g w sh t.line names contents flight = assumption in
      let counted : fact.AccessorsCounted g w.accessors (upd flight s y) = counted_kept g flight s y w.accessors e.inside h.accessors_counted in
      let versions : fact.VersionsBounded g w.version (upd flight s y) begun = versions_kept g flight s y w.version begun e.before_object h.versions_bounded in
      let frames : fact.FrameAccessorsCounted g w.frame_accessors (upd flight s y) = frames_counted_kept g flight s y w.frame_accessors below e.in_frame h.frame_accessors_counted in
      let frame_versions : fact.FrameVersionsBounded g w.frame_version (upd flight s y) begun = frame_versions_kept g flight s y w.frame_version begun e.before_frame h.frame_versions_bounded in
      let news : NewsFacts g w sh (upd flight s y) = news_upd g w sh flight s y e.nothing e.raising between.news in
      let flights : FlightsFacts g (writing_words w s r v) sh names contents.register (upd flight s y) = flights_write g w sh names contents.register flight s r v y between.flights e.facts in
      let settles : IsSettled g w.cycle sh.white sh.grey w.register flight → IsSettled g w.cycle sh.white sh.grey (upd2 w.register s r v) (upd flight s y) = λ o.
      settled_write g w.cycle sh.white sh.grey w.register (upd flight s y) s r v (e.dark_when_settled o)
      (settled_upd g w sh flight s y e.nothing (e.entered o) (e.item o) o) in
      let passes : fact.PassMeetsGrey g t.line sh.grey (IsSettled g w.cycle sh.white sh.grey (upd2 w.register s r v) (upd flight s y)) =
      pass_upd g t.line sh.grey _ _ settles h.pass_meets_grey in
      let sweeps : fact.SettledFromSweep t.line (IsSettled g w.cycle sh.white sh.grey (upd2 w.register s r v) (upd flight s y)) = λ m. settles (h.settled_from_sweep m) in
      let good : fact.RegistersGood g sh.kept names (upd2 w.register s r v) = λ u k a b.
      elim (upd2_cases w.register s r v u k) [ inl (i, j, q) ↦ rw q e.good | inr (d, q) ↦ rw q (h.registers_good u k a b) ] in
      let dark : fact.BlackFrameHasNoWhite g sh.white sh.black_frame (upd2 w.register s r v) = λ u k a b black.
      elim (upd2_cases w.register s r v u k) [
        | inl (i, j, q) ↦ rw q (e.dark (ap sh.black_frame (sym i) ∙ black))
        | inr (d, q) ↦ rw q (h.black_frame_has_no_white u k a b black)
      ] in
      let passed_registers : fact.RegistersPassed g t.line w.cycle t.first w.frame_version (upd2 w.register s r v) w.mark = λ u passed k a same b.
      elim (upd2_cases w.register s r v u k) [
        | inl (i, j, q) ↦ attempted u i ((h.frame_attempt_behind u passed a).same_accessors same) e.in_attempt
        | inr (d, q) ↦ rw q (h.registers_passed u passed k a same b)
      ] in
      let work : fact.RegisterInWork t.line t.first t.cell w.frame_version (upd2 w.register s r v) = λ u k a same.
      elim (upd2_cases w.register s r v u k) [
        | inl (i, j, q) ↦ attempted u i ((h.frame_attempt_behind u k (work_in_attempt g t.line u k a)).same_accessors same) e.in_attempt
        | inr (d, q) ↦ rw q (h.register_in_work u k a same)
      ] in
      assumption
    where
      attempted : {P : Type 0} → (u : ℕ) → u ≡ s → w.frame_accessors u ≡ 0 → 0 < w.frame_accessors s → P
      attempted u i none some = let same : w.frame_accessors u ≡ w.frame_accessors s = ap w.frame_accessors i in absurd (omega arith)

-- THE FLIGHT OF THE LOAD

module _ (x : Flight) (dest reg field : ℕ) (is_load : x.call ≡ call.Load dest reg field) (at_8 : x.place ≡ 8) where
  writes_nothing_made : MakesNothing (moved_on x 9 x.at)
  unfolding f.has_raised f.has_room f.is_making f.has_number f.is_new_at
  writes_nothing_made = record { not_raised = rw is_load refl; no_room = rw is_load refl; not_making = rw is_load refl; no_number = rw is_load refl }

  writes_raising : f.will_raise (moved_on x 9 x.at) ≡ f.will_raise x
  unfolding f.will_raise f.is_new_at
  writes_raising = rw is_load refl

  writes_without_number : f.has_number x ≡ false
  unfolding f.has_number f.is_new_at
  writes_without_number = rw is_load refl

  writes_inside : (m : ℕ) → f.is_inside (moved_on x 9 x.at) m ≡ f.is_inside x m
  unfolding f.is_inside f.in_object f.in_object_at
  writes_inside m = rw (is_load, at_8) refl

  writes_before_object : f.before_object (moved_on x 9 x.at) ≡ f.before_object x
  unfolding f.before_object f.before_object_at
  writes_before_object = rw (is_load, at_8) refl

  writes_in_frame : f.in_frame (moved_on x 9 x.at) ≡ f.in_frame x
  unfolding f.in_frame f.in_frame_at
  writes_in_frame = rw (is_load, at_8) refl

  writes_before_frame : f.before_frame (moved_on x 9 x.at) ≡ f.before_frame x
  unfolding f.before_frame f.before_frame_at
  writes_before_frame = rw (is_load, at_8) refl

  writes_hand : (g : Geometry) → hand_of_flight g (moved_on x 9 x.at) ≡ hand_of_flight g x
  unfolding f.hand_of_flight f.reserves_at f.links_at
  writes_hand g = rw (is_load, at_8, and_right x.claimer false refl) refl

  writes_flying : f.is_flying x ≡ true
  writes_flying = rw at_8 refl

  writes_in_object : f.in_object x ≡ true
  unfolding f.in_object f.in_object_at
  writes_in_object = rw (is_load, at_8) refl

  writes_stays : f.register_stays x ≡ true
  unfolding f.register_stays f.register_stays_at
  writes_stays = rw (is_load, at_8) refl

  writes_has_cycle : f.has_cycle_inside x ≡ true
  unfolding f.has_cycle_inside f.has_cycle_inside_at
  writes_has_cycle = rw (is_load, at_8) refl

  writes_has_cycle_in_frame : f.has_cycle_in_frame x ≡ true
  unfolding f.has_cycle_in_frame f.is_load_at
  writes_has_cycle_in_frame = rw (is_load, at_8) refl

  writes_is_load : f.is_load x ≡ true
  unfolding f.is_load f.is_load_at
  writes_is_load = rw (is_load, at_8) refl

  writes_has_loaded : f.has_loaded x ≡ true
  unfolding f.has_loaded f.is_load_at
  writes_has_loaded = rw (is_load, at_8) refl

  writes_has_loaded_inside : f.has_loaded_inside x ≡ true
  unfolding f.has_loaded_inside f.is_load_at
  writes_has_loaded_inside = rw (is_load, at_8) refl

  writes_has_item : f.has_item x ≡ true
  unfolding f.has_item f.has_item_at
  writes_has_item = rw (is_load, at_8) refl

  -- the call has claimed what it has read, unless that is null
  writes_claimed : x.item ≢ 0 → f.has_claimed x ≡ true
  unfolding f.has_claimed f.has_claimed_at
  writes_claimed some = rw (is_load, at_8) (not_from_false _ (ne_eqb x.item 0 some))

  claimed_before : f.has_claimed (moved_on x 9 x.at) ≡ f.has_claimed x
  unfolding f.has_claimed f.has_claimed_at
  claimed_before = rw (is_load, at_8) refl

  -- before the write the flight holds back its register, and after it none
  held_back_before : (k : ℕ) → f.holds_back x k ≡ nat_eq dest k
  unfolding f.holds_back f.holds_back_at
  held_back_before k = rw (is_load, at_8) refl

  held_back_after : (k : ℕ) → f.holds_back (moved_on x 9 x.at) k ≡ false
  unfolding f.holds_back f.holds_back_at
  held_back_after k = rw is_load refl

  -- the entered register stays where it isn't the written one
  stays_apart : f.register_stays (moved_on x 9 x.at) ≡ true → reg ≢ dest
  unfolding f.register_stays f.register_stays_at
  stays_apart h same =
      let here : (not (nat_eq dest reg)) ≡ true = rw is_load at h in
      let equal : nat_eq dest reg ≡ true = eq-eqb dest reg (sym same) in
      refuted (not (nat_eq dest reg)) (rw equal refl) here

  enters_reg : (r : ℕ) → entered x.call ≡ Some r → r ≡ reg
  enters_reg r e = let same : Some reg ≡ Some r = rw is_load at e in cc

  writes_dest : (r : ℕ) → target x.call ≡ Some r → r ≡ dest
  writes_dest r e = let same : Some dest ≡ Some r = rw is_load at e in cc

  copies_nothing : {A : Type 0} (k : ℕ) → copied x.call ≡ Some k → A
  copies_nothing k e = let none : None ≡ Some k = rw is_load at e in absurd (cc)

  writes_in_row : 9 ≤ places_of x.call
  writes_in_row = rw is_load (omega arith)

  writes_in_step : f.IsInStepAt x.call x.place x.full x.raised → f.IsInStepAt x.call 9 x.full x.raised
  writes_in_step h = rw is_load (rw is_load at h)

  -- the call is inside its frame
  writes_inside_frame : f.IsInStepAt x.call x.place x.full x.raised → f.in_frame x ≡ true
  unfolding f.in_frame f.in_frame_at
  writes_inside_frame h = let no_new : f.IsNoNew x.full x.raised = rw is_load at h in rw (is_load, at_8, no_new.not_full) refl

  -- the facts of the flight after the write
  write_facts : (g : Geometry) (w : Words) (sh : Shades) (names : Names) (plain : ℕ → ℕ → Option ℕ) (s : ℕ) → dest < g.registers
      → FlightFacts g w sh names plain s x → FlightFacts g (writing_words w s dest x.item) sh names plain s (moved_on x 9 x.at)
  write_facts g w sh names plain s fits o = record {
    registers_shown = λ k h. rw (held_back_after k) (here k h);
    entered_good = λ a b. o.entered_good a writes_flying;
    loaded_good = λ h. o.loaded_good writes_has_loaded;
    formed = record { seated = o.formed.seated; in_row = writes_in_row; registers = λ h. o.formed.registers writes_flying; no_question = o.formed.no_question; entered_null = o.formed.entered_null };
    in_step = writes_in_step o.in_step;
    field_there = λ h. o.field_there writes_flying;
    entered_stays = λ r h e. o.entered_stays r writes_stays e
        ∙ sym (upd2_other w.register s dest x.item s r (inr (λ same. stays_apart h (sym (enters_reg r e) ∙ same))));
    place_known = λ h. o.place_known writes_in_object;
    loaded_recent = λ h. o.loaded_recent writes_has_cycle;
    loaded_stays = λ r h e. ap (upd2 w.register s dest x.item s) (writes_dest r e) ∙ upd2_same w.register s dest x.item;
    copied_stays = λ r h e. copies_nothing r e;
    claims_last = λ h. o.claims_last (sym claimed_before ∙ h);
    late_in_no_black_object = λ h. o.late_in_no_black_object writes_has_cycle;
    late_in_no_black_frame = λ h. o.late_in_no_black_frame writes_has_cycle_in_frame;
    loaded_white = λ h. o.loaded_white writes_has_loaded_inside;
    entered_white = λ h. o.entered_white writes_is_load;
  }
    where
      here : (k : ℕ) → k < g.registers → upd2 w.register s dest x.item s k ≡ shown names (plain s k)
      here k h = elim (cases_eq k dest) [
        | inl e ↦
            let held : f.holds_back x dest ≡ true = held_back_before dest ∙ eq-eqb dest dest refl in
            rw e (upd2_same w.register s dest x.item ∙ (rw held at (o.registers_shown dest fits)))
        | inr d ↦
            let free : f.holds_back x k ≡ false = held_back_before k ∙ ne_eqb dest k (λ same. d (sym same)) in
            upd2_other w.register s dest x.item s k (inr d) ∙ (rw free at (o.registers_shown k h))
      ]

-- a call whose W0 isn't of an earlier cycle has claimed what it writes: that isn't white
pub claimed_not_white : (w : Words) (z : Spaces) (sh : Shades) (x : Flight) → ColoursMean w z sh → ¬ (f.cycle_of x < w.cycle)
    → f.cycle_of x ≤ w.mark (layout.reference_number x.item) → sh.white (layout.reference_number x.item) ≡ false
claimed_not_white w z sh x c not_late claimed = c.not_white (layout.reference_number x.item) (elim (cases_lt (f.cycle_of x) w.cycle) [
  | inl late ↦ absurd (not_late late)
  | inr recent ↦ omega arith
])

-- all facts hold after a Load has written its register; the plain heap stays as it is
pub load_writes : (g : Geometry) (w : Words) (flight : ℕ → Flight) (begun : ℕ → ℕ) (t : Spot) (names : Names) (contents : Contents) (range : ℕ → Option ℕ) (s dest reg field : ℕ)
    → s < tasks g → (flight s).call ≡ call.Load dest reg field → (flight s).place ≡ 8 → FactsOf g w flight begun t names contents range
    → FactsOf g (writing_words w s dest (flight s).item) (upd flight s (moved_on (flight s) 9 (flight s).at)) begun t names contents range
load_writes g w flight begun t names contents range s dest reg field below is_load at_8 h =
    let x = flight s in
    let y = moved_on x 9 x.at in
    let z = spaces_of g w.cycle in
    let sh = shades_of g w flight t.line names in
    let between : CallsFacts g w sh t.line names contents flight = assumption in
    let o : FlightFacts g w sh names contents.register s x = facts_of_flight g w sh names contents.register flight between.flights s below in
    let flying : f.is_flying x ≡ true = writes_flying x dest reg field is_load at_8 in
    let registers : RegistersFit g.registers (call.Load dest reg field) = rw is_load at (o.formed.registers flying) in
    let one : w.frame_accessors s ≡ 1 = h.frame_accessors_counted s below ∙ rw (writes_inside_frame x dest reg field is_load at_8 o.in_step) refl in
    let writes : WritesWord g w z sh flight begun (hands_of g flight t) t names contents range s dest x.item y = record {
      inside = writes_inside x dest reg field is_load at_8;
      before_object = writes_before_object x dest reg field is_load at_8;
      in_frame = writes_in_frame x dest reg field is_load at_8;
      before_frame = writes_before_frame x dest reg field is_load at_8;
      nothing = writes_nothing_made x dest reg field is_load at_8;
      raising = writes_raising x dest reg field is_load at_8;
      facts = write_facts x dest reg field is_load at_8 g w sh names contents.register s registers.0.1 o;
      entered = λ q e. q.entered s below flying;
      item = λ q e. q.items s below (writes_has_item x dest reg field is_load at_8);
      good = o.loaded_good (writes_has_loaded x dest reg field is_load at_8);
      dark = λ black. elim (cases_eq x.item 0) [
        | inl null ↦ inl null
        | inr some ↦ inr (claimed_not_white w z sh x (colours_mean g w flight t.line names)
            (λ late. refuted _ (o.late_in_no_black_frame (writes_has_cycle_in_frame x dest reg field is_load at_8) late) black)
            (o.claims_last (writes_claimed x dest reg field is_load at_8 some)))
      ];
      dark_when_settled = λ q. q.items s below (writes_has_item x dest reg field is_load at_8);
      in_attempt = omega arith;
    } in
    let hands : hands_of g (upd flight s y) t ≡ hands_of g flight t = hands_upd g t flight s y (writes_hand x dest reg field is_load at_8 g) in
    let shades : shades_of g (writing_words w s dest x.item) (upd flight s y) t.line names ≡ shades_of g (writing_words w s dest x.item) flight t.line names =
    shades_upd g (writing_words w s dest x.item) t.line names flight s y (writes_without_number x dest reg field is_load at_8)
    ((writes_nothing_made x dest reg field is_load at_8).no_number) in
    rw (hands, shades, shades_write g w s dest x.item flight t.line names)
    (write_word_facts g w z sh flight begun (hands_of g flight t) t names contents range s dest x.item y below writes h)

-- THE ROW

module _ (g : Geometry) (x : Flight) (dest reg field : ℕ) (is_load : x.call ≡ call.Load dest reg field) (at_8 : x.place ≡ 8) where
  -- the event of the place, and the flight after it; no entry is added
  pub load_write_event : event_of g x ≡ Some (event.Write (register_at g x.seat dest) x.item)
  unfolding event_of event_at load_event write_register
  load_write_event = rw (is_load, at_8) refl

  pub load_write_took : (old : ℕ) → took_of g x old ≡ moved_on x 9 x.at
  unfolding took_of took_at load_took
  load_write_took old = rw (is_load, at_8) refl

  pub load_write_entry : (old : ℕ) → effect_of g x old ≡ None
  unfolding effect_of effect_at load_entry_of
  load_write_entry old = rw (is_load, at_8) refl

-- all facts hold of the row and of the flights after a Load has written its register
pub load_writes_row : (g : Geometry) (row : List ℕ) (flight : ℕ → Flight) (begun : ℕ → ℕ) (t : Spot) (names : Names) (contents : Contents) (range : ℕ → Option ℕ) (s dest reg field : ℕ)
    → s < tasks g → (flight s).call ≡ call.Load dest reg field → (flight s).place ≡ 8 → length row ≡ row_length g
    → FactsOf g (words_of g row) flight begun t names contents range
    → FactsOf g (words_of g (fired_if row (event_of g (flight s)))) (upd flight s (took_of g (flight s) (learnt row (event_of g (flight s))))) begun t names contents range
load_writes_row g row flight begun t names contents range s dest reg field below is_load at_8 whole h =
    let x = flight s in
    let e = event.Write (register_at g x.seat dest) x.item in
    let formed = h.flights_formed s below in
    let registers : RegistersFit g.registers (call.Load dest reg field) = rw is_load at (formed.registers (writes_flying x dest reg field is_load at_8)) in
    let words : words_of g (fired_if row (Some e)) ≡ writing_words (words_of g row) s dest x.item =
    ap (words_of g) (fired_if_some row e) ∙ ap (λ (seat : ℕ). words_of g (fired row (event.Write (register_at g seat dest) x.item))) formed.seated
    ∙ words-write_register g row whole s dest x.item below registers.0.1 in
    rw (load_write_event g x dest reg field is_load at_8) (rw (words, load_write_took g x dest reg field is_load at_8 (learnt row (Some e)))
    (load_writes g (words_of g row) flight begun t names contents range s dest reg field below is_load at_8 h))
