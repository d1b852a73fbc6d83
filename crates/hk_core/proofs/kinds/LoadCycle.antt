-- A Load or a Store, inside its object, loads W0: it knows the cycle then. No word changes.
use Rattle.std.proofs.Common.{◌≡◌, ℕ, ◌<◌, false, inl, refl, sym, ◌∙◌, arith, Option}
use Rattle.std.proofs.lemmas.Bool.{and_right}
use Rattle.hk_words.specs.declared.geometry.Geometry.{Geometry}
use Rattle.hk_words.specs.declared.call.Call.{Call}
use Rattle.hk_words.specs.declared.call.Call.TheVariants as call
use Rattle.hk_words.specs.Geometry.{tasks}
use Rattle.hk_words.specs.Layout as layout
use Rattle.hk_model.specs.View.{upd}
use Rattle.hk_core.specs.declared.flight.Flight.{Flight}
use Rattle.hk_core.specs.declared.spot.Spot.{Spot}
use Rattle.hk_core.specs.declared.spot.Line.{Line}
use Rattle.hk_core.specs.View.{Words, Names, Contents}
use Rattle.hk_core.specs.Flights as f
use Rattle.hk_core.specs.Flights.{Hand, hand_of_flight}
use Rattle.hk_core.specs.Colours.{Spaces, spaces_of, Shades, shades_of}
use Rattle.hk_core.specs.Facts as fact
use Rattle.hk_core.specs.Lawful.{Facts, FactsOf, hands_of}
use Rattle.hk_core.proofs.kinds.Seats.{CallsFacts, FlightFacts, Changes, GoesOn, SameObject, SameFrame, SameItem, MakesNothing, calls_upd, facts_of_flight, counted_kept, versions_kept, frames_counted_kept, frame_versions_kept}
use Rattle.hk_core.proofs.kinds.Seats.{hands_upd, shades_upd, goes_without_number}
use Rattle.hk_core.proofs.kinds.Read.{none_in}

-- a flight that goes on to another place with the W0 that it has loaded
abbrev pub loaded_on : Flight → (q word : ℕ) → Flight
loaded_on x q word = record x { place = q; word = word }

-- the tables of a call that loads W0 at its place p, and hasn't claimed by q
pub record LoadsCycle (call : Call) (p q : ℕ) : Type 0 where
  pub goes : GoesOn call p q
  pub same_object : SameObject call p q
  pub same_frame : SameFrame call p q
  pub same_item : SameItem call p q
  pub has_claimed : f.has_claimed_at call q ≡ false
  pub reserves_before : f.reserves_at call p ≡ false
  pub reserves : f.reserves_at call q ≡ false
  pub links_before : f.links_at call p ≡ false
  pub links : f.links_at call q ≡ false

not_below : {A : Type 0} (a b : ℕ) → a ≡ b → a < b → A
not_below a b e h = absurd (omega arith)

module _ (x : Flight) (q word : ℕ) (t : LoadsCycle x.call x.place q) where
  loads_nothing_made : MakesNothing (loaded_on x q word)
  unfolding f.has_raised f.has_room f.is_making f.has_number
  loads_nothing_made = record {
    not_raised = rw t.goes.raised refl;
    no_room = rw t.goes.raised refl;
    not_making = rw t.goes.making refl;
    no_number = rw t.goes.numbered refl;
  }

  loads_raising : f.will_raise (loaded_on x q word) ≡ f.will_raise x
  unfolding f.will_raise
  loads_raising = rw t.goes.will_raise refl

  loads_inside : (m : ℕ) → f.is_inside (loaded_on x q word) m ≡ f.is_inside x m
  unfolding f.is_inside f.in_object
  loads_inside m = rw t.same_object.inside refl

  loads_before_object : f.before_object (loaded_on x q word) ≡ f.before_object x
  unfolding f.before_object
  loads_before_object = t.same_object.before

  loads_in_frame : f.in_frame (loaded_on x q word) ≡ f.in_frame x
  unfolding f.in_frame
  loads_in_frame = rw t.same_frame.inside refl

  loads_before_frame : f.before_frame (loaded_on x q word) ≡ f.before_frame x
  unfolding f.before_frame
  loads_before_frame = rw t.same_frame.before refl

  loads_hand : (g : Geometry) → hand_of_flight g (loaded_on x q word) ≡ hand_of_flight g x
  unfolding f.hand_of_flight
  loads_hand g = rw (t.reserves, t.links, t.reserves_before, t.links_before, and_right x.claimer false refl) refl

  loads_facts : (g : Geometry) (w : Words) (sh : Shades) (names : Names) (plain : ℕ → ℕ → Option ℕ) (s : ℕ) → layout.w0_cycle word ≡ w.cycle
      → FlightFacts g w sh names plain s x → FlightFacts g w sh names plain s (loaded_on x q word)
  unfolding f.holds_back f.has_loaded f.register_stays f.has_written f.has_claimed f.has_loaded_inside f.is_load f.in_object
  loads_facts g w sh names plain s cycle o = record {
    registers_shown = λ r h. rw (t.same_item.holds_back r) (o.registers_shown r h);
    entered_good = λ a b. o.entered_good a t.goes.flying;
    loaded_good = λ h. o.loaded_good (sym t.same_item.has_loaded ∙ h);
    formed = record { seated = o.formed.seated; in_row = t.goes.in_row; registers = λ h. o.formed.registers t.goes.flying; no_question = o.formed.no_question; entered_null = o.formed.entered_null };
    in_step = t.goes.in_step x.full x.raised o.in_step;
    field_there = λ h. o.field_there t.goes.flying;
    entered_stays = λ r h. o.entered_stays r (sym t.goes.register_stays ∙ h);
    place_known = λ h. o.place_known (sym t.same_object.inside ∙ h);
    loaded_recent = λ h. inl cycle;
    loaded_stays = λ r h. o.loaded_stays r (sym t.same_item.has_written ∙ h);
    copied_stays = λ r h. o.copied_stays r t.goes.flying;
    claims_last = λ h. none_in _ _ t.has_claimed h;
    late_in_no_black_object = λ h b. not_below (layout.w0_cycle word) w.cycle cycle b;
    late_in_no_black_frame = λ h b. not_below (layout.w0_cycle word) w.cycle cycle b;
    loaded_white = λ h. o.loaded_white (t.same_item.has_loaded_inside h);
    entered_white = λ h. o.entered_white (sym t.goes.is_load ∙ h);
  }

  loads_so : (g : Geometry) (w : Words) (sh : Shades) (ln : Line) (names : Names) (contents : Contents) (flight : ℕ → Flight) (s : ℕ) → s < tasks g → flight s ≡ x → layout.w0_cycle word ≡ w.cycle
      → CallsFacts g w sh ln names contents flight → Changes g w sh names contents flight s (loaded_on x q word)
  unfolding f.has_item
  loads_so g w sh ln names contents flight s below here cycle h = record {
    nothing = loads_nothing_made;
    raising = rw here loads_raising;
    facts = loads_facts g w sh names contents.register s cycle (rw (← here) (facts_of_flight g w sh names contents.register flight h.flights s below));
    entered = λ o e. rw (← here) (o.entered s below (rw here t.goes.flying));
    item = λ o e. rw (← here) (o.items s below (rw here (sym t.same_item.has_item ∙ e)));
  }

module _ (g : Geometry) (w : Words) (z : Spaces) (sh : Shades) (flight : ℕ → Flight) (begun : ℕ → ℕ) (hand : ℕ → Hand) (t : Spot)
    (names : Names) (contents : Contents) (range : ℕ → Option ℕ) (s q word : ℕ) where
  pub load_cycle_facts : s < tasks g → LoadsCycle (flight s).call (flight s).place q → layout.w0_cycle word ≡ w.cycle
      → Facts g w z sh flight begun hand t names contents range
      → Facts g w z sh (upd flight s (loaded_on (flight s) q word)) begun hand t names contents range
  load_cycle_facts below e cycle h =
      let x = flight s in
      let y = loaded_on x q word in
      let counted : fact.AccessorsCounted g w.accessors (upd flight s y) = counted_kept g flight s y w.accessors (loads_inside x q word e) h.accessors_counted in
      let versions : fact.VersionsBounded g w.version (upd flight s y) begun = versions_kept g flight s y w.version begun (loads_before_object x q word e) h.versions_bounded in
      let frames : fact.FrameAccessorsCounted g w.frame_accessors (upd flight s y) = frames_counted_kept g flight s y w.frame_accessors below (loads_in_frame x q word e) h.frame_accessors_counted in
      let frame_versions : fact.FrameVersionsBounded g w.frame_version (upd flight s y) begun = frame_versions_kept g flight s y w.frame_version begun (loads_before_frame x q word e) h.frame_versions_bounded in
      let between : CallsFacts g w sh t.line names contents flight = assumption in
      let calls : CallsFacts g w sh t.line names contents (upd flight s y) =
      calls_upd g w sh t.line names contents flight s y (loads_so x q word e g w sh t.line names contents flight s below refl cycle between) between in
      assumption

-- all facts hold after a call inside its object has loaded W0
pub load_cycle : (g : Geometry) (w : Words) (flight : ℕ → Flight) (begun : ℕ → ℕ) (t : Spot) (names : Names) (contents : Contents) (range : ℕ → Option ℕ) (s q word : ℕ)
    → s < tasks g → LoadsCycle (flight s).call (flight s).place q → layout.w0_cycle word ≡ w.cycle → FactsOf g w flight begun t names contents range
    → FactsOf g w (upd flight s (loaded_on (flight s) q word)) begun t names contents range
load_cycle g w flight begun t names contents range s q word below e cycle h =
    let x = flight s in
    let y = loaded_on x q word in
    let hands : hands_of g (upd flight s y) t ≡ hands_of g flight t = hands_upd g t flight s y (loads_hand x q word e g) in
    let shades : shades_of g w (upd flight s y) t.line names ≡ shades_of g w flight t.line names =
    shades_upd g w t.line names flight s y (goes_without_number x q x.at e.goes) ((loads_nothing_made x q word e).no_number) in
    rw (hands, shades)
    (load_cycle_facts g w (spaces_of g w.cycle) (shades_of g w flight t.line names) flight begun (hands_of g flight t) t names contents range s q word below e cycle h)

-- the calls that load W0 inside their object
pub load_loads_cycle : (dest reg field : ℕ) → LoadsCycle (call.Load dest reg field) 3 4
unfolding f.in_object_at f.before_object_at f.register_stays_at f.is_load_at f.is_new_at f.in_frame_at f.before_frame_at f.has_claimed_at f.reserves_at f.links_at f.has_item_at f.holds_back_at
load_loads_cycle dest reg field = record {
  goes = record {
    flying = refl;
    in_row = omega arith;
    in_step = λ full raised h. h;
    register_stays = refl;
    is_load = refl;
    will_raise = refl;
    raised_before = refl;
    raised = refl;
    making = refl;
    numbered_before = refl;
    numbered = refl;
  };
  same_object = record { inside = refl; before = refl };
  same_frame = record { inside = refl; before = refl };
  same_item = record { has_item = refl; has_loaded = refl; has_loaded_inside = λ h. h; has_written = refl; holds_back = λ r. refl };
  has_claimed = refl;
  reserves_before = refl;
  reserves = refl;
  links_before = refl;
  links = refl;
}

pub store_loads_cycle : (reg field from : ℕ) → LoadsCycle (call.Store reg field from) 2 3
unfolding f.in_object_at f.before_object_at f.register_stays_at f.is_load_at f.is_new_at f.in_frame_at f.before_frame_at f.has_claimed_at f.reserves_at f.links_at f.has_item_at f.holds_back_at
store_loads_cycle reg field from = record {
  goes = record {
    flying = refl;
    in_row = omega arith;
    in_step = λ full raised h. h;
    register_stays = refl;
    is_load = refl;
    will_raise = refl;
    raised_before = refl;
    raised = refl;
    making = refl;
    numbered_before = refl;
    numbered = refl;
  };
  same_object = record { inside = refl; before = refl };
  same_frame = record { inside = refl; before = refl };
  same_item = record { has_item = refl; has_loaded = refl; has_loaded_inside = λ h. h; has_written = refl; holds_back = λ r. refl };
  has_claimed = refl;
  reserves_before = refl;
  reserves = refl;
  links_before = refl;
  links = refl;
}
