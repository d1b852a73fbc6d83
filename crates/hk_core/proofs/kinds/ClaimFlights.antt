-- A call goes on from its claim, its reserve or its link to its next place, and knows whether it is the claimer, or what it
-- reserved. No word changes here: what the event does to the words, the ranges and the claims in hand is shown before.
use Rattle.std.proofs.Common.{◌≡◌, ℕ, ◌<◌, ◌≤◌, Bool, true, inl, inr, refl, sym, ◌∙◌, Option}
use Rattle.std.proofs.lemmas.Bool.{both_ways, and_parts, lt-ltb, or_cases}
use Rattle.std.specs.Prelude.{nat_lt, ◌&&◌, ◌||◌, if◌then◌else◌}
use Rattle.hk_words.specs.declared.geometry.Geometry.{Geometry}
use Rattle.hk_words.specs.declared.call.Call.{Call}
use Rattle.hk_words.specs.Geometry.{tasks}
use Rattle.hk_words.specs.Layout as layout
use Rattle.hk_model.specs.View.{upd}
use Rattle.hk_model.proofs.Updates.{is_upd, upd_same, upd_other}
use Rattle.hk_core.specs.declared.flight.Flight.{Flight}
use Rattle.hk_core.specs.declared.spot.Spot.{Spot}
use Rattle.hk_core.specs.declared.spot.Line.{Line}
use Rattle.hk_core.specs.View.{Words, Names, Contents}
use Rattle.hk_core.specs.Flights as f
use Rattle.hk_core.specs.Flights.{Hand, hand_of_flight}
use Rattle.hk_core.specs.Lines.{hand_of_spot}
use Rattle.hk_core.specs.Colours.{Spaces, Shades, shades_of}
use Rattle.hk_core.specs.Facts as fact
use Rattle.hk_core.specs.Lawful.{Facts, hands_of}
use Rattle.hk_core.proofs.kinds.Seats.{CallsFacts, FlightFacts, Changes, GoesOn, SameObject, SameFrame, SameItem, MakesNothing, calls_upd, facts_of_flight, counted_kept, versions_kept, frames_counted_kept, frame_versions_kept}
use Rattle.hk_core.proofs.kinds.Seats.{shades_upd, goes_without_number}

-- a flight that goes on to another place, and is the claimer or not, with an offset
abbrev pub claim_on : Flight → (q : ℕ) (claimer : Bool) (offset : ℕ) → Flight
claim_on x q claimer offset = record x { place = q; claimer = claimer; offset = offset }

-- the tables of a call that goes on from a place of its claim: it had loaded W0 before
pub record GoesOnInClaim (call : Call) (p q : ℕ) : Type 0 where
  pub goes : GoesOn call p q
  pub same_object : SameObject call p q
  pub same_frame : SameFrame call p q
  pub same_item : SameItem call p q
  pub has_cycle_in_frame : f.is_load_at 4 10 call q ≡ true → f.is_load_at 4 10 call p ≡ true
  pub has_cycle : (is_null : Bool) → f.has_cycle_inside_at call q is_null ≡ true → f.has_cycle_inside_at call p is_null ≡ true

module _ (x : Flight) (q : ℕ) (claimer : Bool) (offset : ℕ) (t : GoesOnInClaim x.call x.place q) where
  claim_in_frame : (f.is_load_at 4 10 x.call q || (f.is_new_at 4 7 x.call q && x.raised)) ≡ true
      → (f.is_load_at 4 10 x.call x.place || (f.is_new_at 4 7 x.call x.place && x.raised)) ≡ true
  claim_in_frame h =
      elim (or_cases (f.is_load_at 4 10 x.call q) (f.is_new_at 4 7 x.call q && x.raised) h) [
        | inl e ↦ rw (t.has_cycle_in_frame e) refl
        | inr e ↦ absurd (both_ways (f.is_new_at 4 7 x.call q) t.goes.raised (and_parts _ _ e).0)
      ]

  pub claim_nothing_made : MakesNothing (claim_on x q claimer offset)
  unfolding f.has_raised f.has_room f.is_making f.has_number
  claim_nothing_made = record {
    not_raised = rw t.goes.raised refl;
    no_room = rw t.goes.raised refl;
    not_making = rw t.goes.making refl;
    no_number = rw t.goes.numbered refl;
  }

  claim_raising : f.will_raise (claim_on x q claimer offset) ≡ f.will_raise x
  unfolding f.will_raise
  claim_raising = rw t.goes.will_raise refl

  claim_inside : (m : ℕ) → f.is_inside (claim_on x q claimer offset) m ≡ f.is_inside x m
  unfolding f.is_inside f.in_object
  claim_inside m = rw t.same_object.inside refl

  claim_before_object : f.before_object (claim_on x q claimer offset) ≡ f.before_object x
  unfolding f.before_object
  claim_before_object = t.same_object.before

  claim_same_frame : f.in_frame (claim_on x q claimer offset) ≡ f.in_frame x
  unfolding f.in_frame
  claim_same_frame = rw t.same_frame.inside refl

  claim_before_frame : f.before_frame (claim_on x q claimer offset) ≡ f.before_frame x
  unfolding f.before_frame
  claim_before_frame = rw t.same_frame.before refl

  claim_flight_facts : (g : Geometry) (w : Words) (sh : Shades) (names : Names) (plain : ℕ → ℕ → Option ℕ) (s : ℕ)
      → (f.has_claimed (claim_on x q claimer offset) ≡ true → f.cycle_of x ≤ w.mark (layout.reference_number x.item))
      → FlightFacts g w sh names plain s x → FlightFacts g w sh names plain s (claim_on x q claimer offset)
  unfolding f.holds_back f.has_loaded f.register_stays f.has_cycle_inside f.has_written f.has_cycle_in_frame f.has_raised f.has_loaded_inside f.is_load f.in_object
  claim_flight_facts g w sh names plain s claimed o = record {
    registers_shown = λ r h. rw (t.same_item.holds_back r) (o.registers_shown r h);
    entered_good = λ a b. o.entered_good a t.goes.flying;
    loaded_good = λ h. o.loaded_good (sym t.same_item.has_loaded ∙ h);
    formed = record { seated = o.formed.seated; in_row = t.goes.in_row; registers = λ h. o.formed.registers t.goes.flying; no_question = o.formed.no_question; entered_null = o.formed.entered_null };
    in_step = t.goes.in_step x.full x.raised o.in_step;
    field_there = λ h. o.field_there t.goes.flying;
    entered_stays = λ r h. o.entered_stays r (sym t.goes.register_stays ∙ h);
    place_known = λ h. o.place_known (sym t.same_object.inside ∙ h);
    loaded_recent = λ h. o.loaded_recent (t.has_cycle _ h);
    loaded_stays = λ r h. o.loaded_stays r (sym t.same_item.has_written ∙ h);
    copied_stays = λ r h. o.copied_stays r t.goes.flying;
    claims_last = claimed;
    late_in_no_black_object = λ h. o.late_in_no_black_object (t.has_cycle _ h);
    late_in_no_black_frame = λ h. o.late_in_no_black_frame (claim_in_frame h);
    loaded_white = λ h. o.loaded_white (t.same_item.has_loaded_inside h);
    entered_white = λ h. o.entered_white (sym t.goes.is_load ∙ h);
  }

  claim_so : (g : Geometry) (w : Words) (sh : Shades) (ln : Line) (names : Names) (contents : Contents) (flight : ℕ → Flight) (s : ℕ) → s < tasks g → flight s ≡ x
      → (f.has_claimed (claim_on x q claimer offset) ≡ true → f.cycle_of x ≤ w.mark (layout.reference_number x.item))
      → CallsFacts g w sh ln names contents flight → Changes g w sh names contents flight s (claim_on x q claimer offset)
  unfolding f.has_item
  claim_so g w sh ln names contents flight s below here claimed h = record {
    nothing = claim_nothing_made;
    raising = rw here claim_raising;
    facts = claim_flight_facts g w sh names contents.register s claimed (rw (← here) (facts_of_flight g w sh names contents.register flight h.flights s below));
    entered = λ o e. rw (← here) (o.entered s below (rw here t.goes.flying));
    item = λ o e. rw (← here) (o.items s below (rw here (sym t.same_item.has_item ∙ e)));
  }

-- all facts stay while the call goes on, for any claims in hand
module _ (g : Geometry) (w : Words) (z : Spaces) (sh : Shades) (flight : ℕ → Flight) (begun : ℕ → ℕ) (hand : ℕ → Hand) (t : Spot)
    (names : Names) (contents : Contents) (range : ℕ → Option ℕ) (s q : ℕ) (claimer : Bool) (offset : ℕ) where
  pub go_on_in_claim : s < tasks g → GoesOnInClaim (flight s).call (flight s).place q
      → (f.has_claimed (claim_on (flight s) q claimer offset) ≡ true → f.cycle_of (flight s) ≤ w.mark (layout.reference_number (flight s).item))
      → Facts g w z sh flight begun hand t names contents range
      → Facts g w z sh (upd flight s (claim_on (flight s) q claimer offset)) begun hand t names contents range
  go_on_in_claim below e claimed h =
      let x = flight s in
      let y = claim_on x q claimer offset in
      let counted : fact.AccessorsCounted g w.accessors (upd flight s y) = counted_kept g flight s y w.accessors (claim_inside x q claimer offset e) h.accessors_counted in
      let versions : fact.VersionsBounded g w.version (upd flight s y) begun = versions_kept g flight s y w.version begun (claim_before_object x q claimer offset e) h.versions_bounded in
      let frames : fact.FrameAccessorsCounted g w.frame_accessors (upd flight s y) = frames_counted_kept g flight s y w.frame_accessors below (claim_same_frame x q claimer offset e) h.frame_accessors_counted in
      let frame_versions : fact.FrameVersionsBounded g w.frame_version (upd flight s y) begun =
      frame_versions_kept g flight s y w.frame_version begun (claim_before_frame x q claimer offset e) h.frame_versions_bounded in
      let between : CallsFacts g w sh t.line names contents flight = assumption in
      let calls : CallsFacts g w sh t.line names contents (upd flight s y) =
      calls_upd g w sh t.line names contents flight s y (claim_so x q claimer offset e g w sh t.line names contents flight s below refl claimed between) between in
      assumption

-- the claims in hand then: that of the seat is the one of its new flight
pub hands_set : (g : Geometry) (t : Spot) (flight : ℕ → Flight) (s : ℕ) (y : Flight) → s < tasks g
    → hands_of g (upd flight s y) t ≡ upd (hands_of g flight t) s (hand_of_flight g y)
unfolding hands_of
hands_set g t flight s y below = is_upd {A = Hand} (λ k. at (upd flight s y) k) (λ k. at flight k) s (hand_of_flight g y) here (λ k d. rw (upd_other flight s y k d) refl)
  where
    at : (ℕ → Flight) → ℕ → Hand
    at flights k = if nat_lt k (tasks g) then hand_of_flight g (flights k) else hand_of_spot t

    here : at (upd flight s y) s ≡ hand_of_flight g y
    here = rw (lt-ltb s (tasks g) below, upd_same flight s y) refl

-- the claim in hand of a seat
pub hand_of_seat : (g : Geometry) (t : Spot) (flight : ℕ → Flight) (s : ℕ) → s < tasks g → hands_of g flight t s ≡ hand_of_flight g (flight s)
unfolding hands_of
hand_of_seat g t flight s below = rw (lt-ltb s (tasks g) below) refl

-- what many facts read of the flights is as before
pub shades_in_claim : (g : Geometry) (w : Words) (ln : Line) (names : Names) (flight : ℕ → Flight) (s q : ℕ) (claimer : Bool) (offset : ℕ) → GoesOnInClaim (flight s).call (flight s).place q
    → shades_of g w (upd flight s (claim_on (flight s) q claimer offset)) ln names ≡ shades_of g w flight ln names
shades_in_claim g w ln names flight s q claimer offset t =
    shades_upd g w ln names flight s (claim_on (flight s) q claimer offset) (goes_without_number (flight s) q (flight s).at t.goes) ((claim_nothing_made (flight s) q claimer offset t).no_number)
