-- What a lawful state promises of colours: black objects and black frames refer to nothing white, a call that claimed
-- something white is inside nothing black, and from the sweep on nothing white can be reached.
use Rattle.std.proofs.Common.{◌≡◌, ◌≢◌, ℕ, ◌<◌, ◌≤◌, Bool, true, false, inl, inr, refl, sym, ◌∙◌, ap, arith, Option, Some}
use Rattle.std.proofs.lemmas.Bool.{cases_Bool, and_parts, and_from, or_left}
use Rattle.std.proofs.lemmas.Bool.Decides.{nat_tests}
use Rattle.std.specs.Prelude.{nat_eq, nat_le, not, ◌&&◌}
use Rattle.hk_words.specs.declared.geometry.Geometry.{Geometry}
use Rattle.hk_words.specs.declared.call.Call.{Call}
use Rattle.hk_words.specs.declared.call.Call.TheVariants as call
use Rattle.hk_words.specs.Calls.{target, RegistersFit}
use Rattle.hk_words.specs.Geometry.{tasks}
use Rattle.hk_words.specs.Layout as layout
use Rattle.hk_core.specs.declared.flight.Flight.{Flight}
use Rattle.hk_core.specs.declared.spot.Spot.{Spot}
use Rattle.hk_core.specs.View.{Words, Names, Contents}
use Rattle.hk_core.specs.Flights as f
use Rattle.hk_core.specs.Flights.{Hand}
use Rattle.hk_core.specs.Colours.{Spaces, Shades, held_by, NamesNoWhite}
use Rattle.hk_core.specs.Facts as fact
use Rattle.hk_core.specs.Facts.{IsSettled}
use Rattle.hk_core.specs.Lawful.{Facts}
use Rattle.hk_core.specs.Reach.{Reach, in_register, in_cell}
use Rattle.hk_core.specs.Stands.{GoesThrough, BlackStands, ReadsStand, IsClean}
use Rattle.hk_core.proofs.kinds.LoadRead.{ColoursMean, some_words, kept_number, shown_birth, settled_black}
use Rattle.hk_core.proofs.kinds.WriteCell.{ShadesMean}
use Rattle.hk_core.proofs.PromisedNumbers.{ShadesSay, kept_when_reached}

-- TABLES

-- a call that has done its claim has loaded W0 inside its object
claimed_inside : (x : Flight) → f.has_claimed x ≡ true → f.has_cycle_inside x ≡ true
unfolding f.has_claimed f.has_claimed_at f.has_cycle_inside f.has_cycle_inside_at
claimed_inside x claimed = let p = and_parts _ _ claimed in each x.call x.place p.0 p.1
  where
    loads : (p : ℕ) → (nat_le 6 p && nat_le p 9) ≡ true → (nat_le 4 p && nat_le p 9) ≡ true
    loads p e = grind (arith, nat_tests)

    stores : (p : ℕ) → (nat_le 4 p && nat_le p 7) ≡ true → (nat_le 3 p && nat_le p 7) ≡ true
    stores p e = grind (arith, nat_tests)

    each : (call' : Call) (p : ℕ) → f.has_claimed_at call' p ≡ true → not (nat_eq x.item 0) ≡ true → f.has_cycle_inside_at call' p (nat_eq x.item 0) ≡ true
    each (call.Get reg field) p e some = e
    each (call.Put reg field value) p e some = e
    each (call.Load dest reg field) p e some = loads p e
    each (call.Store reg field from) p e some = and_from _ _ (stores p e) some
    each (call.Move dest from) p e some = e
    each (call.Clear dest) p e some = e
    each (call.New dest shape) p e some = e
    each (call.Same a b) p e some = e
    each (call.IsNull reg) p e some = e

-- where it is inside its frame too, it has loaded W0 there
claimed_in_frame : (x : Flight) → f.has_claimed x ≡ true → f.in_frame x ≡ true → f.has_cycle_in_frame x ≡ true
unfolding f.has_claimed f.has_claimed_at f.in_frame f.in_frame_at f.has_cycle_in_frame f.is_load_at
claimed_in_frame x claimed framed = or_left _ _ (each x.call x.place (and_parts _ _ claimed).0 (and_parts _ _ framed).0)
  where
    loads : (p : ℕ) → (nat_le 6 p && nat_le p 9) ≡ true → (nat_le 4 p && nat_le p 10) ≡ true
    loads p e = grind (arith, nat_tests)

    each : (call' : Call) (p : ℕ) → f.has_claimed_at call' p ≡ true → f.in_frame_at call' p ≡ true → f.is_load_at 4 10 call' p ≡ true
    each (call.Get reg field) p e framed = e
    each (call.Put reg field value) p e framed = e
    each (call.Load dest reg field) p e framed = loads p e
    each (call.Store reg field from) p e framed = framed
    each (call.Move dest from) p e framed = e
    each (call.Clear dest) p e framed = e
    each (call.New dest shape) p e framed = e
    each (call.Same a b) p e framed = e
    each (call.IsNull reg) p e framed = e

-- a Load that holds back the word of a register has an item
held_back : (x : Flight) (r : ℕ) → f.holds_back x r ≡ true → f.has_item x ≡ true
unfolding f.holds_back f.holds_back_at f.has_item f.has_item_at
held_back x r e = each x.call x.place e
  where
    loads : (p : ℕ) → (nat_le 5 p && nat_le p 8) ≡ true → (nat_le 5 p && nat_le p 10) ≡ true
    loads p e = grind (arith, nat_tests)

    each : (call' : Call) (p : ℕ) → f.holds_back_at call' p r ≡ true → f.has_item_at call' p ≡ true
    each (call.Get reg field) p e = e
    each (call.Put reg field value) p e = e
    each (call.Load dest reg field) p e = loads p (and_parts _ _ e).0
    each (call.Store reg field from) p e = absurd (cc)
    each (call.Move dest from) p e = absurd (cc)
    each (call.Clear dest) p e = e
    each (call.New dest shape) p e = e
    each (call.Same a b) p e = e
    each (call.IsNull reg) p e = e

-- a Load that has written its register is in flight, and has one
record HasTarget (call' : Call) (place : ℕ) : Type 0 where
  register : ℕ
  is_target : target call' ≡ Some register
  flying : nat_le 1 place ≡ true
  fits : (registers : ℕ) → RegistersFit registers call' → register < registers

written_register : (x : Flight) → f.has_written x ≡ true → HasTarget x.call x.place
unfolding f.has_written f.is_load_at
written_register x e = each x.call x.place e
  where
    flies : (p : ℕ) → (nat_le 9 p && nat_le p 10) ≡ true → nat_le 1 p ≡ true
    flies p e = grind (arith, nat_tests)

    each : (call' : Call) (p : ℕ) → f.is_load_at 9 10 call' p ≡ true → HasTarget call' p
    each (call.Get reg field) p e = absurd (cc)
    each (call.Put reg field value) p e = absurd (cc)
    each (call.Load dest reg field) p e = record { register = dest; is_target = refl; flying = flies p e; fits = λ registers fit. fit.0.1 }
    each (call.Store reg field from) p e = absurd (cc)
    each (call.Move dest from) p e = absurd (cc)
    each (call.Clear dest) p e = absurd (cc)
    each (call.New dest shape) p e = absurd (cc)
    each (call.Same a b) p e = absurd (cc)
    each (call.IsNull reg) p e = absurd (cc)

-- a word that isn't null and names no white number
dark_number : (white : ℕ → Bool) (word n : ℕ) → (layout.reference_number word ≡ n) × (word ≢ 0) → NamesNoWhite white word → white n ≡ false
dark_number white word n number (inl null) = absurd (number.1 null)
dark_number white word n number (inr dark) = ap white (sym number.0) ∙ dark

module _ (g : Geometry) (w : Words) (z : Spaces) (sh : Shades) (flight : ℕ → Flight) (begun : ℕ → ℕ) (hand : ℕ → Hand) (t : Spot)
    (names : Names) (contents : Contents) (range : ℕ → Option ℕ) (h : Facts g w z sh flight begun hand t names contents range)
    (m : ShadesMean g w z sh flight t.line names) (c : ColoursMean w z sh) where
  -- BLACK

  pub black_stands : ShadesSay g w z sh flight names → BlackStands g w sh flight names contents
  black_stands say = record {
    objects = λ n b black bears free. h.black_leads_to_no_white n b (say.kept n b black bears free) black bears;
    frames = h.black_frame_has_no_white;
    late_objects = h.late_in_no_black_object;
    late_frames = h.late_in_no_black_frame;
  }

  -- a white object that was claimed, was claimed for an earlier cycle
  claimed_late : ShadesSay g w z sh flight names → (s : ℕ) → s < tasks g → f.has_claimed (flight s) ≡ true
      → sh.white (layout.reference_number (flight s).item) ≡ true → f.cycle_of (flight s) < w.cycle
  claimed_late say s below claimed white =
      let mark : w.mark (layout.reference_number (flight s).item) < w.cycle = say.white _ white in
      let lasts : f.cycle_of (flight s) ≤ w.mark (layout.reference_number (flight s).item) = h.claims_last s below claimed in
      omega arith

  -- what a Load has written into its register isn't white where the frame is black
  written_dark : (s : ℕ) → s < tasks g → f.has_written (flight s) ≡ true → sh.black_frame s ≡ true → NamesNoWhite sh.white (flight s).item
  written_dark s below written black =
      let to = written_register (flight s) written in
      let fits : to.register < g.registers = to.fits g.registers ((h.flights_formed s below).registers to.flying) in
      rw (← h.loaded_stays s to.register below written to.is_target) (h.black_frame_has_no_white s to.register below fits black)

  pub reads_stand : ShadesSay g w z sh flight names → ReadsStand g w sh flight
  reads_stand say = record {
    copied = h.copied_stays;
    loaded = h.loaded_white_from_no_black;
    through = h.entered_white_in_no_black_frame;
    claimed = λ s below claimed white.
        let late = claimed_late say s below claimed white in (
          h.late_in_no_black_object s below (claimed_inside (flight s) claimed) late,
          λ framed. h.late_in_no_black_frame s below (claimed_in_frame (flight s) claimed framed) late,
        );
    written = written_dark;
  }

  -- A CLEAN STATE

  module _ (settled : IsSettled g w.cycle sh.white sh.grey w.register flight) where
    -- what shows a register names no white number
    shown_dark : (s r : ℕ) → s < tasks g → r < g.registers → NamesNoWhite sh.white (fact.shown_in (flight s) r (w.register s r))
    shown_dark s r below fits = elim (cases_Bool (f.holds_back (flight s) r)) [
      | inl back ↦ rw back (settled.items s below (held_back (flight s) r back))
      | inr free ↦ rw free (settled.registers s r below fits)
    ]

    -- no white number can be reached
    reached_dark : (birth : ℕ) → Reach g names.refs contents.register contents.link birth → sh.white (names.number birth) ≡ false
    reached_dark birth (in_register seat reg below fits holds) =
        let kept = kept_when_reached g w z sh flight begun hand t names contents range h birth (in_register seat reg below fits holds) in
        let word = fact.shown_in (flight seat) reg (w.register seat reg) in
        let packed : word ≡ layout.pack_reference (names.number birth) (names.refs birth) (names.nums birth) =
        h.registers_shown seat reg below fits ∙ shown_birth names (contents.register seat reg) birth holds in
        dark_number sh.white word (names.number birth) (kept_number g w (held_by g flight) t.line names sh m.kept birth word kept packed) (shown_dark seat reg below fits)
    reached_dark birth (in_cell holder field reach within holds) =
        let o = kept_when_reached g w z sh flight begun hand t names contents range h holder reach in
        let n = names.number holder in
        let black : sh.black n ≡ true = settled_black g w z sh flight t.line names n m c h.objects_in_one_space o.is_kept (some_words names sh.size n (m.size n))
        (settled.none_grey n (m.kept n o.is_kept).within) (reached_dark holder reach) in
        h.black_leads_to_no_white n holder o.is_kept black o.bears field birth within holds

    through_dark : (s : ℕ) → s < tasks g → GoesThrough (flight s) → sh.white (layout.reference_number (flight s).entered) ≡ false
    through_dark s below goes =
        dark_number sh.white (flight s).entered (layout.reference_number (flight s).entered) (refl, (h.entered_good s below goes.0 goes.1).some) (settled.entered s below goes.1)

    pub clean_when_settled : IsClean g w sh flight names contents
    clean_when_settled = record {
      none_grey = settled.none_grey;
      none_late = settled.none_late;
      reached = reached_dark;
      read = settled.items;
      through = through_dark;
    }
