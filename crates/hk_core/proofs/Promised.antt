-- A lawful state keeps all its promises.
use Rattle.std.proofs.Common.{◌≡◌, ◌≢◌, ℕ, ◌+◌, refl, sym, ◌∙◌, ap, arith, Option, Some}
use Rattle.hk_words.specs.declared.geometry.Geometry.{Geometry}
use Rattle.hk_words.specs.Layout as layout
use Rattle.hk_model.specs.History.{History}
use Rattle.hk_core.specs.declared.flight.Flight.{Flight}
use Rattle.hk_core.specs.declared.spot.Spot.{Spot}
use Rattle.hk_core.specs.State.{State}
use Rattle.hk_core.specs.View.{Words, Names, Contents, words_of, names_of, contents_of, flight_at, begun_at, shown}
use Rattle.hk_core.specs.Flights.{Hand}
use Rattle.hk_core.specs.Colours.{Spaces, spaces_of, Shades, shades_of, Apart, IsGood, IsKeptBirth}
use Rattle.hk_core.specs.Lawful.{Facts, Lawful, hands_of}
use Rattle.hk_core.specs.Stands.{IsInUse, IsShown, Stands, SpotStands, VersionsStand, PromisesOf, Promises}
use Rattle.hk_core.proofs.kinds.Seats.{pass_upd}
use Rattle.hk_core.proofs.kinds.LoadRead.{ColoursMean, colours_mean, reference_borne, shown_birth}
use Rattle.hk_core.proofs.kinds.WriteCell.{ShadesMean, shades_mean, BearersNumbered, bearers_numbered}
use Rattle.hk_core.proofs.PromisedNumbers.{ShadesSay, shades_say, no_number_no_place, borne_by, kept_in_use}
use Rattle.hk_core.proofs.PromisedLists.{lists_stand, written_stand}
use Rattle.hk_core.proofs.PromisedWords.{ranges_stand, space_stands}
use Rattle.hk_core.proofs.PromisedColours.{black_stands, reads_stand, clean_when_settled}
use Rattle.hk_core.proofs.Shared.{size_borne}

module _ (g : Geometry) (w : Words) (z : Spaces) (sh : Shades) (flight : ℕ → Flight) (begun : ℕ → ℕ) (hand : ℕ → Hand) (t : Spot)
    (names : Names) (contents : Contents) (range : ℕ → Option ℕ) (h : Facts g w z sh flight begun hand t names contents range)
    (m : ShadesMean g w z sh flight t.line names) (c : ColoursMean w z sh) (say : ShadesSay g w z sh flight names) (numbered : BearersNumbered names) where
  in_use : (birth : ℕ) → IsInUse g names contents flight birth → IsKeptBirth sh.kept names birth
  in_use birth used = kept_in_use g w z sh flight begun hand t names contents range h numbered birth used

  shown_in_use : (birth : ℕ) → IsInUse g names contents flight birth → IsShown w names contents birth
  shown_in_use birth used =
      let o = in_use birth used in
      let n = names.number birth in
      record {
        bears = o.bears;
        placed = (m.kept n o.is_kept).placed;
        links = h.links_shown n birth o.is_kept o.bears;
        values = h.values_shown n birth o.is_kept o.bears;
      }

  apart_in_use : (a b : ℕ) → IsInUse g names contents flight a → IsInUse g names contents flight b → a ≢ b
      → Apart (w.place (names.number a)) (1 + names.refs a + names.nums a) (w.place (names.number b)) (1 + names.refs b + names.nums b)
  apart_in_use a b used used' differ =
      let o = in_use a used in
      let o' = in_use b used' in
      let borne : names.number a ≡ names.number b → Some a ≡ Some b = λ same. sym o.bears ∙ ap names.bearer same ∙ o'.bears in
      let other : names.number a ≢ names.number b = λ same. let one = borne same in differ cc in
      let size : sh.size (names.number a) ≡ 1 + names.refs a + names.nums a = m.size (names.number a) ∙ size_borne names (names.number a) a o.bears in
      let size' : sh.size (names.number b) ≡ 1 + names.refs b + names.nums b = m.size (names.number b) ∙ size_borne names (names.number b) b o'.bears in
      rw (← size, ← size') (h.objects_apart (names.number a) (names.number b) o.is_kept o'.is_kept other)

  -- a good reference is that of the birth that bears its number
  good_birth : (word : ℕ) → IsGood sh.kept names word → (birth : ℕ) × (names.bearer (layout.reference_number word) ≡ Some birth) × (word ≡ shown names (Some birth))
  good_birth word good =
      let n = layout.reference_number word in
      let b = borne_by (names.bearer n) (m.kept n good.is_kept).is_born in
      let packed : word ≡ layout.pack_reference n (names.refs b.0) (names.nums b.0) = good.shows ∙ reference_borne names n b.0 b.1 in
      (b.0, b.1, packed ∙ ap (λ (k : ℕ). layout.pack_reference k (names.refs b.0) (names.nums b.0)) (sym (numbered n b.0 b.1)) ∙ sym (shown_birth names (Some b.0) b.0 refl))

  stands : Stands g w flight names contents
  stands = record {
    registers = h.registers_shown;
    loaded = h.loaded_stays;
    through = λ s below goes. good_birth (flight s).entered (h.entered_good s below goes.0 goes.1);
    births = shown_in_use;
    apart = apart_in_use;
    accessors = h.accessors_counted;
    frame_accessors = h.frame_accessors_counted;
  }

  spot_stands : SpotStands g w z sh flight t names contents
  spot_stands = record {
    copied = h.cells_copied;
    loaded = h.cell_loaded;
    written = written_stand g w z sh flight begun hand t names contents range h m;
    pass = pass_upd g t.line sh.grey _ _ (clean_when_settled g w z sh flight begun hand t names contents range h m c) h.pass_meets_grey;
    clean = λ quiet. clean_when_settled g w z sh flight begun hand t names contents range h m c (h.settled_from_sweep quiet);
    frames = h.frames_blackened;
    registers_passed = h.registers_passed;
    cells_passed = h.cells_passed;
  }

  versions_stand : VersionsStand g w begun
  versions_stand = record {
    headers = λ n below. let bound = h.versions_bounded n below in omega arith;
    frames = λ s below. let bound = h.frame_versions_bounded s below in omega arith;
  }

  promised : PromisesOf g w z sh flight begun t names contents range
  promised = record {
    stands = stands;
    lists = lists_stand g w z sh flight begun hand t names contents range h m;
    black = black_stands g w z sh flight begun hand t names contents range h m c say;
    reads = reads_stand g w z sh flight begun hand t names contents range h m c say;
    ranges = ranges_stand g w z sh flight begun hand t names contents range h m c;
    space = space_stands g w z sh flight begun hand t names contents range h m c;
    spot = spot_stands;
    versions = versions_stand;
  }

-- with the ranges for which the state is lawful
pub lawful_promises : (c : State) (history : History) → Lawful c history → Promises c history
lawful_promises c history h =
    let g = c.geometry in
    let w = words_of g c.row in
    let names = names_of g history in
    record {
      legal = h.legal;
      range = h.range;
      holds = promised g w (spaces_of g w.cycle) (shades_of g w (flight_at c) c.spot.line names) (flight_at c) (begun_at c) (hands_of g (flight_at c) c.spot) c.spot
          names (contents_of g history) h.range h.facts
          (shades_mean g w (flight_at c) c.spot.line names) (colours_mean g w (flight_at c) c.spot.line names)
          (shades_say g w (flight_at c) c.spot.line names (no_number_no_place g c.row)) (bearers_numbered g history);
    }
