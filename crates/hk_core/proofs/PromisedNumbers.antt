-- Numbers and births of a lawful state: what their colours say, and that each birth that can be reached, or that a call is
-- inside, is kept.
use Rattle.std.proofs.Common.{◌≡◌, ◌≢◌, ◌⊎◌, ℕ, ◌+◌, ◌<◌, ◌≤◌, Bool, true, false, inl, inr, refl, arith, List, Option, Some, None}
use Rattle.std.proofs.lemmas.Bool.{cases_lt, and_parts, and_from, or_cases, or_left, not_from_false, ltb-true, leb-true, eqb-true, lt-ltb, le-ltb, ne_eqb}
use Rattle.std.proofs.lemmas.Bool.Decides.{nat_tests}
use Rattle.std.specs.Prelude.{nat_eq, nat_le, is_some}
use Rattle.hk_words.specs.declared.geometry.Geometry.{Geometry}
use Rattle.hk_words.specs.declared.call.Call.{Call}
use Rattle.hk_words.specs.declared.call.Call.TheVariants as call
use Rattle.hk_words.specs.Geometry.{tasks, numbers}
use Rattle.hk_words.specs.Calls.{RegistersFit}
use Rattle.hk_words.specs.Layout as layout
use Rattle.hk_words.specs.Row.{place_at}
use Rattle.hk_core.specs.declared.flight.Flight.{Flight}
use Rattle.hk_core.specs.declared.spot.Spot.{Spot}
use Rattle.hk_core.specs.declared.spot.Line.{Line}
use Rattle.hk_core.specs.Begin.{copied}
use Rattle.hk_core.specs.Collect.{current_space}
use Rattle.hk_core.specs.View.{Words, Names, Contents, decoded, raw, word_if, words_of}
use Rattle.hk_core.specs.Flights as f
use Rattle.hk_core.specs.Flights.{Hand}
use Rattle.hk_core.specs.Colours.{Spaces, spaces_of, Shades, shades_of, held_by, is_fresh, IsNullOrGood, IsKeptBirth}
use Rattle.hk_core.specs.Lawful.{Facts}
use Rattle.hk_core.specs.Reach.{Reach, in_register, in_cell}
use Rattle.hk_core.specs.Stands.{IsInUse}
use Rattle.hk_core.proofs.kinds.WriteCell.{BearersNumbered}
use Rattle.hk_core.proofs.Shared.{some_kept}

-- COLOURS

-- a white number wasn't claimed in this cycle, and a black one that a birth bears and no New holds is kept
pub record ShadesSay (g : Geometry) (w : Words) (z : Spaces) (sh : Shades) (flight : ℕ → Flight) (names : Names) : Type 0 where
  pub white : (n : ℕ) → sh.white n ≡ true → w.mark n < w.cycle
  pub kept : (n b : ℕ) → sh.black n ≡ true → names.bearer n ≡ Some b → held_by g flight n ≡ false → sh.kept n ≡ true

-- a number that isn't one of the geometry has no place
pub no_number_no_place : (g : Geometry) (row : List ℕ) (n : ℕ) → numbers g ≤ n → (words_of g row).place n ≡ 0
unfolding words_of decoded raw word_if
no_number_no_place g row n above = rw (le-ltb n (numbers g) above) refl

-- a place of a space isn't 0
some_place : (g : Geometry) (space p : ℕ) → place_at g space 0 ≤ p → p ≢ 0
some_place g space p after null = absurd (omega arith)

-- what the shades of a state say, where only numbers of the geometry have places
pub shades_say : (g : Geometry) (w : Words) (flight : ℕ → Flight) (ln : Line) (names : Names) → ((n : ℕ) → numbers g ≤ n → w.place n ≡ 0)
    → ShadesSay g w (spaces_of g w.cycle) (shades_of g w flight ln names) flight names
unfolding shades_of
shades_say g w flight ln names outside = record {
  white = λ n e. ltb-true _ _ (and_parts _ _ e).1;
  kept = λ n b e bears free.
      let p = and_parts _ _ e in
      let q = and_parts _ _ p.1 in
      let after : place_at g (current_space w.cycle) 0 ≤ w.place n = leb-true _ _ q.0 in
      let placed : w.place n ≢ 0 = some_place g (current_space w.cycle) (w.place n) after in
      let within : n < numbers g = elim (cases_lt n (numbers g)) [ inl below ↦ below | inr above ↦ absurd (placed (outside n above)) ] in
      and_from _ _
      (and_from _ _ (lt-ltb n (numbers g) within) (and_from _ _ (rw bears refl) (not_from_false _ free)))
      (and_from _ _ (not_from_false _ (ne_eqb (w.place n) 0 placed)) (or_left _ _ p.0));
}

-- the mark of a kept number is that of the cycle, or of the one before
pub mark_fresh : (cycle : ℕ) (marking : Bool) (mark : ℕ) → is_fresh cycle marking mark ≡ true → (mark ≡ cycle) ⊎ (mark + 1 ≡ cycle)
mark_fresh cycle marking mark fresh = elim (or_cases (nat_eq mark cycle) _ fresh) [
  | inl e ↦ inl (eqb-true mark cycle e)
  | inr e ↦ inr (eqb-true (mark + 1) cycle (and_parts _ _ e).1)
]

-- where a number has a bearer, that is some birth
pub borne_by : (o : Option ℕ) → is_some o ≡ true → (b : ℕ) × (o ≡ Some b)
borne_by None e = absurd (cc)
borne_by (Some b) e = (b, refl)

-- a call at a place from a first one on is in flight
flies : (first last p : ℕ) → 1 ≤ first → f.is_between first last p ≡ true → nat_le 1 p ≡ true
flies first last p some e = grind (arith, nat_tests)

-- BIRTHS

module _ (g : Geometry) (w : Words) (z : Spaces) (sh : Shades) (flight : ℕ → Flight) (begun : ℕ → ℕ) (hand : ℕ → Hand) (t : Spot)
    (names : Names) (contents : Contents) (range : ℕ → Option ℕ) (h : Facts g w z sh flight begun hand t names contents range) where
  -- a birth that can be reached is kept
  pub kept_when_reached : (birth : ℕ) → Reach g names.refs contents.register contents.link birth → IsKeptBirth sh.kept names birth
  kept_when_reached birth (in_register seat reg below fits holds) = some_kept (IsKeptBirth sh.kept names) _ birth (h.registers_kept seat reg below fits) holds
  kept_when_reached birth (in_cell holder field reach within holds) =
      let o = kept_when_reached holder reach in
      some_kept (IsKeptBirth sh.kept names) _ birth (h.links_kept (names.number holder) holder o.is_kept o.bears field within) holds

  -- and so is one that is in use
  pub kept_in_use : BearersNumbered names → (birth : ℕ) → IsInUse g names contents flight birth → IsKeptBirth sh.kept names birth
  kept_in_use numbered birth (inl reach) = kept_when_reached birth reach
  kept_in_use numbered birth (inr (s, below, goes, bears)) =
      let number : names.number birth ≡ layout.reference_number (flight s).entered = numbered _ birth bears in
      record {
        is_kept = rw number (h.entered_good s below goes.0 goes.1).is_kept;
        bears = rw number bears;
      }

  -- what a call copies from a register is null or good
  copied_good : (s from : ℕ) → s < tasks g → from < g.registers → f.is_flying (flight s) ≡ true → copied (flight s).call ≡ Some from
      → IsNullOrGood sh.kept names (flight s).item
  copied_good s from below fits flying copies = rw (h.copied_stays s from below flying copies) (h.registers_good s from below fits)

  -- what a call has read, or copies, is null or good
  item_good : (s : ℕ) → s < tasks g → (c : Call) → (flight s).call ≡ c → f.has_item (flight s) ≡ true → IsNullOrGood sh.kept names (flight s).item
  unfolding f.has_item f.has_item_at f.has_loaded f.is_load_at
  item_good s below (call.Get reg field) is has = let has' = rw is at has in absurd (cc)
  item_good s below (call.Put reg field value) is has = let has' = rw is at has in absurd (cc)
  item_good s below (call.Load dest reg field) is has = h.loaded_good s below (let has' = rw is at has in rw is has')
  item_good s below (call.Store reg field from) is has =
      let flying : f.is_flying (flight s) ≡ true = flies 1 7 (flight s).place (omega arith) (rw is at has) in
      let fits : RegistersFit g.registers (call.Store reg field from) = rw is at ((h.flights_formed s below).registers flying) in
      copied_good s from below fits.1 flying (rw is refl)
  item_good s below (call.Move dest from) is has =
      let flying : f.is_flying (flight s) ≡ true = flies 1 3 (flight s).place (omega arith) (rw is at has) in
      let fits : RegistersFit g.registers (call.Move dest from) = rw is at ((h.flights_formed s below).registers flying) in
      copied_good s from below fits.1 flying (rw is refl)
  item_good s below (call.Clear dest) is has = let has' = rw is at has in absurd (cc)
  item_good s below (call.New dest shape) is has = let has' = rw is at has in absurd (cc)
  item_good s below (call.Same a b) is has = let has' = rw is at has in absurd (cc)
  item_good s below (call.IsNull reg) is has = let has' = rw is at has in absurd (cc)

  pub item_null_or_good : (s : ℕ) → s < tasks g → f.has_item (flight s) ≡ true → IsNullOrGood sh.kept names (flight s).item
  item_null_or_good s below has = item_good s below (flight s).call refl has
