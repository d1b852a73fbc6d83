-- When the collector has come to the end of what is reserved, all frames are black. If then no number is grey, the state is
-- settled: what registers and calls in flight hold is null or black.
use Rattle.std.proofs.Common.{◌≡◌, ◌⊎◌, ℕ, zero, suc, ◌<◌, ◌≤◌, Bool, true, false, inl, inr, refl, sym, ◌∙◌, ap, subst, arith, Option, Some}
use Rattle.std.proofs.lemmas.Bool.{cases_eq, cases_Bool, and_parts, or_right}
use Rattle.std.proofs.lemmas.Bool.Decides.{nat_tests}
use Rattle.std.specs.Prelude.{nat_le, ◌&&◌}
use Rattle.hk_words.specs.declared.geometry.Geometry.{Geometry}
use Rattle.hk_words.specs.declared.call.Call.{Call}
use Rattle.hk_words.specs.declared.call.Call.TheVariants as call
use Rattle.hk_words.specs.Geometry.{tasks, numbers}
use Rattle.hk_words.specs.Calls.{RegistersFit, entered}
use Rattle.hk_words.specs.Layout as layout
use Rattle.hk_core.specs.declared.flight.Flight.{Flight}
use Rattle.hk_core.specs.declared.spot.Spot.{Spot}
use Rattle.hk_core.specs.Begin.{copied}
use Rattle.hk_core.specs.View.{Words, Names, Contents}
use Rattle.hk_core.specs.Flights as f
use Rattle.hk_core.specs.Flights.{Hand}
use Rattle.hk_core.specs.Colours.{Spaces, Shades, IsGood, NamesNoWhite}
use Rattle.hk_core.specs.Facts.{IsSettled}
use Rattle.hk_core.specs.Lawful.{Facts}
use Rattle.hk_core.proofs.kinds.Seats.{FlightFacts, CallsFacts, facts_of_flight}
use Rattle.hk_core.proofs.Shared.{refuted}
use Rattle.hk_core.proofs.kinds.LoadRead.{ColoursMean, settled_black, some_words}
use Rattle.hk_core.proofs.kinds.WriteCell.{ShadesMean}
use Rattle.hk_collect.proofs.spots.SpotLines.{AllBlack}

-- a number below a bound that passes a test, or none
abbrev pub SomeBelow : (ℕ → Bool) → ℕ → Type 0
SomeBelow test count = (n : ℕ) × (n < count) × (test n ≡ true)

abbrev pub NoneBelow : (ℕ → Bool) → ℕ → Type 0
NoneBelow test count = (n : ℕ) → n < count → test n ≡ false

pub some_or_none : (test : ℕ → Bool) (count : ℕ) → SomeBelow test count ⊎ NoneBelow test count
some_or_none test zero = inr (λ n below. absurd (omega arith))
some_or_none test (suc count) = elim (cases_Bool (test count)) [
  | inl passes ↦ inl (count, (omega arith), passes)
  | inr fails ↦ elim (some_or_none test count) [
    | inl found ↦ let below : found.0 < count = found.1 in inl (found.0, (omega arith), found.2)
    | inr none ↦ inr (λ n below. elim (cases_eq n count) [
      | inl last ↦ ap test last ∙ fails
      | inr before ↦ none n (omega arith)
    ])
  ]
]

-- PLACES

from_1 : (place : ℕ) → nat_le 1 place ≡ true → 1 ≤ place
from_1 place e = grind (arith, nat_tests)

between : (first last place : ℕ) → first ≤ place → place ≤ last → (nat_le first place && nat_le place last) ≡ true
between first last place a b = grind (arith, nat_tests)

within : (first last place : ℕ) → (nat_le first place && nat_le place last) ≡ true → (first ≤ place) × (place ≤ last)
within first last place e = (grind (arith, nat_tests), grind (arith, nat_tests))

-- WHAT A CALL HOLDS

module _ (g : Geometry) (w : Words) (sh : Shades) (names : Names) (plain : ℕ → ℕ → Option ℕ) (s : ℕ) (x : Flight) (o : FlightFacts g w sh names plain s x)
    (black : sh.black_frame s ≡ true) (dark : (r : ℕ) → r < g.registers → NamesNoWhite sh.white (w.register s r))
    (seen : IsGood sh.kept names x.entered → sh.white (layout.reference_number x.entered) ≡ false → sh.black (layout.reference_number x.entered) ≡ true) where
  -- what a call goes through is what its register holds
  by_register : (r : ℕ) → r < g.registers → f.register_stays x ≡ true → entered x.call ≡ Some r → NamesNoWhite sh.white x.entered
  by_register r below stays e = subst (λ word. NamesNoWhite sh.white word) (sym (o.entered_stays r stays e)) (dark r below)

  null_entered : f.is_through x.call ≡ false → NamesNoWhite sh.white x.entered
  null_entered none = inl (o.formed.entered_null none)

  entered_dark : (c : Call) → x.call ≡ c → f.is_flying x ≡ true → NamesNoWhite sh.white x.entered
  unfolding f.is_through f.register_stays f.register_stays_at f.is_load f.is_load_at
  entered_dark (call.Get reg field) is flying =
      let fits : reg < g.registers = rw is at (o.formed.registers flying) in
      let row : x.place ≤ 3 = rw is at o.formed.in_row in
      by_register reg fits (rw is (between 1 3 x.place (from_1 x.place flying) row)) (rw is refl)
  entered_dark (call.Put reg field value) is flying =
      let fits : reg < g.registers = rw is at (o.formed.registers flying) in
      let row : x.place ≤ 3 = rw is at o.formed.in_row in
      by_register reg fits (rw is (between 1 3 x.place (from_1 x.place flying) row)) (rw is refl)
  entered_dark (call.Load dest reg field) is flying =
      let row : x.place ≤ 10 = rw is at o.formed.in_row in
      o.entered_white (rw is (between 1 10 x.place (from_1 x.place flying) row)) black
  entered_dark (call.Store reg field from) is flying =
      let fits : (reg < g.registers) × (from < g.registers) = rw is at (o.formed.registers flying) in
      let row : x.place ≤ 7 = rw is at o.formed.in_row in
      by_register reg fits.0 (rw is (between 1 7 x.place (from_1 x.place flying) row)) (rw is refl)
  entered_dark (call.Move dest from) is flying = null_entered (rw is refl)
  entered_dark (call.Clear dest) is flying = null_entered (rw is refl)
  entered_dark (call.New dest shape) is flying = null_entered (rw is refl)
  entered_dark (call.Same a b) is flying = null_entered (rw is refl)
  entered_dark (call.IsNull reg) is flying = null_entered (rw is refl)

  -- what a call copies is what its register holds
  by_copied : (r : ℕ) → r < g.registers → f.is_flying x ≡ true → copied x.call ≡ Some r → NamesNoWhite sh.white x.item
  by_copied r below flying e = subst (λ word. NamesNoWhite sh.white word) (sym (o.copied_stays r flying e)) (dark r below)

  -- what a Load has read: its register holds it already, or the Load is inside an object, which is black then
  by_load : (dest reg field : ℕ) → x.call ≡ call.Load dest reg field → 5 ≤ x.place → x.place ≤ 10 → NamesNoWhite sh.white x.item
  unfolding f.is_through f.has_written f.has_loaded_inside f.is_load_at
  by_load dest reg field is after before = elim (cases_eq x.place 10) [
    | inl last ↦
        let fits : RegistersFit g.registers (call.Load dest reg field) = rw is at (o.formed.registers flying) in
        let held : w.register s dest ≡ x.item = o.loaded_stays dest (rw is (between 9 10 x.place (omega arith) before)) (rw is refl) in
        subst (λ word. NamesNoWhite sh.white word) held (dark dest fits.0.1)
    | inr earlier ↦
        let good : IsGood sh.kept names x.entered = o.entered_good (rw is refl) flying in
        let object : sh.black (layout.reference_number x.entered) ≡ true = elim (entered_dark (call.Load dest reg field) is flying) [
          | inl null ↦ absurd (good.some null)
          | inr light ↦ seen good light
        ] in
        o.loaded_white (rw is (between 5 9 x.place after (omega arith))) object
  ]
    where
      flying : f.is_flying x ≡ true
      flying = grind (arith, nat_tests)

  flies : (last : ℕ) → (nat_le 1 x.place && nat_le x.place last) ≡ true → f.is_flying x ≡ true
  flies last e = (and_parts _ _ e).0

  item_dark : (c : Call) → x.call ≡ c → f.has_item x ≡ true → NamesNoWhite sh.white x.item
  unfolding f.has_item f.has_item_at
  item_dark (call.Get reg field) is has = refuted _ (rw is refl) has
  item_dark (call.Put reg field value) is has = refuted _ (rw is refl) has
  item_dark (call.Load dest reg field) is has =
      let at = within 5 10 x.place (rw is at has) in
      by_load dest reg field is at.0 at.1
  item_dark (call.Store reg field from) is has =
      let flying : f.is_flying x ≡ true = flies 7 (rw is at has) in
      let fits : (reg < g.registers) × (from < g.registers) = rw is at (o.formed.registers flying) in
      by_copied from fits.1 flying (rw is refl)
  item_dark (call.Move dest from) is has =
      let flying : f.is_flying x ≡ true = flies 3 (rw is at has) in
      let fits : RegistersFit g.registers (call.Move dest from) = rw is at (o.formed.registers flying) in
      by_copied from fits.1 flying (rw is refl)
  item_dark (call.Clear dest) is has = refuted _ (rw is refl) has
  item_dark (call.New dest shape) is has = refuted _ (rw is refl) has
  item_dark (call.Same a b) is has = refuted _ (rw is refl) has
  item_dark (call.IsNull reg) is has = refuted _ (rw is refl) has

-- THE STATE

module _ (g : Geometry) (w : Words) (z : Spaces) (sh : Shades) (flight : ℕ → Flight) (begun : ℕ → ℕ) (hand : ℕ → Hand) (t : Spot)
    (names : Names) (contents : Contents) (range : ℕ → Option ℕ) (h : Facts g w z sh flight begun hand t names contents range)
    (m : ShadesMean g w z sh flight t.line names) (c : ColoursMean w z sh) (all_black : AllBlack g sh) (none : NoneBelow sh.grey (numbers g)) where
  registers_dark : (s r : ℕ) → s < tasks g → r < g.registers → NamesNoWhite sh.white (w.register s r)
  registers_dark s r below within = h.black_frame_has_no_white s r below within (all_black s below)

  -- a kept object that isn't white is black
  dark_is_black : (word : ℕ) → IsGood sh.kept names word → sh.white (layout.reference_number word) ≡ false → sh.black (layout.reference_number word) ≡ true
  dark_is_black word good light =
      let n = layout.reference_number word in
      settled_black g w z sh flight t.line names n m c h.objects_in_one_space good.is_kept (some_words names sh.size n (m.size n)) (none n (m.kept n good.is_kept).within) light

  not_late : (s : ℕ) → s < tasks g → f.has_raised (flight s) ≡ true → f.cycle_of (flight s) ≡ w.cycle
  unfolding f.has_cycle_in_frame
  not_late s below raised = elim (h.news_recent s below raised) [
    | inl now ↦ now
    | inr past ↦ refuted (sh.black_frame s) (h.late_in_no_black_frame s below (or_right _ _ raised) (omega arith)) (all_black s below)
  ]

  -- where all frames are black and no number is grey, the state is settled
  pub settled_when_none_grey : IsSettled g w.cycle sh.white sh.grey w.register flight
  settled_when_none_grey =
      let between : CallsFacts g w sh t.line names contents flight = assumption in
      record {
        none_grey = none;
        none_late = not_late;
        registers = registers_dark;
        entered = λ s below flying. entered_dark g w sh names contents.register s (flight s)
            (facts_of_flight g w sh names contents.register flight between.flights s below) (all_black s below) (λ r within. registers_dark s r below within)
            (dark_is_black (flight s).entered) (flight s).call refl flying;
        items = λ s below has. item_dark g w sh names contents.register s (flight s)
            (facts_of_flight g w sh names contents.register flight between.flights s below) (all_black s below) (λ r within. registers_dark s r below within)
            (dark_is_black (flight s).entered) (flight s).call refl has;
      }
