-- The object that a call is inside stands apart from all others, and only a call inside it writes its cells.
use Rattle.std.proofs.Common.{◌≡◌, ◌≢◌, ℕ, ◌+◌, ◌<◌, ◌≤◌, Bool, true, false, inl, inr, refl, sym, ◌∙◌, ap, arith, Some, None}
use Rattle.std.proofs.lemmas.Bool.{cases_eq, eqb-true, ltb-true, and_parts}
use Rattle.std.specs.Prelude.{nat_eq, if◌then◌else◌}
use Rattle.hk_words.specs.declared.call.Call.{Call}
use Rattle.hk_words.specs.declared.call.Call.TheVariants as call
use Rattle.hk_words.specs.Geometry.{tasks}
use Rattle.hk_words.specs.Layout as layout
use Rattle.hk_model.specs.History.{History}
use Rattle.hk_core.specs.declared.flight.Flight.{Flight}
use Rattle.hk_core.specs.State.{State}
use Rattle.hk_core.specs.Begin.{has_field}
use Rattle.hk_core.specs.Step.{number_cell, reference_cell, reference_size, new_place}
use Rattle.hk_core.specs.Facts.{own_entry}
use Rattle.hk_core.specs.View.{words_of, names_of, flight_at, refs_at, nums_at, size_at}
use Rattle.hk_core.specs.Flights as f
use Rattle.hk_core.specs.Colours.{shades_of, Apart, Covers}
use Rattle.hk_core.specs.Inside.{cell_written, cell_written_at, kept_in, size_in, StandsApart}
use Rattle.hk_core.specs.Lawful.{Lawful}
use Rattle.hk_core.proofs.Inside.{inside_through, shapes_fit, good_sound}
use Rattle.hk_core.proofs.PromisedLists.{numbered}
use Rattle.hk_core.proofs.Shared.{size_some}
use Rattle.hk_core.proofs.Unused.{making}
use Rattle.hk_core.proofs.kinds.Enter.{object_of}

-- the object that a New makes has words
making_some : (x : Flight) → f.is_making x ≡ true → 0 < f.new_size x
unfolding f.is_making f.is_new_at f.new_size f.new_size_of
making_some x made = each x.call (and_parts _ _ made).0
  where
    each : (call' : Call) → f.is_new_at 4 6 call' x.place ≡ true → 0 < f.new_size_of call'
    each (call.Get reg field) e = absurd (cc)
    each (call.Put reg field value) e = absurd (cc)
    each (call.Load dest reg field) e = absurd (cc)
    each (call.Store reg field from) e = absurd (cc)
    each (call.Move dest from) e = absurd (cc)
    each (call.Clear dest) e = absurd (cc)
    each (call.New dest shape) e = omega arith
    each (call.Same a b) e = absurd (cc)
    each (call.IsNull reg) e = absurd (cc)

-- a cell that a flight writes is one of the words of the object that its call is inside
pub record WritesThere (x : Flight) (p : ℕ) : Type 0 where
  pub inside : f.in_object x ≡ true
  pub offset : ℕ
  pub there : offset < reference_size x.entered
  pub at : x.at + offset ≡ p

-- what a test that holds gives
none_or : (test : Bool) (q p : ℕ) → (if test then Some q else None) ≡ Some p → (test ≡ true) × (q ≡ p)
none_or true q p e = (refl, let same : q ≡ p = cc in same)
none_or false q p e = absurd (cc)

written_there : (x : Flight) (p : ℕ) → (f.is_flying x ≡ true → has_field x.call x.entered ≡ true) → cell_written x ≡ Some p → WritesThere x p
unfolding cell_written f.in_object f.in_object_at
written_there x p field written = each x.call refl written
  where
    each : (call' : Call) → x.call ≡ call' → cell_written_at x call' ≡ Some p → WritesThere x p
    each (call.Get reg i) e w = absurd (cc)
    each (call.Put reg i value) e w =
        let t = none_or (nat_eq x.place 2) (number_cell x i) p w in
        let at = eqb-true x.place 2 t.0 in
        let has : i < layout.reference_nums x.entered = ltb-true i (layout.reference_nums x.entered) (rw e at (field (rw at refl))) in
        record { inside = rw (e, at) refl; offset = 1 + layout.reference_refs x.entered + i; there = omega arith; at = let same = t.1 in omega arith }
    each (call.Load dest reg i) e w = absurd (cc)
    each (call.Store reg i from) e w =
        let t = none_or (nat_eq x.place 6) (reference_cell x i) p w in
        let at = eqb-true x.place 6 t.0 in
        let has : i < layout.reference_refs x.entered = ltb-true i (layout.reference_refs x.entered) (rw e at (field (rw at refl))) in
        record { inside = rw (e, at) refl; offset = 1 + i; there = omega arith; at = let same = t.1 in omega arith }
    each (call.Move dest from) e w = absurd (cc)
    each (call.Clear dest) e w = absurd (cc)
    each (call.New dest shape) e w = absurd (cc)
    each (call.Same a b) e w = absurd (cc)
    each (call.IsNull reg) e w = absurd (cc)

module _ (c : State) (history : History) (h : Lawful c history) where
  inside_kept : (t : ℕ) → t < tasks c.geometry → f.in_object (flight_at c t) ≡ true → kept_in c history (object_of (flight_at c t)) ≡ true
  inside_kept t below inside = let p = inside_through (flight_at c t) inside in (h.facts.entered_good t below p.0 p.1).is_kept

  objects_apart : (m n : ℕ) → kept_in c history m ≡ true → kept_in c history n ≡ true → m ≢ n
      → Apart ((words_of c.geometry c.row).place m) (size_in c history m) ((words_of c.geometry c.row).place n) (size_in c history n)
  unfolding shades_of
  objects_apart m n = h.facts.objects_apart m n

  apart_from_new : (s : ℕ) → s < tasks c.geometry → f.is_making (flight_at c s) ≡ true → (n : ℕ) → kept_in c history n ≡ true
      → Apart ((words_of c.geometry c.row).place n) (size_in c history n) (new_place c.geometry (flight_at c s)) (f.new_size (flight_at c s))
  unfolding shades_of
  apart_from_new s below making n kept = h.facts.objects_apart_from_new s n below making kept

  -- the number to which a New has given a header has the place of the words that it was given
  elsewhere : (s : ℕ) → s < tasks c.geometry → f.has_header (flight_at c s) ≡ true → (n : ℕ) → kept_in c history n ≡ true
      → (words_of c.geometry c.row).place (flight_at c s).number ≢ (words_of c.geometry c.row).place n
  elsewhere s below headed n kept same =
      let place = (words_of c.geometry c.row).place in
      let has = numbered (flight_at c s) headed in
      let made = making (flight_at c s) has in
      let number = h.facts.number_is_own s below has in
      let own : place (own_entry (words_of c.geometry c.row).entry (flight_at c s)) ≡ new_place c.geometry (flight_at c s) = rw headed at (h.facts.own_entries s below made).placed in
      let there : place n ≡ new_place c.geometry (flight_at c s) = sym same ∙ ap place number ∙ own in
      let words : 0 < size_in c history n = size_some (names_of c.geometry history) n in
      let given : 0 < f.new_size (flight_at c s) = making_some (flight_at c s) made in
      elim (apart_from_new s below made n kept) [ inl after ↦ absurd (omega arith) | inr before ↦ absurd (omega arith) ]

  pub stands_apart : (t : ℕ) → t < tasks c.geometry → f.in_object (flight_at c t) ≡ true → StandsApart c history (object_of (flight_at c t))
  stands_apart t below inside = record {
    is_kept = inside_kept t below inside;
    apart = λ m kept differ. objects_apart m (object_of (flight_at c t)) kept (inside_kept t below inside) differ;
    news = λ s s_below making. apart_from_new s s_below making (object_of (flight_at c t)) (inside_kept t below inside);
    headers = λ s s_below headed. elsewhere s s_below headed (object_of (flight_at c t)) (inside_kept t below inside);
  }

  -- the words of the object that a call is inside are those that its reference says
  size_known : (t : ℕ) → t < tasks c.geometry → f.in_object (flight_at c t) ≡ true → size_in c history (object_of (flight_at c t)) ≡ reference_size (flight_at c t).entered
  unfolding size_at
  size_known t below inside =
      let g = c.geometry in
      let p = inside_through (flight_at c t) inside in
      let good = good_sound g (words_of g c.row) (flight_at c) c.spot.line (names_of g history) (flight_at c t).entered (shapes_fit g history) (h.facts.entered_good t below p.0 p.1) in
      let refs : layout.reference_refs (flight_at c t).entered ≡ refs_at (names_of g history) (object_of (flight_at c t)) = good.refs in
      let nums : layout.reference_nums (flight_at c t).entered ≡ nums_at (names_of g history) (object_of (flight_at c t)) = good.nums in
      omega arith

  pub writes_own : (t : ℕ) → t < tasks c.geometry → f.in_object (flight_at c t) ≡ true → (s : ℕ) → s < tasks c.geometry → (p : ℕ) → cell_written (flight_at c s) ≡ Some p
      → Covers ((words_of c.geometry c.row).place (object_of (flight_at c t))) (size_in c history (object_of (flight_at c t))) p
      → (f.in_object (flight_at c s) ≡ true) × (object_of (flight_at c s) ≡ object_of (flight_at c t))
  writes_own t below inside s s_below p written covered =
      let place = (words_of c.geometry c.row).place in
      let x = flight_at c s in
      let m = object_of x in
      let n = object_of (flight_at c t) in
      let w = written_there x p (h.facts.fields_there s s_below) written in
      let size : size_in c history m ≡ reference_size x.entered = size_known s s_below w.inside in
      let stands : x.at ≡ place m = h.facts.place_known s s_below w.inside in
      let at : x.at + w.offset ≡ p = w.at in
      let there : w.offset < reference_size x.entered = w.there in
      let after : place n ≤ p = covered.after in
      let before : p < place n + size_in c history n = covered.before in (
        w.inside,
        elim (cases_eq m n) [
          | inl e ↦ e
          | inr d ↦ absurd (overlap (place m) (size_in c history m) (place n) (size_in c history n) p (omega arith) (omega arith) after before
              (objects_apart m n (inside_kept s s_below w.inside) (inside_kept t below inside) d))
        ],
      )
    where
      overlap : (a i b j p : ℕ) → a ≤ p → p < a + i → b ≤ p → p < b + j → Apart a i b j → ⊥
      overlap a i b j p a_from a_to b_from b_to (inl e) = absurd (omega arith)
      overlap a i b j p a_from a_to b_from b_to (inr e) = absurd (omega arith)
