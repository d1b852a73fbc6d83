-- The collector exchanges the header that its attempt has loaded for the same with the object's new place. Where the header is
-- still that one, no call was inside the object since, so the cells that the collector has copied are the object's, and its
-- references are null or claimed in this cycle. So the object is moved: it was grey, and is black, and its words are those of
-- its range.
use Rattle.std.proofs.Common.{◌≡◌, ◌≢◌, ◌⊎◌, ℕ, zero, suc, ◌+◌, ◌-◌, ◌*◌, ◌%◌, ◌^◌, ◌<◌, ◌≤◌, Bool, true, false, inl, inr, refl, sym, ◌∙◌, ap, subst, arith, Option, Some, None}
use Rattle.std.proofs.lemmas.Bool.{cases_eq, cases_lt, lt-ltb, le-leb, eq-eqb, ne_eqb, and_parts, and_from, and_right}
use Rattle.std.proofs.lemmas.Bool.Decides.{nat_tests}
use Rattle.std.specs.Prelude.{nat_eq, nat_lt, nat_le, not, ◌&&◌}
use Rattle.hk_words.specs.declared.geometry.Geometry.{Geometry}
use Rattle.hk_words.specs.declared.call.Call.{Call}
use Rattle.hk_words.specs.declared.call.Call.TheVariants as call
use Rattle.hk_words.specs.Geometry.{tasks, numbers}
use Rattle.hk_words.specs.Layout as layout
use Rattle.hk_words.specs.Row.{place_at}
use Rattle.hk_model.specs.View.{upd}
use Rattle.hk_model.proofs.Updates.{upd_same, upd_other, is_upd}
use Rattle.hk_core.specs.declared.flight.Flight.{Flight}
use Rattle.hk_core.specs.declared.spot.Spot.{Spot}
use Rattle.hk_core.specs.declared.spot.Line.{Line}
use Rattle.hk_core.specs.declared.spot.Line.TheVariants as line
use Rattle.hk_core.specs.Collect.{current_space, next_list, moved_to, moved_number}
use Rattle.hk_core.specs.Counts.{count_below}
use Rattle.hk_core.specs.Step.{new_place, reference_size}
use Rattle.hk_core.specs.View.{Words, Names, Contents, shown, refs_at, size_at, reference_at}
use Rattle.hk_core.specs.Flights as f
use Rattle.hk_core.specs.Flights.{Hand}
use Rattle.hk_core.specs.Lines as l
use Rattle.hk_core.specs.Colours.{Spaces, spaces_of, Shades, shades_of, held_by, is_within, white_by, grey_by, black_by, black_frame_by, kept_by, InOld, InCurrent, Apart, IsNullOrMarked, IsNullOrKept}
use Rattle.hk_core.specs.Facts as fact
use Rattle.hk_core.specs.Facts.{HoldsClaim, HoldsRange, HasNoHeader, IsMoved, IsOwn, IsUnread, FoundRoom}
use Rattle.hk_core.specs.Lawful.{Facts, FactsOf, hands_of}
use Rattle.hk_core.proofs.Update.{upd_cases}
use Rattle.hk_core.proofs.Counts.{count_some}
use Rattle.hk_core.proofs.kinds.Seats.{NewsFacts, own_not_kept, headless_not_kept}
use Rattle.hk_core.proofs.kinds.Read.{ShapesFit}
use Rattle.hk_core.proofs.kinds.WriteCell.{ShadesMean, SpacesApart, IsGreyIn, IsMoving, shades_mean, reference_parts}
use Rattle.hk_core.proofs.kinds.LoadRead.{ColoursMean, colours_mean, kept_number, shown_birth}
use Rattle.hk_core.proofs.kinds.NewRaise.{making_has_room}
use Rattle.hk_collect.proofs.spots.Spots.{WorkFacts, GoesMarking, hands_kept, shades_kept, work_facts, marking_on, on_spot}
use Rattle.hk_collect.proofs.spots.SpotLines.{AtItem, AtObjectTrade, at_object_trade, scan_works}
use Rattle.hk_collect.proofs.spots.SpotCopy.{IsSpaceOf, spaces_are, moving, item_shows, item_grey}
use Rattle.hk_core.proofs.Shared.{never, never_both, never_false, size_borne, size_some}
use Rattle.hk_collect.proofs.Small.{refs_borne}

-- CALLS INSIDE AN OBJECT

-- a call that has a cycle inside its object is inside it, and so is a Load that has read its reference there
cycle_in_object : (x : Flight) → f.has_cycle_inside x ≡ true → f.in_object x ≡ true
unfolding f.has_cycle_inside f.has_cycle_inside_at f.in_object f.in_object_at
cycle_in_object x e = by_call x.call x.place (nat_eq x.item 0) e
  where
    wider_load : (n : ℕ) → (nat_le 4 n && nat_le n 9) ≡ true → (nat_le 3 n && nat_le n 9) ≡ true
    wider_load n h = grind (arith, nat_tests)

    wider_store : (n : ℕ) → (nat_le 3 n && nat_le n 7) ≡ true → (nat_le 2 n && nat_le n 7) ≡ true
    wider_store n h = grind (arith, nat_tests)

    by_call : (c : Call) (place : ℕ) (is_null : Bool) → f.has_cycle_inside_at c place is_null ≡ true → f.in_object_at c place ≡ true
    by_call (call.Get reg field) place is_null e = absurd (cc)
    by_call (call.Put reg field value) place is_null e = absurd (cc)
    by_call (call.Load dest reg field) place is_null e = wider_load place e
    by_call (call.Store reg field from) place is_null e = wider_store place (and_parts _ _ e).0
    by_call (call.Move dest from) place is_null e = absurd (cc)
    by_call (call.Clear dest) place is_null e = absurd (cc)
    by_call (call.New dest shape) place is_null e = absurd (cc)
    by_call (call.Same a b) place is_null e = absurd (cc)
    by_call (call.IsNull reg) place is_null e = absurd (cc)

loaded_in_object : (x : Flight) → f.has_loaded_inside x ≡ true → f.in_object x ≡ true
unfolding f.has_loaded_inside f.is_load_at f.in_object f.in_object_at
loaded_in_object x e = by_call x.call x.place e
  where
    wider : (n : ℕ) → (nat_le 5 n && nat_le n 9) ≡ true → (nat_le 3 n && nat_le n 9) ≡ true
    wider n h = grind (arith, nat_tests)

    by_call : (c : Call) (place : ℕ) → f.is_load_at 5 9 c place ≡ true → f.in_object_at c place ≡ true
    by_call (call.Get reg field) place e = absurd (cc)
    by_call (call.Put reg field value) place e = absurd (cc)
    by_call (call.Load dest reg field) place e = wider place e
    by_call (call.Store reg field from) place e = absurd (cc)
    by_call (call.Move dest from) place e = absurd (cc)
    by_call (call.Clear dest) place e = absurd (cc)
    by_call (call.New dest shape) place e = absurd (cc)
    by_call (call.Same a b) place e = absurd (cc)
    by_call (call.IsNull reg) place e = absurd (cc)

is_inside_of : (x : Flight) (n : ℕ) → f.in_object x ≡ true → layout.reference_number x.entered ≡ n → f.is_inside x n ≡ true
unfolding f.is_inside
is_inside_of x n inside e = and_from _ _ inside (eq-eqb _ _ e)

-- WORDS AND PLACES

one_number : (o : Option ℕ) (m n : ℕ) → o ≡ Some m → o ≡ Some n → m ≡ n
one_number o m n a b = cc

none_there : {B : Type 0} (n : ℕ) → None ≡ Some n → B
none_there n e = absurd (cc)

-- the words of a New are in the area for allocation of a space
new_apart : (live alloc side words size other offset len : ℕ) → side < 2 → other < 2 → words + size ≤ alloc → offset + len ≤ live
    → Apart ((1 + other * (live + alloc) + 0) + offset) len (1 + side * (live + alloc) + (live + words)) size
new_apart live alloc zero words size zero offset len a b few below = inl (omega arith)
new_apart live alloc zero words size (suc zero) offset len a b few below = inr (omega arith)
new_apart live alloc (suc zero) words size zero offset len a b few below = inl (omega arith)
new_apart live alloc (suc zero) words size (suc zero) offset len a b few below = inl (omega arith)
new_apart live alloc zero words size (suc (suc other)) offset len a b few below = absurd (omega arith)
new_apart live alloc (suc zero) words size (suc (suc other)) offset len a b few below = absurd (omega arith)
new_apart live alloc (suc (suc side)) words size other offset len a b few below = absurd (omega arith)

-- AN OBJECT IS MOVED

-- the words after an object was moved to a place, and what many facts read then
abbrev pub moved_words : Words → (n place : ℕ) → Words
moved_words w n place = record w { place = upd w.place n place }

abbrev pub moved_shades : Shades → ℕ → Shades
moved_shades sh n = record sh { grey = upd sh.grey n false; black = upd sh.black n true }

-- the spot of the scan
abbrev pub scanning : Spot → ℕ → Spot
scanning t scan = record t { line = line.Scan; scan = scan }

-- what a move to the scan offset asks: the range there is that of the number, and fits, and it is linked; no call is inside the
-- object, its words were copied, and its references are null or claimed
pub record CanMove (w : Words) (z : Spaces) (sh : Shades) (names : Names) (range : ℕ → Option ℕ) (scan n : ℕ) : Type 0 where
  pub is_kept : sh.kept n ≡ true
  pub is_grey : sh.grey n ≡ true
  pub has_range : range scan ≡ Some n
  pub fits : scan + sh.size n ≤ z.live
  pub linked : w.cell (z.current + scan) ≢ 0
  pub nobody : w.accessors n ≡ 0
  pub copied : (i : ℕ) → i + 1 < sh.size n → w.cell (z.current + scan + 1 + i) ≡ w.cell (w.place n + 1 + i)
  pub passed : (i : ℕ) → i < refs_at names n → IsNullOrMarked w.cycle w.mark (w.cell (w.place n + 1 + i))

module _ (g : Geometry) (w : Words) (z : Spaces) (sh : Shades) (flight : ℕ → Flight) (begun : ℕ → ℕ) (hand : ℕ → Hand) (t : Spot) (scan : ℕ)
    (names : Names) (contents : Contents) (range : ℕ → Option ℕ) (h : Facts g w z sh flight begun hand (scanning t scan) names contents range)
    (m : ShadesMean g w z sh flight line.Scan names) (c : ColoursMean w z sh) (space : IsSpaceOf g w.cycle z) (n : ℕ) (o : CanMove w z sh names range scan n) where
  some_words : (j : ℕ) → 0 < sh.size j
  some_words j = let e = m.size j in let some = size_some names j in omega arith

  grey_in : IsGreyIn z w.cycle w.place w.mark n
  grey_in = m.grey n o.is_grey

  -- the object was in the old space
  was_old : InOld z (w.place n) (sh.size n)
  was_old =
      let a : z.old ≤ w.place n = grey_in.after in
      let b : w.place n < z.old + (z.live + z.alloc) = grey_in.before in
      let some = some_words n in
      elim (h.objects_in_one_space n o.is_kept) [
        | inl old ↦ old
        | inr new ↦
            let d : z.current ≤ w.place n = new.after in
            let e : w.place n + sh.size n ≤ z.current + (z.live + z.alloc) = new.before in
            elim m.spaces [ inl q ↦ absurd (omega arith) | inr q ↦ absurd (omega arith) ]
      ]

  not_grey : (j y : ℕ) → w.place j ≡ z.current + y → y < z.live → sh.grey j ≢ true
  not_grey j y stands below e =
      let a : IsGreyIn z w.cycle w.place w.mark j = m.grey j e in
      let after : z.old ≤ w.place j = a.after in
      let before : w.place j < z.old + (z.live + z.alloc) = a.before in
      elim m.spaces [ inl b ↦ omega arith | inr b ↦ omega arith ]

  busy : l.is_resting line.Scan ≡ false
  unfolding l.is_resting
  busy = refl

  -- an object of the current space that stands below the words for allocation was moved before
  passed_range : (j y : ℕ) → sh.kept j ≡ true → w.place j ≡ z.current + y → y < z.live → y + sh.size j ≤ scan
  passed_range j y kept stands below =
      let there : range y ≡ Some j = h.moved_stands_in_range busy j y kept stands below in
      elim (cases_lt y scan) [
        | inl lower ↦ (h.ranges_below_moved y j there lower).ends
        | inr upper ↦ absurd (not_grey j y stands below (h.ranges_above_grey y j there (omega arith)).1)
      ]

  -- the number's range is no other
  own_range : (x : ℕ) → range x ≡ Some n → x ≡ scan
  own_range x e = h.one_range_each x scan n e o.has_range

  -- no call is inside the object
  nobody_inside : (s : ℕ) → s < tasks g → f.in_object (flight s) ≡ true → layout.reference_number (flight s).entered ≢ n
  nobody_inside s below inside e =
      let counted : w.accessors n ≡ count_below (tasks g) (λ s. f.is_inside (flight s) n) = h.accessors_counted n (m.kept n o.is_kept).within in
      let some : 0 < count_below (tasks g) (λ s. f.is_inside (flight s) n) =
      count_some (λ s. f.is_inside (flight s) n) s (tasks g) below (is_inside_of (flight s) n inside e) in
      let none : w.accessors n ≡ 0 = o.nobody in
      omega arith

  -- what holds at the place of a number holds after the move, where it holds at the new place of the moved one
  at_place : (P : ℕ → ℕ → Type 0) → P n (z.current + scan) → (j : ℕ) → (j ≢ n → P j (w.place j)) → P j (upd w.place n (z.current + scan) j)
  at_place P here j there = elim (upd_cases w.place n (z.current + scan) j) [
    | inl (e, u) ↦ rw (u, e) here
    | inr (d, u) ↦ rw u (there d)
  ]

  other_place : (j : ℕ) → j ≢ n → upd w.place n (z.current + scan) j ≡ w.place j
  other_place j d = upd_other w.place n (z.current + scan) j d

  other_grey : (j : ℕ) → j ≢ n → sh.grey j ≡ true → upd sh.grey n false j ≡ true
  other_grey j d e = upd_other sh.grey n false j d ∙ e

  still_dark : (j : ℕ) → sh.black j ≡ false → j ≢ n → upd sh.black n true j ≡ false
  still_dark j e d = upd_other sh.black n true j d ∙ e

  -- KEPT BIRTHS

  move_links : fact.LinksShown sh.kept names (upd w.place n (z.current + scan)) w.cell contents.link
  move_links j b kept borne i below = elim (upd_cases w.place n (z.current + scan) j) [
    | inl (e, u) ↦
        let size : sh.size j ≡ 1 + names.refs b + names.nums b = m.size j ∙ size_borne names j b borne in
        let same : sh.size j ≡ sh.size n = ap sh.size e in
        let shows : w.cell (w.place j + 1 + i) ≡ shown names (contents.link b i) = h.links_shown j b kept borne i below in
        ap (λ p. w.cell (p + 1 + i)) u ∙ o.copied i (omega arith) ∙ ap (λ k. w.cell (w.place k + 1 + i)) (sym e) ∙ shows
    | inr (d, u) ↦ ap (λ p. w.cell (p + 1 + i)) u ∙ h.links_shown j b kept borne i below
  ]

  move_values : fact.ValuesShown sh.kept names (upd w.place n (z.current + scan)) w.cell contents.value
  move_values j b kept borne i below = elim (upd_cases w.place n (z.current + scan) j) [
    | inl (e, u) ↦
        let size : sh.size j ≡ 1 + names.refs b + names.nums b = m.size j ∙ size_borne names j b borne in
        let same : sh.size j ≡ sh.size n = ap sh.size e in
        let shows : w.cell (w.place j + 1 + names.refs b + i) ≡ contents.value b i = h.values_shown j b kept borne i below in
        let new : z.current + scan + 1 + names.refs b + i ≡ z.current + scan + 1 + (names.refs b + i) = omega arith in
        let old : w.place j + 1 + (names.refs b + i) ≡ w.place j + 1 + names.refs b + i = omega arith in
        ap (λ p. w.cell (p + 1 + names.refs b + i)) u ∙ ap w.cell new ∙ o.copied (names.refs b + i) (omega arith)
        ∙ ap (λ k. w.cell (w.place k + 1 + (names.refs b + i))) (sym e) ∙ ap w.cell old ∙ shows
    | inr (d, u) ↦ ap (λ p. w.cell (p + 1 + names.refs b + i)) u ∙ h.values_shown j b kept borne i below
  ]

  move_in_one : fact.ObjectsInOneSpace z sh.kept (upd w.place n (z.current + scan)) sh.size
  move_in_one j kept = at_place (λ k p. InOld z p (sh.size k) ⊎ InCurrent z p (sh.size k)) (inr (record { after = omega arith; before = let fits = o.fits in omega arith })) j
      (λ d. h.objects_in_one_space j kept)

  -- the moved object is apart from each other
  apart_from : (j : ℕ) → sh.kept j ≡ true → Apart (z.current + scan) (sh.size n) (w.place j) (sh.size j)
  apart_from j kept =
      let fits : scan + sh.size n ≤ z.live = o.fits in
      elim (h.objects_in_one_space j kept) [
        | inl old ↦
            let a : z.old ≤ w.place j = old.after in
            let b : w.place j + sh.size j ≤ z.old + (z.live + z.alloc) = old.before in
            elim m.spaces [ inl q ↦ inr (omega arith) | inr q ↦ inl (omega arith) ]
        | inr new ↦
            let a : z.current ≤ w.place j = new.after in
            let y = w.place j - z.current in
            let stands : w.place j ≡ z.current + y = omega arith in
            elim (cases_lt y z.live) [
              | inl lower ↦ let ends : y + sh.size j ≤ scan = passed_range j y kept stands lower in inr (omega arith)
              | inr upper ↦ inl (omega arith)
            ]
      ]

  turned : (p a q b : ℕ) → Apart p a q b → Apart q b p a
  turned p a q b (inl e) = inr e
  turned p a q b (inr e) = inl e

  move_apart : fact.ObjectsApart sh.kept (upd w.place n (z.current + scan)) sh.size
  move_apart i j a b differ = elim (upd_cases w.place n (z.current + scan) i) [
    | inl (e, u) ↦ elim (upd_cases w.place n (z.current + scan) j) [
      | inl (d, v) ↦ absurd (differ (e ∙ sym d))
      | inr (d, v) ↦ rw (u, v, e) (apart_from j b)
    ]
    | inr (e, u) ↦ elim (upd_cases w.place n (z.current + scan) j) [
      | inl (d, v) ↦ rw (u, v, d) (turned (z.current + scan) (sh.size n) (w.place i) (sh.size i) (apart_from i a))
      | inr (d, v) ↦ rw (u, v) (h.objects_apart i j a b differ)
    ]
  ]

  from_new : (s : ℕ) → s < tasks g → f.is_making (flight s) ≡ true → Apart (z.current + scan) (sh.size n) (new_place g (flight s)) (f.new_size (flight s))
  from_new s below makes =
      let room : FoundRoom g w.cycle w.used (flight s) = h.news_found_room s below (making_has_room (flight s) (h.news_in_step s below) makes) in
      let words : f.words_before (flight s) + f.new_size (flight s) ≤ g.alloc = room.words in
      let live : z.live ≡ g.live = space.live in
      let fits : scan + sh.size n ≤ z.live = o.fits in
      rw space.current
      (new_apart g.live g.alloc (f.cycle_of (flight s) % 2) (f.words_before (flight s)) (f.new_size (flight s)) (w.cycle % 2) scan (sh.size n) (omega arith) (omega arith) words (omega arith))

  move_from_new : fact.ObjectsApartFromNew g sh.kept (upd w.place n (z.current + scan)) sh.size flight
  move_from_new s j below makes kept =
      at_place (λ k p. Apart p (sh.size k) (new_place g (flight s)) (f.new_size (flight s))) (from_new s below makes) j (λ d. h.objects_apart_from_new s j below makes kept)

  move_unclaimed : fact.UnclaimedIsOld z w.cycle sh.kept (upd w.place n (z.current + scan)) w.mark sh.size
  move_unclaimed j kept low = elim (upd_cases w.place n (z.current + scan) j) [
    | inl (e, u) ↦ let marked : w.mark n ≡ w.cycle = grey_in.of_cycle in let same : w.mark j ≡ w.mark n = ap w.mark e in absurd (omega arith)
    | inr (d, u) ↦ rw u (h.unclaimed_is_old j kept low)
  ]

  -- THE TWO SPACES

  move_below_used : fact.ObjectsBelowUsed z w.used sh.kept (upd w.place n (z.current + scan)) sh.size
  move_below_used j kept =
      at_place (λ k p. InCurrent z p (sh.size k) → p + sh.size k ≤ z.current + (z.live + w.used)) (λ new. let fits = o.fits in omega arith) j (λ d. h.objects_below_used j kept)

  move_in_range : fact.MovedStandsInRange z (l.is_resting line.Scan) sh.kept (upd w.place n (z.current + scan)) range
  move_in_range going j x kept stands below = elim (upd_cases w.place n (z.current + scan) j) [
    | inl (e, u) ↦ let same : z.current + scan ≡ z.current + x = sym u ∙ stands in let here : x ≡ scan = omega arith in ap range here ∙ o.has_range ∙ ap Some (sym e)
    | inr (d, u) ↦ h.moved_stands_in_range going j x kept (sym u ∙ stands) below
  ]

  move_free : fact.FreeIsZero z sh.kept (upd w.place n (z.current + scan)) sh.size w.cell
  move_free i below free = h.free_is_zero i below (λ j kept covers. elim (cases_eq j n) [
    | inl e ↦
        let a : w.place n + sh.size n ≤ z.old + (z.live + z.alloc) = was_old.before in
        let b : z.old ≤ w.place n = was_old.after in
        let from : w.place j ≤ z.current + (z.live + i) = covers.after in
        let before : z.current + (z.live + i) < w.place j + sh.size j = covers.before in
        let same : w.place j ≡ w.place n = ap w.place e in
        let size : sh.size j ≡ sh.size n = ap sh.size e in
        elim m.spaces [ inl q ↦ omega arith | inr q ↦ omega arith ]
    | inr d ↦ free j kept (rw (other_place j d) covers)
  ])

  -- RANGES

  move_below_moved : fact.RangesBelowMoved z w.cycle (scan + sh.size n) sh.kept (upd w.place n (z.current + scan)) w.mark sh.size range
  move_below_moved x j there lower = elim (cases_eq x scan) [
    | inl here ↦
        let same : j ≡ n = one_number (range x) j n there (ap range here ∙ o.has_range) in
        record {
          is_kept = rw same o.is_kept;
          is_claimed = rw same grey_in.of_cycle;
          stands = rw same (upd_same w.place n (z.current + scan) ∙ ap (λ y. z.current + y) (sym here));
          ends = let size : sh.size j ≡ sh.size n = ap sh.size same in omega arith;
        }
    | inr differ ↦ elim (cases_lt x scan) [
      | inl below ↦
          let old : IsMoved z w.cycle scan sh.kept w.place w.mark sh.size x j = h.ranges_below_moved x j there below in
          let other : j ≢ n = λ e. differ (own_range x (there ∙ ap Some e)) in
          let ends : x + sh.size j ≤ scan = old.ends in
          record { is_kept = old.is_kept; is_claimed = old.is_claimed; stands = other_place j other ∙ old.stands; ends = omega arith }
      | inr above ↦ never_both (range x) j (h.ranges_apart scan n x o.has_range (omega arith) lower) there
    ]
  ]

  move_above_grey : fact.RangesAboveGrey (scan + sh.size n) sh.kept (upd sh.grey n false) range
  move_above_grey x j there upper =
      let some = some_words n in
      let old = h.ranges_above_grey x j there (omega arith) in
      (old.0, other_grey j (λ e. let here : x ≡ scan = own_range x (there ∙ ap Some e) in omega arith) old.1)

  move_scan : fact.ScanBounded z (l.is_resting line.Scan) (scan + sh.size n) w.reserved
  move_scan going = (h.ranges_within scan n o.has_range, o.fits)

  -- CLAIMS IN HAND

  move_unreserved : fact.ClaimsUnreserved g w.cycle (upd sh.grey n false) range hand
  move_unreserved k item cycle within e =
      let old : HoldsClaim w.cycle sh.grey range item cycle = h.claims_unreserved k item cycle within e in
      record {
        some = old.some;
        of_cycle = old.of_cycle;
        is_grey = other_grey (layout.reference_number item) (λ same. old.unreserved scan (o.has_range ∙ ap Some (sym same))) old.is_grey;
        unreserved = old.unreserved;
      }

  move_unlinked : fact.ClaimsUnlinked g z w.cycle (upd sh.grey n false) sh.size w.cell range hand
  move_unlinked k item cycle offset within e =
      let old : HoldsRange z w.cycle sh.grey sh.size w.cell range item cycle offset = h.claims_unlinked k item cycle offset within e in
      record {
        some = old.some;
        of_cycle = old.of_cycle;
        is_grey = other_grey (layout.reference_number item)
            (λ same. o.linked (ap (λ y. w.cell (z.current + y)) (sym (own_range offset (old.has_range ∙ ap Some same))) ∙ old.unlinked)) old.is_grey;
        has_range = old.has_range;
        fits = old.fits;
        unlinked = old.unlinked;
      }

  -- LISTS

  move_unread : fact.UnreadFree g w.cycle w.objects w.accessors (upd w.place n (z.current + scan)) w.version w.mark (w.entry (current_space w.cycle))
  move_unread j from below =
      let k = w.entry (current_space w.cycle) j in
      let old : IsUnread g w.cycle w.accessors w.place w.version w.mark k = h.unread_free j from below in
      let none : HasNoHeader w.accessors w.place w.version k = old.no_header in
      let other : k ≢ n = headless_not_kept g w sh names line.Scan flight m.kept n k o.is_kept none.no_place in
      record {
        within = old.within;
        no_header = record { no_accessors = none.no_accessors; no_place = other_place k other ∙ none.no_place; no_version = none.no_version };
        is_marked = old.is_marked;
      }

  move_own : fact.OwnEntries g w.accessors (upd w.place n (z.current + scan)) w.version w.mark w.entry flight
  move_own s below making =
      let between : NewsFacts g w sh flight = assumption in
      let k = fact.own_entry w.entry (flight s) in
      let old : IsOwn g w.accessors w.place w.version w.mark (flight s) k = h.own_entries s below making in
      let other : k ≢ n = own_not_kept g w sh names line.Scan flight m.kept between s n below making o.is_kept in
      record { within = old.within; is_marked = old.is_marked; no_accessors = old.no_accessors; no_version = old.no_version; placed = other_place k other ∙ old.placed }

  -- CALLS IN FLIGHT

  move_place_known : fact.PlaceKnown g (upd w.place n (z.current + scan)) flight
  move_place_known s below inside = h.place_known s below inside ∙ sym (other_place (layout.reference_number (flight s).entered) (nobody_inside s below inside))

  move_late : fact.LateInNoBlackObject g w.cycle (upd sh.black n true) flight
  move_late s below inside late = still_dark (layout.reference_number (flight s).entered) (h.late_in_no_black_object s below inside late)
      (nobody_inside s below (cycle_in_object (flight s) inside))

  move_loaded : fact.LoadedWhiteFromNoBlack g sh.white (upd sh.black n true) flight
  move_loaded s below inside black = h.loaded_white_from_no_black s below inside
      (sym (upd_other sh.black n true (layout.reference_number (flight s).entered) (nobody_inside s below (loaded_in_object (flight s) inside))) ∙ black)

  -- COLOURS

  child_dark : (b i child : ℕ) → names.bearer n ≡ Some b → i < names.refs b → contents.link b i ≡ Some child → sh.white (names.number child) ≡ false
  child_dark b i child borne below there =
      let word = w.cell (w.place n + 1 + i) in
      let shows : word ≡ layout.pack_reference (names.number child) (names.refs child) (names.nums child) =
      h.links_shown n b o.is_kept borne i below ∙ shown_birth names (contents.link b i) child there in
      let refs : refs_at names n ≡ names.refs b = refs_borne names n b borne in
      by_link (h.links_kept n b o.is_kept borne i below) shows (o.passed i (omega arith))
    where
      by_link : IsNullOrKept sh.kept names (contents.link b i) → w.cell (w.place n + 1 + i) ≡ layout.pack_reference (names.number child) (names.refs child) (names.nums child)
          → IsNullOrMarked w.cycle w.mark (w.cell (w.place n + 1 + i)) → sh.white (names.number child) ≡ false
      by_link (inl none) shows past = never_both (contents.link b i) child none there
      by_link (inr (birth, is, kept)) shows past =
          let same : birth ≡ child = one_number (contents.link b i) birth child is there in
          let number = kept_number g w (held_by g flight) line.Scan names sh m.kept child (w.cell (w.place n + 1 + i)) (rw (← same) kept) shows in
          elim past [
            | inl null ↦ absurd (number.1 null)
            | inr marked ↦ c.not_white (names.number child) (let same : w.mark (names.number child) ≡ w.cycle = ap w.mark (sym number.0) ∙ marked in omega arith)
          ]

  move_black : fact.BlackLeadsToNoWhite sh.white (upd sh.black n true) sh.kept names contents.link
  move_black j b kept black borne i child below there = elim (cases_eq j n) [
    | inl e ↦ child_dark b i child (ap names.bearer (sym e) ∙ borne) below there
    | inr d ↦ h.black_leads_to_no_white j b kept (sym (upd_other sh.black n true j d) ∙ black) borne i child below there
  ]

  -- all facts hold after the object was moved
  pub move_facts : Facts g (moved_words w n (z.current + scan)) z (moved_shades sh n) flight begun hand (scanning t (scan + sh.size n)) names contents range
  unfolding l.is_marking l.is_resting l.is_sweeping_or_marking l.frames_done l.frame_attempt l.register_in_work l.has_reference l.is_at_range l.has_item l.object_attempt l.cell_loaded l.cell_to_write l.passing l.sweeping l.written l.marked l.emptied l.cleared l.most_spent
  move_facts =
      let a1 = move_links in
      let a2 = move_values in
      let a3 = move_in_one in
      let a4 = move_apart in
      let a5 = move_from_new in
      let a6 = move_unclaimed in
      let b1 = move_below_used in
      let b2 = move_in_range in
      let b3 = move_free in
      let b4 : fact.UnusedIsZero z (l.is_resting line.Scan) sh.kept (upd w.place n (z.current + scan)) sh.size w.cell = λ rests. never rests in
      let c1 = move_below_moved in
      let c2 = move_above_grey in
      let c3 = move_scan in
      let d1 = move_unreserved in
      let d2 = move_unlinked in
      let e1 = move_unread in
      let e2 = move_own in
      let e3 : fact.WrittenEmpty 0 w.accessors (upd w.place n (z.current + scan)) w.version (w.entry (next_list w.cycle)) = λ j below. absurd (omega arith) in
      let i1 = move_place_known in
      let i2 = move_late in
      let i3 = move_loaded in
      let j1 = move_black in
      let k1 : fact.ScanAtRange z line.Scan (scan + sh.size n) sh.size range = λ e. never e in
      let k2 : fact.ItemIsLinked z line.Scan (scan + sh.size n) t.item w.cell = λ e. never e in
      let k3 : fact.ObjectAttemptBehind (scanning t (scan + sh.size n)) line.Scan t.first t.item w.accessors (upd w.place n (z.current + scan)) w.version = λ passed e. none_there passed e in
      let k4 : fact.CellsPassed (scanning t (scan + sh.size n)) line.Scan w.cycle t.first t.item w.version w.mark w.cell = λ passed i e. none_there passed e in
      let k5 : fact.CellsCopied z (scanning t (scan + sh.size n)) line.Scan (scan + sh.size n) t.first t.item w.version w.cell = λ passed i e. none_there passed e in
      let k6 : fact.PassMeetsGrey g line.Scan (upd sh.grey n false) (fact.IsSettled g w.cycle sh.white (upd sh.grey n false) w.register flight) = λ k e. none_there k e in
      let l1 : fact.GreyWaits g (upd sh.grey n false) range hand = λ k below e. elim (upd_cases sh.grey n false k) [
        | inl (_, u) ↦ never (sym u ∙ e)
        | inr (_, u) ↦ h.grey_waits k below (sym u ∙ e)
      ] in
      let k7 : fact.SettledFromSweep line.Scan (fact.IsSettled g w.cycle sh.white (upd sh.grey n false) w.register flight) = λ e. never_false e in
      assumption

-- WHAT MANY FACTS READ

not_within : (first last place : ℕ) → (place < first) ⊎ (last ≤ place) → (nat_le first place && nat_lt place last) ≡ false
not_within first last place (inl e) = grind (arith, nat_tests)
not_within first last place (inr e) = grind (arith, nat_tests)

-- a number that is marked for the cycle and has a place is moved to a place of the current space
pub record Moves (z : Spaces) (cycle : ℕ) (old_place mark place : ℕ) : Type 0 where
  pub marked : mark ≡ cycle
  pub placed : old_place ≢ 0
  pub after : z.current ≤ place
  pub before : place < z.current + (z.live + z.alloc)
  pub some : 0 < z.current
  pub apart : SpacesApart z

module _ (g : Geometry) (w : Words) (flight : ℕ → Flight) (ln : Line) (names : Names) (n p : ℕ) (o : Moves (spaces_of g w.cycle) w.cycle (w.place n) (w.mark n) p) where
  is_placed : p ≢ 0
  is_placed e = let some : 0 < (spaces_of g w.cycle).current = o.some in let after : (spaces_of g w.cycle).current ≤ p = o.after in omega arith

  white_moved : white_by w.cycle (upd w.place n p) w.mark ≡ white_by w.cycle w.place w.mark
  white_moved = λ i k. at k i
    where
      at : (k : ℕ) → (not (nat_eq (upd w.place n p k) 0) && nat_lt (w.mark k) w.cycle) ≡ (not (nat_eq (w.place k) 0) && nat_lt (w.mark k) w.cycle)
      at k = elim (upd_cases w.place n p k) [
        | inl (e, u) ↦ rw (u, e, ne_eqb p 0 is_placed, ne_eqb (w.place n) 0 o.placed) refl
        | inr (d, u) ↦ rw u refl
      ]

  grey_moved : grey_by (spaces_of g w.cycle) w.cycle (upd w.place n p) w.mark ≡ upd (grey_by (spaces_of g w.cycle) w.cycle w.place w.mark) n false
  grey_moved = is_upd {A = Bool} (grey_by (spaces_of g w.cycle) w.cycle (upd w.place n p) w.mark) (grey_by (spaces_of g w.cycle) w.cycle w.place w.mark) n false here
      (λ k d. rw (upd_other w.place n p k d) refl)
    where
      outside : is_within (spaces_of g w.cycle) (spaces_of g w.cycle).old p ≡ false
      outside =
          let z = spaces_of g w.cycle in
          let after : z.current ≤ p = o.after in
          let before : p < z.current + (z.live + z.alloc) = o.before in
          not_within z.old (z.old + (z.live + z.alloc)) p (elim o.apart [ inl a ↦ inr (omega arith) | inr a ↦ inl (omega arith) ])

      here : (nat_eq (w.mark n) w.cycle && is_within (spaces_of g w.cycle) (spaces_of g w.cycle).old (upd w.place n p n)) ≡ false
      here = rw (upd_same w.place n p, outside) (and_right _ false refl)

  black_moved : black_by (spaces_of g w.cycle) w.cycle (upd w.place n p) w.mark ≡ upd (black_by (spaces_of g w.cycle) w.cycle w.place w.mark) n true
  black_moved = is_upd {A = Bool} (black_by (spaces_of g w.cycle) w.cycle (upd w.place n p) w.mark) (black_by (spaces_of g w.cycle) w.cycle w.place w.mark) n true here
      (λ k d. rw (upd_other w.place n p k d) refl)
    where
      here : (nat_eq (w.mark n) w.cycle && is_within (spaces_of g w.cycle) (spaces_of g w.cycle).current (upd w.place n p n)) ≡ true
      here = rw (upd_same w.place n p) (and_from _ _ (eq-eqb (w.mark n) w.cycle o.marked) (and_from _ _ (le-leb _ _ o.after) (lt-ltb _ _ o.before)))

  kept_moved : (held : ℕ → Bool) → kept_by g w.cycle (l.is_marking ln) held names.bearer (upd w.place n p) w.mark ≡ kept_by g w.cycle (l.is_marking ln) held names.bearer w.place w.mark
  kept_moved held = λ i k. at k i
    where
      at : (k : ℕ) → kept_by g w.cycle (l.is_marking ln) held names.bearer (upd w.place n p) w.mark k ≡ kept_by g w.cycle (l.is_marking ln) held names.bearer w.place w.mark k
      at k = elim (upd_cases w.place n p k) [
        | inl (e, u) ↦ rw (u, e, ne_eqb p 0 is_placed, ne_eqb (w.place n) 0 o.placed) refl
        | inr (d, u) ↦ rw u refl
      ]

  pub shades_moved : shades_of g (moved_words w n p) flight ln names ≡ moved_shades (shades_of g w flight ln names) n
  unfolding shades_of
  shades_moved = λ i. record {
    white = white_moved i;
    grey = grey_moved i;
    black = black_moved i;
    black_frame = black_frame_by w.cycle w.frame_cycle;
    kept = kept_moved (held_by g flight) i;
    size = size_at names;
  }

-- THE EXCHANGE

trade_marks : (ln : Line) → ln ≡ line.ObjectTrade → l.is_marking ln ≡ true
unfolding l.is_marking
trade_marks ln e = ap l.is_marking e

scan_marks : l.is_marking line.Scan ≡ true
unfolding l.is_marking
scan_marks = refl

left_hand : (t : Spot) → t.line ≡ line.ObjectTrade → l.hand_of_spot (scanning t t.scan) ≡ l.hand_of_spot t
unfolding l.hand_of_spot l.hand_at_line
left_hand t e = sym (ap (l.hand_at_line t) e)

scan_hand : (t : Spot) (scan : ℕ) → l.hand_of_spot (scanning t scan) ≡ l.hand_of_spot (scanning t t.scan)
unfolding l.hand_of_spot l.hand_at_line
scan_hand t scan = refl

-- the item is one of the geometry's numbers, and its new place fits the bits of a place
pub record IsThere (g : Geometry) (t : Spot) : Type 0 where
  pub within : moved_number t < numbers g
  pub few : moved_to g t < 2 ^ layout.place_bits

few_places : (g : Geometry) (cycle scan size : ℕ) → scan + size ≤ g.live → place_at g (current_space cycle) scan < 2 ^ layout.place_bits
few_places g cycle scan size fits = by_side (cycle % 2) (omega arith)
  where
    by_side : (side : ℕ) → side ≤ 1 → place_at g side scan < 2 ^ layout.place_bits
    by_side zero few = let live = g.live_few in let alloc = g.alloc_few in omega arith
    by_side (suc zero) few = let live = g.live_few in let alloc = g.alloc_few in omega arith
    by_side (suc (suc side)) few = absurd (omega arith)

-- the new place of the object
new_there : (g : Geometry) (t : Spot) (cycle : ℕ) → t.cycle ≡ cycle → (spaces_of g cycle).current + t.scan ≡ moved_to g t
new_there g t cycle e = rw (← e) (omega arith)

module _ (g : Geometry) (w : Words) (flight : ℕ → Flight) (begun : ℕ → ℕ) (t : Spot) (names : Names) (contents : Contents) (range : ℕ → Option ℕ) (at : t.line ≡ line.ObjectTrade)
    (h : FactsOf g w flight begun t names contents range) where
  trading : AtObjectTrade g w (spaces_of g w.cycle) (shades_of g w flight t.line names) t range
  trading =
      let z = spaces_of g w.cycle in
      let sh = shades_of g w flight t.line names in
      at_object_trade g w z sh flight t names range (work_facts g w z sh flight begun (hands_of g flight t) t names contents range h line.ObjectTrade at)

  left_to_scan : FactsOf g w flight begun (scanning t t.scan) names contents range
  left_to_scan =
      let z = spaces_of g w.cycle in
      let sh = shades_of g w flight t.line names in
      let other = scanning t t.scan in
      let goes : GoesMarking t other = record { from = trade_marks t.line at; to = scan_marks; cycle = refl; scan = refl; entries = refl } in
      let works : WorkFacts g w z sh flight other names range line.Scan = scan_works g w z sh flight other names range trading.in_object.at_item.at_range.all_black in
      on_spot g w flight begun t other names contents range (left_hand t at) (goes.to ∙ sym goes.from) h
      (marking_on g w z sh flight begun (hands_of g flight t) t names contents range h other goes works)

  module _ (fit : ShapesFit names) where
    item_moves : IsMoving (spaces_of g w.cycle) (shades_of g w flight t.line names) t.scan t.item range
    item_moves = moving g w (spaces_of g w.cycle) (shades_of g w flight t.line names) flight begun (hands_of g flight t) t names contents range h
        (shades_mean g w flight t.line names) fit (trade_marks t.line at) trading.in_object.at_item

    grey_item : (shades_of g w flight t.line names).grey (moved_number t) ≡ true
    grey_item = item_grey g w (spaces_of g w.cycle) (shades_of g w flight t.line names) flight begun (hands_of g flight t) t names contents range h
        (shades_mean g w flight t.line names) fit (trade_marks t.line at) trading.in_object.at_item

    shows_item : t.item ≡ reference_at names (moved_number t)
    shows_item = item_shows g w (spaces_of g w.cycle) (shades_of g w flight t.line names) flight begun (hands_of g flight t) t names contents range h
        (shades_mean g w flight t.line names) fit (trade_marks t.line at) trading.in_object.at_item

    place_moves : Moves (spaces_of g w.cycle) w.cycle (w.place (moved_number t)) (w.mark (moved_number t)) ((spaces_of g w.cycle).current + t.scan)
    place_moves =
        let z = spaces_of g w.cycle in
        let sh = shades_of g w flight t.line names in
        let m = shades_mean g w flight t.line names in
        let n = moved_number t in
        let fits : t.scan + sh.size n ≤ z.live = item_moves.fits in
        let size : sh.size n ≡ size_at names n = m.size n in
        let some : 0 < size_at names n = size_some names n in
        record {
          marked = (m.grey n grey_item).of_cycle;
          placed = (m.kept n item_moves.is_kept).placed;
          after = omega arith;
          before = omega arith;
          some = omega arith;
          apart = m.spaces;
        }

    pub item_there : IsThere g t
    item_there =
        let m = shades_mean g w flight t.line names in
        let fits : t.scan + (shades_of g w flight t.line names).size (moved_number t) ≤ g.live = item_moves.fits in
        record {
          within = (m.kept (moved_number t) item_moves.is_kept).within;
          few = few_places g t.cycle t.scan ((shades_of g w flight t.line names).size (moved_number t)) fits;
        }

    module _ (same : w.version (moved_number t) ≡ layout.header_version t.first) where
      can_move : CanMove w (spaces_of g w.cycle) (shades_of g w flight t.line names) names range t.scan (moved_number t)
      can_move =
          let z = spaces_of g w.cycle in
          let sh = shades_of g w flight t.line names in
          let m = shades_mean g w flight t.line names in
          let n = moved_number t in
          let size : reference_size t.item ≡ sh.size n = item_moves.size in
          let placed : layout.header_place t.first ≡ w.place n = trading.in_object.behind.placed in
          let item : AtItem g w z sh t range = trading.in_object.at_item in
          let parts = reference_parts g names n t.item (m.kept n item_moves.is_kept).within fit shows_item in
          let refs : layout.reference_refs t.item ≡ refs_at names n = parts.1 in
          record {
            is_kept = item_moves.is_kept;
            is_grey = grey_item;
            has_range = item_moves.has_range;
            fits = item_moves.fits;
            linked = λ none. item.some (sym item.linked ∙ none);
            nobody = trading.in_object.behind.same_accessors same;
            copied = λ i below. trading.in_object.copied i same (omega arith) ∙ ap (λ p. w.cell (p + 1 + i)) placed;
            passed = λ i below. subst (λ (p : ℕ). IsNullOrMarked w.cycle w.mark (w.cell (p + 1 + i))) placed (trading.in_object.passed i same (omega arith) (omega arith));
          }

      -- all facts hold after the exchange of a header that is the one that the attempt loaded: the object is moved
      pub object_traded : FactsOf g (moved_words w (moved_number t) (moved_to g t)) flight begun (scanning t (t.scan + reference_size t.item)) names contents range
      object_traded =
          let z = spaces_of g w.cycle in
          let n = moved_number t in
          let sh = shades_of g w flight line.Scan names in
          let marks : l.is_marking line.Scan ≡ l.is_marking t.line = scan_marks ∙ sym (trade_marks t.line at) in
          let shades : sh ≡ shades_of g w flight t.line names = shades_kept g w flight t.line line.Scan names marks in
          let can : CanMove w z sh names range t.scan n = rw shades can_move in
          let size : reference_size t.item ≡ (shades_of g w flight t.line names).size n = item_moves.size in
          let sized : t.scan + sh.size n ≡ t.scan + reference_size t.item = ap (λ (a : Shades). t.scan + a.size n) shades ∙ ap (λ k. t.scan + k) (sym size) in
          let there : z.current + t.scan ≡ moved_to g t = new_there g t w.cycle h.spot_knows_cycle in
          let hands : hands_of g flight (scanning t (t.scan + sh.size n)) ≡ hands_of g flight (scanning t t.scan) =
          hands_kept g flight (scanning t t.scan) (scanning t (t.scan + sh.size n)) (scan_hand t (t.scan + sh.size n)) in
          let done : FactsOf g (moved_words w n (z.current + t.scan)) flight begun (scanning t (t.scan + sh.size n)) names contents range =
          rw (shades_moved g w flight line.Scan names n (z.current + t.scan) place_moves, hands)
          (move_facts g w z sh flight begun (hands_of g flight (scanning t t.scan)) t t.scan names contents range left_to_scan
          (shades_mean g w flight line.Scan names) (colours_mean g w flight line.Scan names) (spaces_are g w.cycle) n can) in
          subst (λ (p : ℕ). FactsOf g (moved_words w n p) flight begun (scanning t (t.scan + reference_size t.item)) names contents range) there
          (subst (λ (k : ℕ). FactsOf g (moved_words w n (z.current + t.scan)) flight begun (scanning t k) names contents range) sized done)
