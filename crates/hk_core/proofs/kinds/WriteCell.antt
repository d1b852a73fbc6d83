-- A call inside an object writes one of its cells. The word is behind the link word of the object's words, so it is in no
-- other object, no link word, and no word that is said to be 0.
use Rattle.std.proofs.Common.{◌≡◌, ◌≢◌, ◌⊎◌, ℕ, ◌+◌, ◌-◌, ◌%◌, ◌^◌, ◌<◌, ◌≤◌, Bool, true, false, inl, inr, refl, sym, ◌∙◌, ap, arith, Option, Some, None, [], ◌∷◌, ◌++◌}
use Rattle.std.proofs.lemmas.Bool.{both_ways, cases_Bool, cases_eq, cases_lt, ltb-true, leb-true, lt-ltb, le-leb, eqb-true, eq-eqb, and_parts, and_from, or_cases}
use Rattle.std.specs.Prelude.{unwrap_or, option_map, nat_eq}
use Rattle.hk_words.specs.declared.geometry.Geometry.{Geometry}
use Rattle.hk_words.specs.declared.call.Call.TheVariants as call
use Rattle.hk_words.specs.Geometry.{tasks, numbers, space_words}
use Rattle.hk_words.specs.Layout as layout
use Rattle.hk_words.specs.declared.call.Reply.TheVariants.{Unit as Done}
use Rattle.hk_words.specs.Calls.{RegistersFit}
use Rattle.hk_model.specs.View.{upd, upd2, view_of}
use Rattle.hk_model.specs.Heap as heap
use Rattle.hk_model.specs.History.{Entry, History, Legal, after, after_entry}
use Rattle.hk_model.proofs.Updates.{upd_same, upd_other, upd2_same, upd2_other}
use Rattle.hk_model.proofs.Heaps.{IsHeap-opening}
use Rattle.hk_model.proofs.Histories.{after-push, Legal-push, IsHeap-after, number_of-push_other, bearer-push_other, bearer_is_last}
use Rattle.hk_model.proofs.Effects.{view_of-put}
use Rattle.hk_model.proofs.Replies.{reply_of-put}
use Rattle.hk_core.specs.declared.flight.Flight.{Flight}
use Rattle.hk_core.specs.declared.spot.Spot.{Spot}
use Rattle.hk_core.specs.declared.spot.Line.{Line}
use Rattle.hk_core.specs.declared.spot.Line.TheVariants as line
use Rattle.hk_core.specs.declared.spot.Stage.TheVariants as stage
use Rattle.hk_core.specs.Begin.{has_field}
use Rattle.hk_core.specs.Step.{number_cell, new_place, reference_size}
use Rattle.hk_core.specs.View.{Words, Names, Contents, refs_at, nums_at, size_at, reference_at, names_of, contents_of}
use Rattle.hk_core.specs.Flights as f
use Rattle.hk_core.specs.Flights.{Hand}
use Rattle.hk_core.specs.Lines as l
use Rattle.hk_core.specs.Colours.{Spaces, spaces_of, Shades, shades_of, held_by, is_fresh, Covers, IsNullOrMarked, IsNullOrKept}
use Rattle.hk_core.specs.Facts as fact
use Rattle.hk_core.specs.Facts.{HoldsRange, ObjectBehind}
use Rattle.hk_core.specs.Lawful.{Facts, FactsOf, hands_of}
use Rattle.hk_core.proofs.kinds.Seats.{CallsFacts, KeptMeans, GoesOn, SameObject, SameFrame, SameClaim, SameItem, moved_on, kept_means, calls_upd, counted_kept, versions_kept, frames_counted_kept, frame_versions_kept}
use Rattle.hk_core.proofs.kinds.Seats.{hands_upd, shades_upd, goes_making_nothing, goes_without_number, goes_hand, goes_so, goes_is_inside, goes_before_object, goes_in_frame, goes_before_frame, goes_in_object}
use Rattle.hk_core.proofs.kinds.Enter.{object_of}
use Rattle.hk_core.proofs.kinds.Read.{Knows, ShapesFit, object_known}
use Rattle.hk_core.proofs.kinds.Words.{some_in_object}
use Rattle.hk_core.proofs.kinds.Seats.{FlightFacts}
use Rattle.hk_core.proofs.Update.{unwritten}
use Rattle.hk_core.proofs.Shared.{few_numbers, never_both, size_borne, size_some, one_value}

-- WHAT THE SHADES AND THE SPACES MEAN

-- a number that is marked for the cycle and has its place in the old space
pub record IsGreyIn (z : Spaces) (cycle : ℕ) (place mark : ℕ → ℕ) (n : ℕ) : Type 0 where
  pub of_cycle : mark n ≡ cycle
  pub after : z.old ≤ place n
  pub before : place n < z.old + (z.live + z.alloc)

-- the two spaces don't overlap
abbrev pub SpacesApart : Spaces → Type 0
SpacesApart z = (z.old + (z.live + z.alloc) ≤ z.current) ⊎ (z.current + (z.live + z.alloc) ≤ z.old)

pub record ShadesMean (g : Geometry) (w : Words) (z : Spaces) (sh : Shades) (flight : ℕ → Flight) (ln : Line) (names : Names) : Type 0 where
  pub kept : KeptMeans g w (held_by g flight) ln names sh
  pub grey : (n : ℕ) → sh.grey n ≡ true → IsGreyIn z w.cycle w.place w.mark n
  pub is_grey : (n : ℕ) → IsGreyIn z w.cycle w.place w.mark n → sh.grey n ≡ true
  pub size : (n : ℕ) → sh.size n ≡ size_at names n
  pub spaces : SpacesApart z
  pub whole : space_words g ≡ z.live + z.alloc

spaces_apart : (g : Geometry) (cycle : ℕ) → SpacesApart (spaces_of g cycle)
spaces_apart g cycle =
    elim (cases_eq (cycle % 2) 0) [
      | inl e ↦ let o : (cycle + 1) % 2 ≡ 1 = omega arith in inr (rw (e, o) (omega arith))
      | inr d ↦ let c : cycle % 2 ≡ 1 = omega arith in let o : (cycle + 1) % 2 ≡ 0 = omega arith in inl (rw (c, o) (omega arith))
    ]

pub shades_mean : (g : Geometry) (w : Words) (flight : ℕ → Flight) (ln : Line) (names : Names) → ShadesMean g w (spaces_of g w.cycle) (shades_of g w flight ln names) flight ln names
unfolding shades_of
shades_mean g w flight ln names = record {
  kept = kept_means g w flight ln names;
  grey = λ n e. let p = and_parts _ _ e in let q = and_parts _ _ p.1 in record { of_cycle = eqb-true _ _ p.0; after = leb-true _ _ q.0; before = ltb-true _ _ q.1 };
  is_grey = λ n o. and_from _ _ (eq-eqb _ _ o.of_cycle) (and_from _ _ (le-leb _ _ o.after) (lt-ltb _ _ o.before));
  size = λ n. refl;
  spaces = spaces_apart g w.cycle;
  whole = refl;
}

module _ (g : Geometry) (w : Words) (z : Spaces) (sh : Shades) (flight : ℕ → Flight) (ln : Line) (names : Names)
    (m : ShadesMean g w z sh flight ln names) where
  -- an object has words
  pub some_words : (n : ℕ) → 0 < sh.size n
  some_words n = let e = m.size n in let some = size_some names n in omega arith

  -- a number whose place is in the current space isn't grey
  pub not_grey : (n y : ℕ) → w.place n ≡ z.current + y → y < z.live → sh.grey n ≢ true
  not_grey n y stands below e =
      let o : IsGreyIn z w.cycle w.place w.mark n = m.grey n e in
      let after : z.old ≤ w.place n = o.after in
      let before : w.place n < z.old + (z.live + z.alloc) = o.before in
      elim m.spaces [ inl a ↦ omega arith | inr a ↦ omega arith ]

-- TABLES OF LINES

-- a line with an item is at a range, and doesn't rest
item_at_range : (ln : Line) → l.has_item ln ≡ true → (l.is_at_range ln ≡ true) × (l.is_resting ln ≡ false)
unfolding l.has_item l.is_at_range l.is_resting
item_at_range line.Rest e = absurd (cc)
item_at_range (line.Frame s) e = absurd (cc)
item_at_range (line.Register s r stage) e = absurd (cc)
item_at_range (line.FrameTrade s) e = absurd (cc)
item_at_range line.Scan e = absurd (cc)
item_at_range line.Link e = absurd (cc)
item_at_range line.Look e = (refl, refl)
item_at_range (line.Cell j stage) e = (refl, refl)
item_at_range line.ObjectTrade e = (refl, refl)
item_at_range (line.Pass n) e = absurd (cc)
item_at_range (line.PassHead n) e = absurd (cc)
item_at_range (line.Sweep n stage) e = absurd (cc)
item_at_range (line.Clear j) e = absurd (cc)
item_at_range line.Reset e = absurd (cc)

-- an attempt on an object has an item, and has gone past cells of that
pub attempt_moves : (g : Geometry) (t : Spot) (ln : Line) (passed : ℕ) → l.LineFits g t ln → l.object_attempt t ln ≡ Some passed
    → (l.has_item ln ≡ true) × (passed + 1 ≤ reference_size t.item)
unfolding l.has_item l.object_attempt
attempt_moves g t line.Rest passed fits e = absurd (cc)
attempt_moves g t (line.Frame s) passed fits e = absurd (cc)
attempt_moves g t (line.Register s r stage) passed fits e = absurd (cc)
attempt_moves g t (line.FrameTrade s) passed fits e = absurd (cc)
attempt_moves g t line.Scan passed fits e = absurd (cc)
attempt_moves g t line.Link passed fits e = absurd (cc)
attempt_moves g t line.Look passed fits e = absurd (cc)
attempt_moves g t (line.Cell j stage) passed fits e = let same : j ≡ passed = cc in let few : j + 1 < reference_size t.item = fits.0 in (refl, omega arith)
attempt_moves g t line.ObjectTrade passed fits e = let same : reference_size t.item - 1 ≡ passed = cc in (refl, omega arith)
attempt_moves g t (line.Pass n) passed fits e = absurd (cc)
attempt_moves g t (line.PassHead n) passed fits e = absurd (cc)
attempt_moves g t (line.Sweep n stage) passed fits e = absurd (cc)
attempt_moves g t (line.Clear j) passed fits e = absurd (cc)
attempt_moves g t line.Reset passed fits e = absurd (cc)

-- a cell that was loaded is one of an attempt, and of the item
pub loaded_moves : (g : Geometry) (t : Spot) (ln : Line) (i : ℕ) → l.LineFits g t ln → l.cell_loaded ln ≡ Some i
    → (l.object_attempt t ln ≡ Some i) × (i + 1 < reference_size t.item)
unfolding l.cell_loaded l.object_attempt l.loaded_at
loaded_moves g t line.Rest i fits e = absurd (cc)
loaded_moves g t (line.Frame s) i fits e = absurd (cc)
loaded_moves g t (line.Register s r stage) i fits e = absurd (cc)
loaded_moves g t (line.FrameTrade s) i fits e = absurd (cc)
loaded_moves g t line.Scan i fits e = absurd (cc)
loaded_moves g t line.Link i fits e = absurd (cc)
loaded_moves g t line.Look i fits e = absurd (cc)
loaded_moves g t (line.Cell j stage.Read) i fits e = absurd (cc)
loaded_moves g t (line.Cell j stage.Claim) i fits e = let same : j ≡ i = cc in let few : j + 1 < reference_size t.item = fits.0 in (e, omega arith)
loaded_moves g t (line.Cell j stage.Reserve) i fits e = let same : j ≡ i = cc in let few : j + 1 < reference_size t.item = fits.0 in (e, omega arith)
loaded_moves g t (line.Cell j stage.Tie) i fits e = let same : j ≡ i = cc in let few : j + 1 < reference_size t.item = fits.0 in (e, omega arith)
loaded_moves g t (line.Cell j stage.Write) i fits e = let same : j ≡ i = cc in let few : j + 1 < reference_size t.item = fits.0 in (e, omega arith)
loaded_moves g t (line.Cell j stage.Mark) i fits e = absurd (cc)
loaded_moves g t (line.Cell j stage.Empty) i fits e = absurd (cc)
loaded_moves g t line.ObjectTrade i fits e = absurd (cc)
loaded_moves g t (line.Pass n) i fits e = absurd (cc)
loaded_moves g t (line.PassHead n) i fits e = absurd (cc)
loaded_moves g t (line.Sweep n stage) i fits e = absurd (cc)
loaded_moves g t (line.Clear j) i fits e = absurd (cc)
loaded_moves g t line.Reset i fits e = absurd (cc)

-- where words were cleared, the collector looks for no objects any more
pub cleared_marks : (g : Geometry) (t : Spot) (ln : Line) (i : ℕ) → l.LineFits g t ln → i < l.cleared g ln → (l.is_marking ln ≡ false) × (i < space_words g)
unfolding l.cleared l.is_marking
cleared_marks g t line.Rest i fits below = (refl, below)
cleared_marks g t (line.Frame s) i fits below = absurd (omega arith)
cleared_marks g t (line.Register s r stage) i fits below = absurd (omega arith)
cleared_marks g t (line.FrameTrade s) i fits below = absurd (omega arith)
cleared_marks g t line.Scan i fits below = absurd (omega arith)
cleared_marks g t line.Link i fits below = absurd (omega arith)
cleared_marks g t line.Look i fits below = absurd (omega arith)
cleared_marks g t (line.Cell j stage) i fits below = absurd (omega arith)
cleared_marks g t line.ObjectTrade i fits below = absurd (omega arith)
cleared_marks g t (line.Pass n) i fits below = absurd (omega arith)
cleared_marks g t (line.PassHead n) i fits below = absurd (omega arith)
cleared_marks g t (line.Sweep n stage) i fits below = absurd (omega arith)
cleared_marks g t (line.Clear j) i fits below = let few : j < space_words g = fits in (refl, omega arith)
cleared_marks g t line.Reset i fits below = (refl, below)

-- THE WRITTEN WORD IS NO OTHER

-- a written word that lies in a kept object that a call is inside, behind the link word
pub record WritesInside (w : Words) (sh : Shades) (n p : ℕ) : Type 0 where
  pub is_kept : sh.kept n ≡ true
  pub after : w.place n < p
  pub before : p < w.place n + sh.size n
  pub inside : 0 < w.accessors n

-- an object of the current space that stands below the words for evacuation was moved to its range, which the scan has passed
pub record WasMoved (z : Spaces) (scan : ℕ) (size : ℕ → ℕ) (range : ℕ → Option ℕ) (n y : ℕ) : Type 0 where
  pub has_range : range y ≡ Some n
  pub ends : y + size n ≤ scan
  pub scanned : scan ≤ z.live

-- the object that is moved
pub record IsMoving (z : Spaces) (sh : Shades) (scan item : ℕ) (range : ℕ → Option ℕ) : Type 0 where
  pub is_kept : sh.kept (layout.reference_number item) ≡ true
  pub has_range : range scan ≡ Some (layout.reference_number item)
  pub fits : scan + sh.size (layout.reference_number item) ≤ z.live
  pub size : reference_size item ≡ sh.size (layout.reference_number item)

packed : (number refs nums word : ℕ) → number + 1 < 2 ^ 20 → refs < 2 ^ 8 → nums < 2 ^ 8 → word ≡ layout.pack_reference number refs nums
    → (layout.reference_number word ≡ number) × (layout.reference_refs word ≡ refs) × (layout.reference_nums word ≡ nums)
packed number refs nums word a b c e = rw e (omega arith, omega arith, omega arith)

fits_byte : (names : Names) → ShapesFit names → (n : ℕ) → (refs_at names n < 2 ^ 8) × (nums_at names n < 2 ^ 8)
unfolding refs_at nums_at
fits_byte names fit n = by_bearer (names.bearer n)
  where
    by_bearer : (o : Option ℕ) → (unwrap_or (option_map names.refs o) 0 < 2 ^ 8) × (unwrap_or (option_map names.nums o) 0 < 2 ^ 8)
    by_bearer None = (omega arith, omega arith)
    by_bearer (Some b) = fit b

-- the reference of a kept number has its parts
pub reference_parts : (g : Geometry) (names : Names) (n item : ℕ) → n < numbers g → ShapesFit names → item ≡ reference_at names n
    → (layout.reference_number item ≡ n) × (layout.reference_refs item ≡ refs_at names n) × (layout.reference_nums item ≡ nums_at names n)
unfolding reference_at
reference_parts g names n item within fit e =
    packed n (refs_at names n) (nums_at names n) item (few_numbers g n within) (fits_byte names fit n).0 (fits_byte names fit n).1 e

pub size_of_reference : (names : Names) (n item : ℕ) → layout.reference_refs item ≡ refs_at names n → layout.reference_nums item ≡ nums_at names n → reference_size item ≡ size_at names n
unfolding size_at
size_of_reference names n item a b = rw (a, b) refl

-- a kept number was claimed in this cycle, where the collector looks for no objects any more
pub fresh_when_done : (cycle : ℕ) (marking : Bool) (mark : ℕ) → marking ≡ false → is_fresh cycle marking mark ≡ true → mark ≡ cycle
fresh_when_done cycle true mark done fresh = absurd (cc)
fresh_when_done cycle false mark done fresh = elim (or_cases (nat_eq mark cycle) false fresh) [ inl e ↦ eqb-true _ _ e | inr e ↦ absurd (cc) ]

module _ (g : Geometry) (w : Words) (z : Spaces) (sh : Shades) (flight : ℕ → Flight) (begun : ℕ → ℕ) (hand : ℕ → Hand) (t : Spot)
    (names : Names) (contents : Contents) (range : ℕ → Option ℕ) (h : Facts g w z sh flight begun hand t names contents range)
    (m : ShadesMean g w z sh flight t.line names) where
  was_moved : l.is_resting t.line ≡ false → (k y : ℕ) → sh.kept k ≡ true → w.place k ≡ z.current + y → y < z.live → WasMoved z t.scan sh.size range k y
  was_moved busy k y kept stands below =
      let there : range y ≡ Some k = h.moved_stands_in_range busy k y kept stands below in
      elim (cases_lt y t.scan) [
        | inl lower ↦ record { has_range = there; ends = (h.ranges_below_moved y k there lower).ends; scanned = (h.scan_bounded busy).1 }
        | inr upper ↦ absurd (not_grey g w z sh flight t.line names m k y stands below (h.ranges_above_grey y k there (omega arith)).1)
      ]

  is_moving : ShapesFit names → l.has_item t.line ≡ true → IsMoving z sh t.scan t.item range
  is_moving fit e =
      let at = item_at_range t.line e in
      let found = h.scan_at_range at.0 in
      let k = found.0 in
      let linked = h.item_is_linked e in
      let kept : sh.kept k ≡ true = (h.ranges_above_grey t.scan k found.1 (omega arith)).0 in
      let shows : t.item ≡ reference_at names k = elim (h.ranges_linked t.scan k found.1 found.2) [
        | inl none ↦ absurd (linked.0 (sym linked.1 ∙ none))
        | inr some ↦ sym linked.1 ∙ some
      ] in
      let parts = reference_parts g names k t.item (m.kept k kept).within fit shows in
      record {
        is_kept = ap sh.kept parts.0 ∙ kept;
        has_range = rw parts.0 found.1;
        fits = rw parts.0 found.2;
        size = size_of_reference names k t.item parts.1 parts.2 ∙ sym (m.size k) ∙ ap sh.size (sym parts.0);
      }

  module _ (n p : ℕ) (o : WritesInside w sh n p) where
    -- the written word is none of another object
    in_no_other : (k j : ℕ) → sh.kept k ≡ true → k ≢ n → j < sh.size k → w.place k + j ≢ p
    in_no_other k j kept differ below e =
        let after : w.place n < p = o.after in
        let before : p < w.place n + sh.size n = o.before in
        elim (h.objects_apart k n kept o.is_kept differ) [ inl a ↦ omega arith | inr a ↦ omega arith ]

    -- it is no link word of a range that fits
    in_no_link : (x k : ℕ) → range x ≡ Some k → x + sh.size k ≤ z.live → z.current + x ≢ p
    in_no_link x k there fits e =
        let some : 0 < sh.size k = some_words g w z sh flight t.line names m k in
        let after : w.place n < p = o.after in
        let before : p < w.place n + sh.size n = o.before in
        elim (h.objects_in_one_space n o.is_kept) [
          | inl old ↦
              let a : z.old ≤ w.place n = old.after in
              let b : w.place n + sh.size n ≤ z.old + (z.live + z.alloc) = old.before in
              elim m.spaces [ inl c ↦ omega arith | inr c ↦ omega arith ]
          | inr new ↦
              let a : z.current ≤ w.place n = new.after in
              let y = w.place n - z.current in
              let stands : w.place n ≡ z.current + y = omega arith in
              elim (cases_Bool (l.is_resting t.line)) [
                | inl rests ↦
                    let none : w.reserved ≡ 0 = h.nothing_reserved_at_rest rests in
                    let within : x + sh.size k ≤ w.reserved = h.ranges_within x k there in
                    omega arith
                | inr busy ↦
                    let moved : WasMoved z t.scan sh.size range n y = was_moved busy n y o.is_kept stands (omega arith) in
                    never_both (range x) k (h.ranges_apart y n x moved.has_range (omega arith) (omega arith)) there
              ]
        ]

    -- it is no word of the range at the scan offset, or after that
    in_no_copy : l.is_resting t.line ≡ false → (x : ℕ) → t.scan ≤ x → x < z.live → z.current + x ≢ p
    in_no_copy busy x from below e =
        let after : w.place n < p = o.after in
        let before : p < w.place n + sh.size n = o.before in
        elim (h.objects_in_one_space n o.is_kept) [
          | inl old ↦
              let a : z.old ≤ w.place n = old.after in
              let b : w.place n + sh.size n ≤ z.old + (z.live + z.alloc) = old.before in
              elim m.spaces [ inl c ↦ omega arith | inr c ↦ omega arith ]
          | inr new ↦
              let a : z.current ≤ w.place n = new.after in
              let y = w.place n - z.current in
              let stands : w.place n ≡ z.current + y = omega arith in
              let moved : WasMoved z t.scan sh.size range n y = was_moved busy n y o.is_kept stands (omega arith) in
              let ends : y + sh.size n ≤ t.scan = moved.ends in
              omega arith
        ]

    -- it is a word of no range that fits, unless it is one of the object's own range
    in_own_range : l.is_resting t.line ≡ false → (x : ℕ) → x < z.live → z.current + x ≡ p → (y : ℕ) × (range y ≡ Some n) × (y + sh.size n ≤ z.live) × Covers y (sh.size n) x
    in_own_range busy x below e =
        let after : w.place n < p = o.after in
        let before : p < w.place n + sh.size n = o.before in
        elim (h.objects_in_one_space n o.is_kept) [
          | inl old ↦
              let a : z.old ≤ w.place n = old.after in
              let b : w.place n + sh.size n ≤ z.old + (z.live + z.alloc) = old.before in
              elim m.spaces [ inl c ↦ absurd (omega arith) | inr c ↦ absurd (omega arith) ]
          | inr new ↦
              let a : z.current ≤ w.place n = new.after in
              let y = w.place n - z.current in
              let stands : w.place n ≡ z.current + y = omega arith in
              let moved : WasMoved z t.scan sh.size range n y = was_moved busy n y o.is_kept stands (omega arith) in
              let ends : y + sh.size n ≤ t.scan = moved.ends in
              let scanned : t.scan ≤ z.live = moved.scanned in
              (y, moved.has_range, omega arith, record { after = omega arith; before = omega arith })
        ]

    -- it isn't among the words of the old space that were cleared
    in_no_cleared : (i : ℕ) → i < l.cleared g t.line → z.old + i ≢ p
    in_no_cleared i below e =
        let after : w.place n < p = o.after in
        let before : p < w.place n + sh.size n = o.before in
        let done = cleared_marks g t t.line i h.spot_formed below in
        let few : i < space_words g = done.1 in
        let whole : space_words g ≡ z.live + z.alloc = m.whole in
        elim (h.objects_in_one_space n o.is_kept) [
          | inl old ↦
              let a : z.old ≤ w.place n = old.after in
              let b : w.place n + sh.size n ≤ z.old + (z.live + z.alloc) = old.before in
              let k = m.kept n o.is_kept in
              let marked : w.mark n ≡ w.cycle = fresh_when_done w.cycle (l.is_marking t.line) (w.mark n) done.0 k.is_fresh in
              let grey : sh.grey n ≡ true = m.is_grey n (record { of_cycle = marked; after = a; before = omega arith }) in
              absurd (both_ways _ ((h.settled_from_sweep done.0).none_grey n k.within) grey)
          | inr new ↦
              let a : z.current ≤ w.place n = new.after in
              let b : w.place n + sh.size n ≤ z.current + (z.live + z.alloc) = new.before in
              elim m.spaces [ inl c ↦ omega arith | inr c ↦ omega arith ]
        ]

    -- while the header is the one that an attempt loaded, it is none of the item's cells
    in_no_item : ShapesFit names → (passed i : ℕ) → l.object_attempt t t.line ≡ Some passed → w.version (layout.reference_number t.item) ≡ layout.header_version t.first
        → i + 1 < reference_size t.item → layout.header_place t.first + 1 + i ≢ p
    in_no_item fit passed i attempt same below e =
        let k = layout.reference_number t.item in
        let moving : IsMoving z sh t.scan t.item range = is_moving fit (attempt_moves g t t.line passed h.spot_formed attempt).0 in
        let behind : ObjectBehind t.first w.accessors w.place w.version k = h.object_attempt_behind passed attempt in
        let nobody : w.accessors k ≡ 0 = behind.same_accessors same in
        let some : 0 < w.accessors n = o.inside in
        let placed : layout.header_place t.first ≡ w.place k = behind.placed in
        let size : reference_size t.item ≡ sh.size k = moving.size in
        in_no_other k (1 + i) moving.is_kept (λ same. let a : w.accessors k ≡ w.accessors n = ap w.accessors same in omega arith) (omega arith) (omega arith)

    -- nor is it a word of the item's range
    in_no_moving : ShapesFit names → (passed i : ℕ) → l.object_attempt t t.line ≡ Some passed → i < passed → z.current + t.scan + 1 + i ≢ p
    in_no_moving fit passed i attempt below e =
        let moves = attempt_moves g t t.line passed h.spot_formed attempt in
        let few : passed + 1 ≤ reference_size t.item = moves.1 in
        let moving : IsMoving z sh t.scan t.item range = is_moving fit moves.0 in
        let size : reference_size t.item ≡ sh.size (layout.reference_number t.item) = moving.size in
        let fits : t.scan + sh.size (layout.reference_number t.item) ≤ z.live = moving.fits in
        in_no_copy (item_at_range t.line moves.0).1 (t.scan + 1 + i) (omega arith) (omega arith) (omega arith)

-- THE FACTS OF CELLS

-- the facts that read the words of the spaces, but what these show of the plain heap
pub record CellFacts (g : Geometry) (w : Words) (z : Spaces) (sh : Shades) (flight : ℕ → Flight) (hand : ℕ → Hand) (t : Spot)
    (names : Names) (range : ℕ → Option ℕ) (cell : ℕ → ℕ) : Type 0 where
  pub free_is_zero : fact.FreeIsZero z sh.kept w.place sh.size cell
  pub unreserved_is_zero : fact.UnreservedIsZero z (l.is_resting t.line) sh.size cell range
  pub unused_is_zero : fact.UnusedIsZero z (l.is_resting t.line) sh.kept w.place sh.size cell
  pub cleared_is_zero : fact.ClearedIsZero z (l.cleared g t.line) cell
  pub ranges_linked : fact.RangesLinked z sh.size cell (reference_at names) range
  pub claims_unlinked : fact.ClaimsUnlinked g z w.cycle sh.grey sh.size cell range hand
  pub unlinked_waits : fact.UnlinkedWaits g z sh.size cell range hand
  pub news_clean : fact.NewsClean g cell flight
  pub item_is_linked : fact.ItemIsLinked z t.line t.scan t.item cell
  pub cells_passed : fact.CellsPassed t t.line w.cycle t.first t.item w.version w.mark cell
  pub cells_copied : fact.CellsCopied z t t.line t.scan t.first t.item w.version cell
  pub cell_loaded : fact.CellLoaded t.line t.first t.item t.cell w.version cell

module _ (g : Geometry) (w : Words) (z : Spaces) (sh : Shades) (flight : ℕ → Flight) (begun : ℕ → ℕ) (hand : ℕ → Hand) (t : Spot)
    (names : Names) (contents : Contents) (range : ℕ → Option ℕ) (h : Facts g w z sh flight begun hand t names contents range)
    (m : ShadesMean g w z sh flight t.line names) (fit : ShapesFit names) (n p v : ℕ) (o : WritesInside w sh n p) where
  -- the object covers the written word
  covered : (i : ℕ) → i ≡ p → Covers (w.place n) (sh.size n) i
  covered i e = let after : w.place n < p = o.after in let before : p < w.place n + sh.size n = o.before in record { after = omega arith; before = omega arith }

  -- so do the facts of cells hold after the write
  pub cells_write : CellFacts g w z sh flight hand t names range (upd w.cell p v)
  cells_write =
      let linked : (x k : ℕ) → range x ≡ Some k → x + sh.size k ≤ z.live → z.current + x ≢ p = in_no_link g w z sh flight begun hand t names contents range h m n p o in
      let item : (passed i : ℕ) → l.object_attempt t t.line ≡ Some passed → w.version (layout.reference_number t.item) ≡ layout.header_version t.first
      → i + 1 < reference_size t.item → layout.header_place t.first + 1 + i ≢ p = in_no_item g w z sh flight begun hand t names contents range h m n p o fit in
      let moving : (passed i : ℕ) → l.object_attempt t t.line ≡ Some passed → i < passed → z.current + t.scan + 1 + i ≢ p =
      in_no_moving g w z sh flight begun hand t names contents range h m n p o fit in
      record {
        free_is_zero = λ i below free. unwritten w.cell p v (z.current + (z.live + i)) (λ c. c ≡ 0) (λ e. free n o.is_kept (covered (z.current + (z.live + i)) e)) (h.free_is_zero i below free);
        unreserved_is_zero = λ busy x below free. unwritten w.cell p v (z.current + x) (λ c. c ≡ 0)
            (λ e. let own = in_own_range g w z sh flight begun hand t names contents range h m n p o busy x below e in free own.0 n own.1 own.2 own.3) (h.unreserved_is_zero busy x below free);
        unused_is_zero = λ rests x below free. unwritten w.cell p v (z.current + x) (λ c. c ≡ 0) (λ e. free n o.is_kept (covered (z.current + x) e)) (h.unused_is_zero rests x below free);
        cleared_is_zero = λ i below. unwritten w.cell p v (z.old + i) (λ c. c ≡ 0) (in_no_cleared g w z sh flight begun hand t names contents range h m n p o i below) (h.cleared_is_zero i below);
        ranges_linked = λ x k there fits. unwritten w.cell p v (z.current + x) (λ c. (c ≡ 0) ⊎ (c ≡ reference_at names k)) (linked x k there fits) (h.ranges_linked x k there fits);
        claims_unlinked = λ k claimed cycle offset within e.
            let r : HoldsRange z w.cycle sh.grey sh.size w.cell range claimed cycle offset = h.claims_unlinked k claimed cycle offset within e in
            record {
              some = r.some;
              of_cycle = r.of_cycle;
              is_grey = r.is_grey;
              has_range = r.has_range;
              fits = r.fits;
              unlinked = unwritten w.cell p v (z.current + offset) (λ c. c ≡ 0) (linked offset (layout.reference_number claimed) r.has_range r.fits) r.unlinked;
            };
        unlinked_waits = λ x k there fits e. h.unlinked_waits x k there fits (sym (upd_other w.cell p v (z.current + x) (linked x k there fits)) ∙ e);
        news_clean = λ s i below making within. unwritten w.cell p v (new_place g (flight s) + i) (λ c. c ≡ 0)
            (λ e. let after : w.place n < p = o.after in let before : p < w.place n + sh.size n = o.before in
            elim (h.objects_apart_from_new s n below making o.is_kept) [ inl a ↦ omega arith | inr a ↦ omega arith ]) (h.news_clean s i below making within);
        item_is_linked = λ e.
            let at : IsMoving z sh t.scan t.item range = is_moving g w z sh flight begun hand t names contents range h m fit e in
            let some = h.item_is_linked e in
            (some.0, unwritten w.cell p v (z.current + t.scan) (λ c. c ≡ t.item) (linked t.scan (layout.reference_number t.item) at.has_range at.fits) some.1);
        cells_passed = λ passed i e same below fits. unwritten w.cell p v (layout.header_place t.first + 1 + i) (λ c. IsNullOrMarked w.cycle w.mark c)
            (item passed i e same (omega arith)) (h.cells_passed passed i e same below fits);
        cells_copied = λ passed i e same below.
            let few : passed + 1 ≤ reference_size t.item = (attempt_moves g t t.line passed h.spot_formed e).1 in
            upd_other w.cell p v (z.current + t.scan + 1 + i) (moving passed i e below) ∙ h.cells_copied passed i e same below
            ∙ sym (upd_other w.cell p v (layout.header_place t.first + 1 + i) (item passed i e same (omega arith)));
        cell_loaded = λ i e same.
            let moves = loaded_moves g t t.line i h.spot_formed e in
            h.cell_loaded i e same ∙ sym (upd_other w.cell p v (layout.header_place t.first + 1 + i) (item i i moves.0 same moves.1));
      }

-- THE PLAIN HEAP

-- the number that a birth bears is its own
abbrev pub BearersNumbered : Names → Type 0
BearersNumbered names = (n b : ℕ) → names.bearer n ≡ Some b → names.number b ≡ n

module _ (g : Geometry) (w : Words) (z : Spaces) (sh : Shades) (flight : ℕ → Flight) (begun : ℕ → ℕ) (hand : ℕ → Hand) (t : Spot)
    (names : Names) (contents : Contents) (range : ℕ → Option ℕ) (h : Facts g w z sh flight begun hand t names contents range)
    (m : ShadesMean g w z sh flight t.line names) (n birth field v : ℕ) (o : WritesInside w sh n (w.place n + 1 + names.refs birth + field))
    (bears : names.bearer n ≡ Some birth) (there : field < names.nums birth) where
  -- after the write of a number cell the reference cells show what they did
  pub links_write_number : fact.LinksShown sh.kept names w.place (upd w.cell (w.place n + 1 + names.refs birth + field) v) contents.link
  links_write_number k b kept borne i below =
      let p = w.place n + 1 + names.refs birth + field in
      let size : sh.size k ≡ 1 + names.refs b + names.nums b = m.size k ∙ size_borne names k b borne in
      let differ : w.place k + 1 + i ≢ p = elim (cases_eq k n) [
        | inl e ↦
            let same : b ≡ birth = one_value (names.bearer n) b birth (ap names.bearer (sym e) ∙ borne) bears in
            let refs : names.refs b ≡ names.refs birth = ap names.refs same in
            let stands : w.place k ≡ w.place n = ap w.place e in
            λ q. omega arith
        | inr d ↦ λ q. in_no_other g w z sh flight begun hand t names contents range h m n p o k (1 + i) kept d (omega arith) (omega arith)
      ] in
      upd_other w.cell p v (w.place k + 1 + i) differ ∙ h.links_shown k b kept borne i below

  -- and the number cells show the changed value
  pub values_write : BearersNumbered names → fact.ValuesShown sh.kept names w.place (upd w.cell (w.place n + 1 + names.refs birth + field) v) (upd2 contents.value birth field v)
  values_write numbered k b kept borne i below =
      let p = w.place n + 1 + names.refs birth + field in
      let size : sh.size k ≡ 1 + names.refs b + names.nums b = m.size k ∙ size_borne names k b borne in
      let shows : w.cell (w.place k + 1 + names.refs b + i) ≡ contents.value b i = h.values_shown k b kept borne i below in
      elim (cases_eq k n) [
        | inl e ↦
            let same : b ≡ birth = one_value (names.bearer n) b birth (ap names.bearer (sym e) ∙ borne) bears in
            let refs : names.refs b ≡ names.refs birth = ap names.refs same in
            let stands : w.place k ≡ w.place n = ap w.place e in
            elim (cases_eq i field) [
              | inl f ↦
                  let here : w.place k + 1 + names.refs b + i ≡ p = omega arith in
                  ap (upd w.cell p v) here ∙ upd_same w.cell p v ∙ sym (upd2_same contents.value birth field v) ∙ sym (rw (same, f) refl)
              | inr d ↦
                  upd_other w.cell p v (w.place k + 1 + names.refs b + i) (λ q. d (omega arith)) ∙ shows ∙ sym (upd2_other contents.value birth field v b i (inr d))
            ]
        | inr d ↦
            let other : b ≢ birth = λ same. d (sym (numbered k b borne) ∙ ap names.number same ∙ numbered n birth bears) in
            upd_other w.cell p v (w.place k + 1 + names.refs b + i)
            (λ q. in_no_other g w z sh flight begun hand t names contents range h m n p o k (1 + names.refs b + i) kept d (omega arith) (omega arith))
            ∙ shows ∙ sym (upd2_other contents.value birth field v b i (inl other))
      ]

-- ALL FACTS

-- the words, and the contents of the plain heap, after a number cell was written
abbrev pub cell_words : Words → (p v : ℕ) → Words
cell_words w p v = record w { cell = upd w.cell p v }

abbrev pub value_contents : Contents → (birth field v : ℕ) → Contents
value_contents c birth field v = record c { value = upd2 c.value birth field v }

module _ (g : Geometry) (w : Words) (z : Spaces) (sh : Shades) (flight : ℕ → Flight) (begun : ℕ → ℕ) (hand : ℕ → Hand) (t : Spot)
    (names : Names) (contents : Contents) (range : ℕ → Option ℕ) (s q n birth field v : ℕ) where
  -- for a call that goes on to its next place
  pub write_number_facts : s < tasks g → GoesOn (flight s).call (flight s).place q → SameObject (flight s).call (flight s).place q
      → SameFrame (flight s).call (flight s).place q → SameClaim (flight s).call (flight s).place q → SameItem (flight s).call (flight s).place q
      → ShadesMean g w z sh flight t.line names → ShapesFit names → BearersNumbered names
      → WritesInside w sh n (w.place n + 1 + names.refs birth + field) → names.bearer n ≡ Some birth → field < names.nums birth
      → Facts g w z sh flight begun hand t names contents range
      → Facts g (cell_words w (w.place n + 1 + names.refs birth + field) v) z sh (upd flight s (moved_on (flight s) q (flight s).at)) begun hand t names
      (value_contents contents birth field v) range
  write_number_facts below goes object frame claim item m fit numbered o bears there h =
      let x = flight s in
      let y = moved_on x q x.at in
      let p = w.place n + 1 + names.refs birth + field in
      let words = cell_words w p v in
      let plain = value_contents contents birth field v in
      let counted : fact.AccessorsCounted g w.accessors (upd flight s y) = counted_kept g flight s y w.accessors (goes_is_inside x q x.at goes object) h.accessors_counted in
      let versions : fact.VersionsBounded g w.version (upd flight s y) begun = versions_kept g flight s y w.version begun (goes_before_object x q x.at goes object) h.versions_bounded in
      let frames : fact.FrameAccessorsCounted g w.frame_accessors (upd flight s y) = frames_counted_kept g flight s y w.frame_accessors below (goes_in_frame x q x.at goes frame) h.frame_accessors_counted in
      let frame_versions : fact.FrameVersionsBounded g w.frame_version (upd flight s y) begun = frame_versions_kept g flight s y w.frame_version begun (goes_before_frame x q x.at goes frame) h.frame_versions_bounded in
      let cells : CellFacts g w z sh flight hand t names range (upd w.cell p v) = cells_write g w z sh flight begun hand t names contents range h m fit n p v o in
      let links : fact.LinksShown sh.kept names w.place (upd w.cell p v) contents.link =
      links_write_number g w z sh flight begun hand t names contents range h m n birth field v o bears there in
      let values : fact.ValuesShown sh.kept names w.place (upd w.cell p v) (upd2 contents.value birth field v) =
      values_write g w z sh flight begun hand t names contents range h m n birth field v o bears there numbered in
      let clean : fact.NewsClean g (upd w.cell p v) flight = cells.news_clean in
      let between : CallsFacts g words sh t.line names plain flight = assumption in
      let known : f.in_object y ≡ true → x.at ≡ w.place (layout.reference_number x.entered) = λ i. h.place_known s below (sym (goes_in_object x q x.at goes object) ∙ i) in
      let calls : CallsFacts g words sh t.line names plain (upd flight s y) =
      calls_upd g words sh t.line names plain flight s y (goes_so x q x.at goes g words sh t.line names plain flight s below refl claim item known between) between in
      assumption

-- what many facts read of the words is the same after the write
pub shades_cell : (g : Geometry) (w : Words) (p v : ℕ) (flight : ℕ → Flight) (ln : Line) (names : Names) → shades_of g (cell_words w p v) flight ln names ≡ shades_of g w flight ln names
unfolding shades_of
shades_cell g w p v flight ln names = refl

-- PUT

module _ (x : Flight) (reg field v : ℕ) (is_put : x.call ≡ call.Put reg field v) (at_2 : x.place ≡ 2) where
  -- a Put goes on from its second place to its third
  put_goes : GoesOn x.call x.place 3
  unfolding f.register_stays_at f.is_load_at f.is_new_at
  put_goes = rw (is_put, at_2) (record {
    flying = refl;
    in_row = omega arith;
    in_step = λ full raised h. h;
    register_stays = refl;
    is_load = refl;
    will_raise = refl;
    raised_before = refl;
    raised = refl;
    making = refl;
    numbered_before = refl;
    numbered = refl;
  })

  put_object : SameObject x.call x.place 3
  unfolding f.in_object_at f.before_object_at
  put_object = rw (is_put, at_2) (record { inside = refl; before = refl })

  put_frame : SameFrame x.call x.place 3
  unfolding f.in_frame_at f.before_frame_at
  put_frame = rw (is_put, at_2) (record { inside = refl; before = refl })

  put_claim : SameClaim x.call x.place 3
  unfolding f.is_load_at f.has_cycle_inside_at f.has_claimed_at f.reserves_at f.links_at
  put_claim = rw (is_put, at_2) (record { has_cycle_in_frame = λ h. h; has_cycle = λ b h. h; has_claimed = λ h. h; reserves = refl; links = refl })

  put_item : SameItem x.call x.place 3
  unfolding f.has_item_at f.is_load_at f.holds_back_at
  put_item = rw (is_put, at_2) (record { has_item = refl; has_loaded = refl; has_loaded_inside = λ h. h; has_written = refl; holds_back = λ r. refl })

  put_inside : f.is_inside x (object_of x) ≡ true
  unfolding f.is_inside f.in_object f.in_object_at
  put_inside = rw (is_put, at_2) (eq-eqb (object_of x) (object_of x) refl)

  put_field : has_field x.call x.entered ≡ true → field < layout.reference_nums x.entered
  put_field e = ltb-true field (layout.reference_nums x.entered) (rw is_put at e)

-- all facts hold after a Put has written its cell, for the plain heap after the Put
pub put_writes : (g : Geometry) (w : Words) (flight : ℕ → Flight) (begun : ℕ → ℕ) (t : Spot) (names : Names) (contents : Contents) (range : ℕ → Option ℕ) (s reg field v : ℕ)
    → s < tasks g → (flight s).call ≡ call.Put reg field v → (flight s).place ≡ 2 → ShapesFit names → BearersNumbered names
    → (k : Knows w (shades_of g w flight t.line names) names contents.register s reg (flight s)) → FactsOf g w flight begun t names contents range
    → FactsOf g (cell_words w (number_cell (flight s) field) v) (upd flight s (moved_on (flight s) 3 (flight s).at)) begun t names
    (value_contents contents k.birth field v) range
put_writes g w flight begun t names contents range s reg field v below is_put at_2 fit numbered k h =
    let x = flight s in
    let y = moved_on x 3 x.at in
    let n = object_of x in
    let z = spaces_of g w.cycle in
    let sh = shades_of g w flight t.line names in
    let p = w.place n + 1 + names.refs k.birth + field in
    let goes = put_goes x reg field v is_put at_2 in
    let claim = put_claim x reg field v is_put at_2 in
    let m = shades_mean g w flight t.line names in
    let there : field < names.nums k.birth = let nums = k.nums in let field_there = put_field x reg field v is_put at_2 (h.fields_there s below goes.flying) in omega arith in
    let size : sh.size n ≡ 1 + names.refs k.birth + names.nums k.birth = m.size n ∙ size_borne names n k.birth k.bears in
    let o : WritesInside w sh n p = record {
      is_kept = k.is_kept;
      after = omega arith;
      before = omega arith;
      inside = some_in_object g w.accessors flight s n below (m.kept n k.is_kept).within (put_inside x reg field v is_put at_2) h.accessors_counted;
    } in
    let stands : x.at ≡ w.place n = k.stands in
    let refs : layout.reference_refs x.entered ≡ names.refs k.birth = k.refs in
    let place : number_cell x field ≡ p = omega arith in
    let hands : hands_of g (upd flight s y) t ≡ hands_of g flight t = hands_upd g t flight s y (goes_hand x 3 x.at goes g claim) in
    let shades : shades_of g (cell_words w p v) (upd flight s y) t.line names ≡ shades_of g (cell_words w p v) flight t.line names =
    shades_upd g (cell_words w p v) t.line names flight s y (goes_without_number x 3 x.at goes) ((goes_making_nothing x 3 x.at goes).no_number) in
    rw place (rw (hands, shades, shades_cell g w p v flight t.line names)
    (write_number_facts g w z sh flight begun (hands_of g flight t) t names contents range s 3 n k.birth field v below goes (put_object x reg field v is_put at_2)
    (put_frame x reg field v is_put at_2) claim (put_item x reg field v is_put at_2) m fit numbered o k.bears there h))

-- what such a Put knows of its object
pub put_knows : (g : Geometry) (w : Words) (flight : ℕ → Flight) (t : Spot) (names : Names) (plain : ℕ → ℕ → Option ℕ) (s reg field v : ℕ)
    → FlightFacts g w (shades_of g w flight t.line names) names plain s (flight s) → ShapesFit names
    → (flight s).call ≡ call.Put reg field v → (flight s).place ≡ 2 → IsNullOrKept (shades_of g w flight t.line names).kept names (plain s reg)
    → Knows w (shades_of g w flight t.line names) names plain s reg (flight s)
unfolding f.is_through f.in_object f.in_object_at f.register_stays f.register_stays_at f.holds_back f.holds_back_at
put_knows g w flight t names plain s reg field v o fit is_put at_2 kept =
    let x = flight s in
    let goes = put_goes x reg field v is_put at_2 in
    let registers : RegistersFit g.registers (call.Put reg field v) = rw is_put at (o.formed.registers goes.flying) in
    object_known g w (shades_of g w flight t.line names) (held_by g flight) t.line names plain s reg x (kept_means g w flight t.line names) o fit
    (rw is_put refl) goes.flying (rw (is_put, at_2) refl) (rw (is_put, at_2) refl) (rw is_put refl) (rw is_put refl) registers kept

-- THE HISTORY

-- the number that a birth bears is its own
pub bearers_numbered : (g : Geometry) (history : History) → BearersNumbered (names_of g history)
unfolding names_of
bearers_numbered g history n b e = ((bearer_is_last history n b).0 e).1

-- the entry of a Put
abbrev pub put_entry : (seat reg field v : ℕ) → Entry
put_entry seat reg field v = record { seat = seat; call = call.Put reg field v; reply = Done; number = 0 }

module _ (g : Geometry) (history : History) (seat reg field v birth : ℕ) (in_register : (contents_of g history).register seat reg ≡ Some birth)
    (within : field < (names_of g history).nums birth) where
  -- the view of the plain heap after the Put
  view-put : view_of (after (heap.opening_of g) (history ++ put_entry seat reg field v ∷ []))
      ≡ record (view_of (after (heap.opening_of g) history)) { value = upd2 (heap.value (after (heap.opening_of g) history)) birth field v }
  unfolding after_entry contents_of names_of heap.opening_of
  view-put =
      ap view_of (after-push (heap.opening_of g) history (put_entry seat reg field v))
      ∙ view_of-put (tasks g) g.registers (after (heap.opening_of g) history) seat reg field v birth
      (IsHeap-after (tasks g) g.registers (heap.opening_of g) history (IsHeap-opening (tasks g) g.registers g.board (omega arith))) in_register within

  -- a Put leaves the births as they are
  pub names-put : names_of g (history ++ put_entry seat reg field v ∷ []) ≡ names_of g history
  unfolding names_of view_of
  names-put = λ i. record {
    bearer = bearer-push_other history (put_entry seat reg field v) refl i;
    number = number_of-push_other history (put_entry seat reg field v) refl i;
    refs = (view-put i).refs;
    nums = (view-put i).nums;
  }

  -- and changes one value
  pub contents-put : contents_of g (history ++ put_entry seat reg field v ∷ []) ≡ value_contents (contents_of g history) birth field v
  unfolding contents_of view_of
  contents-put = λ i. record { register = (view-put i).register; link = (view-put i).link; value = (view-put i).value }

  -- its entry is legal
  pub legal-put : Legal (heap.opening_of g) history → Legal (heap.opening_of g) (history ++ put_entry seat reg field v ∷ [])
  unfolding contents_of names_of
  legal-put legal =
      let answer : Done ≡ _ = sym (reply_of-put (after (heap.opening_of g) history) seat reg field v birth in_register within) in
      Legal-push (heap.opening_of g) history (put_entry seat reg field v) legal (refl, inl (answer, (λ e. absurd (cc)), (λ e. absurd (cc))))
