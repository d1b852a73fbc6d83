-- What a call inside an object knows of it: its words are in the spaces, and so is each cell.
use Rattle.std.proofs.Common.{◌≡◌, ℕ, zero, suc, ◌+◌, ◌*◌, ◌^◌, ◌<◌, ◌≤◌, true, inl, inr, refl, arith, Option, Some, None}
use Rattle.std.specs.Prelude.{slice_get, unwrap_or, option_map, nat_le, ◌&&◌}
use Rattle.std.proofs.lemmas.Bool.Decides.{nat_tests}
use Rattle.hk_words.specs.declared.geometry.Geometry.{Geometry}
use Rattle.hk_words.specs.declared.call.Call.{Call}
use Rattle.hk_words.specs.declared.call.Call.TheVariants as call
use Rattle.hk_words.specs.Geometry.{tasks, numbers, space_words}
use Rattle.hk_words.specs.Layout as layout
use Rattle.hk_words.specs.Row.{place_at}
use Rattle.hk_model.specs.Heap as heap
use Rattle.hk_model.specs.Heap.{Heap, Object, of_object}
use Rattle.hk_model.specs.History.{History, after}
use Rattle.hk_core.specs.declared.flight.Flight.{Flight}
use Rattle.hk_core.specs.declared.spot.Spot.{Spot}
use Rattle.hk_core.specs.declared.spot.Line.{Line}
use Rattle.hk_core.specs.Collect.{current_space, old_space}
use Rattle.hk_core.specs.Step.{number_cell, reference_cell, reference_size}
use Rattle.hk_core.specs.View.{Words, Names, Contents, names_of, refs_at, nums_at, size_at, reference_at}
use Rattle.hk_core.specs.Flights as f
use Rattle.hk_core.specs.Colours.{shades_of, IsGood}
use Rattle.hk_core.specs.Lawful.{FactsOf}
use Rattle.hk_core.proofs.kinds.Seats.{kept_means}
use Rattle.hk_core.proofs.kinds.Enter.{object_of}
use Rattle.hk_core.proofs.kinds.Read.{ShapesFit}
use Rattle.hk_core.proofs.kinds.WriteCell.{shades_mean}

-- SHAPES

-- what is read of an object is small where it is small for each object
of_object_small : (read : Object → ℕ) (bound : ℕ) (h : Heap) (birth : ℕ) → 0 < bound → ((o : Object) → read o < bound) → of_object 0 read h birth < bound
unfolding of_object
of_object_small read bound h birth some small = each (slice_get h.objects birth)
  where
    each : (o : Option Object) → unwrap_or (option_map read o) 0 < bound
    each None = some
    each (Some o) = small o

-- each birth of a history has a shape whose parts a reference can hold
pub shapes_fit : (g : Geometry) (history : History) → ShapesFit (names_of g history)
unfolding names_of heap.refs heap.nums
shapes_fit g history b =
    let h = after (heap.opening_of g) history in (
      of_object_small (λ o. o.shape.refs) (2 ^ 8) h b (omega arith) (λ o. let few = o.shape.few in omega arith),
      of_object_small (λ o. o.shape.nums) (2 ^ 8) h b (omega arith) (λ o. let few = o.shape.few in omega arith),
    )

pub refs_small : (names : Names) (n : ℕ) → ShapesFit names → refs_at names n < 2 ^ 8
unfolding refs_at
refs_small names n fit = each (names.bearer n)
  where
    each : (o : Option ℕ) → unwrap_or (option_map names.refs o) 0 < 2 ^ 8
    each None = omega arith
    each (Some b) = (fit b).0

pub nums_small : (names : Names) (n : ℕ) → ShapesFit names → nums_at names n < 2 ^ 8
unfolding nums_at
nums_small names n fit = each (names.bearer n)
  where
    each : (o : Option ℕ) → unwrap_or (option_map names.nums o) 0 < 2 ^ 8
    each None = omega arith
    each (Some b) = (fit b).1

-- GOOD REFERENCES

-- what a good reference says: a number of the geometry, and the words of its object
pub record IsSound (g : Geometry) (names : Names) (word : ℕ) : Type 0 where
  pub some : layout.NamesObject word
  pub within : layout.reference_number word < numbers g
  pub refs : layout.reference_refs word ≡ refs_at names (layout.reference_number word)
  pub nums : layout.reference_nums word ≡ nums_at names (layout.reference_number word)

shown_sound : (n refs nums word : ℕ) → n + 1 < 2 ^ 20 → refs < 2 ^ 8 → nums < 2 ^ 8 → word ≡ layout.pack_reference n refs nums
    → layout.NamesObject word × (layout.reference_refs word ≡ refs) × (layout.reference_nums word ≡ nums)
shown_sound n refs nums word a b d e = (rw e (λ x. absurd (omega arith)), rw e (omega arith), rw e (omega arith))

pub good_sound : (g : Geometry) (w : Words) (flight : ℕ → Flight) (ln : Line) (names : Names) (word : ℕ) → ShapesFit names
    → IsGood (shades_of g w flight ln names).kept names word → IsSound g names word
unfolding reference_at
good_sound g w flight ln names word fit good =
    let n = layout.reference_number word in
    let within : n < numbers g = (kept_means g w flight ln names n good.is_kept).within in
    let few : n + 1 < 2 ^ 20 = omega arith in
    let parts = shown_sound n (refs_at names n) (nums_at names n) word few (refs_small names n fit) (nums_small names n fit) good.shows in
    record { some = parts.0; within = within; refs = parts.1; nums = parts.2 }

-- CELLS

-- a call inside an object goes through one, and is in flight
pub inside_through : (x : Flight) → f.in_object x ≡ true → (f.is_through x.call ≡ true) × (f.is_flying x ≡ true)
unfolding f.in_object f.in_object_at f.is_through
inside_through x h = each x.call x.place h
  where
    later : (a b p : ℕ) → 1 ≤ a → (nat_le a p && nat_le p b) ≡ true → nat_le 1 p ≡ true
    later a b p some h = grind (arith, nat_tests)

    each : (call : Call) (p : ℕ) → f.in_object_at call p ≡ true → (f.is_through call ≡ true) × (nat_le 1 p ≡ true)
    each (call.Get reg field) p h = (refl, later 2 3 p (omega arith) h)
    each (call.Put reg field value) p h = (refl, later 2 3 p (omega arith) h)
    each (call.Load dest reg field) p h = (refl, later 3 9 p (omega arith) h)
    each (call.Store reg field from) p h = (refl, later 2 7 p (omega arith) h)
    each (call.Move dest from) p h = absurd (cc)
    each (call.Clear dest) p h = absurd (cc)
    each (call.New dest shape) p h = absurd (cc)
    each (call.Same a b) p h = absurd (cc)
    each (call.IsNull reg) p h = absurd (cc)

-- a place is one of the spaces
pub record LiesInSpaces (g : Geometry) (p : ℕ) : Type 0 where
  pub some : 0 < p
  pub within : p ≤ 2 * space_words g

-- a word of an object in one of the two spaces
in_spaces : (g : Geometry) (space place size k : ℕ) → space < 2 → place_at g space 0 ≤ place → place + size ≤ place_at g space 0 + (g.live + g.alloc) → k < size
    → LiesInSpaces g (place + k)
in_spaces g zero place size k two after before less = record { some = omega arith; within = omega arith }
in_spaces g (suc zero) place size k two after before less = record { some = omega arith; within = omega arith }
in_spaces g (suc (suc n)) place size k two after before less = absurd (omega arith)

module _ (g : Geometry) (w : Words) (flight : ℕ → Flight) (begun : ℕ → ℕ) (t : Spot) (names : Names) (contents : Contents) (range : ℕ → Option ℕ)
    (h : FactsOf g w flight begun t names contents range) (fit : ShapesFit names) (s : ℕ) (below : s < tasks g) (inside : f.in_object (flight s) ≡ true) where
  -- the reference that the call went through is sound
  pub entered_sound : IsSound g names (flight s).entered
  entered_sound = let p = inside_through (flight s) inside in good_sound g w flight t.line names (flight s).entered fit (h.entered_good s below p.0 p.1)

  -- each word of the object is one of the spaces
  pub word_in_spaces : (k : ℕ) → k < reference_size (flight s).entered → LiesInSpaces g ((flight s).at + k)
  unfolding size_at
  word_in_spaces k less =
      let n = object_of (flight s) in
      let m = shades_mean g w flight t.line names in
      let p = inside_through (flight s) inside in
      let kept = (h.entered_good s below p.0 p.1).is_kept in
      let refs : layout.reference_refs (flight s).entered ≡ refs_at names n = entered_sound.refs in
      let nums : layout.reference_nums (flight s).entered ≡ nums_at names n = entered_sound.nums in
      let size : (shades_of g w flight t.line names).size n ≡ 1 + refs_at names n + nums_at names n = m.size n in
      let stands : (flight s).at ≡ w.place n = h.place_known s below inside in
      let less' : k < (shades_of g w flight t.line names).size n = omega arith in
      rw stands (elim (h.objects_in_one_space n kept) [
        | inl o ↦ in_spaces g (old_space w.cycle) (w.place n) _ k (omega arith) o.after o.before less'
        | inr o ↦ in_spaces g (current_space w.cycle) (w.place n) _ k (omega arith) o.after o.before less'
      ])

  -- so is the cell of a number field, and that of a reference field
  pub number_in_spaces : (field : ℕ) → field < layout.reference_nums (flight s).entered → LiesInSpaces g (number_cell (flight s) field)
  number_in_spaces field there =
      let x = flight s in
      let k = 1 + layout.reference_refs x.entered + field in
      let same : x.at + k ≡ number_cell x field = omega arith in
      rw same at (word_in_spaces k (omega arith))

  pub reference_in_spaces : (field : ℕ) → field < layout.reference_refs (flight s).entered → LiesInSpaces g (reference_cell (flight s) field)
  reference_in_spaces field there =
      let x = flight s in
      let same : x.at + (1 + field) ≡ reference_cell x field = omega arith in
      rw same at (word_in_spaces (1 + field) (omega arith))
