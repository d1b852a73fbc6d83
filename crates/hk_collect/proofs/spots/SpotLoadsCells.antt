-- The collector loads the header and the cells of the object that is moved, and loses an exchange of the header. A cell is
-- good also where the header isn't the loaded one any more: the object is kept, and stands where the loaded header says.
use Rattle.std.proofs.Common.{◌≡◌, ◌≢◌, ℕ, ◌+◌, ◌*◌, ◌<◌, ◌≤◌, Bool, true, false, inl, inr, refl, sym, ◌∙◌, ap, arith, Option, Some}
use Rattle.std.proofs.lemmas.Bool.{cases_Bool, eqb-true, eqb-false, ltb-true, ltb-false, lt-ltb, and_parts, and_from, not_from_false}
use Rattle.std.specs.Prelude.{nat_eq, nat_lt, not, ◌&&◌, if◌then◌else◌}
use Rattle.hk_words.specs.declared.geometry.Geometry.{Geometry}
use Rattle.hk_words.specs.Layout as layout
use Rattle.hk_core.specs.declared.flight.Flight.{Flight}
use Rattle.hk_core.specs.declared.spot.Spot.{Spot}
use Rattle.hk_core.specs.declared.spot.Line.TheVariants as line
use Rattle.hk_core.specs.declared.spot.Stage.TheVariants as stage
use Rattle.hk_core.specs.Collect.{spot_took, took_at_line, look_took, cell_took, object_trade_took, moved_number, moved_from, is_reference}
use Rattle.hk_core.specs.Step.{reference_size}
use Rattle.hk_core.specs.View.{Words, Names, Contents, shown, refs_at, size_at, reference_at}
use Rattle.hk_core.specs.Lines as l
use Rattle.hk_core.specs.Colours.{Spaces, spaces_of, Shades, shades_of, held_by, IsGood, IsNullOrGood, IsNullOrKept}
use Rattle.hk_core.specs.Facts.{ObjectBehind}
use Rattle.hk_core.specs.Lawful.{FactsOf}
use Rattle.hk_core.proofs.kinds.Seats.{kept_means}
use Rattle.hk_core.proofs.kinds.Read.{ShapesFit}
use Rattle.hk_core.proofs.kinds.LoadRead.{shown_good}
use Rattle.hk_core.proofs.kinds.WriteCell.{reference_parts, size_of_reference}
use Rattle.hk_core.proofs.kinds.ReserveSeats.{BearersHaveFields, two_words}
use Rattle.hk_collect.proofs.spots.SpotLines.{AtItem, InObject, AtCell, AtObjectTrade, at_look, at_cell, at_object_trade, look_works, cell_works}
use Rattle.hk_collect.proofs.spots.SpotLoads.{work_at, goes_on, took_at}
use Rattle.hk_core.proofs.Shared.{never, never_some, refuted}
use Rattle.hk_collect.proofs.Small.{a_birth, refs_borne}

-- THE OBJECT THAT IS MOVED

-- its number is kept, and its reference has the shape of the birth that bears the number
pub record IsItem (sh : Shades) (names : Names) (item : ℕ) : Type 0 where
  pub is_kept : sh.kept (layout.reference_number item) ≡ true
  pub refs : layout.reference_refs item ≡ refs_at names (layout.reference_number item)
  pub size : reference_size item ≡ size_at names (layout.reference_number item)

module _ (g : Geometry) (w : Words) (flight : ℕ → Flight) (begun : ℕ → ℕ) (t : Spot) (names : Names) (contents : Contents) (range : ℕ → Option ℕ)
    (h : FactsOf g w flight begun t names contents range) (fit : ShapesFit names) (o : AtItem g w (spaces_of g w.cycle) (shades_of g w flight t.line names) t range) where
  pub item_known : IsItem (shades_of g w flight t.line names) names t.item
  item_known =
      let sh = shades_of g w flight t.line names in
      let found = o.at_range.found in
      let k = found.0 in
      let kept : sh.kept k ≡ true = (h.ranges_above_grey t.scan k found.1 (omega arith)).0 in
      let shows : t.item ≡ reference_at names k = elim (h.ranges_linked t.scan k found.1 found.2) [
        | inl unlinked ↦ absurd (o.some (sym o.linked ∙ unlinked))
        | inr linked ↦ sym o.linked ∙ linked
      ] in
      let parts = reference_parts g names k t.item (kept_means g w flight t.line names k kept).within fit shows in
      record {
        is_kept = ap sh.kept parts.0 ∙ kept;
        refs = parts.1 ∙ ap (refs_at names) (sym parts.0);
        size = size_of_reference names k t.item parts.1 parts.2 ∙ ap (size_at names) (sym parts.0);
      }

  -- it has a cell
  pub item_has_cell : BearersHaveFields names → 2 ≤ reference_size t.item
  item_has_cell fields =
      let known : IsItem (shades_of g w flight t.line names) names t.item = item_known in
      let n = layout.reference_number t.item in
      let two : 2 ≤ size_at names n = two_words names n fields (kept_means g w flight t.line names n known.is_kept).is_born in
      let size : reference_size t.item ≡ size_at names n = known.size in
      omega arith

  -- a reference cell of it, at the place that a header of it says, is null or good
  pub item_cell_good : (place i : ℕ) → place ≡ w.place (layout.reference_number t.item) → i < layout.reference_refs t.item
      → IsNullOrGood (shades_of g w flight t.line names).kept names (w.cell (place + 1 + i))
  item_cell_good place i placed below =
      let sh = shades_of g w flight t.line names in
      let known : IsItem sh names t.item = item_known in
      let n = layout.reference_number t.item in
      let k = kept_means g w flight t.line names n known.is_kept in
      let birth : (b : ℕ) × (names.bearer n ≡ Some b) = a_birth (names.bearer n) k.is_born in
      let b = birth.0 in
      let refs : layout.reference_refs t.item ≡ names.refs b = known.refs ∙ refs_borne names n b birth.1 in
      let within : i < names.refs b = omega arith in
      let shows : w.cell (place + 1 + i) ≡ shown names (contents.link b i) = ap (λ p. w.cell (p + 1 + i)) placed ∙ h.links_shown n b known.is_kept birth.1 i within in
      let bears : IsNullOrKept sh.kept names (contents.link b i) = h.links_kept n b known.is_kept birth.1 i within in
      shown_good g w (held_by g flight) t.line names sh (kept_means g w flight t.line names) (contents.link b i) (w.cell (place + 1 + i)) bears shows

-- what is known of the object stays so of another spot with the same item, scan offset and loaded header
same_item : (g : Geometry) (w : Words) (z : Spaces) (sh : Shades) (t other : Spot) (range : ℕ → Option ℕ) → other.item ≡ t.item → other.scan ≡ t.scan
    → AtItem g w z sh t range → AtItem g w z sh other range
same_item g w z sh t other range item scan o = record {
  at_range = record { all_black = o.at_range.all_black; found = rw scan o.at_range.found };
  some = rw item o.some;
  linked = rw (item, scan) o.linked;
}

same_object : (g : Geometry) (w : Words) (z : Spaces) (sh : Shades) (t other : Spot) (range : ℕ → Option ℕ) (gone : ℕ) → other.item ≡ t.item → other.scan ≡ t.scan
    → other.first ≡ t.first → InObject g w z sh t range gone → InObject g w z sh other range gone
same_object g w z sh t other range gone item scan first o = record {
  at_item = same_item g w z sh t other range item scan o.at_item;
  behind = rw (item, first) o.behind;
  passed = rw (item, first) o.passed;
  copied = rw (item, scan, first) o.copied;
}

-- THE HEADER

module _ (g : Geometry) (w : Words) (flight : ℕ → Flight) (begun : ℕ → ℕ) (t : Spot) (names : Names) (contents : Contents) (range : ℕ → Option ℕ) where
  -- an attempt begins where nobody is inside the object
  pub look_loads : (old : ℕ) → t.line ≡ line.Look → layout.header_accessors old ≡ w.accessors (moved_number t) → layout.header_place old ≡ w.place (moved_number t)
      → layout.header_version old ≡ w.version (moved_number t) → ShapesFit names → BearersHaveFields names → FactsOf g w flight begun t names contents range
      → FactsOf g w flight begun (spot_took g t old) names contents range
  unfolding took_at_line look_took l.is_marking l.hand_at_line l.hand_at l.is_in_work l.written_at l.loaded_at l.stage_rank
  look_loads old at accessors place version fit fields h = rw (took_at g t line.Look old at) (by_test (nat_lt 0 (layout.header_accessors old)) refl)
    where
      by_test : (busy : Bool) → nat_lt 0 (layout.header_accessors old) ≡ busy
          → FactsOf g w flight begun (if busy then t else record t { line = line.Cell 0 stage.Read; first = old; spent = 1 }) names contents range
      by_test true busy = h
      by_test false free =
          let z = spaces_of g w.cycle in
          let sh = shades_of g w flight t.line names in
          let other : Spot = record t { line = line.Cell 0 stage.Read; first = old; spent = 1 } in
          let o : AtItem g w z sh t range = at_look g w z sh flight t names range (work_at g w flight begun t names contents range line.Look at h) in
          let two : 2 ≤ reference_size t.item = item_has_cell g w flight begun t names contents range h fit o fields in
          let nobody : layout.header_accessors old ≡ 0 = let few = ltb-false 0 (layout.header_accessors old) free in omega arith in
          let behind : ObjectBehind old w.accessors w.place w.version (moved_number t) = record {
            nobody = nobody;
            placed = place;
            behind = omega arith;
            same_accessors = λ same. sym accessors ∙ nobody;
          } in
          goes_on g w flight begun t names contents range line.Look at h other
          (record { from = record { marking = refl; no_hand = refl }; to = record { marking = refl; no_hand = refl }; cycle = refl; scan = refl; entries = refl })
          (cell_works g w z sh flight other names range 0 stage.Read (record {
            in_object = record {
              at_item = same_item g w z sh t other range refl refl o;
              behind = behind;
              passed = λ i same below. absurd (omega arith);
              copied = λ i same below. absurd (omega arith);
            };
            cell = omega arith;
            staged = tt;
            good = λ e. never e;
            claimed = λ j e. never_some e;
            loaded = λ j e. never_some e;
            spent = omega arith;
          }))

  -- the exchange finds another header: the attempt is lost
  pub object_trade_lost : (old : ℕ) → t.line ≡ line.ObjectTrade → old ≢ t.first → FactsOf g w flight begun t names contents range
      → FactsOf g w flight begun (spot_took g t old) names contents range
  unfolding took_at_line object_trade_took l.is_marking l.hand_at_line
  object_trade_lost old at differs h = rw (took_at g t line.ObjectTrade old at) (by_test (nat_eq old t.first) refl)
    where
      by_test : (found : Bool) → nat_eq old t.first ≡ found
          → FactsOf g w flight begun (if found then record t { line = line.Scan; scan = t.scan + reference_size t.item } else record t { line = line.Look }) names contents range
      by_test true found = absurd (differs (eqb-true old t.first found))
      by_test false lost =
          let z = spaces_of g w.cycle in
          let sh = shades_of g w flight t.line names in
          let other : Spot = record t { line = line.Look } in
          let o : AtObjectTrade g w z sh t range = at_object_trade g w z sh flight t names range (work_at g w flight begun t names contents range line.ObjectTrade at h) in
          goes_on g w flight begun t names contents range line.ObjectTrade at h other
          (record { from = record { marking = refl; no_hand = refl }; to = record { marking = refl; no_hand = refl }; cycle = refl; scan = refl; entries = refl })
          (look_works g w z sh flight other names range (same_item g w z sh t other range refl refl o.in_object.at_item))

-- THE CELLS

-- what it says of a cell that its word is a reference, or isn't
reference_parts_of : (index refs word : ℕ) → (nat_lt index refs && not (nat_eq word 0)) ≡ true → (index < refs) × (word ≢ 0)
reference_parts_of index refs word e =
    let p = and_parts (nat_lt index refs) (not (nat_eq word 0)) e in
    (ltb-true index refs p.0, eqb-false word 0 (not_true (nat_eq word 0) p.1))
  where
    not_true : (b : Bool) → not b ≡ true → b ≡ false
    not_true true e = absurd (cc)
    not_true false e = refl

null_unless : (index refs word : ℕ) → (nat_lt index refs && not (nat_eq word 0)) ≡ false → index < refs → word ≡ 0
null_unless index refs word e below = elim (cases_Bool (nat_eq word 0)) [
  | inl null ↦ eqb-true word 0 null
  | inr some ↦ refuted _ e (and_from _ _ (lt-ltb index refs below) (not_from_false (nat_eq word 0) some))
]

module _ (g : Geometry) (w : Words) (flight : ℕ → Flight) (begun : ℕ → ℕ) (t : Spot) (names : Names) (contents : Contents) (range : ℕ → Option ℕ)
    (i : ℕ) (at : t.line ≡ line.Cell i stage.Read) (fit : ShapesFit names) (h : FactsOf g w flight begun t names contents range) where
  -- a cell is loaded: a reference is dealt with, and another word is written next
  pub cell_loads : FactsOf g w flight begun (spot_took g t (w.cell (moved_from t + 1 + i))) names contents range
  unfolding took_at_line cell_took l.is_marking l.hand_at_line l.hand_at l.is_in_work l.written_at l.loaded_at l.stage_rank
  cell_loads = rw (took_at g t (line.Cell i stage.Read) (w.cell (moved_from t + 1 + i)) at) (by_test (is_reference t i (w.cell (moved_from t + 1 + i))) refl)
    where
      o : AtCell g w (spaces_of g w.cycle) (shades_of g w flight t.line names) t names range i stage.Read
      o = at_cell g w (spaces_of g w.cycle) (shades_of g w flight t.line names) flight t names range i stage.Read
          (work_at g w flight begun t names contents range (line.Cell i stage.Read) at h)

      by_test : (reference : Bool) → is_reference t i (w.cell (moved_from t + 1 + i)) ≡ reference
          → FactsOf g w flight begun (record t { line = line.Cell i (if reference then stage.Claim else stage.Write); cell = w.cell (moved_from t + 1 + i); spent = t.spent + 1 }) names contents range
      by_test true is =
          let z = spaces_of g w.cycle in
          let sh = shades_of g w flight t.line names in
          let word = w.cell (moved_from t + 1 + i) in
          let other : Spot = record t { line = line.Cell i stage.Claim; cell = w.cell (moved_from t + 1 + i); spent = t.spent + 1 } in
          let spent : t.spent ≤ 1 + 5 * i + 0 = o.spent in
          let parts = reference_parts_of i (layout.reference_refs t.item) word is in
          let good : IsGood sh.kept names word = elim (item_cell_good g w flight begun t names contents range h fit o.in_object.at_item (moved_from t) i o.in_object.behind.placed parts.0) [
            | inl null ↦ absurd (parts.1 null)
            | inr good ↦ good
          ] in
          goes_on g w flight begun t names contents range (line.Cell i stage.Read) at h other
          (record { from = record { marking = refl; no_hand = refl }; to = record { marking = refl; no_hand = refl }; cycle = refl; scan = refl; entries = refl })
          (cell_works g w z sh flight other names range i stage.Claim (record {
            in_object = same_object g w z sh t other range i refl refl refl o.in_object;
            cell = o.cell;
            staged = tt;
            good = λ e. good;
            claimed = λ j e. never_some e;
            loaded = λ j e same. let here : i ≡ j = cc in ap (λ j. w.cell (moved_from t + 1 + j)) here;
            spent = omega arith;
          }))
      by_test false other_word =
          let z = spaces_of g w.cycle in
          let sh = shades_of g w flight t.line names in
          let word = w.cell (moved_from t + 1 + i) in
          let other : Spot = record t { line = line.Cell i stage.Write; cell = w.cell (moved_from t + 1 + i); spent = t.spent + 1 } in
          let spent : t.spent ≤ 1 + 5 * i + 0 = o.spent in
          goes_on g w flight begun t names contents range (line.Cell i stage.Read) at h other
          (record { from = record { marking = refl; no_hand = refl }; to = record { marking = refl; no_hand = refl }; cycle = refl; scan = refl; entries = refl })
          (cell_works g w z sh flight other names range i stage.Write (record {
            in_object = same_object g w z sh t other range i refl refl refl o.in_object;
            cell = o.cell;
            staged = tt;
            good = λ e. never e;
            claimed = λ j e below. let here : i ≡ j = cc in inl (null_unless i (layout.reference_refs t.item) word other_word (omega arith));
            loaded = λ j e same. let here : i ≡ j = cc in ap (λ j. w.cell (moved_from t + 1 + j)) here;
            spent = omega arith;
          }))
