-- What the words of a row say after the events of a New, and that these events fit.
use Rattle.std.proofs.Common.{◌≡◌, ℕ, zero, suc, ◌+◌, ◌*◌, ◌^◌, ◌<◌, ◌≤◌, true, List, length, refl, ◌∙◌, ap, arith}
use Rattle.hk_words.specs.declared.geometry.Geometry.{Geometry}
use Rattle.hk_words.specs.declared.shape.Shape.{Shape}
use Rattle.hk_words.specs.Geometry.{tasks, numbers, space_words, row_length}
use Rattle.hk_words.specs.Shape.{size}
use Rattle.hk_words.specs.Layout.{raise_by, pack_header, words_bits, objects_bits, place_bits}
use Rattle.hk_words.specs.Row.{word_of, w0_at, header_at, place_at}
use Rattle.hk_words.specs.Row.Slot.{W0, Header}
use Rattle.hk_model.specs.View.{upd}
use Rattle.hk_core.specs.declared.flight.Flight.{Flight}
use Rattle.hk_core.specs.declared.event.Event.TheVariants as event
use Rattle.hk_core.specs.Event.{fired}
use Rattle.hk_core.specs.Counts.{count_below}
use Rattle.hk_core.specs.Step.{new_place, side_of}
use Rattle.hk_core.specs.Flights as f
use Rattle.hk_core.specs.Facts as fact
use Rattle.hk_core.specs.View.{Words, words_of, raw, decoded}
use Rattle.hk_core.proofs.Counts.{count_some}
use Rattle.hk_core.proofs.Columns.{fired_at, raw-w0, raw-header, raw_w0}
use Rattle.hk_core.proofs.Encode.{decoded-raise, decoded-new_header}
use Rattle.hk_core.proofs.kinds.NewRaise.{raised_words}

-- the words after a New has given a number a header
abbrev pub headed_words : Words → (n place : ℕ) → Words
headed_words w n place = record w { accessors = upd w.accessors n 0; place = upd w.place n place; version = upd w.version n 0 }

module _ (g : Geometry) (row : List ℕ) (whole : length row ≡ row_length g) where
  pub words-raise : (q : ℕ) → (words_of g row).used + q < 2 ^ words_bits → (words_of g row).objects + 1 < 2 ^ objects_bits
      → words_of g (fired row (event.Add (w0_at g) (raise_by q))) ≡ raised_words (words_of g row) q
  unfolding words_of decoded
  words-raise q words objects =
      ap (λ (r : List ℕ). decoded (raw g r)) (fired_at g row (event.Add (w0_at g) (raise_by q)) W0 refl)
      ∙ ap decoded (raw-w0 g row (word_of g row W0 + raise_by q) whole)
      ∙ rw (← raw_w0 g row) (decoded-raise (raw g row) q words objects)

  pub words-new_header : (n place : ℕ) → n < numbers g → place < 2 ^ place_bits
      → words_of g (fired row (event.Write (header_at g n) (pack_header 0 place 0))) ≡ headed_words (words_of g row) n place
  unfolding words_of
  words-new_header n place fits few =
      ap (λ (r : List ℕ). decoded (raw g r)) (fired_at g row (event.Write (header_at g n) (pack_header 0 place 0)) (Header n) refl)
      ∙ ap decoded (raw-header g row n (pack_header 0 place 0) fits whole)
      ∙ decoded-new_header (raw g row) n place few

-- the words used and the objects made stay within their fields, where a New raises W0
pub used_fits : (g : Geometry) (used : ℕ) (flight : ℕ → Flight) (s : ℕ) (shape : Shape) → s < tasks g → f.will_raise (flight s) ≡ true
    → fact.UsedStaysBounded g used flight → used + size shape < 2 ^ words_bits
used_fits g used flight s shape below raises h =
    let some : 0 < count_below (tasks g) (λ t. f.will_raise (flight t)) = count_some (λ t. f.will_raise (flight t)) s (tasks g) below raises in
    let few = shape.few in
    omega arith

pub objects_fit : (g : Geometry) (objects : ℕ) (flight : ℕ → Flight) (s : ℕ) → s < tasks g → f.will_raise (flight s) ≡ true
    → fact.ObjectsStayBounded g objects flight → objects + 1 < 2 ^ objects_bits
objects_fit g objects flight s below raises h =
    let some : 0 < count_below (tasks g) (λ t. f.will_raise (flight t)) = count_some (λ t. f.will_raise (flight t)) s (tasks g) below raises in
    omega arith

-- the place of a new object is one of the spaces, and fits its field
pub new_place_within : (g : Geometry) (x : Flight) → f.words_before x < g.alloc → (0 < new_place g x) × (new_place g x ≤ 2 * space_words g)
new_place_within g x few = by_side (side_of x) (f.words_before x) (omega arith) few
  where
    by_side : (side words : ℕ) → side < 2 → words < g.alloc → (0 < place_at g side (g.live + words)) × (place_at g side (g.live + words) ≤ 2 * space_words g)
    by_side zero words small within = (omega arith, omega arith)
    by_side (suc zero) words small within = (omega arith, omega arith)
    by_side (suc (suc side)) words small within = absurd (omega arith)

pub new_place_fits : (g : Geometry) (x : Flight) → f.words_before x < g.alloc → new_place g x < 2 ^ place_bits
new_place_fits g x few = let o = (new_place_within g x few).1 in omega arith
