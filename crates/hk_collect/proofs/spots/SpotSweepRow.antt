-- The collector's events from the end of the pass to the flip, of a row: all facts hold of the row and the spot after the event of
-- each of these lines. The two loads of the pass stand here whole, with what they do at the last number.
use Rattle.std.proofs.Common.{◌≡◌, ℕ, ◌+◌, ◌*◌, ◌%◌, ◌<◌, ◌≤◌, List, length, inl, inr, refl, sym, ◌∙◌, ap, subst, arith, Option, Some}
use Rattle.std.proofs.lemmas.Bool.{cases_eq}
use Rattle.hk_words.specs.declared.geometry.Geometry.{Geometry}
use Rattle.hk_words.specs.Geometry.{numbers, list_length, space_words, row_length}
use Rattle.hk_words.specs.Layout as layout
use Rattle.hk_words.specs.Row.{w0_at, w1_at, header_at, mark_at, entry_at, space_at, place_at}
use Rattle.hk_words.specs.Row.Slot.{W0, W1, Header, Mark, Entry}
use Rattle.hk_model.specs.View.{upd, upd2}
use Rattle.hk_core.specs.declared.event.Event.{Event}
use Rattle.hk_core.specs.declared.event.Event.TheVariants as event
use Rattle.hk_core.specs.declared.flight.Flight.{Flight}
use Rattle.hk_core.specs.declared.spot.Spot.{Spot}
use Rattle.hk_core.specs.declared.spot.Line.{Line}
use Rattle.hk_core.specs.declared.spot.Line.TheVariants as line
use Rattle.hk_core.specs.declared.spot.Stage.TheVariants as stage
use Rattle.hk_core.specs.Collect.{old_space, next_list}
use Rattle.hk_core.specs.Collect.{spot_event, event_at_line, sweep_event, clear_event, reset_event}
use Rattle.hk_core.specs.Collect.{spot_took, took_at_line, sweep_took, clear_took}
use Rattle.hk_core.specs.Event.{fired, fired_if, learnt}
use Rattle.hk_core.specs.View.{Words, Names, Contents, raw, words_of, decoded}
use Rattle.hk_core.specs.Lines as l
use Rattle.hk_core.specs.Lawful.{FactsOf}
use Rattle.hk_core.proofs.Columns.{fired_at, fired_if_some, raw-w0, raw-w1, raw-header, raw-mark, raw-entry}
use Rattle.hk_core.proofs.Encode.{decoded-flip, decoded-w1, decoded-entry, decoded-mark, decoded-empty_header}
use Rattle.hk_collect.proofs.spots.SpotClear.{clear}
use Rattle.hk_collect.proofs.spots.SpotLoadsRow.{AfterEvent, found-mark}
use Rattle.hk_collect.proofs.spots.SpotReset.{no_ranges, reset}
use Rattle.hk_collect.proofs.spots.SpotSweepEmpty.{emptied_words, sweep_empties}
use Rattle.hk_collect.proofs.spots.SpotSweepMark.{sweep_marks}
use Rattle.hk_collect.proofs.spots.SpotSweepRead.{sweep_reads}
use Rattle.hk_collect.proofs.spots.SpotSweepWrite.{sweep_writes}
use Rattle.hk_core.proofs.kinds.Words.{words-load, words-write_cell}

-- WHAT THE WORDS OF A ROW SAY AFTER THE EVENT

module _ (g : Geometry) (row : List ℕ) (whole : length row ≡ row_length g) where
  pub words-flip : (cycle : ℕ) → words_of g (fired row (event.Swap (w0_at g) (layout.pack_w0 0 0 cycle))) ≡ record (words_of g row) { used = 0; objects = 0; cycle = cycle }
  unfolding words_of
  words-flip cycle =
      ap (λ (k : List ℕ). decoded (raw g k)) (fired_at g row (event.Swap (w0_at g) (layout.pack_w0 0 0 cycle)) W0 refl)
      ∙ ap decoded (raw-w0 g row (layout.pack_w0 0 0 cycle) whole)
      ∙ decoded-flip (raw g row) cycle

  pub words-reset : words_of g (fired row (event.Write (w1_at g) 0)) ≡ record (words_of g row) { reserved = 0 }
  unfolding words_of
  words-reset =
      ap (λ (k : List ℕ). decoded (raw g k)) (fired_at g row (event.Write (w1_at g) 0) W1 refl)
      ∙ ap decoded (raw-w1 g row 0 whole)
      ∙ decoded-w1 (raw g row) 0

  pub words-write_entry : (list j v : ℕ) → list < 2 → j < list_length g
      → words_of g (fired row (event.Write (entry_at g list j) v)) ≡ record (words_of g row) { entry = upd2 (words_of g row).entry list j v }
  unfolding words_of
  words-write_entry list j v low within =
      ap (λ (k : List ℕ). decoded (raw g k)) (fired_at g row (event.Write (entry_at g list j) v) (Entry list j) refl)
      ∙ ap decoded (raw-entry g row list j v low within whole)
      ∙ decoded-entry (raw g row) list j v

  pub words-write_mark : (n v : ℕ) → n < numbers g → words_of g (fired row (event.Write (mark_at g n) v)) ≡ record (words_of g row) { mark = upd (words_of g row).mark n v }
  unfolding words_of
  words-write_mark n v within =
      ap (λ (k : List ℕ). decoded (raw g k)) (fired_at g row (event.Write (mark_at g n) v) (Mark n) refl)
      ∙ ap decoded (raw-mark g row n v within whole)
      ∙ decoded-mark (raw g row) n v

  pub words-empty_header : (n : ℕ) → n < numbers g → words_of g (fired row (event.Write (header_at g n) 0)) ≡ emptied_words (words_of g row) n
  unfolding words_of
  words-empty_header n within =
      ap (λ (k : List ℕ). decoded (raw g k)) (fired_at g row (event.Write (header_at g n) 0) (Header n) refl)
      ∙ ap decoded (raw-header g row n 0 within whole)
      ∙ decoded-empty_header (raw g row) n

-- the words of a space are words of the row
pub space_within : (g : Geometry) (cycle i : ℕ) → i < space_words g → (0 < place_at g (cycle % 2) i) × (place_at g (cycle % 2) i ≤ 2 * space_words g)
space_within g cycle i below = elim (cases_eq (cycle % 2) 0) [
  | inl first ↦ rw first (omega arith, omega arith)
  | inr other ↦ let second : cycle % 2 ≡ 1 = omega arith in rw second (omega arith, omega arith)
]

-- ALL FACTS

module _ (g : Geometry) (row : List ℕ) (flight : ℕ → Flight) (begun : ℕ → ℕ) (t : Spot) (names : Names) (contents : Contents) where
  event_at : (ln : Line) → t.line ≡ ln → spot_event g t ≡ event_at_line g t ln
  unfolding spot_event
  event_at ln at = ap (event_at_line g t) at

  took_at : (ln : Line) (old : ℕ) → t.line ≡ ln → spot_took g t old ≡ took_at_line g t old ln
  unfolding spot_took
  took_at ln old at = ap (took_at_line g t old) at

  -- an event, the words after it and the spot after it
  after_event : (e : Event) (w : Words) (u : Spot) (range : ℕ → Option ℕ) → spot_event g t ≡ Some e → words_of g (fired row e) ≡ w → spot_took g t (learnt row (Some e)) ≡ u
      → FactsOf g w flight begun u names contents range → AfterEvent g row flight begun t names contents range
  after_event e w u range is words took h =
      let words' : words_of g (fired_if row (Some e)) ≡ w = ap (words_of g) (fired_if_some row e) ∙ words in
      rw is
      (subst (λ (k : Words). FactsOf g k flight begun (spot_took g t (learnt row (Some e))) names contents range) (sym words')
      (subst (λ (k : Spot). FactsOf g w flight begun k names contents range) (sym took) h))

  module _ (range : ℕ → Option ℕ) (whole : length row ≡ row_length g) (h : FactsOf g (words_of g row) flight begun t names contents range) where
    -- the sweep loads a mark, writes an entry and a mark, and empties a header
    pub sweep_reads_row : (n : ℕ) → t.line ≡ line.Sweep n stage.Read → AfterEvent g row flight begun t names contents range
    unfolding event_at_line took_at_line sweep_event
    sweep_reads_row n at =
        let w = words_of g row in
        let fits : (n < numbers g) × l.IsSweepStage stage.Read = subst (l.LineFits g t) at h.spot_formed in
        after_event (event.Load (mark_at g n)) w (sweep_took g t n stage.Read (w.mark n)) range (event_at (line.Sweep n stage.Read) at) (words-load g row (mark_at g n))
        (ap (spot_took g t) (found-mark g row n fits.0) ∙ took_at (line.Sweep n stage.Read) (w.mark n) at)
        (sweep_reads g w flight begun t names contents range n at h)

    pub sweep_writes_row : (n : ℕ) → t.line ≡ line.Sweep n stage.Write → AfterEvent g row flight begun t names contents range
    unfolding event_at_line took_at_line sweep_event sweep_took
    sweep_writes_row n at =
        let w = words_of g row in
        let e = event.Write (entry_at g (next_list t.cycle) t.entries) n in
        let step : (t.entries < list_length g) × (w.mark n < w.cycle) = subst (l.InStep (list_length g) w.cycle t.entries w.mark (w.entry (next_list w.cycle))) at h.sweep_in_step in
        after_event e (record w { entry = upd2 w.entry (next_list w.cycle) t.entries n }) (record t { line = line.Sweep n stage.Mark; entries = t.entries + 1 }) range
        (event_at (line.Sweep n stage.Write) at)
        (words-write_entry g row whole (next_list t.cycle) t.entries n (omega arith) step.0 ∙ ap (λ c. record w { entry = upd2 w.entry (next_list c) t.entries n }) h.spot_knows_cycle)
        (took_at (line.Sweep n stage.Write) (learnt row (Some e)) at)
        (sweep_writes g w flight begun t names contents range n at h)

    pub sweep_marks_row : (n : ℕ) → t.line ≡ line.Sweep n stage.Mark → AfterEvent g row flight begun t names contents range
    unfolding event_at_line took_at_line sweep_event sweep_took
    sweep_marks_row n at =
        let w = words_of g row in
        let e = event.Write (mark_at g n) (t.cycle + 1) in
        let fits : (n < numbers g) × l.IsSweepStage stage.Mark = subst (l.LineFits g t) at h.spot_formed in
        after_event e (record w { mark = upd w.mark n (w.cycle + 1) }) (record t { line = line.Sweep n stage.Empty }) range
        (event_at (line.Sweep n stage.Mark) at)
        (words-write_mark g row whole n (t.cycle + 1) fits.0 ∙ ap (λ c. record w { mark = upd w.mark n (c + 1) }) h.spot_knows_cycle)
        (took_at (line.Sweep n stage.Mark) (learnt row (Some e)) at)
        (sweep_marks g w flight begun t names contents range n at h)

    pub sweep_empties_row : (n : ℕ) → t.line ≡ line.Sweep n stage.Empty → AfterEvent g row flight begun t names contents range
    unfolding event_at_line took_at_line sweep_event
    sweep_empties_row n at =
        let w = words_of g row in
        let e = event.Write (header_at g n) 0 in
        let fits : (n < numbers g) × l.IsSweepStage stage.Empty = subst (l.LineFits g t) at h.spot_formed in
        after_event e (emptied_words w n) (sweep_took g t n stage.Empty (learnt row (Some e))) range
        (event_at (line.Sweep n stage.Empty) at)
        (words-empty_header g row whole n fits.0)
        (took_at (line.Sweep n stage.Empty) (learnt row (Some e)) at)
        (sweep_empties g w flight begun t names contents range n (learnt row (Some e)) at h)

    -- a word of the old space is cleared
    pub clear_row : (i : ℕ) → t.line ≡ line.Clear i → AfterEvent g row flight begun t names contents range
    unfolding event_at_line took_at_line clear_event
    clear_row i at =
        let w = words_of g row in
        let p = place_at g (old_space t.cycle) i in
        let e = event.Write (space_at g p) 0 in
        let below : i < space_words g = subst (l.LineFits g t) at h.spot_formed in
        let within = space_within g (t.cycle + 1) i below in
        after_event e (record w { cell = upd w.cell (place_at g (old_space w.cycle) i) 0 }) (clear_took g t i) range
        (event_at (line.Clear i) at)
        (words-write_cell g row whole p 0 within.0 within.1 ∙ ap (λ c. record w { cell = upd w.cell (place_at g (old_space c) i) 0 }) h.spot_knows_cycle)
        (took_at (line.Clear i) (learnt row (Some e)) at)
        (clear g w flight begun t names contents range i at h)

    -- and the end of the cycle, after which there is no range
    pub reset_row : t.line ≡ line.Reset → AfterEvent g row flight begun t names contents no_ranges
    unfolding event_at_line took_at_line reset_event
    reset_row at =
        let w = words_of g row in
        let e = event.Write (w1_at g) 0 in
        after_event e (record w { reserved = 0 }) (record t { line = line.Rest }) no_ranges
        (event_at line.Reset at) (words-reset g row whole) (took_at line.Reset (learnt row (Some e)) at)
        (reset g w flight begun t names contents range at h)
