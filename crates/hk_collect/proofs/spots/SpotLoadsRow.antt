-- The collector's loads, of a row: all facts hold of the row and the spot after the event of each line on which the
-- collector looks for objects, where that event leaves the row as it is.
use Rattle.std.proofs.Common.{◌≡◌, ◌≢◌, ◌⊎◌, ℕ, ◌+◌, ◌*◌, ◌%◌, ◌<◌, ◌≤◌, true, List, inl, inr, refl, sym, ◌∙◌, ap, arith, Option, Some}
use Rattle.std.proofs.lemmas.Bool.{cases_Bool, cases_eq, ne_eqb}
use Rattle.hk_words.specs.declared.geometry.Geometry.{Geometry}
use Rattle.hk_words.specs.Geometry.{tasks, numbers, space_words}
use Rattle.hk_words.specs.Layout as layout
use Rattle.hk_words.specs.Row.{w1_at, header_at, mark_at, frame_at, register_at, space_at, place_at, word_of}
use Rattle.hk_words.specs.Row.Slot.{W1, Header, Mark, Frame, Register}
use Rattle.hk_core.specs.declared.event.Event.{Event}
use Rattle.hk_core.specs.declared.event.Event.TheVariants as event
use Rattle.hk_core.specs.declared.flight.Flight.{Flight}
use Rattle.hk_core.specs.declared.spot.Spot.{Spot}
use Rattle.hk_core.specs.declared.spot.Line.{Line}
use Rattle.hk_core.specs.declared.spot.Line.TheVariants as line
use Rattle.hk_core.specs.declared.spot.Stage.TheVariants as stage
use Rattle.hk_core.specs.Collect.{spot_event, event_at_line, frame_event, register_event, frame_trade_event, scan_event, link_event, look_event, cell_event, object_trade_event, pass_event, pass_head_event, spot_took, moved_number, moved_from, moved_to, current_space, old_space, is_old}
use Rattle.hk_core.specs.Step.{reference_size}
use Rattle.hk_core.specs.Event.{fired_if, learnt, old_of, word_after}
use Rattle.hk_core.specs.View.{Names, Contents, size_at, words_of, decoded}
use Rattle.hk_core.specs.Colours.{spaces_of, shades_of}
use Rattle.hk_core.specs.Lawful.{FactsOf}
use Rattle.hk_core.proofs.Columns.{old_at, fired_kept, fired_if_some, raw_w1, raw_header, raw_mark, raw_frame, raw_register}
use Rattle.hk_core.proofs.kinds.Seats.{kept_means}
use Rattle.hk_core.proofs.kinds.Read.{ShapesFit}
use Rattle.hk_core.proofs.kinds.LoadRead.{found-cell, some_words}
use Rattle.hk_core.proofs.kinds.WriteCell.{shades_mean}
use Rattle.hk_core.proofs.kinds.ReserveSeats.{BearersHaveFields}
use Rattle.hk_collect.proofs.spots.SpotLines.{AtFrame, AtRegister, AtRange, AtItem, AtCell, AtPass, at_frame, at_register, at_link, at_look, at_cell, at_pass, at_pass_head}
use Rattle.hk_collect.proofs.spots.SpotLoads.{work_at, frame_loads, register_loads, frame_trade_lost}
use Rattle.hk_collect.proofs.spots.SpotLoadsScan.{scan_loads, link_loads}
use Rattle.hk_collect.proofs.spots.SpotLoadsCells.{IsItem, item_known, look_loads, cell_loads, object_trade_lost}
use Rattle.hk_collect.proofs.spots.SpotLoadsPass.{pass_finds_claimed, pass_finds_unclaimed, pass_finds_grey, pass_finds_moved}

-- all facts, of the row and the spot after the collector's event
abbrev pub AfterEvent : Geometry → (row : List ℕ) → (flight : ℕ → Flight) → (begun : ℕ → ℕ) → Spot → Names → Contents → (range : ℕ → Option ℕ) → Type 0
AfterEvent g row flight begun t names contents range =
    FactsOf g (words_of g (fired_if row (spot_event g t))) flight begun (spot_took g t (learnt row (spot_event g t))) names contents range

-- WHAT A LOAD FINDS

module _ (g : Geometry) (row : List ℕ) where
  found_word : (word : ℕ) → learnt row (Some (event.Load word)) ≡ old_of row (event.Load word)
  unfolding learnt
  found_word word = refl

  pub found-register : (s r : ℕ) → s < tasks g → r < g.registers → learnt row (Some (event.Load (register_at g s r))) ≡ (words_of g row).register s r
  unfolding words_of decoded
  found-register s r seat reg = found_word (register_at g s r) ∙ old_at g row (event.Load (register_at g s r)) (Register s r) refl ∙ sym (raw_register g row s r seat reg)

  pub found-reserved : learnt row (Some (event.Load (w1_at g))) ≡ (words_of g row).reserved
  unfolding words_of decoded
  found-reserved = found_word (w1_at g) ∙ old_at g row (event.Load (w1_at g)) W1 refl ∙ sym (raw_w1 g row)

  pub found-mark : (n : ℕ) → n < numbers g → learnt row (Some (event.Load (mark_at g n))) ≡ (words_of g row).mark n
  unfolding words_of decoded
  found-mark n within = found_word (mark_at g n) ∙ old_at g row (event.Load (mark_at g n)) (Mark n) refl ∙ sym (raw_mark g row n within)

  pub found-frame : (s : ℕ) → learnt row (Some (event.Load (frame_at g s))) ≡ word_of g row (Frame s)
  found-frame s = found_word (frame_at g s) ∙ old_at g row (event.Load (frame_at g s)) (Frame s) refl

  pub found-header : (n : ℕ) → learnt row (Some (event.Load (header_at g n))) ≡ word_of g row (Header n)
  found-header n = found_word (header_at g n) ∙ old_at g row (event.Load (header_at g n)) (Header n) refl

  -- the parts of a frame word and of a header are what the columns say
  frame_parts : (s : ℕ) → s < tasks g → (layout.frame_accessors (word_of g row (Frame s)) ≡ (words_of g row).frame_accessors s)
      × (layout.frame_cycle (word_of g row (Frame s)) ≡ (words_of g row).frame_cycle s)
      × (layout.frame_version (word_of g row (Frame s)) ≡ (words_of g row).frame_version s)
  unfolding words_of decoded
  frame_parts s below =
      let same = sym (raw_frame g row s below) in
      (ap layout.frame_accessors same, ap layout.frame_cycle same, ap layout.frame_version same)

  header_parts : (n : ℕ) → n < numbers g → (layout.header_accessors (word_of g row (Header n)) ≡ (words_of g row).accessors n)
      × (layout.header_place (word_of g row (Header n)) ≡ (words_of g row).place n)
      × (layout.header_version (word_of g row (Header n)) ≡ (words_of g row).version n)
  unfolding words_of decoded
  header_parts n within =
      let same = sym (raw_header g row n within) in
      (ap layout.header_accessors same, ap layout.header_place same, ap layout.header_version same)

-- the words of a space are words of the row
pub space_ends : (g : Geometry) (cycle : ℕ) → place_at g (cycle % 2) 0 + (g.live + g.alloc) ≤ 1 + 2 * space_words g
space_ends g cycle = elim (cases_eq (cycle % 2) 0) [
  | inl first ↦ rw first (omega arith)
  | inr other ↦ let second : cycle % 2 ≡ 1 = omega arith in rw second (omega arith)
]

-- ALL FACTS

module _ (g : Geometry) (row : List ℕ) (flight : ℕ → Flight) (begun : ℕ → ℕ) (t : Spot) (names : Names) (contents : Contents) (range : ℕ → Option ℕ) where
  event_at : (ln : Line) → t.line ≡ ln → spot_event g t ≡ event_at_line g t ln
  unfolding spot_event
  event_at ln at = ap (event_at_line g t) at

  -- an event that leaves its word as it is
  after_kept : (e : Event) (v : ℕ) → spot_event g t ≡ Some e → word_after e (old_of row e) ≡ old_of row e → learnt row (Some e) ≡ v
      → FactsOf g (words_of g row) flight begun (spot_took g t v) names contents range → AfterEvent g row flight begun t names contents range
  after_kept e v is kept found h =
      let words : words_of g (fired_if row (Some e)) ≡ words_of g row = ap (words_of g) (fired_if_some row e ∙ fired_kept row e kept) in
      rw is (rw (words, found) h)

  after_load : (word v : ℕ) → spot_event g t ≡ Some (event.Load word) → learnt row (Some (event.Load word)) ≡ v
      → FactsOf g (words_of g row) flight begun (spot_took g t v) names contents range → AfterEvent g row flight begun t names contents range
  after_load word v is found h = after_kept (event.Load word) v is refl found h

  -- an exchange that finds another word
  after_lost : (word new : ℕ) → spot_event g t ≡ Some (event.Trade word t.first new) → old_of row (event.Trade word t.first new) ≢ t.first
      → FactsOf g (words_of g row) flight begun (spot_took g t (old_of row (event.Trade word t.first new))) names contents range → AfterEvent g row flight begun t names contents range
  unfolding learnt
  after_lost word new is differs h =
      after_kept (event.Trade word t.first new) (old_of row (event.Trade word t.first new)) is
      (rw (ne_eqb (old_of row (event.Trade word t.first new)) t.first differs) refl) refl h

  module _ (h : FactsOf g (words_of g row) flight begun t names contents range) where
    pub frame_loads_row : (s : ℕ) → t.line ≡ line.Frame s → AfterEvent g row flight begun t names contents range
    unfolding event_at_line frame_event
    frame_loads_row s at =
        let o : AtFrame g (shades_of g (words_of g row) flight t.line names) s = at_frame g (words_of g row) (spaces_of g (words_of g row).cycle) (shades_of g (words_of g row) flight t.line names) flight t names range s
        (work_at g (words_of g row) flight begun t names contents range (line.Frame s) at h) in
        let parts = frame_parts g row s o.seat in
        after_load (frame_at g s) (word_of g row (Frame s)) (event_at (line.Frame s) at) (found-frame g row s)
        (frame_loads g (words_of g row) flight begun t names contents range s (word_of g row (Frame s)) at parts.0 parts.1 parts.2 h)

    pub register_loads_row : (s r : ℕ) → t.line ≡ line.Register s r stage.Read → AfterEvent g row flight begun t names contents range
    unfolding event_at_line register_event
    register_loads_row s r at =
        let o : AtRegister g (words_of g row) (shades_of g (words_of g row) flight t.line names) t names s r stage.Read =
        at_register g (words_of g row) (spaces_of g (words_of g row).cycle) (shades_of g (words_of g row) flight t.line names) flight t names range s r stage.Read
        (work_at g (words_of g row) flight begun t names contents range (line.Register s r stage.Read) at h) in
        after_load (register_at g s r) ((words_of g row).register s r) (event_at (line.Register s r stage.Read) at) (found-register g row s r o.in_frame.at_frame.seat o.register)
        (register_loads g (words_of g row) flight begun t names contents range s r at h)

    pub frame_trade_lost_row : (s : ℕ) → t.line ≡ line.FrameTrade s → learnt row (spot_event g t) ≢ t.first → AfterEvent g row flight begun t names contents range
    unfolding event_at_line frame_trade_event learnt
    frame_trade_lost_row s at differs =
        let new = layout.frame_blackened t.first t.cycle in
        let is : spot_event g t ≡ Some (event.Trade (frame_at g s) t.first new) = event_at (line.FrameTrade s) at in
        let other : old_of row (event.Trade (frame_at g s) t.first new) ≢ t.first = λ same. differs (ap (learnt row) is ∙ same) in
        after_lost (frame_at g s) new is other (frame_trade_lost g (words_of g row) flight begun t names contents range s (old_of row (event.Trade (frame_at g s) t.first new)) at other h)

    pub scan_loads_row : t.line ≡ line.Scan → AfterEvent g row flight begun t names contents range
    unfolding event_at_line scan_event
    scan_loads_row at =
        after_load (w1_at g) (words_of g row).reserved (event_at line.Scan at) (found-reserved g row)
        (scan_loads g (words_of g row) flight begun t names contents range at h)

    -- a cell of the object that is moved is a word of the row
    cell_within : (i : ℕ) → AtCell g (words_of g row) (spaces_of g (words_of g row).cycle) (shades_of g (words_of g row) flight t.line names) t names range i stage.Read
        → ShapesFit names → moved_from t + 1 + i ≤ 2 * space_words g
    cell_within i o fit =
        let w = words_of g row in
        let sh = shades_of g w flight t.line names in
        let known : IsItem sh names t.item = item_known g w flight begun t names contents range h fit o.in_object.at_item in
        let n = moved_number t in
        let placed : moved_from t ≡ w.place n = o.in_object.behind.placed in
        let size : reference_size t.item ≡ size_at names n = known.size in
        let same : sh.size n ≡ size_at names n = (shades_mean g w flight t.line names).size n in
        let few : i + 1 < reference_size t.item = o.cell in
        elim (h.objects_in_one_space n known.is_kept) [
          | inl old ↦
              let before : w.place n + sh.size n ≤ place_at g (old_space w.cycle) 0 + (g.live + g.alloc) = old.before in
              let ends : place_at g (old_space w.cycle) 0 + (g.live + g.alloc) ≤ 1 + 2 * space_words g = space_ends g (w.cycle + 1) in
              omega arith
          | inr new ↦
              let before : w.place n + sh.size n ≤ place_at g (current_space w.cycle) 0 + (g.live + g.alloc) = new.before in
              let ends : place_at g (current_space w.cycle) 0 + (g.live + g.alloc) ≤ 1 + 2 * space_words g = space_ends g w.cycle in
              omega arith
        ]

    pub link_loads_row : t.line ≡ line.Link → AfterEvent g row flight begun t names contents range
    unfolding event_at_line link_event
    link_loads_row at =
        let z = spaces_of g (words_of g row).cycle in
        let o : AtRange g z (shades_of g (words_of g row) flight t.line names) t range =
        at_link g (words_of g row) z (shades_of g (words_of g row) flight t.line names) flight t names range (work_at g (words_of g row) flight begun t names contents range line.Link at h) in
        let n = o.found.0 in
        let fits : t.scan + (shades_of g (words_of g row) flight t.line names).size n ≤ g.live = o.found.2 in
        let ends : place_at g (current_space t.cycle) 0 + (g.live + g.alloc) ≤ 1 + 2 * space_words g = space_ends g t.cycle in
        let size : 0 < (shades_of g (words_of g row) flight t.line names).size n = some_words names (shades_of g (words_of g row) flight t.line names).size n ((shades_mean g (words_of g row) flight t.line names).size n) in
        after_load (space_at g (moved_to g t)) ((words_of g row).cell (moved_to g t)) (event_at line.Link at) (found-cell g row (moved_to g t) (omega arith) (omega arith))
        (link_loads g (words_of g row) flight begun t names contents range at h)

    pub look_loads_row : t.line ≡ line.Look → ShapesFit names → BearersHaveFields names → AfterEvent g row flight begun t names contents range
    unfolding event_at_line look_event
    look_loads_row at fit fields =
        let z = spaces_of g (words_of g row).cycle in
        let sh = shades_of g (words_of g row) flight t.line names in
        let o : AtItem g (words_of g row) z sh t range = at_look g (words_of g row) z sh flight t names range (work_at g (words_of g row) flight begun t names contents range line.Look at h) in
        let known : IsItem sh names t.item = item_known g (words_of g row) flight begun t names contents range h fit o in
        let n = moved_number t in
        let parts = header_parts g row n (kept_means g (words_of g row) flight t.line names n known.is_kept).within in
        after_load (header_at g n) (word_of g row (Header n)) (event_at line.Look at) (found-header g row n)
        (look_loads g (words_of g row) flight begun t names contents range (word_of g row (Header n)) at parts.0 parts.1 parts.2 fit fields h)

    pub cell_loads_row : (i : ℕ) → t.line ≡ line.Cell i stage.Read → ShapesFit names → AfterEvent g row flight begun t names contents range
    unfolding event_at_line cell_event
    cell_loads_row i at fit =
        let z = spaces_of g (words_of g row).cycle in
        let sh = shades_of g (words_of g row) flight t.line names in
        let o : AtCell g (words_of g row) z sh t names range i stage.Read = at_cell g (words_of g row) z sh flight t names range i stage.Read
        (work_at g (words_of g row) flight begun t names contents range (line.Cell i stage.Read) at h) in
        let within : moved_from t + 1 + i ≤ 2 * space_words g = cell_within i o fit in
        after_load (space_at g (moved_from t + 1 + i)) ((words_of g row).cell (moved_from t + 1 + i)) (event_at (line.Cell i stage.Read) at)
        (found-cell g row (moved_from t + 1 + i) (omega arith) within)
        (cell_loads g (words_of g row) flight begun t names contents range i at fit h)

    pub object_trade_lost_row : t.line ≡ line.ObjectTrade → learnt row (spot_event g t) ≢ t.first → AfterEvent g row flight begun t names contents range
    unfolding event_at_line object_trade_event learnt
    object_trade_lost_row at differs =
        let new = layout.header_moved t.first (moved_to g t) in
        let word = header_at g (moved_number t) in
        let is : spot_event g t ≡ Some (event.Trade word t.first new) = event_at line.ObjectTrade at in
        let other : old_of row (event.Trade word t.first new) ≢ t.first = λ same. differs (ap (learnt row) is ∙ same) in
        after_lost word new is other (object_trade_lost g (words_of g row) flight begun t names contents range (old_of row (event.Trade word t.first new)) at other h)

    -- the mark of a number is loaded, but that of the last one that isn't claimed
    pub pass_loads_row : (n : ℕ) → t.line ≡ line.Pass n → ((words_of g row).mark n ≡ (words_of g row).cycle) ⊎ (n + 1 < numbers g) → AfterEvent g row flight begun t names contents range
    unfolding event_at_line pass_event
    pass_loads_row n at goes =
        let sh = shades_of g (words_of g row) flight t.line names in
        let o : AtPass g (words_of g row) sh flight n = at_pass g (words_of g row) (spaces_of g (words_of g row).cycle) sh flight t names range n
        (work_at g (words_of g row) flight begun t names contents range (line.Pass n) at h) in
        after_load (mark_at g n) ((words_of g row).mark n) (event_at (line.Pass n) at) (found-mark g row n o.number) (by_mark goes)
      where
        by_mark : ((words_of g row).mark n ≡ (words_of g row).cycle) ⊎ (n + 1 < numbers g)
            → FactsOf g (words_of g row) flight begun (spot_took g t ((words_of g row).mark n)) names contents range
        by_mark (inl marked) = pass_finds_claimed g (words_of g row) flight begun t names contents range n h at marked
        by_mark (inr more) = elim (cases_eq ((words_of g row).mark n) (words_of g row).cycle) [
          | inl marked ↦ pass_finds_claimed g (words_of g row) flight begun t names contents range n h at marked
          | inr differs ↦ pass_finds_unclaimed g (words_of g row) flight begun t names contents range n h at differs more
        ]

    -- the header of a number is loaded, but that of the last one that isn't grey
    pub pass_head_loads_row : (n : ℕ) → t.line ≡ line.PassHead n → (is_old g t (word_of g row (Header n)) ≡ true) ⊎ (n + 1 < numbers g) → AfterEvent g row flight begun t names contents range
    unfolding event_at_line pass_head_event
    pass_head_loads_row n at goes =
        let sh = shades_of g (words_of g row) flight t.line names in
        let o : AtPass g (words_of g row) sh flight n = at_pass_head g (words_of g row) (spaces_of g (words_of g row).cycle) sh flight t names range n
        (work_at g (words_of g row) flight begun t names contents range (line.PassHead n) at h) in
        let place = (header_parts g row n o.number).1 in
        after_load (header_at g n) (word_of g row (Header n)) (event_at (line.PassHead n) at) (found-header g row n) (by_place place goes)
      where
        by_place : layout.header_place (word_of g row (Header n)) ≡ (words_of g row).place n → (is_old g t (word_of g row (Header n)) ≡ true) ⊎ (n + 1 < numbers g)
            → FactsOf g (words_of g row) flight begun (spot_took g t (word_of g row (Header n))) names contents range
        by_place place (inl grey) = pass_finds_grey g (words_of g row) flight begun t names contents range n h (word_of g row (Header n)) at grey
        by_place place (inr more) = elim (cases_Bool (is_old g t (word_of g row (Header n)))) [
          | inl grey ↦ pass_finds_grey g (words_of g row) flight begun t names contents range n h (word_of g row (Header n)) at grey
          | inr moved ↦ pass_finds_moved g (words_of g row) flight begun t names contents range n h (word_of g row (Header n)) at place moved more
        ]
