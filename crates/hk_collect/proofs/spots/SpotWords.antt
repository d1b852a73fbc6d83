-- What the words of a row say after each event of the collector that writes, what it finds, and that the event may be
-- fired, where its slot is one of the row. Claims, reserves and writes of cells stand in ClaimWords and Words.
use Rattle.std.proofs.Common.{◌≡◌, ℕ, ◌^◌, ◌<◌, List, length, refl, sym, ◌∙◌, ap, arith, Some}
use Rattle.std.proofs.lemmas.Bool.{eq-eqb}
use Rattle.std.specs.Prelude.{nat_eq, if◌then◌else◌}
use Rattle.hk_words.specs.declared.geometry.Geometry.{Geometry}
use Rattle.hk_words.specs.Geometry.{tasks, numbers, list_length, row_length}
use Rattle.hk_words.specs.Layout as layout
use Rattle.hk_words.specs.Row.{Slot, InRow, index_of, word_of, with_word, w0_at, w1_at, header_at, mark_at, frame_at, register_at, entry_at}
use Rattle.hk_words.specs.Row.Slot.{W0, W1, Header, Mark, Frame, Register, Entry}
use Rattle.hk_words.proofs.RowLaws.{index_below}
use Rattle.hk_model.specs.View.{upd}
use Rattle.hk_core.specs.declared.event.Event.{Event}
use Rattle.hk_core.specs.declared.event.Event.TheVariants as event
use Rattle.hk_core.specs.Event.{CanFire, AmountFits, fired, learnt}
use Rattle.hk_core.specs.Event as events
use Rattle.hk_core.specs.View.{words_of, raw, decoded}
use Rattle.hk_core.proofs.Columns.{fired_at, old_at, raw-w0, raw-header, raw-frame, raw_w1, raw_mark, raw_header, raw_frame}
use Rattle.hk_core.proofs.Encode.{decoded-flip, decoded-move_object, decoded-blacken_frame}

module _ (g : Geometry) (row : List ℕ) (whole : length row ≡ row_length g) where
  -- EVENTS THAT MAY BE FIRED

  -- an event at a slot of the row, whose amount fits the word there
  can_at : (e : Event) (slot : Slot) → InRow g slot → events.word_of e ≡ index_of g slot → AmountFits e (word_of g row slot) → CanFire row e
  can_at e slot fits at amount = record {
    within = let below : index_of g slot < row_length g = index_below g slot fits in omega arith;
    amount = rw (old_at g row e slot at) amount;
  }

  pub can_swap_w0 : (v : ℕ) → CanFire row (event.Swap (w0_at g) v)
  can_swap_w0 v = can_at (event.Swap (w0_at g) v) W0 tt refl tt

  pub can_load_w1 : CanFire row (event.Load (w1_at g))
  can_load_w1 = can_at (event.Load (w1_at g)) W1 tt refl tt

  pub can_write_w1 : (v : ℕ) → CanFire row (event.Write (w1_at g) v)
  can_write_w1 v = can_at (event.Write (w1_at g) v) W1 tt refl tt

  pub can_load_header : (n : ℕ) → n < numbers g → CanFire row (event.Load (header_at g n))
  can_load_header n fits = can_at (event.Load (header_at g n)) (Header n) fits refl tt

  pub can_trade_header : (n current new : ℕ) → n < numbers g → CanFire row (event.Trade (header_at g n) current new)
  can_trade_header n current new fits = can_at (event.Trade (header_at g n) current new) (Header n) fits refl tt

  pub can_load_mark : (n : ℕ) → n < numbers g → CanFire row (event.Load (mark_at g n))
  can_load_mark n fits = can_at (event.Load (mark_at g n)) (Mark n) fits refl tt

  pub can_write_mark : (n v : ℕ) → n < numbers g → CanFire row (event.Write (mark_at g n) v)
  can_write_mark n v fits = can_at (event.Write (mark_at g n) v) (Mark n) fits refl tt

  pub can_load_frame : (s : ℕ) → s < tasks g → CanFire row (event.Load (frame_at g s))
  can_load_frame s fits = can_at (event.Load (frame_at g s)) (Frame s) fits refl tt

  pub can_trade_frame : (s current new : ℕ) → s < tasks g → CanFire row (event.Trade (frame_at g s) current new)
  can_trade_frame s current new fits = can_at (event.Trade (frame_at g s) current new) (Frame s) fits refl tt

  pub can_load_register : (s r : ℕ) → s < tasks g → r < g.registers → CanFire row (event.Load (register_at g s r))
  can_load_register s r seat reg = can_at (event.Load (register_at g s r)) (Register s r) (seat, reg) refl tt

  pub can_write_entry : (l j v : ℕ) → l < 2 → j < list_length g → CanFire row (event.Write (entry_at g l j) v)
  can_write_entry l j v list entry = can_at (event.Write (entry_at g l j) v) (Entry l j) (list, entry) refl tt

  -- WORDS AFTER AN EVENT

  -- the flip
  pub words-flip : (cycle : ℕ) → words_of g (fired row (event.Swap (w0_at g) (layout.pack_w0 0 0 cycle))) ≡ record (words_of g row) { used = 0; objects = 0; cycle = cycle }
  unfolding words_of
  words-flip cycle =
      ap (λ (r : List ℕ). decoded (raw g r)) (fired_at g row (event.Swap (w0_at g) (layout.pack_w0 0 0 cycle)) W0 refl)
      ∙ ap decoded (raw-w0 g row (layout.pack_w0 0 0 cycle) whole)
      ∙ decoded-flip (raw g row) cycle

  -- an exchange that finds the word that it expects
  trades : (word current new : ℕ) → word ≡ current → (if nat_eq word current then new else word) ≡ new
  trades word current new same = rw (eq-eqb word current same) refl

  -- the exchange of a frame word
  pub words-blacken : (s first cycle : ℕ) → s < tasks g → cycle < 2 ^ layout.blackened_bits → word_of g row (Frame s) ≡ first
      → words_of g (fired row (event.Trade (frame_at g s) first (layout.frame_blackened first cycle)))
      ≡ record (words_of g row) { frame_cycle = upd (words_of g row).frame_cycle s cycle }
  unfolding words_of decoded
  words-blacken s first cycle fits few same =
      let e = event.Trade (frame_at g s) first (layout.frame_blackened first cycle) in
      let word = word_of g row (Frame s) in
      ap (λ (r : List ℕ). decoded (raw g r)) (fired_at g row e (Frame s) refl)
      ∙ ap (λ (r : ℕ). decoded (raw g (with_word g row (Frame s) r))) (trades word first (layout.frame_blackened first cycle) same ∙ ap (λ (r : ℕ). layout.frame_blackened r cycle) (sym same))
      ∙ ap decoded (raw-frame g row s (layout.frame_blackened word cycle) fits whole)
      ∙ rw (← raw_frame g row s fits) (decoded-blacken_frame (raw g row) s cycle few)

  -- the exchange of a header
  pub words-move : (n first place : ℕ) → n < numbers g → place < 2 ^ layout.place_bits → word_of g row (Header n) ≡ first
      → words_of g (fired row (event.Trade (header_at g n) first (layout.header_moved first place)))
      ≡ record (words_of g row) { place = upd (words_of g row).place n place }
  unfolding words_of decoded
  words-move n first place fits few same =
      let e = event.Trade (header_at g n) first (layout.header_moved first place) in
      let word = word_of g row (Header n) in
      ap (λ (r : List ℕ). decoded (raw g r)) (fired_at g row e (Header n) refl)
      ∙ ap (λ (r : ℕ). decoded (raw g (with_word g row (Header n) r))) (trades word first (layout.header_moved first place) same ∙ ap (λ (r : ℕ). layout.header_moved r place) (sym same))
      ∙ ap decoded (raw-header g row n (layout.header_moved word place) fits whole)
      ∙ rw (← raw_header g row n fits) (decoded-move_object (raw g row) n place few)

-- WHAT AN EVENT FINDS

module _ (g : Geometry) (row : List ℕ) where
  -- a claim finds the mark, a reserve what was reserved, an exchange the word
  pub found-claim : (n cycle : ℕ) → n < numbers g → learnt row (Some (event.Max (mark_at g n) cycle)) ≡ (words_of g row).mark n
  unfolding words_of decoded learnt
  found-claim n cycle within = old_at g row (event.Max (mark_at g n) cycle) (Mark n) refl ∙ sym (raw_mark g row n within)

  pub found-reserve : (size : ℕ) → learnt row (Some (event.Add (w1_at g) size)) ≡ (words_of g row).reserved
  unfolding words_of decoded learnt
  found-reserve size = old_at g row (event.Add (w1_at g) size) W1 refl ∙ sym (raw_w1 g row)

  pub found-trade_frame : (s current new : ℕ) → learnt row (Some (event.Trade (frame_at g s) current new)) ≡ word_of g row (Frame s)
  unfolding learnt
  found-trade_frame s current new = old_at g row (event.Trade (frame_at g s) current new) (Frame s) refl

  pub found-trade_header : (n current new : ℕ) → learnt row (Some (event.Trade (header_at g n) current new)) ≡ word_of g row (Header n)
  unfolding learnt
  found-trade_header n current new = old_at g row (event.Trade (header_at g n) current new) (Header n) refl
