-- In a lawful state the event of each kind may be fired: its word is one of the row, and no sum or difference leaves the
-- range of a word.
use Rattle.std.proofs.Common.{◌≡◌, ℕ, ◌+◌, ◌*◌, ◌^◌, ◌<◌, ◌≤◌, List, length, refl, arith}
use Rattle.hk_words.specs.declared.geometry.Geometry.{Geometry}
use Rattle.hk_words.specs.Geometry.{tasks, numbers, list_length, space_words, row_length}
use Rattle.hk_words.specs.Layout as layout
use Rattle.hk_words.specs.Row.{Slot, InRow, index_of, word_of, header_at, mark_at, frame_at, register_at, entry_at, space_at, w0_at, w1_at}
use Rattle.hk_words.specs.Row.Slot.{W0, W1, Header, Mark, Frame, Register, Entry, Space}
use Rattle.hk_words.proofs.RowLaws.{index_below}
use Rattle.hk_words.proofs.PackingLaws.{header_enters, header_fits, frame_enters, frame_fits, w0_raises, w0_fits}
use Rattle.hk_core.specs.declared.event.Event.{Event}
use Rattle.hk_core.specs.declared.event.Event.TheVariants as event
use Rattle.hk_core.specs.Event.{CanFire, AmountFits}
use Rattle.hk_core.specs.Event as events
use Rattle.hk_core.specs.View.{raw, decoded, words_of}
use Rattle.hk_core.proofs.Columns.{old_at, raw_header, raw_frame, raw_w0, raw_w1}

module _ (g : Geometry) (row : List ℕ) (whole : length row ≡ row_length g) where
  -- an event at a slot of the row, whose amount fits the word there
  can_at : (e : Event) (slot : Slot) → InRow g slot → events.word_of e ≡ index_of g slot → AmountFits e (word_of g row slot) → CanFire row e
  can_at e slot fits at amount = record {
    within = let below : index_of g slot < row_length g = index_below g slot fits in omega arith;
    amount = rw (old_at g row e slot at) amount;
  }

  -- loads and writes
  pub can_load_w0 : CanFire row (event.Load (w0_at g))
  can_load_w0 = can_at (event.Load (w0_at g)) W0 tt refl tt

  pub can_load_entry : (l j : ℕ) → l < 2 → j < list_length g → CanFire row (event.Load (entry_at g l j))
  can_load_entry l j list entry = can_at (event.Load (entry_at g l j)) (Entry l j) (list, entry) refl tt

  pub can_read_cell : (p : ℕ) → 0 < p → p ≤ 2 * space_words g → CanFire row (event.Load (space_at g p))
  can_read_cell p some within = can_at (event.Load (space_at g p)) (Space p) (some, within) refl tt

  pub can_write_cell : (p v : ℕ) → 0 < p → p ≤ 2 * space_words g → CanFire row (event.Write (space_at g p) v)
  can_write_cell p v some within = can_at (event.Write (space_at g p) v) (Space p) (some, within) refl tt

  pub can_write_header : (n v : ℕ) → n < numbers g → CanFire row (event.Write (header_at g n) v)
  can_write_header n v fits = can_at (event.Write (header_at g n) v) (Header n) fits refl tt

  pub can_write_register : (s r v : ℕ) → s < tasks g → r < g.registers → CanFire row (event.Write (register_at g s r) v)
  can_write_register s r v seat reg = can_at (event.Write (register_at g s r) v) (Register s r) (seat, reg) refl tt

  -- a claim
  pub can_claim : (n cycle : ℕ) → n < numbers g → CanFire row (event.Max (mark_at g n) cycle)
  can_claim n cycle fits = can_at (event.Max (mark_at g n) cycle) (Mark n) fits refl tt

  -- entering and leaving
  pub can_enter_object : (n : ℕ) → n < numbers g → (words_of g row).accessors n + 1 < 2 ^ layout.accessors_bits → (words_of g row).version n + 1 < 2 ^ layout.version_bits
      → CanFire row (event.Add (header_at g n) layout.entering)
  unfolding words_of decoded
  can_enter_object n fits few room =
      let word = word_of g row (Header n) in
      let same : (raw g row).header n ≡ word = raw_header g row n fits in
      let few' : layout.header_accessors word + 1 < 2 ^ layout.accessors_bits = rw same at few in
      let room' : layout.header_version word + 1 < 2 ^ layout.version_bits = rw same at room in
      let enters = header_enters word few' in
      can_at (event.Add (header_at g n) layout.entering) (Header n) fits refl (header_fits (word + layout.entering) (rw enters.version room'))

  pub can_leave_object : (n : ℕ) → n < numbers g → 0 < (words_of g row).accessors n → CanFire row (event.Sub (header_at g n) layout.leaving)
  unfolding words_of decoded
  can_leave_object n fits some =
      let word = word_of g row (Header n) in
      let same : (raw g row).header n ≡ word = raw_header g row n fits in
      let some' : 0 < layout.header_accessors word = rw same at some in
      can_at (event.Sub (header_at g n) layout.leaving) (Header n) fits refl (omega arith)

  pub can_enter_frame : (s : ℕ) → s < tasks g → (words_of g row).frame_accessors s + 1 < 2 ^ layout.accessors_bits → (words_of g row).frame_version s + 1 < 2 ^ layout.version_bits
      → CanFire row (event.Add (frame_at g s) layout.entering)
  unfolding words_of decoded
  can_enter_frame s fits few room =
      let word = word_of g row (Frame s) in
      let same : (raw g row).frame s ≡ word = raw_frame g row s fits in
      let few' : layout.frame_accessors word + 1 < 2 ^ layout.accessors_bits = rw same at few in
      let room' : layout.frame_version word + 1 < 2 ^ layout.version_bits = rw same at room in
      let enters = frame_enters word few' in
      can_at (event.Add (frame_at g s) layout.entering) (Frame s) fits refl (frame_fits (word + layout.entering) (rw enters.version room'))

  pub can_leave_frame : (s : ℕ) → s < tasks g → 0 < (words_of g row).frame_accessors s → CanFire row (event.Sub (frame_at g s) layout.leaving)
  unfolding words_of decoded
  can_leave_frame s fits some =
      let word = word_of g row (Frame s) in
      let same : (raw g row).frame s ≡ word = raw_frame g row s fits in
      let some' : 0 < layout.frame_accessors word = rw same at some in
      can_at (event.Sub (frame_at g s) layout.leaving) (Frame s) fits refl (omega arith)

  -- a reserve
  pub can_reserve : (size : ℕ) → (words_of g row).reserved + size < 2 ^ 64 → CanFire row (event.Add (w1_at g) size)
  unfolding words_of decoded
  can_reserve size room = can_at (event.Add (w1_at g) size) W1 tt refl (rw (raw_w1 g row) at room)

  -- the raise of W0
  pub can_raise : (words : ℕ) → (words_of g row).used + words < 2 ^ layout.words_bits → (words_of g row).objects + 1 < 2 ^ layout.objects_bits
      → (words_of g row).cycle < 2 ^ layout.cycle_bits → CanFire row (event.Add (w0_at g) (layout.raise_by words))
  unfolding words_of decoded
  can_raise words few room cycle =
      let word = word_of g row W0 in
      let same : (raw g row).w0 ≡ word = raw_w0 g row in
      let few' : layout.w0_words word + words < 2 ^ layout.words_bits = rw same at few in
      let room' : layout.w0_objects word + 1 < 2 ^ layout.objects_bits = rw same at room in
      let cycle' : layout.w0_cycle word < 2 ^ layout.cycle_bits = rw same at cycle in
      let raises = w0_raises word words few' room' in
      can_at (event.Add (w0_at g) (layout.raise_by words)) W0 tt refl (w0_fits (word + layout.raise_by words) (rw raises.cycle cycle'))
