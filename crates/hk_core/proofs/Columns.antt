-- The packed words of a row after a word was written at one slot: one column changes, at one index.
use Rattle.std.proofs.Common.{◌≡◌, ℕ, ◌≢◌, ◌⊎◌, ◌*◌, ◌<◌, ◌≤◌, Bool, true, false, List, length, inl, inr, refl, ◌∙◌, ap}
use Rattle.std.proofs.lemmas.Bool.{ltb-true, leb-true, lt-ltb, le-leb, and_parts, and_from}
use Rattle.std.proofs.lemmas.List.{set-get_or}
use Rattle.std.specs.Prelude.{nat_lt, nat_le, ◌&&◌, slice_index, slice_set, Some, None}
use Rattle.hk_words.specs.declared.geometry.Geometry.{Geometry}
use Rattle.hk_words.specs.Geometry.{tasks, numbers, list_length, space_words, row_length}
use Rattle.hk_words.specs.Row.{Slot, InRow, index_of, word_of, with_word}
use Rattle.hk_words.specs.Row.Slot.{W0, W1, Header, Mark, Frame, Register, Entry, Space}
use Rattle.hk_words.proofs.RowLaws.{word_of-with_word_same, word_of-with_word_other}
use Rattle.hk_model.specs.View.{upd, upd2}
use Rattle.hk_model.proofs.Updates.{is_upd, is_upd2}
use Rattle.hk_core.specs.declared.event.Event.{Event}
use Rattle.hk_core.specs.Event as event
use Rattle.hk_core.specs.Event.{fired, fired_if, old_of, learnt, word_after}
use Rattle.hk_core.specs.View.{Words, raw, word_if, words_of}

-- A word where a test says that there is a slot.

-- after a write at another slot
word_if-other : (g : Geometry) (row : List ℕ) (a : Slot) (v : ℕ) (test : Bool) (slot : Slot) → InRow g a → (test ≡ true → InRow g slot) → a ≢ slot
    → word_if g (with_word g row a v) test slot ≡ word_if g row test slot
unfolding word_if
word_if-other g row a v true slot fits there differ = word_of-with_word_other g row a slot v fits (there refl) differ
word_if-other g row a v false slot fits there differ = refl

-- after a write at the slot itself
word_if-same : (g : Geometry) (row : List ℕ) (v : ℕ) (test : Bool) (slot : Slot) → test ≡ true → InRow g slot → length row ≡ row_length g
    → word_if g (with_word g row slot v) test slot ≡ v
unfolding word_if
word_if-same g row v test slot here fits whole = rw here (word_of-with_word_same g row slot v fits whole)

-- The slots of a column are those of the row where its test holds.

header_fits : (g : Geometry) (n : ℕ) → nat_lt n (numbers g) ≡ true → InRow g (Header n)
header_fits g n e = ltb-true n (numbers g) e

mark_fits : (g : Geometry) (n : ℕ) → nat_lt n (numbers g) ≡ true → InRow g (Mark n)
mark_fits g n e = ltb-true n (numbers g) e

frame_fits : (g : Geometry) (s : ℕ) → nat_lt s (tasks g) ≡ true → InRow g (Frame s)
frame_fits g s e = ltb-true s (tasks g) e

register_fits : (g : Geometry) (s r : ℕ) → (nat_lt s (tasks g) && nat_lt r g.registers) ≡ true → InRow g (Register s r)
register_fits g s r e = let p = and_parts _ _ e in (ltb-true s (tasks g) p.0, ltb-true r g.registers p.1)

entry_fits : (g : Geometry) (l j : ℕ) → (nat_lt l 2 && nat_lt j (list_length g)) ≡ true → InRow g (Entry l j)
entry_fits g l j e = let p = and_parts _ _ e in (ltb-true l 2 p.0, ltb-true j (list_length g) p.1)

space_fits : (g : Geometry) (p : ℕ) → (nat_lt 0 p && nat_le p (2 * space_words g)) ≡ true → InRow g (Space p)
space_fits g p e = let q = and_parts _ _ e in (ltb-true 0 p q.0, leb-true p (2 * space_words g) q.1)

-- The columns after a write at a slot that is none of theirs.
module _ (g : Geometry) (row : List ℕ) (a : Slot) (v : ℕ) (fits : InRow g a) where
  w0_kept : a ≢ W0 → word_of g (with_word g row a v) W0 ≡ word_of g row W0
  w0_kept differ = word_of-with_word_other g row a W0 v fits tt differ

  w1_kept : a ≢ W1 → word_of g (with_word g row a v) W1 ≡ word_of g row W1
  w1_kept differ = word_of-with_word_other g row a W1 v fits tt differ

  headers_kept : ((n : ℕ) → a ≢ Header n) → (raw g (with_word g row a v)).header ≡ (raw g row).header
  unfolding raw
  headers_kept differ = λ i n. word_if-other g row a v (nat_lt n (numbers g)) (Header n) fits (header_fits g n) (differ n) i

  marks_kept : ((n : ℕ) → a ≢ Mark n) → (raw g (with_word g row a v)).mark ≡ (raw g row).mark
  unfolding raw
  marks_kept differ = λ i n. word_if-other g row a v (nat_lt n (numbers g)) (Mark n) fits (mark_fits g n) (differ n) i

  frames_kept : ((s : ℕ) → a ≢ Frame s) → (raw g (with_word g row a v)).frame ≡ (raw g row).frame
  unfolding raw
  frames_kept differ = λ i s. word_if-other g row a v (nat_lt s (tasks g)) (Frame s) fits (frame_fits g s) (differ s) i

  registers_kept : ((s r : ℕ) → a ≢ Register s r) → (raw g (with_word g row a v)).register ≡ (raw g row).register
  unfolding raw
  registers_kept differ = λ i s r. word_if-other g row a v (nat_lt s (tasks g) && nat_lt r g.registers) (Register s r) fits (register_fits g s r) (differ s r) i

  entries_kept : ((l j : ℕ) → a ≢ Entry l j) → (raw g (with_word g row a v)).entry ≡ (raw g row).entry
  unfolding raw
  entries_kept differ = λ i l j. word_if-other g row a v (nat_lt l 2 && nat_lt j (list_length g)) (Entry l j) fits (entry_fits g l j) (differ l j) i

  cells_kept : ((p : ℕ) → a ≢ Space p) → (raw g (with_word g row a v)).cell ≡ (raw g row).cell
  unfolding raw
  cells_kept differ = λ i p. word_if-other g row a v (nat_lt 0 p && nat_le p (2 * space_words g)) (Space p) fits (space_fits g p) (differ p) i

-- The packed words after a write at each of the slots.

pub raw-w0 : (g : Geometry) (row : List ℕ) (v : ℕ) → length row ≡ row_length g → raw g (with_word g row W0 v) ≡ record (raw g row) { w0 = v }
unfolding raw
raw-w0 g row v whole = λ i. record {
  w0 = word_of-with_word_same g row W0 v tt whole i;
  w1 = w1_kept g row W0 v tt (λ e. cc) i;
  header = headers_kept g row W0 v tt (λ n e. cc) i;
  mark = marks_kept g row W0 v tt (λ n e. cc) i;
  frame = frames_kept g row W0 v tt (λ n e. cc) i;
  register = registers_kept g row W0 v tt (λ s r e. cc) i;
  entry = entries_kept g row W0 v tt (λ l j e. cc) i;
  cell = cells_kept g row W0 v tt (λ p e. cc) i;
}

pub raw-w1 : (g : Geometry) (row : List ℕ) (v : ℕ) → length row ≡ row_length g → raw g (with_word g row W1 v) ≡ record (raw g row) { w1 = v }
unfolding raw
raw-w1 g row v whole = λ i. record {
  w0 = w0_kept g row W1 v tt (λ e. cc) i;
  w1 = word_of-with_word_same g row W1 v tt whole i;
  header = headers_kept g row W1 v tt (λ n e. cc) i;
  mark = marks_kept g row W1 v tt (λ n e. cc) i;
  frame = frames_kept g row W1 v tt (λ n e. cc) i;
  register = registers_kept g row W1 v tt (λ s r e. cc) i;
  entry = entries_kept g row W1 v tt (λ l j e. cc) i;
  cell = cells_kept g row W1 v tt (λ p e. cc) i;
}

pub raw-header : (g : Geometry) (row : List ℕ) (n v : ℕ) → n < numbers g → length row ≡ row_length g
    → raw g (with_word g row (Header n) v) ≡ record (raw g row) { header = upd (raw g row).header n v }
unfolding raw
raw-header g row n v fits whole =
    let a = Header n in
    let changed : (raw g (with_word g row (Header n) v)).header ≡ upd (raw g row).header n v =
    is_upd {A = ℕ} (raw g (with_word g row (Header n) v)).header (raw g row).header n v
    (word_if-same g row v (nat_lt n (numbers g)) (Header n) (lt-ltb n (numbers g) fits) fits whole)
    (λ k d. word_if-other g row (Header n) v (nat_lt k (numbers g)) (Header k) fits (header_fits g k) (λ e. d (let x : k ≡ n = cc in x))) in
    λ i. record {
      w0 = w0_kept g row a v fits (λ e. cc) i;
      w1 = w1_kept g row a v fits (λ e. cc) i;
      header = changed i;
      mark = marks_kept g row a v fits (λ k e. cc) i;
      frame = frames_kept g row a v fits (λ k e. cc) i;
      register = registers_kept g row a v fits (λ s r e. cc) i;
      entry = entries_kept g row a v fits (λ l j e. cc) i;
      cell = cells_kept g row a v fits (λ p e. cc) i;
    }

pub raw-mark : (g : Geometry) (row : List ℕ) (n v : ℕ) → n < numbers g → length row ≡ row_length g
    → raw g (with_word g row (Mark n) v) ≡ record (raw g row) { mark = upd (raw g row).mark n v }
unfolding raw
raw-mark g row n v fits whole =
    let a = Mark n in
    let changed : (raw g (with_word g row (Mark n) v)).mark ≡ upd (raw g row).mark n v =
    is_upd {A = ℕ} (raw g (with_word g row (Mark n) v)).mark (raw g row).mark n v
    (word_if-same g row v (nat_lt n (numbers g)) (Mark n) (lt-ltb n (numbers g) fits) fits whole)
    (λ k d. word_if-other g row (Mark n) v (nat_lt k (numbers g)) (Mark k) fits (mark_fits g k) (λ e. d (let x : k ≡ n = cc in x))) in
    λ i. record {
      w0 = w0_kept g row a v fits (λ e. cc) i;
      w1 = w1_kept g row a v fits (λ e. cc) i;
      header = headers_kept g row a v fits (λ k e. cc) i;
      mark = changed i;
      frame = frames_kept g row a v fits (λ k e. cc) i;
      register = registers_kept g row a v fits (λ s r e. cc) i;
      entry = entries_kept g row a v fits (λ l j e. cc) i;
      cell = cells_kept g row a v fits (λ p e. cc) i;
    }

pub raw-frame : (g : Geometry) (row : List ℕ) (s v : ℕ) → s < tasks g → length row ≡ row_length g
    → raw g (with_word g row (Frame s) v) ≡ record (raw g row) { frame = upd (raw g row).frame s v }
unfolding raw
raw-frame g row n v fits whole =
    let a = Frame n in
    let changed : (raw g (with_word g row (Frame n) v)).frame ≡ upd (raw g row).frame n v =
    is_upd {A = ℕ} (raw g (with_word g row (Frame n) v)).frame (raw g row).frame n v
    (word_if-same g row v (nat_lt n (tasks g)) (Frame n) (lt-ltb n (tasks g) fits) fits whole)
    (λ k d. word_if-other g row (Frame n) v (nat_lt k (tasks g)) (Frame k) fits (frame_fits g k) (λ e. d (let x : k ≡ n = cc in x))) in
    λ i. record {
      w0 = w0_kept g row a v fits (λ e. cc) i;
      w1 = w1_kept g row a v fits (λ e. cc) i;
      header = headers_kept g row a v fits (λ k e. cc) i;
      mark = marks_kept g row a v fits (λ k e. cc) i;
      frame = changed i;
      register = registers_kept g row a v fits (λ s r e. cc) i;
      entry = entries_kept g row a v fits (λ l j e. cc) i;
      cell = cells_kept g row a v fits (λ p e. cc) i;
    }

-- two slots of two indexes differ where one of the indexes does
registers_differ : (m n k j : ℕ) → (k ≢ m) ⊎ (j ≢ n) → Register m n ≢ Register k j
registers_differ m n k j (inl d) e = d (let x : k ≡ m = cc in x)
registers_differ m n k j (inr d) e = d (let x : j ≡ n = cc in x)

entries_differ : (m n k j : ℕ) → (k ≢ m) ⊎ (j ≢ n) → Entry m n ≢ Entry k j
entries_differ m n k j (inl d) e = d (let x : k ≡ m = cc in x)
entries_differ m n k j (inr d) e = d (let x : j ≡ n = cc in x)

pub raw-register : (g : Geometry) (row : List ℕ) (s r v : ℕ) → s < tasks g → r < g.registers → length row ≡ row_length g
    → raw g (with_word g row (Register s r) v) ≡ record (raw g row) { register = upd2 (raw g row).register s r v }
unfolding raw
raw-register g row m n v seat reg whole =
    let a = Register m n in
    let fits : InRow g (Register m n) = (seat, reg) in
    let changed : (raw g (with_word g row (Register m n) v)).register ≡ upd2 (raw g row).register m n v =
    is_upd2 {A = ℕ} (raw g (with_word g row (Register m n) v)).register (raw g row).register m n v
    (word_if-same g row v (nat_lt m (tasks g) && nat_lt n g.registers) (Register m n) (and_from _ _ (lt-ltb m (tasks g) seat) (lt-ltb n g.registers reg)) fits whole)
    (λ k j d. word_if-other g row (Register m n) v (nat_lt k (tasks g) && nat_lt j g.registers) (Register k j) fits (register_fits g k j) (registers_differ m n k j d)) in
    λ i. record {
      w0 = w0_kept g row a v fits (λ e. cc) i;
      w1 = w1_kept g row a v fits (λ e. cc) i;
      header = headers_kept g row a v fits (λ k e. cc) i;
      mark = marks_kept g row a v fits (λ k e. cc) i;
      frame = frames_kept g row a v fits (λ k e. cc) i;
      register = changed i;
      entry = entries_kept g row a v fits (λ l j e. cc) i;
      cell = cells_kept g row a v fits (λ p e. cc) i;
    }

pub raw-entry : (g : Geometry) (row : List ℕ) (l j v : ℕ) → l < 2 → j < list_length g → length row ≡ row_length g
    → raw g (with_word g row (Entry l j) v) ≡ record (raw g row) { entry = upd2 (raw g row).entry l j v }
unfolding raw
raw-entry g row m n v list index whole =
    let a = Entry m n in
    let fits : InRow g (Entry m n) = (list, index) in
    let changed : (raw g (with_word g row (Entry m n) v)).entry ≡ upd2 (raw g row).entry m n v =
    is_upd2 {A = ℕ} (raw g (with_word g row (Entry m n) v)).entry (raw g row).entry m n v
    (word_if-same g row v (nat_lt m 2 && nat_lt n (list_length g)) (Entry m n) (and_from _ _ (lt-ltb m 2 list) (lt-ltb n (list_length g) index)) fits whole)
    (λ k j d. word_if-other g row (Entry m n) v (nat_lt k 2 && nat_lt j (list_length g)) (Entry k j) fits (entry_fits g k j) (entries_differ m n k j d)) in
    λ i. record {
      w0 = w0_kept g row a v fits (λ e. cc) i;
      w1 = w1_kept g row a v fits (λ e. cc) i;
      header = headers_kept g row a v fits (λ k e. cc) i;
      mark = marks_kept g row a v fits (λ k e. cc) i;
      frame = frames_kept g row a v fits (λ k e. cc) i;
      register = registers_kept g row a v fits (λ s r e. cc) i;
      entry = changed i;
      cell = cells_kept g row a v fits (λ p e. cc) i;
    }

pub raw-space : (g : Geometry) (row : List ℕ) (p v : ℕ) → 0 < p → p ≤ 2 * space_words g → length row ≡ row_length g
    → raw g (with_word g row (Space p) v) ≡ record (raw g row) { cell = upd (raw g row).cell p v }
unfolding raw
raw-space g row n v some within whole =
    let a = Space n in
    let fits : InRow g (Space n) = (some, within) in
    let changed : (raw g (with_word g row (Space n) v)).cell ≡ upd (raw g row).cell n v =
    is_upd {A = ℕ} (raw g (with_word g row (Space n) v)).cell (raw g row).cell n v
    (word_if-same g row v (nat_lt 0 n && nat_le n (2 * space_words g)) (Space n) (and_from _ _ (lt-ltb 0 n some) (le-leb n (2 * space_words g) within)) fits whole)
    (λ k d. word_if-other g row (Space n) v (nat_lt 0 k && nat_le k (2 * space_words g)) (Space k) fits (space_fits g k) (λ e. d (let x : k ≡ n = cc in x))) in
    λ i. record {
      w0 = w0_kept g row a v fits (λ e. cc) i;
      w1 = w1_kept g row a v fits (λ e. cc) i;
      header = headers_kept g row a v fits (λ k e. cc) i;
      mark = marks_kept g row a v fits (λ k e. cc) i;
      frame = frames_kept g row a v fits (λ k e. cc) i;
      register = registers_kept g row a v fits (λ s r e. cc) i;
      entry = entries_kept g row a v fits (λ l j e. cc) i;
      cell = changed i;
    }

-- What a column says of a slot of the row.

pub raw_w0 : (g : Geometry) (row : List ℕ) → (raw g row).w0 ≡ word_of g row W0
unfolding raw
raw_w0 g row = refl

pub raw_w1 : (g : Geometry) (row : List ℕ) → (raw g row).w1 ≡ word_of g row W1
unfolding raw
raw_w1 g row = refl

word_if-true : (g : Geometry) (row : List ℕ) (test : Bool) (slot : Slot) → test ≡ true → word_if g row test slot ≡ word_of g row slot
unfolding word_if
word_if-true g row test slot e = rw e refl

pub raw_header : (g : Geometry) (row : List ℕ) (n : ℕ) → n < numbers g → (raw g row).header n ≡ word_of g row (Header n)
unfolding raw
raw_header g row n fits = word_if-true g row (nat_lt n (numbers g)) (Header n) (lt-ltb n (numbers g) fits)

pub raw_mark : (g : Geometry) (row : List ℕ) (n : ℕ) → n < numbers g → (raw g row).mark n ≡ word_of g row (Mark n)
unfolding raw
raw_mark g row n fits = word_if-true g row (nat_lt n (numbers g)) (Mark n) (lt-ltb n (numbers g) fits)

pub raw_frame : (g : Geometry) (row : List ℕ) (s : ℕ) → s < tasks g → (raw g row).frame s ≡ word_of g row (Frame s)
unfolding raw
raw_frame g row s fits = word_if-true g row (nat_lt s (tasks g)) (Frame s) (lt-ltb s (tasks g) fits)

pub raw_register : (g : Geometry) (row : List ℕ) (s r : ℕ) → s < tasks g → r < g.registers → (raw g row).register s r ≡ word_of g row (Register s r)
unfolding raw
raw_register g row s r seat reg =
    word_if-true g row (nat_lt s (tasks g) && nat_lt r g.registers) (Register s r) (and_from _ _ (lt-ltb s (tasks g) seat) (lt-ltb r g.registers reg))

pub raw_entry : (g : Geometry) (row : List ℕ) (l j : ℕ) → l < 2 → j < list_length g → (raw g row).entry l j ≡ word_of g row (Entry l j)
unfolding raw
raw_entry g row l j list index =
    word_if-true g row (nat_lt l 2 && nat_lt j (list_length g)) (Entry l j) (and_from _ _ (lt-ltb l 2 list) (lt-ltb j (list_length g) index))

pub raw_space : (g : Geometry) (row : List ℕ) (p : ℕ) → 0 < p → p ≤ 2 * space_words g → (raw g row).cell p ≡ word_of g row (Space p)
unfolding raw
raw_space g row p some within =
    word_if-true g row (nat_lt 0 p && nat_le p (2 * space_words g)) (Space p) (and_from _ _ (lt-ltb 0 p some) (le-leb p (2 * space_words g) within))

-- Events.

-- an event at the index of a slot writes at the slot what it makes of the word there
pub fired_at : (g : Geometry) (row : List ℕ) (e : Event) (slot : Slot) → event.word_of e ≡ index_of g slot
    → fired row e ≡ with_word g row slot (word_after e (word_of g row slot))
unfolding fired old_of
fired_at g row e slot at = ap (λ (k : ℕ). slice_set row k (word_after e (slice_index row k))) at

-- what it finds there
pub old_at : (g : Geometry) (row : List ℕ) (e : Event) (slot : Slot) → event.word_of e ≡ index_of g slot → old_of row e ≡ word_of g row slot
unfolding old_of
old_at g row e slot at = ap (slice_index row) at

-- an event that leaves its word as it was changes nothing
pub fired_kept : (row : List ℕ) (e : Event) → word_after e (old_of row e) ≡ old_of row e → fired row e ≡ row
unfolding fired old_of
fired_kept row e kept = ap (slice_set row (event.word_of e)) kept ∙ set-get_or row (event.word_of e) 0

pub fired_if_some : (row : List ℕ) (e : Event) → fired_if row (Some e) ≡ fired row e
unfolding fired_if
fired_if_some row e = refl

pub fired_if_none : (row : List ℕ) → fired_if row None ≡ row
unfolding fired_if
fired_if_none row = refl

-- nothing is learnt from an event that is left out
pub nothing_learnt : (row : List ℕ) → learnt row None ≡ 0
unfolding learnt
nothing_learnt row = refl

-- the words after an event that isn't left out, and after one that is
pub words_some : (g : Geometry) (row : List ℕ) (e : Event) (w : Words) → words_of g (fired row e) ≡ w → words_of g (fired_if row (Some e)) ≡ w
words_some g row e w h = ap (words_of g) (fired_if_some row e) ∙ h

pub words_none : (g : Geometry) (row : List ℕ) → words_of g (fired_if row None) ≡ words_of g row
words_none g row = ap (words_of g) (fired_if_none row)
