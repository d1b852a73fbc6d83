-- The words of the opening row, seen by columns.
use Rattle.std.proofs.Common.{◌≡◌, ◌≢◌, ℕ, zero, suc, ◌+◌, ◌*◌, ◌<◌, ◌≤◌, Bool, true, false, refl, arith, ◌∙◌, ap}
use Rattle.std.proofs.lemmas.Bool.{ltb-true, ltb-false, leb-true, lt-ltb, and_parts, and_from}
use Rattle.std.proofs.lemmas.Bool.Decides.{nat_tests}
use Rattle.std.proofs.lemmas.List.FromFn.{get_or-map-range_with_len}
use Rattle.std.specs.Prelude.{nat_lt, nat_le, ◌&&◌}
use Rattle.hk_words.specs.declared.geometry.Geometry.{Geometry}
use Rattle.hk_words.specs.Geometry.{tasks, numbers, list_length, space_words, row_length}
use Rattle.hk_words.specs.Layout.{pack_header, header_accessors, header_place, header_version, frame_accessors, frame_cycle, frame_version, pack_w0, w0_words, w0_objects, w0_cycle}
use Rattle.hk_words.specs.Row.{Slot, InRow, index_of, slot_at, word_of, place_at}
use Rattle.hk_words.specs.Row.Slot.{W0, W1, Header, Mark, Frame, Register, Entry, Space}
use Rattle.hk_words.proofs.RowLaws.{index_below, slot_at-index_of}
use Rattle.hk_core.specs.State.{opening_row, opening_word, opening_header, opening_mark, opening_entry, opening_register, board_reference}
use Rattle.hk_core.specs.View.{Words, raw, decoded, words_of, word_if}

-- each slot of the opening row holds its opening word
pub word_of-opening : (g : Geometry) (slot : Slot) → InRow g slot → word_of g (opening_row g) slot ≡ opening_word g slot
unfolding opening_row
word_of-opening g slot fits =
    get_or-map-range_with_len (λ (i : ℕ). opening_word g (slot_at g i)) 0 (row_length g) (index_of g slot) (index_of g slot) 0 (index_below g slot fits) (omega arith)
    ∙ ap (opening_word g) (slot_at-index_of g slot fits)

-- a column of the opening row: the opening word where there is a slot, and else 0
word_if-opening : (g : Geometry) (slot : Slot) (test : Bool) (P : ℕ → Type 0) → (test ≡ true → InRow g slot) → (test ≡ true → P (opening_word g slot))
    → (test ≡ false → P 0) → P (word_if g (opening_row g) test slot)
unfolding word_if
word_if-opening g slot true P fits here else = rw (word_of-opening g slot (fits refl)) (here refl)
word_if-opening g slot false P fits here else = else refl

-- where there is a slot
word_if-there : (g : Geometry) (slot : Slot) (test : Bool) → test ≡ true → InRow g slot → word_if g (opening_row g) test slot ≡ opening_word g slot
unfolding word_if
word_if-there g slot test e fits = rw e (word_of-opening g slot fits)

-- the columns of the opening row: the cycle is 1, the board alone has a place, the first numbers are marked for the cycle
-- and the next ones for the next cycle, register 0 of each seat holds the board, the lists hold the numbers after the
-- board, and all else is 0
pub record IsOpened (g : Geometry) (place mark : ℕ → ℕ) (accessors version frame_accessors frame_cycle frame_version : ℕ → ℕ)
    (register entry : ℕ → ℕ → ℕ) (cell : ℕ → ℕ) : Type 0 where
  pub board_place : place 0 ≡ place_at g 1 0
  pub no_place : (n : ℕ) → n ≢ 0 → place n ≡ 0
  pub no_accessors : (n : ℕ) → accessors n ≡ 0
  pub no_version : (n : ℕ) → version n ≡ 0
  pub current_mark : (n : ℕ) → n ≤ list_length g → mark n ≡ 1
  pub next_mark : (n : ℕ) → list_length g < n → n ≤ 2 * list_length g → mark n ≡ 2
  pub no_mark : (n : ℕ) → 2 * list_length g < n → mark n ≡ 0
  pub no_frame_accessors : (s : ℕ) → frame_accessors s ≡ 0
  pub no_frame_cycle : (s : ℕ) → frame_cycle s ≡ 0
  pub no_frame_version : (s : ℕ) → frame_version s ≡ 0
  pub board_register : (s : ℕ) → s < tasks g → register s 0 ≡ board_reference g
  pub no_register : (s r : ℕ) → r ≢ 0 → register s r ≡ 0
  pub current_list : (j : ℕ) → j < list_length g → entry 1 j ≡ j + 1
  pub next_list : (j : ℕ) → j < list_length g → entry 0 j ≡ list_length g + j + 1
  pub no_cell : (p : ℕ) → cell p ≡ 0

abbrev pub Opened : Geometry → Words → Type 0
Opened g w = IsOpened g w.place w.mark w.accessors w.version w.frame_accessors w.frame_cycle w.frame_version w.register w.entry w.cell

header_other : (g : Geometry) (n : ℕ) → n ≢ 0 → opening_header g n ≡ 0
unfolding opening_header
header_other g n h = grind (arith, nat_tests)

register_null : (g : Geometry) (r : ℕ) → r ≢ 0 → opening_register g r ≡ 0
unfolding opening_register
register_null g r h = grind (arith, nat_tests)

header_column : (g : Geometry) (n : ℕ) (P : ℕ → Type 0) → (n ≡ 0 → P (pack_header 0 (place_at g 1 0) 0)) → (n ≢ 0 → P 0)
    → P (word_if g (opening_row g) (nat_lt n (numbers g)) (Header n))
unfolding opening_word
header_column g zero P board others =
    word_if-opening g (Header 0) (nat_lt 0 (numbers g)) P (λ e. ltb-true 0 (numbers g) e) (λ _. unfold opening_header in board refl) (λ e. absurd (omega (arith, ltb-false 0 (numbers g) e)))
header_column g (suc n) P board others =
    let other : suc n ≢ 0 = omega arith in
    word_if-opening g (Header (suc n)) (nat_lt (suc n) (numbers g)) P (λ e. ltb-true (suc n) (numbers g) e) (λ _. rw (header_other g (suc n) other) (others other)) (λ _. others other)

mark_column : (g : Geometry) (n v : ℕ) → (n < numbers g → opening_mark g n ≡ v) → (numbers g ≤ n → 0 ≡ v)
    → word_if g (opening_row g) (nat_lt n (numbers g)) (Mark n) ≡ v
unfolding opening_word
mark_column g n v here else =
    word_if-opening g (Mark n) (nat_lt n (numbers g)) (λ w. w ≡ v) (λ e. ltb-true n (numbers g) e) (λ e. here (ltb-true n (numbers g) e)) (λ e. else (ltb-false n (numbers g) e))

mark_current : (g : Geometry) (n : ℕ) → n ≤ list_length g → opening_mark g n ≡ 1
unfolding opening_mark
mark_current g n h = grind (arith, nat_tests)

mark_next : (g : Geometry) (n : ℕ) → list_length g < n → n ≤ 2 * list_length g → opening_mark g n ≡ 2
unfolding opening_mark
mark_next g n a b = grind (arith, nat_tests)

mark_later : (g : Geometry) (n : ℕ) → 2 * list_length g < n → opening_mark g n ≡ 0
unfolding opening_mark
mark_later g n h = grind (arith, nat_tests)

-- there are more numbers than those of the board and of both lists
numbers_enough : (g : Geometry) → 2 * list_length g < numbers g
numbers_enough g = omega arith

frame_column : (g : Geometry) (s : ℕ) → word_if g (opening_row g) (nat_lt s (tasks g)) (Frame s) ≡ 0
unfolding opening_word
frame_column g s = word_if-opening g (Frame s) (nat_lt s (tasks g)) (λ w. w ≡ 0) (λ e. ltb-true s (tasks g) e) (λ _. refl) (λ _. refl)

register_there : (g : Geometry) (s : ℕ) → s < tasks g → word_if g (opening_row g) (nat_lt s (tasks g) && nat_lt 0 g.registers) (Register s 0) ≡ board_reference g
unfolding opening_word opening_register
register_there g s h =
    let some : 0 < g.registers = omega arith in
    word_if-there g (Register s 0) _ (and_from _ _ (lt-ltb s (tasks g) h) (lt-ltb 0 g.registers some)) (h, some)

register_other : (g : Geometry) (s r : ℕ) → r ≢ 0 → word_if g (opening_row g) (nat_lt s (tasks g) && nat_lt r g.registers) (Register s r) ≡ 0
unfolding opening_word
register_other g s r h = word_if-opening g (Register s r) (nat_lt s (tasks g) && nat_lt r g.registers) (λ w. w ≡ 0)
    (λ e. let p = and_parts _ _ e in (ltb-true s (tasks g) p.0, ltb-true r g.registers p.1)) (λ _. register_null g r h) (λ _. refl)

entry_current : (g : Geometry) (j : ℕ) → j < list_length g → word_if g (opening_row g) (nat_lt 1 2 && nat_lt j (list_length g)) (Entry 1 j) ≡ j + 1
unfolding opening_word opening_entry
entry_current g j h = word_if-there g (Entry 1 j) _ (lt-ltb j (list_length g) h) (omega arith, h)

entry_next : (g : Geometry) (j : ℕ) → j < list_length g → word_if g (opening_row g) (nat_lt 0 2 && nat_lt j (list_length g)) (Entry 0 j) ≡ list_length g + j + 1
unfolding opening_word opening_entry
entry_next g j h = word_if-there g (Entry 0 j) _ (lt-ltb j (list_length g) h) (omega arith, h)

cell_column : (g : Geometry) (p : ℕ) → word_if g (opening_row g) (nat_lt 0 p && nat_le p (2 * space_words g)) (Space p) ≡ 0
unfolding opening_word
cell_column g p = word_if-opening g (Space p) (nat_lt 0 p && nat_le p (2 * space_words g)) (λ w. w ≡ 0)
    (λ e. let q = and_parts _ _ e in (ltb-true 0 p q.0, leb-true p (2 * space_words g) q.1)) (λ _. refl) (λ _. refl)

-- the columns of the opening row are those
pub opened : (g : Geometry) → Opened g (words_of g (opening_row g))
unfolding words_of decoded raw
opened g = record {
  board_place = header_column g 0 (λ w. header_place w ≡ place_at g 1 0) (λ _. omega arith) (λ h. absurd (h refl));
  no_place = λ n h. header_column g n (λ w. header_place w ≡ 0) (λ e. absurd (h e)) (λ _. refl);
  no_accessors = λ n. header_column g n (λ w. header_accessors w ≡ 0) (λ _. omega arith) (λ _. refl);
  no_version = λ n. header_column g n (λ w. header_version w ≡ 0) (λ _. omega arith) (λ _. refl);
  current_mark = λ n h. mark_column g n 1 (λ _. mark_current g n h) (λ b. absurd (omega (arith, numbers_enough g)));
  next_mark = λ n a b. mark_column g n 2 (λ _. mark_next g n a b) (λ c. absurd (omega (arith, numbers_enough g)));
  no_mark = λ n h. mark_column g n 0 (λ _. mark_later g n h) (λ _. refl);
  no_frame_accessors = λ s. ap frame_accessors (frame_column g s);
  no_frame_cycle = λ s. ap frame_cycle (frame_column g s);
  no_frame_version = λ s. ap frame_version (frame_column g s);
  board_register = register_there g;
  no_register = register_other g;
  current_list = entry_current g;
  next_list = entry_next g;
  no_cell = cell_column g;
}

-- what W0 and W1 say at the start
pub w0-opening : (g : Geometry) → word_of g (opening_row g) W0 ≡ pack_w0 0 0 1
unfolding opening_word
w0-opening g = word_of-opening g W0 tt

pub w1-opening : (g : Geometry) → word_of g (opening_row g) W1 ≡ 0
unfolding opening_word
w1-opening g = word_of-opening g W1 tt

-- so the words of the opening row are these
unfoldable pub at_start : Words → Words
at_start w = record w { used = 0; objects = 0; cycle = 1; reserved = 0 }

pub words_of-opening : (g : Geometry) → words_of g (opening_row g) ≡ at_start (words_of g (opening_row g))
unfolding words_of decoded raw at_start
words_of-opening g = λ i. record (decoded (raw g (opening_row g))) {
  used = ap w0_words (w0-opening g) i;
  objects = ap w0_objects (w0-opening g) i;
  cycle = ap w0_cycle (w0-opening g) i;
  reserved = w1-opening g i;
}
