-- The laws of the row, for the proofs of the crates above.
use Rattle.std.proofs.Common.{◌≡◌, ◌≢◌, ℕ, ◌+◌, ◌-◌, ◌*◌, ◌/◌, ◌%◌, ◌<◌, ◌≤◌, List, length, refl, sym, ◌∙◌, ap, arith, get_or-set_same, get_or-set_other, length-set, inl, inr}
use Rattle.std.proofs.lemmas.Bool.{cases_lt}
use Rattle.std.proofs.lemmas.Bool.Decides.{nat_tests}
use Rattle.std.proofs.Math.Nat.{div-lt_iff_lt-mul, mul_comm}
use Rattle.std.proofs.lemmas.Nat.{div-mul-add, mod-mul-add, mul-add-lt, mod_below, div-add-mod'}
use Rattle.hk_words.specs.declared.geometry.Geometry.{Geometry}
use Rattle.hk_words.specs.Geometry.{tasks, numbers, list_length, space_words, marks_from, frames_from, registers_from, lists_from, spaces_from, row_length}
use Rattle.hk_words.specs.Row.{Slot, InRow, index_of, slot_at, word_of, with_word, IsSpaceWord, IsPlace, place_at}
use Rattle.hk_words.specs.Row.Slot.{W0, W1, Header, Mark, Frame, Register, Entry, Space}

-- each slot of the geometry lies in the row
pub index_below : (g : Geometry) (slot : Slot) → InRow g slot → index_of g slot < row_length g
index_below g W0 fits = omega arith
index_below g W1 fits = omega arith
index_below g (Header number) fits = omega arith
index_below g (Mark number) fits = omega arith
index_below g (Frame seat) fits = omega arith
index_below g (Register seat reg) fits = omega (arith, mul-add-lt seat g.registers reg (tasks g) fits.0 fits.1)
index_below g (Entry list entry) fits = omega (arith, mul-add-lt list (list_length g) entry 2 fits.0 fits.1)
index_below g (Space place) fits = omega arith

-- the slot at the index of each kind of slot
slot_at-header : (g : Geometry) (number : ℕ) → number < numbers g → slot_at g (index_of g (Header number)) ≡ Header number
unfolding slot_at
slot_at-header g number fits = grind (arith, nat_tests)

slot_at-mark : (g : Geometry) (number : ℕ) → number < numbers g → slot_at g (index_of g (Mark number)) ≡ Mark number
unfolding slot_at
slot_at-mark g number fits = grind (arith, nat_tests)

slot_at-frame : (g : Geometry) (seat : ℕ) → seat < tasks g → slot_at g (index_of g (Frame seat)) ≡ Frame seat
unfolding slot_at
slot_at-frame g seat fits = grind (arith, nat_tests)

slot_at-register : (g : Geometry) (seat reg : ℕ) → seat < tasks g → reg < g.registers → slot_at g (index_of g (Register seat reg)) ≡ Register seat reg
unfolding slot_at
slot_at-register g seat reg s r =
    let below = mul-add-lt seat g.registers reg (tasks g) s r in
    let quotient = div-mul-add seat g.registers reg r in
    let remainder = mod-mul-add seat g.registers reg r in
    let offset : registers_from g + (seat * g.registers + reg) - registers_from g ≡ seat * g.registers + reg = omega arith in
    grind (arith, nat_tests)

slot_at-entry : (g : Geometry) (list entry : ℕ) → list < 2 → entry < list_length g → slot_at g (index_of g (Entry list entry)) ≡ Entry list entry
unfolding slot_at
slot_at-entry g list entry l e =
    let below = mul-add-lt list (list_length g) entry 2 l e in
    let quotient = div-mul-add list (list_length g) entry e in
    let remainder = mod-mul-add list (list_length g) entry e in
    let offset : lists_from g + (list * list_length g + entry) - lists_from g ≡ list * list_length g + entry = omega arith in
    grind (arith, nat_tests)

slot_at-space : (g : Geometry) (place : ℕ) → 0 < place → place ≤ 2 * space_words g → slot_at g (index_of g (Space place)) ≡ Space place
unfolding slot_at
slot_at-space g place some fits = grind (arith, nat_tests)

-- the slot at a slot's index is that slot
pub slot_at-index_of : (g : Geometry) (slot : Slot) → InRow g slot → slot_at g (index_of g slot) ≡ slot
unfolding slot_at
slot_at-index_of g W0 fits = refl
slot_at-index_of g W1 fits = refl
slot_at-index_of g (Header number) fits = slot_at-header g number fits
slot_at-index_of g (Mark number) fits = slot_at-mark g number fits
slot_at-index_of g (Frame seat) fits = slot_at-frame g seat fits
slot_at-index_of g (Register seat reg) fits = slot_at-register g seat reg fits.0 fits.1
slot_at-index_of g (Entry list entry) fits = slot_at-entry g list entry fits.0 fits.1
slot_at-index_of g (Space place) fits = slot_at-space g place fits.0 fits.1

-- two slots of one index are one slot
pub index_of_injective : (g : Geometry) (a b : Slot) → InRow g a → InRow g b → index_of g a ≡ index_of g b → a ≡ b
index_of_injective g a b fits_a fits_b same =
    sym (slot_at-index_of g a fits_a) ∙ ap (slot_at g) same ∙ slot_at-index_of g b fits_b

-- a write at a slot leaves the word of each other slot
pub word_of-with_word_other : (g : Geometry) (row : List ℕ) (a b : Slot) (word : ℕ) → InRow g a → InRow g b → a ≢ b → word_of g (with_word g row a word) b ≡ word_of g row b
word_of-with_word_other g row a b word fits_a fits_b differ =
    get_or-set_other row (index_of g a) (index_of g b) word 0 (λ same. differ (index_of_injective g a b fits_a fits_b (sym same)))

-- a slot has the word that was written at it
pub word_of-with_word_same : (g : Geometry) (row : List ℕ) (slot : Slot) (word : ℕ) → InRow g slot → length row ≡ row_length g → word_of g (with_word g row slot word) slot ≡ word
word_of-with_word_same g row slot word fits whole =
    get_or-set_same row (index_of g slot) word 0 (let below = index_below g slot fits in omega arith)

-- a write keeps the length of the row
pub length-with_word : (g : Geometry) (row : List ℕ) (slot : Slot) (word : ℕ) → length (with_word g row slot word) ≡ length row
length-with_word g row slot word = length-set row (index_of g slot) word

-- an index that is a slot's
covered_by : (g : Geometry) (index : ℕ) (slot : Slot) → InRow g slot → index_of g slot ≡ index → InRow g (slot_at g index) × (index_of g (slot_at g index) ≡ index)
covered_by g index slot fits at =
    let e : slot_at g index ≡ slot = ap (slot_at g) (sym at) ∙ slot_at-index_of g slot fits in
    rw e (fits, at)

-- an offset in a table of rows of one width: its row, its column, and the offset that they make up
in_table : (offset width rows : ℕ) → 0 < width → offset < width * rows → (offset / width < rows) × (offset % width < width) × (offset / width * width + offset % width ≡ offset)
in_table offset width rows some below =
    let e : width * rows ≡ rows * width = mul_comm width rows in
    ((div-lt_iff_lt-mul some).1 (omega arith), mod_below offset width some, div-add-mod' offset width)

register_covered : (g : Geometry) (index : ℕ) → registers_from g ≤ index → index < lists_from g → InRow g (slot_at g index) × (index_of g (slot_at g index) ≡ index)
register_covered g index from below =
    let offset = index - registers_from g in
    let some : 0 < g.registers = omega (arith, g.registers_some) in
    let parts = in_table offset g.registers (tasks g) some (omega arith) in
    covered_by g index (Register (offset / g.registers) (offset % g.registers)) (parts.0, parts.1) (omega (arith, parts.2))

entry_covered : (g : Geometry) (index : ℕ) → lists_from g ≤ index → index < spaces_from g → InRow g (slot_at g index) × (index_of g (slot_at g index) ≡ index)
entry_covered g index from below =
    let offset = index - lists_from g in
    let some : 0 < list_length g = omega (arith, g.alloc_enough) in
    let parts = in_table offset (list_length g) 2 some (omega arith) in
    covered_by g index (Entry (offset / list_length g) (offset % list_length g)) (parts.0, parts.1) (omega (arith, parts.2))

-- each index of the row is that of a slot
pub index_covered : (g : Geometry) (index : ℕ) → index < row_length g → InRow g (slot_at g index) × (index_of g (slot_at g index) ≡ index)
index_covered g index below =
    elim (cases_lt index 1) [
      | inl low ↦ covered_by g index W0 tt (omega arith)
      | inr from_w1 ↦
          elim (cases_lt index 2) [
            | inl low ↦ covered_by g index W1 tt (omega arith)
            | inr from_headers ↦
                elim (cases_lt index (marks_from g)) [
                  | inl low ↦ covered_by g index (Header (index - 2)) (omega arith) (omega arith)
                  | inr from_marks ↦
                      elim (cases_lt index (frames_from g)) [
                        | inl low ↦ covered_by g index (Mark (index - marks_from g)) (omega arith) (omega arith)
                        | inr from_frames ↦
                            elim (cases_lt index (registers_from g)) [
                              | inl low ↦ covered_by g index (Frame (index - frames_from g)) (omega arith) (omega arith)
                              | inr from_registers ↦
                                  elim (cases_lt index (lists_from g)) [
                                    | inl low ↦ register_covered g index from_registers low
                                    | inr from_lists ↦
                                        elim (cases_lt index (spaces_from g)) [
                                          | inl low ↦ entry_covered g index from_lists low
                                          | inr from_spaces ↦
                                              covered_by g index (Space (index - spaces_from g + 1)) (omega arith, omega arith) (omega arith)
                                        ]
                                  ]
                            ]
                      ]
                ]
          ]
    ]

-- two words of the spaces of one place are one word
pub place_at_injective : (g : Geometry) (s i t j : ℕ) → IsSpaceWord g s i → IsSpaceWord g t j → place_at g s i ≡ place_at g t j → (s ≡ t) × (i ≡ j)
place_at_injective g s i t j first second same =
    let row_s = div-mul-add s (space_words g) i first.1 in
    let row_t = div-mul-add t (space_words g) j second.1 in
    let column_s = mod-mul-add s (space_words g) i first.1 in
    let column_t = mod-mul-add t (space_words g) j second.1 in
    let offset : s * space_words g + i ≡ t * space_words g + j = omega arith in
    (sym row_s ∙ ap (λ n. n / space_words g) offset ∙ row_t, sym column_s ∙ ap (λ n. n % space_words g) offset ∙ column_t)

-- the place of a word of a space is a place
pub is_place : (g : Geometry) (space word : ℕ) → IsSpaceWord g space word → IsPlace g (place_at g space word)
is_place g space word fits =
    let below = mul-add-lt space (space_words g) word 2 fits.0 fits.1 in
    (omega arith, omega arith)
