-- The columns that what is in use is read from (marks, places and registers) after an event at one of the other words.
use Rattle.std.proofs.Common.{◌≡◌, ◌≢◌, ℕ, ◌<◌, ◌≤◌, Bool, true, false, refl, ap, arith, List, get_or-set_other, Some, None}
use Rattle.std.proofs.lemmas.Bool.{ltb-true, and_parts}
use Rattle.std.proofs.lemmas.Nat.{mul-add-lt}
use Rattle.std.specs.Prelude.{nat_lt, ◌&&◌, slice_set}
use Rattle.hk_words.specs.declared.geometry.Geometry.{Geometry}
use Rattle.hk_words.specs.Geometry.{tasks, numbers, frames_from, registers_from, lists_from}
use Rattle.hk_words.specs.Layout as layout
use Rattle.hk_words.specs.Row.{Slot, index_of, w0_at, w1_at, header_at, mark_at, frame_at, register_at, entry_at, space_at}
use Rattle.hk_words.specs.Row.Slot.{Header, Mark, Register}
use Rattle.hk_core.specs.declared.event.Event.{Event}
use Rattle.hk_core.specs.declared.event.Event.TheVariants as event
use Rattle.hk_core.specs.Event.{fired, fired_if, word_after, old_of}
use Rattle.hk_core.specs.Event as events
use Rattle.hk_core.specs.View.{Words, words_of, decoded, raw, word_if}
use Rattle.hk_core.proofs.Columns.{fired_kept}

-- two states of the words agree on marks, places and registers
pub record Agrees (w v : Words) : Type 0 where
  pub mark : v.mark ≡ w.mark
  pub place : v.place ≡ w.place
  pub register : v.register ≡ w.register

pub agrees_itself : (w : Words) → Agrees w w
agrees_itself w = record { mark = refl; place = refl; register = refl }

pub agrees_same : (w v : Words) → v ≡ w → Agrees w v
agrees_same w v e = record { mark = ap (λ (u : Words). u.mark) e; place = ap (λ (u : Words). u.place) e; register = ap (λ (u : Words). u.register) e }

-- an index of W0, W1, a frame, an entry or a space
pub data IsBeside (g : Geometry) (i : ℕ) : Type 0 where
  at_head : i < 2 → IsBeside g i
  at_frame : frames_from g ≤ i → i < registers_from g → IsBeside g i
  at_end : lists_from g ≤ i → IsBeside g i

-- the words of the columns stand elsewhere
header_else : (g : Geometry) (i n : ℕ) → IsBeside g i → n < numbers g → header_at g n ≢ i
header_else g i n (at_head low) fits = λ e. absurd (omega arith)
header_else g i n (at_frame from to) fits = λ e. absurd (omega arith)
header_else g i n (at_end from) fits = λ e. absurd (omega arith)

mark_else : (g : Geometry) (i n : ℕ) → IsBeside g i → n < numbers g → mark_at g n ≢ i
mark_else g i n (at_head low) fits = λ e. absurd (omega arith)
mark_else g i n (at_frame from to) fits = λ e. absurd (omega arith)
mark_else g i n (at_end from) fits = λ e. absurd (omega arith)

register_else : (g : Geometry) (i s r : ℕ) → IsBeside g i → s < tasks g → r < g.registers → register_at g s r ≢ i
register_else g i s r (at_head low) seat reg = λ e. absurd (omega arith)
register_else g i s r (at_frame from to) seat reg = λ e. absurd (omega arith)
register_else g i s r (at_end from) seat reg = λ e. absurd (omega (arith, mul-add-lt s g.registers r (tasks g) seat reg))

word_kept : (g : Geometry) (row : List ℕ) (i v : ℕ) (test : Bool) (slot : Slot) → (test ≡ true → index_of g slot ≢ i) → word_if g (slice_set row i v) test slot ≡ word_if g row test slot
unfolding word_if
word_kept g row i v true slot else' = get_or-set_other row i (index_of g slot) v 0 (else' refl)
word_kept g row i v false slot else' = refl

pub agrees_set : (g : Geometry) (row : List ℕ) (i v : ℕ) → IsBeside g i → Agrees (words_of g row) (words_of g (slice_set row i v))
unfolding words_of decoded raw
agrees_set g row i v beside = record {
  mark = λ k n. word_kept g row i v (nat_lt n (numbers g)) (Mark n) (λ e. mark_else g i n beside (ltb-true n (numbers g) e)) k;
  place = λ k n. layout.header_place (word_kept g row i v (nat_lt n (numbers g)) (Header n) (λ e. header_else g i n beside (ltb-true n (numbers g) e)) k);
  register = λ k s r. word_kept g row i v (nat_lt s (tasks g) && nat_lt r g.registers) (Register s r)
      (λ e. let p = and_parts _ _ e in register_else g i s r beside (ltb-true s (tasks g) p.0) (ltb-true r g.registers p.1)) k;
}

-- after an event there
pub agrees_fired : (g : Geometry) (row : List ℕ) (e : Event) → IsBeside g (events.word_of e) → Agrees (words_of g row) (words_of g (fired_if row (Some e)))
unfolding fired_if fired
agrees_fired g row e beside = agrees_set g row (events.word_of e) (word_after e (old_of row e)) beside

-- after a load, and after no event
pub agrees_load : (g : Geometry) (row : List ℕ) (word : ℕ) → Agrees (words_of g row) (words_of g (fired_if row (Some (event.Load word))))
unfolding fired_if
agrees_load g row word = agrees_same _ _ (ap (words_of g) (fired_kept row (event.Load word) refl))

pub agrees_rest : (g : Geometry) (row : List ℕ) → Agrees (words_of g row) (words_of g (fired_if row None))
unfolding fired_if
agrees_rest g row = agrees_itself (words_of g row)

-- the indexes of the other words
pub beside_w0 : (g : Geometry) → IsBeside g (w0_at g)
beside_w0 g = at_head (omega arith)

pub beside_w1 : (g : Geometry) → IsBeside g (w1_at g)
beside_w1 g = at_head (omega arith)

pub beside_frame : (g : Geometry) (s : ℕ) → s < tasks g → IsBeside g (frame_at g s)
beside_frame g s fits = at_frame (omega arith) (omega arith)

pub beside_entry : (g : Geometry) (list j : ℕ) → IsBeside g (entry_at g list j)
beside_entry g list j = at_end (omega arith)

pub beside_space : (g : Geometry) (p : ℕ) → IsBeside g (space_at g p)
beside_space g p = at_end (omega arith)
