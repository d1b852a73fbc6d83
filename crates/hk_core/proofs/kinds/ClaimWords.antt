-- What the words of a row say after a claim and a reserve, and that the place of a link word is one of the spaces.
use Rattle.std.proofs.Common.{◌≡◌, ℕ, zero, suc, ◌+◌, ◌*◌, ◌%◌, ◌<◌, ◌≤◌, List, length, refl, ◌∙◌, ap, arith}
use Rattle.std.specs.Prelude.{max}
use Rattle.hk_words.specs.declared.geometry.Geometry.{Geometry}
use Rattle.hk_words.specs.Geometry.{numbers, space_words, row_length}
use Rattle.hk_words.specs.Row.{word_of, w1_at, mark_at, place_at}
use Rattle.hk_words.specs.Row.Slot.{W1, Mark}
use Rattle.hk_core.specs.declared.event.Event.TheVariants as event
use Rattle.hk_core.specs.Event.{fired}
use Rattle.hk_core.specs.View.{words_of, raw, decoded}
use Rattle.hk_core.proofs.Columns.{fired_at, raw-mark, raw-w1, raw_mark, raw_w1}
use Rattle.hk_core.proofs.Encode.{decoded-mark, decoded-w1}
use Rattle.hk_core.proofs.kinds.Claim.{claim_words}
use Rattle.hk_core.proofs.kinds.Reserve.{reserve_words}

module _ (g : Geometry) (row : List ℕ) (whole : length row ≡ row_length g) where
  pub words-claim : (n c : ℕ) → n < numbers g → words_of g (fired row (event.Max (mark_at g n) c)) ≡ claim_words (words_of g row) n c
  unfolding words_of decoded
  words-claim n c fits =
      ap (λ (r : List ℕ). decoded (raw g r)) (fired_at g row (event.Max (mark_at g n) c) (Mark n) refl)
      ∙ ap decoded (raw-mark g row n (max (word_of g row (Mark n)) c) fits whole)
      ∙ rw (← raw_mark g row n fits) (decoded-mark (raw g row) n (max ((raw g row).mark n) c))

  pub words-reserve : (size : ℕ) → words_of g (fired row (event.Add (w1_at g) size)) ≡ reserve_words (words_of g row) size
  unfolding words_of decoded
  words-reserve size =
      ap (λ (r : List ℕ). decoded (raw g r)) (fired_at g row (event.Add (w1_at g) size) W1 refl)
      ∙ ap decoded (raw-w1 g row (word_of g row W1 + size) whole)
      ∙ rw (← raw_w1 g row) (decoded-w1 (raw g row) ((raw g row).w1 + size))

-- the place of a link word that fits is one of the spaces
pub link_place_fits : (g : Geometry) (cycle offset size : ℕ) → 0 < size → offset + size ≤ g.live
    → (0 < place_at g (cycle % 2) offset) × (place_at g (cycle % 2) offset ≤ 2 * space_words g)
link_place_fits g cycle offset size some fits = by_side (cycle % 2) (omega arith)
  where
    by_side : (side : ℕ) → side ≤ 1 → (0 < place_at g side offset) × (place_at g side offset ≤ 2 * space_words g)
    by_side zero few = (omega arith, omega arith)
    by_side (suc zero) few = (omega arith, omega arith)
    by_side (suc (suc side)) few = absurd (omega arith)
