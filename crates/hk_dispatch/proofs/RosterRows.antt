-- The rows that stand in a roster, where one of them counts a tick and where one goes.
use Rattle.std.proofs.Common.{◌≡◌, ℕ, ◌+◌, ◌-◌, ◌<◌, ◌≤◌, List, length, sym, ◌∙◌, ap, arith, inl, inr, get_or, set, take, drop, length-take, length-drop, get_or-take}
use Rattle.std.proofs.Math.Seq.{take-set-lt}
use Rattle.std.proofs.lemmas.Bool.{cases_lt}
use Rattle.std.proofs.lemmas.List.{get_or-drop, drop-set-add, ext_get_or}
use Rattle.std.proofs.lemmas.List.Edits.{length-remove, get_or-remove_below, get_or-remove_above}
use Rattle.std.specs.List.{CopiedTo, SameFrom, remove, slice_range}
use Rattle.hk_plan.specs.declared.Ready.{Ready}
use Rattle.hk_plan.specs.AloneBy.{no_ready, ready_at}

module _ (rows : List Ready) (gone count place : ℕ) (fits : count ≤ length rows) (within : place < length (slice_range rows gone count)) where
  size : length (slice_range rows gone count) ≡ count - gone
  size = let e = length-take (count - gone) (drop gone rows) in let f = length-drop gone rows in omega (arith, e, f, fits)

  pub in_rows : gone + place < count
  in_rows = omega (arith, size, within)

  -- the row at a place of them
  row_at : (k : ℕ) → k < count - gone → ready_at (slice_range rows gone count) k ≡ get_or rows (gone + k) no_ready
  row_at k lt = get_or-take (count - gone) (drop gone rows) k no_ready lt ∙ get_or-drop gone rows k no_ready

  -- it counts the ticks that its job has had
  pub row_counts : (had : ℕ) → slice_range (set rows (gone + place) (record (get_or rows (gone + place) no_ready) { done = had })) gone count
      ≡ set (slice_range rows gone count) place (record (ready_at (slice_range rows gone count) place) { done = had })
  row_counts had =
      let lt : place < count - gone = omega (arith, in_rows) in
      ap (λ (x : Ready). slice_range (set rows (gone + place) (record x { done = had })) gone count) (sym (row_at place lt))
      ∙ ap (take (count - gone)) (drop-set-add gone rows place _)
      ∙ take-set-lt (count - gone) (drop gone rows) place _ lt

  -- it goes, and those in front of it move up
  module _ (moved : List Ready) (as_many : length moved ≡ length rows) (copied : CopiedTo rows moved gone (gone + 1) (gone + place - gone)) (same : SameFrom rows moved (gone + 1 + (gone + place - gone))) where
    moved_size : length (slice_range moved (gone + 1) count) ≡ count - (gone + 1)
    moved_size = let e = length-take (count - (gone + 1)) (drop (gone + 1) moved) in let f = length-drop (gone + 1) moved in omega (arith, e, f, fits, as_many)

    moved_at : (k : ℕ) → k < count - (gone + 1) → ready_at (slice_range moved (gone + 1) count) k ≡ get_or moved (gone + 1 + k) no_ready
    moved_at k lt = get_or-take (count - (gone + 1)) (drop (gone + 1) moved) k no_ready lt ∙ get_or-drop (gone + 1) moved k no_ready

    pub row_goes : slice_range moved (gone + 1) count ≡ remove (slice_range rows gone count) place
    row_goes =
        let less = length-remove (slice_range rows gone count) place within in
        ext_get_or no_ready (slice_range moved (gone + 1) count) (remove (slice_range rows gone count) place) (omega (arith, moved_size, less, size))
        (λ k lt.
        let early : k < count - (gone + 1) = omega (arith, lt, moved_size) in
        moved_at k early ∙ elim (cases_lt k place) [
          | inl front ↦
              copied (gone + 1 + k) no_ready (omega arith) (omega (arith, front))
              ∙ ap (λ i. get_or rows i no_ready) (omega arith)
              ∙ sym (row_at k (omega (arith, early)))
              ∙ sym (get_or-remove_below (slice_range rows gone count) place no_ready k front within)
          | inr behind ↦
              same (gone + 1 + k) no_ready (omega (arith, behind))
              ∙ ap (λ i. get_or rows i no_ready) (omega arith)
              ∙ sym (row_at (k + 1) (omega (arith, early)))
              ∙ sym (get_or-remove_above (slice_range rows gone count) place no_ready k behind within)
        ])
