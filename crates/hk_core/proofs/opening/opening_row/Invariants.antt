use Rattle.std.proofs.Common.{◌≡◌}
use Rattle.std.specs.Prelude.{map}
use Rattle.std.specs.List.{range_with_len}
use Rattle.hk_words.specs.Row.{slot_at}
use Rattle.hk_core.specs.State.{opening_word}
use Rattle.hk_core.proofs.opening.opening_row.Given as goal

abbrev pub invariant-loop-index : goal.invariant-loop-index
invariant-loop-index l = l.row.items ≡ map (λ index. opening_word l.g (slot_at l.g index)) (range_with_len 0 l.index)
