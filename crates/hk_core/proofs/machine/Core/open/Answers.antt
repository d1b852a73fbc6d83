use Rattle.std.proofs.Common.{ℕ, ◌∙◌, length, ap}
use Rattle.std.proofs.Math.ListN.{length-replicate}
use Rattle.std.proofs.lemmas.List.FromFn.{length-map-range_with_len}
use Rattle.hk_words.specs.Geometry.{tasks, row_length}
use Rattle.hk_words.specs.Row.{slot_at}
use Rattle.hk_core.specs.State.{idle, opening_row, opening_word}
use Rattle.hk_core.proofs.OpeningLawful.{lawful_parts}
use Rattle.hk_core.proofs.machine.Core.open.Goals as goal

pub invariant_of-result : goal.invariant_of-result
unfolding opening_row
invariant_of-result c = record {
  row = ap length c.in_ok-opening_row.ensures
      ∙ length-map-range_with_len (λ (index : ℕ). opening_word c.args.geometry (slot_at c.args.geometry index)) 0 (row_length c.args.geometry);
  flights = ap length c.in_ok-opening_flights.ensures ∙ length-map-range_with_len idle 0 (tasks c.args.geometry);
  begun = ap length c.in_ok-opening_begun.ensures ∙ length-replicate {A = ℕ} (tasks c.args.geometry) 0;
}

pub returns-clause-lawful : goal.returns-clause-lawful
returns-clause-lawful c =
    lawful_parts c.args.geometry _ _ _ _ c.in_ok-opening_row.ensures c.in_ok-opening_flights.ensures c.in_ok-opening_begun.ensures c.opening_spot.ensures
