use Rattle.std.proofs.Common.{◌≡◌, ◌∙◌, ap, sym, subst, ℕ, ◌<◌, List}
use Rattle.std.specs.Prelude.{slice_index}
use Rattle.std.specs.Slots.{slots_items}
use Rattle.hk_words.specs.declared.geometry.Geometry.{Geometry}
use Rattle.hk_words.specs.Row.Slot.{W0}
use Rattle.hk_words.proofs.RowLaws.{index_below}
use Rattle.atomic_table.specs.Table.{Splits, Final, Seen}
use Rattle.hk_core.specs.Run.{Action, run_from_opening}
use Rattle.hk_table.specs.Rule.{InOneRun}
use Rattle.hk_table.specs.Seats.{the_keeper, the_log, last_log}
use Rattle.hk_table.proofs.Seats.{log_splits, view}
use Rattle.hk_table.proofs.Closing.{last_word, knows_all}
use Rattle.hk_table.proofs.heap.Heap.finish.Goals as goal

pub split_seat-last-requires : goal.split_seat-last-requires
split_seat-last-requires c =
    let h = c.args.self in
    let seat = c.args.seat in (
      c.requires.table,
      subst (λ (n : ℕ). 0 < n) (sym h.words) (index_below h.geometry W0 tt),
      subst (λ (z : Geometry). Splits (InOneRun z) seat.id seat.me.0 seat.me.0 (view (last_log seat.me.0.knows))) (sym h.key)
          (log_splits h.geometry seat.id seat.me.0 (the_keeper seat.me.0.knows) c.requires.keeper),
    )

pub invariant_of-result : goal.invariant_of-result
invariant_of-result c =
    let h = c.args.self in
    let seat = c.args.seat in
    let k = the_keeper seat.me.0.knows in
    let e = c.split_seat-last.ensures in
    let log : the_log c.split_seat-last.result.me.0.knows ≡ k.longest = ap (λ m. the_log m.0.knows) e.4 ∙ ap (λ x. the_log (last_log x)) c.requires.keeper in
    let same : c.split_seat-last.new.seat.me.0 ≡ seat.me.0 = ap (λ m. m.0) e.2 in
    let v = c.close_with-closed.ensures.values in
    let final : Final (Seen (InOneRun h.geometry) c.split_seat-last.new.seat.id seat.me.0) (slots_items c.close_with-closed.result.words) (slots_items c.close_with-closed.result.slots) =
    subst (λ (z : Geometry). Final (Seen (InOneRun z) c.split_seat-last.new.seat.id seat.me.0) (slots_items c.close_with-closed.result.words) (slots_items c.close_with-closed.result.slots)) h.key
    (subst (λ x. Final (Seen (InOneRun h.table.shared.key) c.split_seat-last.new.seat.id x) (slots_items c.close_with-closed.result.words) (slots_items c.close_with-closed.result.slots)) same v.2) in
    record {
      reserves = last_word h.geometry c.split_seat-last.new.seat.id seat.me.0 k _ _ final c.requires.keeper c.requires.few c.requires.every 1 c.word-reserved.result c.word-reserved.ensures
          ∙ ap (λ (l : List Action). slice_index (run_from_opening h.geometry l).core.row 1) (sym log);
    }

pub returns-clause-whole : goal.returns-clause-whole
returns-clause-whole c =
    let h = c.args.self in
    let seat = c.args.seat in
    let k = the_keeper seat.me.0.knows in
    let same : c.split_seat-last.new.seat.me.0 ≡ seat.me.0 = ap (λ m. m.0) c.split_seat-last.ensures.2 in
    let v = c.close_with-closed.ensures.values in
    let final : Final (Seen (InOneRun h.geometry) c.split_seat-last.new.seat.id seat.me.0) (slots_items c.close_with-closed.result.words) (slots_items c.close_with-closed.result.slots) =
    subst (λ (z : Geometry). Final (Seen (InOneRun z) c.split_seat-last.new.seat.id seat.me.0) (slots_items c.close_with-closed.result.words) (slots_items c.close_with-closed.result.slots)) h.key
    (subst (λ x. Final (Seen (InOneRun h.table.shared.key) c.split_seat-last.new.seat.id x) (slots_items c.close_with-closed.result.words) (slots_items c.close_with-closed.result.slots)) same v.2) in
    knows_all h.geometry c.split_seat-last.new.seat.id seat.me.0 k _ _ final c.requires.keeper c.requires.few c.requires.every
