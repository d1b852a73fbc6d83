use Rattle.std.proofs.Common.{arith, ◌∙◌, ap, sym, subst, ℕ, List, [], length, ◌<◌}
use Rattle.hk_words.specs.declared.geometry.Geometry.{Geometry}
use Rattle.hk_words.specs.Geometry.{row_length}
use Rattle.hk_words.specs.Row.Slot.{W0}
use Rattle.hk_words.proofs.RowLaws.{index_below}
use Rattle.atomic_table.specs.Table.{opening, Splits}
use Rattle.hk_table.specs.Seats.{keeper_from, rest_of, made_of}
use Rattle.hk_table.specs.Rule.{InOneRun, first_view}
use Rattle.hk_table.proofs.Opening.{opens_so, row_length_is}
use Rattle.hk_table.proofs.Seats.{pass_splits, view}
use Rattle.hk_keeper.proofs.tests.stepping.open_stepped.Goals as goal

pub of_words-requires : goal.of_words-requires
of_words-requires c =
    subst (λ (row : List ℕ). InOneRun c.args.g (opening row [] (first_view c.args.g))) (sym (c.as_slice.ensures.value ∙ c.in_ok-row.ensures)) (opens_so c.args.g)

pub invariant_of-heap : goal.invariant_of-heap
invariant_of-heap c =
    let e = c.in_ok-table.ensures in
    let same = c.in_ok-heap.ensures.geometry in
    record {
      key = e.5 ∙ sym same;
      words = e.0 ∙ ap length (c.as_slice.ensures.value ∙ c.in_ok-row.ensures) ∙ row_length_is c.args.g ∙ ap row_length (sym same);
      slots = e.1;
    }

pub split_seat-pass-requires : goal.split_seat-pass-requires
split_seat-pass-requires c =
    let e = c.in_ok-table.ensures in
    let g = c.args.g in (
      e.2,
      subst (λ (n : ℕ). 0 < n) (sym (e.0 ∙ ap length (c.as_slice.ensures.value ∙ c.in_ok-row.ensures) ∙ row_length_is g)) (index_below g W0 tt),
      subst (λ (z : Geometry). Splits (InOneRun z) c.in_ok-table.seat.id c.in_ok-table.seat.me.0 (view (rest_of c.in_ok-table.seat.me.0.knows)) (view (made_of c.in_ok-table.seat.me.0.knows))) (sym e.5)
          (pass_splits g c.in_ok-table.seat.id c.in_ok-table.seat.me.0 (keeper_from 0) (ap (λ m. m.0.knows) e.4) (let one = c.requires in omega arith)),
    )
