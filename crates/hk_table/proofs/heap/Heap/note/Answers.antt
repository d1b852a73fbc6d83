use Rattle.std.proofs.Common.{◌≡◌, ◌∙◌, ap, sym, subst, refl, ℕ, ◌<◌}
use Rattle.hk_words.specs.declared.geometry.Geometry.{Geometry}
use Rattle.hk_words.specs.Row.Slot.{W0}
use Rattle.hk_words.proofs.RowLaws.{index_below}
use Rattle.atomic_table.specs.Table.{Splits}
use Rattle.hk_table.specs.Knows.{note}
use Rattle.hk_table.specs.Deeds.{the_pass}
use Rattle.hk_table.specs.Seats.{noted, the_note}
use Rattle.hk_table.specs.Rule.{InOneRun}
use Rattle.hk_table.specs.Passes.{known}
use Rattle.hk_table.proofs.Seats.{note_splits, view}
use Rattle.hk_table.proofs.Passing.{pass_with}
use Rattle.hk_table.proofs.heap.Heap.note.Goals as goal

pub split_seat-requires : goal.split_seat-requires
split_seat-requires c =
    let h = c.args.self.now in
    let seat = c.args.pass.now.seat in (
      c.requires.pass.table,
      subst (λ (n : ℕ). 0 < n) (sym h.words) (index_below h.geometry W0 tt),
      subst (λ (z : Geometry). Splits (InOneRun z) seat.id seat.me.0 seat.me.0 (view (noted seat.me.0.knows))) (sym h.key)
          (note_splits h.geometry seat.id seat.me.0 (known c.args.pass.now) c.requires.pass.is),
    )

pub returns-clause-pass : goal.returns-clause-pass
returns-clause-pass c = pass_with c.args.self.now c.args.pass.now _ c.requires.pass c.split_seat.ensures.0 c.split_seat.ensures.2 refl refl refl refl

pub returns-clause-same : goal.returns-clause-same
returns-clause-same c = ap (λ m. the_pass m.0.knows) c.split_seat.ensures.2

pub returns-clause-note : goal.returns-clause-note
returns-clause-note c =
    let h = c.args.self.now.geometry in
    let k = known c.args.pass.now in
    let e = c.split_seat.ensures in
    let told : c.split_seat.result.me.0.knows ≡ note h k.seen = ap (λ m. m.0.knows) e.4 ∙ ap noted c.requires.pass.is in
    let is : the_note c.split_seat.result.me.0.knows ≡ k.seen = ap the_note told in (
      record {
        table = e.3 ∙ c.requires.pass.table;
        empty = ap (λ m. m.1) e.4;
        is = told ∙ ap (note h) (sym is);
      },
      is,
    )
