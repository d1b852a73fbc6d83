use Rattle.std.proofs.Common.{◌∙◌, ap, sym, subst, ℕ, ◌<◌}
use Rattle.hk_words.specs.declared.geometry.Geometry.{Geometry}
use Rattle.hk_words.specs.Row.Slot.{W0}
use Rattle.hk_words.proofs.RowLaws.{index_below}
use Rattle.atomic_table.specs.Table.{Joins}
use Rattle.hk_table.specs.Knows.{spent}
use Rattle.hk_table.specs.Seats.{the_keeper, closed_by}
use Rattle.hk_table.specs.Rule.{InOneRun}
use Rattle.hk_table.specs.Passes.{known}
use Rattle.hk_table.proofs.Seats.{view}
use Rattle.hk_table.proofs.Looking.{closes}
use Rattle.hk_table.proofs.heap.Heap.take_in.Goals as goal

pub join_seat-requires : goal.join_seat-requires
join_seat-requires c =
    let h = c.args.self.now in
    let seat = c.args.seat.now in
    let other = c.args.pass.seat in (
      c.requires.table,
      c.requires.pass.table,
      c.requires.pass.empty,
      subst (λ (n : ℕ). 0 < n) (sym h.words) (index_below h.geometry W0 tt),
      subst (λ (z : Geometry). Joins (InOneRun z) seat.id seat.me.0 other.id other.me.0 (view (closed_by seat.me.0.knows other.me.0.knows)) (view spent)) (sym h.key)
          (closes h.geometry seat.id other.id seat.me.0 other.me.0 (the_keeper seat.me.0.knows) (known c.args.pass) c.requires.keeper c.requires.pass.is),
    )

pub returns-clause-knows : goal.returns-clause-knows
returns-clause-knows c = ap (λ m. m.0.knows) c.join_seat.ensures.2 ∙ (λ i. closed_by (c.requires.keeper i) (c.requires.pass.is i))
