use Rattle.std.proofs.Common.{◌≡◌, ◌∙◌, ap, sym, subst, ℕ, ◌<◌}
use Rattle.std.specs.Prelude.{nat_lt}
use Rattle.hk_words.specs.declared.geometry.Geometry.{Geometry}
use Rattle.hk_words.specs.Row.Slot.{W0}
use Rattle.hk_words.proofs.RowLaws.{index_below}
use Rattle.atomic_table.specs.Table.{Splits}
use Rattle.hk_core.specs.State.{idle}
use Rattle.hk_table.specs.Knows.{PassView, pass}
use Rattle.hk_table.specs.Deeds.{Stands, the_pass}
use Rattle.hk_table.specs.Seats.{keeper_from, rest_of, made_of}
use Rattle.hk_table.specs.Rule.{fresh, InOneRun}
use Rattle.hk_table.proofs.Seats.{pass_splits, view}
use Rattle.hk_table.proofs.Opening.{fresh_fits}
use Rattle.hk_table.proofs.heap.Heap.next_pass.Goals as goal

pub split_seat-seat-requires : goal.split_seat-seat-requires
split_seat-seat-requires c =
    let h = c.args.self.now in
    let seat = c.args.source.now in (
      c.requires.table,
      subst (λ (n : ℕ). 0 < n) (sym h.words) (index_below h.geometry W0 tt),
      subst (λ (z : Geometry). Splits (InOneRun z) seat.id seat.me.0 (view (rest_of seat.me.0.knows)) (view (made_of seat.me.0.knows))) (sym h.key)
          (pass_splits h.geometry seat.id seat.me.0 (keeper_from c.args.number) c.requires.keeper c.requires.some),
    )

pub returns-clause-keeper : goal.returns-clause-keeper
returns-clause-keeper c = ap (λ m. m.0.knows) c.split_seat-seat.ensures.2 ∙ ap rest_of c.requires.keeper

pub returns-clause-pass : goal.returns-clause-pass
unfolding idle
returns-clause-pass c =
    let h = c.args.self.now in
    let e = c.split_seat-seat.ensures in
    let made : c.split_seat-seat.result.me.0.knows ≡ pass h.geometry (fresh h.geometry c.args.number) =
    ap (λ m. m.0.knows) e.4 ∙ ap made_of c.requires.keeper in
    let is : the_pass c.split_seat-seat.result.me.0.knows ≡ fresh h.geometry c.args.number = ap the_pass made in (
      record {
        table = e.3 ∙ c.requires.table;
        empty = ap (λ m. m.1) e.4;
        is = made ∙ ap (pass h.geometry) (sym is);
        stands = subst (Stands h.geometry) (sym is) (fresh_fits h.geometry c.args.number c.requires.some);
        idle = ap (λ (p : PassView). p.flight.place) is;
        number = ap (λ (p : PassView). p.seat) is;
        high = ap (λ (n : ℕ). nat_lt c.args.number n) c.high.ensures;
        registers = c.requires.registers ∙ sym (ap (λ (p : PassView). p.registers) is);
        begun = ap (λ (p : PassView). p.begun) is;
      },
      is,
    )
