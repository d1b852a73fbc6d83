use Rattle.std.proofs.Common.{◌≡◌, ◌∙◌, ap, sym, subst, refl, ℕ, ◌<◌}
use Rattle.hk_words.specs.declared.geometry.Geometry.{Geometry}
use Rattle.hk_words.specs.Row.Slot.{W0}
use Rattle.hk_words.proofs.RowLaws.{index_below}
use Rattle.atomic_table.specs.Table.{Joins, Allows}
use Rattle.hk_table.specs.Knows.{spent, told}
use Rattle.hk_table.specs.Seats.{given, Looked}
use Rattle.hk_table.specs.Rule.{InOneRun}
use Rattle.hk_table.specs.Passes.{known, noted_in}
use Rattle.hk_table.proofs.Seats.{note_joins, view}
use Rattle.hk_table.proofs.Looking.{look_allows}
use Rattle.hk_table.proofs.Passing.{pass_looked, looked_from, looks_so}
use Rattle.hk_table.proofs.heap.Heap.learn.Goals as goal

pub join_seat-requires : goal.join_seat-requires
join_seat-requires c =
    let h = c.args.self.now in
    let seat = c.args.pass.now.seat in
    let other = c.args.note.seat in (
      c.requires.pass.table,
      c.requires.note.table,
      c.requires.note.empty,
      subst (λ (n : ℕ). 0 < n) (sym h.words) (index_below h.geometry W0 tt),
      subst (λ (z : Geometry). Joins (InOneRun z) seat.id seat.me.0 other.id other.me.0 (view (given seat.me.0.knows other.me.0.knows)) (view spent)) (sym h.key)
          (note_joins h.geometry seat.id other.id seat.me.0 other.me.0 (known c.args.pass.now) (noted_in c.args.note) c.requires.pass.is c.requires.note.is),
    )

pub load-requires : goal.load-requires
load-requires c =
    let h = c.args.self.now in
    let seat = c.join_seat.new.seat in
    let is : seat.me.0.knows ≡ told h.geometry (known c.args.pass.now) (noted_in c.args.note) =
    ap (λ m. m.0.knows) c.join_seat.ensures.2 ∙ (λ i. given (c.requires.pass.is i) (c.requires.note.is i)) in (
      c.join_seat.ensures.0 ∙ c.requires.pass.table,
      subst (λ (n : ℕ). 0 < n) (sym h.words) (index_below h.geometry W0 tt),
      subst (λ (z : Geometry). Allows (InOneRun z) h.table.shared.table_id.slots seat.id seat.me 0 (λ n. n) (λ n m. Looked seat.me m)) (sym h.key)
          (look_allows h.geometry h.table.shared.table_id.slots seat.id 0 seat.me (known c.args.pass.now) (noted_in c.args.note) is),
    )

pub returns-clause-pass : goal.returns-clause-pass
returns-clause-pass c =
    let h = c.args.self.now in
    let p = c.args.pass.now in
    let seat = c.join_seat.new.seat in
    let is : seat.me.0.knows ≡ told h.geometry (known p) (noted_in c.args.note) =
    ap (λ m. m.0.knows) c.join_seat.ensures.2 ∙ (λ i. given (c.requires.pass.is i) (c.requires.note.is i)) in
    let looked = looked_from h.geometry (known p) (noted_in c.args.note) seat.me.0.knows c.load.new.seat.me.0.knows is c.load.ensures.2.1 in
    (pass_looked h p _ c.requires.pass (c.load.ensures.0 ∙ c.join_seat.ensures.0) (c.load.ensures.2.0 ∙ ap (λ m. m.1) c.join_seat.ensures.2) refl refl refl refl looked.0 looked.1 (noted_in c.args.note) looked.2).0

pub returns-clause-learnt : goal.returns-clause-learnt
returns-clause-learnt c =
    let h = c.args.self.now in
    let p = c.args.pass.now in
    let seat = c.join_seat.new.seat in
    let is : seat.me.0.knows ≡ told h.geometry (known p) (noted_in c.args.note) =
    ap (λ m. m.0.knows) c.join_seat.ensures.2 ∙ (λ i. given (c.requires.pass.is i) (c.requires.note.is i)) in
    looks_so h.geometry (known p) (noted_in c.args.note) seat.me.0.knows c.load.new.seat.me.0.knows is c.load.ensures.2.1
