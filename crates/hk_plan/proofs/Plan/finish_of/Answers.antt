-- A row has an end exactly where it has had all its ticks.
use Rattle.std.proofs.Common.{◌<◌, ◌↔◌, IsNone, length, sym, subst}
use Rattle.hk_plan.specs.Alone.{Progress, had_after, ticks_of}
use Rattle.hk_plan.proofs.Track.{finish_none_at}
use Rattle.hk_plan.proofs.Plan.finish_of.Goals as goal

pub returns-clause-none : goal.returns-clause-none
returns-clause-none c =
    let P : Progress → Type 0 = λ v. IsNone c.index.result.now ↔ (had_after v.rows v.given c.args.row < ticks_of v.rows c.args.row) in
    let Q : Progress → Type 0 = λ v. c.args.row < length v.rows in
    subst P c.self.view_is
    (finish_none_at c.self.inside.rows.items c.self.inside.had.items c.self.inside.finish.items c.self.inside.given
    c.args.row c.index.result.now c.self.invariant (subst Q (sym c.self.view_is) c.requires) c.index.ensures)
