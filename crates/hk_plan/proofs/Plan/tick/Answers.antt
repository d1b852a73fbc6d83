-- The tick goes to the row that goes first, and the plan keeps track of it.
use Rattle.std.proofs.Common.{◌≡◌, Some, ◌∙◌, sym, subst, arith}
use Rattle.hk_plan.specs.Alone.{Progress, row_at}
use Rattle.hk_plan.proofs.Track.{choice_at, reads_at, reads-lt, reads_more, reads_last, track_idle}
use Rattle.hk_plan.proofs.Plan.tick.Goals as goal

pub overflow_add-had : goal.overflow_add-had
overflow_add-had c =
    let choice = choice_at c.self.inside.rows.items c.deref.result.now c.self.inside.had.items c.deref-2.result.now c.self.inside.finish.items c.self.inside.given
    c.first_ready-first.result c.self.invariant c.deref.ensures.value c.deref-2.ensures.value c.first_ready-first.ensures.value in
    let reads = reads_at c.self.inside.rows.items c.self.inside.had.items c.self.inside.finish.items c.self.inside.given
    c.in-Some.place c.index-in-Some.result.now c.index.result.now c.first_ready-first.result c.self.invariant choice c.in-Some.is c.index-in-Some.ensures c.index.ensures in
    omega (
      arith,
      reads-lt c.self.inside.rows.items c.self.inside.had.items c.self.inside.finish.items c.self.inside.given
          c.in-Some.place c.index-in-Some.result.now c.index.result.now c.self.invariant reads,
    )

pub invariant_of-self : goal.invariant_of-self
invariant_of-self c =
    let choice = choice_at c.self.inside.rows.items c.deref.result.now c.self.inside.had.items c.deref-2.result.now c.self.inside.finish.items c.self.inside.given
    c.first_ready-first.result c.self.invariant c.deref.ensures.value c.deref-2.ensures.value c.first_ready-first.ensures.value in
    let reads = reads_at c.self.inside.rows.items c.self.inside.had.items c.self.inside.finish.items c.self.inside.given
    c.in-Some.place c.index-in-Some.result.now c.index.result.now c.first_ready-first.result c.self.invariant choice c.in-Some.is c.index-in-Some.ensures c.index.ensures in
    reads_last c.self.inside.rows.items c.self.inside.had.items c.self.inside.finish.items c.self.inside.given
    c.in-Some.place c.index-in-Some.result.now c.index.result.now c.self.invariant reads c.if-had-ticks.true

pub invariant_of-self-else-had-ticks : goal.invariant_of-self-else-had-ticks
invariant_of-self-else-had-ticks c =
    let choice = choice_at c.self.inside.rows.items c.deref.result.now c.self.inside.had.items c.deref-2.result.now c.self.inside.finish.items c.self.inside.given
    c.first_ready-first.result c.self.invariant c.deref.ensures.value c.deref-2.ensures.value c.first_ready-first.ensures.value in
    let reads = reads_at c.self.inside.rows.items c.self.inside.had.items c.self.inside.finish.items c.self.inside.given
    c.in-Some.place c.index-in-Some.result.now c.index.result.now c.first_ready-first.result c.self.invariant choice c.in-Some.is c.index-in-Some.ensures c.index.ensures in
    reads_more c.self.inside.rows.items c.self.inside.had.items c.self.inside.finish.items c.self.inside.given
    c.in-Some.place c.index-in-Some.result.now c.index.result.now c.self.invariant reads c.if-had-ticks.false

pub invariant_of-self-in_default : goal.invariant_of-self-in_default
invariant_of-self-in_default c =
    let choice = choice_at c.self.inside.rows.items c.deref.result.now c.self.inside.had.items c.deref-2.result.now c.self.inside.finish.items c.self.inside.given
    c.first_ready-first.result c.self.invariant c.deref.ensures.value c.deref-2.ensures.value c.first_ready-first.ensures.value in
    track_idle c.self.inside.rows.items c.self.inside.had.items c.self.inside.finish.items c.self.inside.given c.self.invariant (sym choice ∙ c.in_default.is)

pub returns-then-had-ticks-clause-who : goal.returns-then-had-ticks-clause-who
returns-then-had-ticks-clause-who c =
    let choice = choice_at c.self.inside.rows.items c.deref.result.now c.self.inside.had.items c.deref-2.result.now c.self.inside.finish.items c.self.inside.given
    c.first_ready-first.result c.self.invariant c.deref.ensures.value c.deref-2.ensures.value c.first_ready-first.ensures.value in
    let P : Progress → Type 0 = λ v. Some c.in-Some.place ≡ row_at v.rows v.given in
    subst P c.self.view_is (sym c.in-Some.is ∙ choice)

pub returns-else-had-ticks-clause-who : goal.returns-else-had-ticks-clause-who
returns-else-had-ticks-clause-who c =
    let choice = choice_at c.self.inside.rows.items c.deref.result.now c.self.inside.had.items c.deref-2.result.now c.self.inside.finish.items c.self.inside.given
    c.first_ready-first.result c.self.invariant c.deref.ensures.value c.deref-2.ensures.value c.first_ready-first.ensures.value in
    let P : Progress → Type 0 = λ v. Some c.in-Some.place ≡ row_at v.rows v.given in
    subst P c.self.view_is (sym c.in-Some.is ∙ choice)

pub returns-in_default-clause-who : goal.returns-in_default-clause-who
returns-in_default-clause-who c =
    let choice = choice_at c.self.inside.rows.items c.deref.result.now c.self.inside.had.items c.deref-2.result.now c.self.inside.finish.items c.self.inside.given
    c.first_ready-first.result c.self.invariant c.deref.ensures.value c.deref-2.ensures.value c.first_ready-first.ensures.value in
    let P : Progress → Type 0 = λ v. c.first_ready-first.result ≡ row_at v.rows v.given in
    subst P c.self.view_is choice
