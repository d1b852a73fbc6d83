-- One task comes to its place at a time.
use Rattle.std.proofs.Common.{ℕ, ◌+◌, List, length, Contains, refl, sym, ◌∙◌, subst, arith}
use Rattle.std.specs.List.{swap}
use Rattle.hk_sheet.specs.declared.sheet.High.{High}
use Rattle.hk_assign.proofs.Filled.{order_length}
use Rattle.hk_assign.proofs.Standing.{AreStanding, at_first, stands, one_more, at_last}
use Rattle.hk_assign.proofs.reorder.put_in_order.Goals as goal

pub loop-place-init : goal.loop-place-init
loop-place-init c = at_first c.args.tasks.now c.args.tasks.now _ c.args.order.now refl c.indices-standing.ensures

pub at-requires : goal.at-requires
at-requires c =
    let long = order_length (length c.args.tasks.now) c.args.order.now c.requires.order in
    omega (arith, c.loop-place-test.true, long)

pub place_of-other-requires : goal.place_of-other-requires
place_of-other-requires c =
    subst (Contains c.loop-place.standing) (sym c.at.ensures)
    (stands c.args.tasks.now c.loop-place.tasks c.loop-place.standing c.args.order.now c.loop-place.place c.loop-place.invariant c.requires.order c.loop-place-test.true)

pub loop-place-preserved : goal.loop-place-preserved
loop-place-preserved c =
    let old = c.args.tasks.now in
    let order = c.args.order.now in
    let place = c.loop-place.place in
    let other = c.place_of-other.result in
    let more =
    one_more old c.loop-place.tasks c.loop-place.standing order place c.loop-place.invariant other c.requires.order c.loop-place-test.true
    c.place_of-other.ensures.within (c.place_of-other.ensures.found ∙ c.at.ensures) in
    subst (λ (tasks : List High). AreStanding old tasks c.swap.new.self order (place + 1)) (sym c.swap-in-loop-place.ensures.after)
    (subst (λ (standing : List ℕ). AreStanding old (swap c.loop-place.tasks place other) standing order (place + 1)) (sym c.swap.ensures.after) more)

pub returns : goal.returns
returns c =
    at_last c.args.tasks.now c.loop-place.tasks c.loop-place.standing c.args.order.now c.loop-place.place c.loop-place.invariant c.requires.order c.loop-place-test.false
