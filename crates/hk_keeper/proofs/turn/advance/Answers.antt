use Rattle.std.proofs.Common.{rules, ◌≡◌, ℕ, ◌<◌, Option, Some, None, subst, sym, ap, ◌∙◌, arith}
use Rattle.hk_words.specs.declared.geometry.Geometry.{Geometry}
use Rattle.hk_core.specs.declared.event.Event.{Event}
use Rattle.hk_core.specs.declared.spot.Work.{Work}
use Rattle.hk_core.specs.Collect.{spot_event, spot_work, spot_took}
use Rattle.hk_core.specs.Event.{word_of}
use Rattle.hk_collect.specs.SpotFits.{SpotFits}
use Rattle.hk_table.specs.Deeds.{learnt_by}
use Rattle.hk_table.specs.Seats.{the_keeper}
use Rattle.hk_table.specs.Passes.{kept}
use Rattle.hk_table.proofs.KeeperFiring.{keeper_fits, keeper_within}
use Rattle.hk_keeper.specs.Collected.{Collected}
use Rattle.hk_keeper.proofs.Event.{keeper_after, one_event, no_event, none_of}
use Rattle.hk_keeper.proofs.turn.advance.Goals as goal

pub event-requires : goal.event-requires
event-requires g c =
    let k = c.requires in
    let h = c.args.heap.now in
    subst (λ (z : Geometry). SpotFits z c.args.keeper.now.spot) (sym c.geometry-g.ensures) (subst (SpotFits h.geometry) k.spot (keeper_fits h.geometry (kept c.args.keeper.now) k.stands))

pub returns-in_default-clause-collected : goal.returns-in_default-clause-collected
returns-in_default-clause-collected g c =
    let k = c.requires in
    let h = c.args.heap.now in
    let none : spot_event h.geometry (kept c.args.keeper.now).spot ≡ None =
    (λ i. spot_event (sym c.geometry-g.ensures i) (k.spot i)) ∙ sym c.event.ensures ∙ none_of c.event.result c.in_default.not-Some in
    (0, no_event h.geometry (kept c.args.keeper.now) k.stands none, omega arith)

pub fire-found-requires-clause-within : goal.fire-found-requires-clause-within
fire-found-requires-clause-within g c =
    let k = c.requires in
    let h = c.args.heap.now in
    let asks : spot_event h.geometry (kept c.args.keeper.now).spot ≡ Some c.in-Some.event =
    (λ i. spot_event (sym c.geometry-g.ensures i) (k.spot i)) ∙ sym c.event.ensures ∙ c.in-Some.is in
    subst (λ (n : ℕ). word_of c.in-Some.event < n) (sym h.words) (keeper_within h.geometry (kept c.args.keeper.now) k.stands c.in-Some.event asks)

pub took-requires : goal.took-requires
took-requires g c =
    let k = c.requires in
    let h = c.args.heap.now in
    subst (λ (z : Geometry). SpotFits z c.args.keeper.now.spot) (sym c.geometry-g.ensures) (subst (SpotFits h.geometry) k.spot (keeper_fits h.geometry (kept c.args.keeper.now) k.stands))

pub returns-clause-keeper : goal.returns-clause-keeper
returns-clause-keeper g c =
    let k = c.requires in
    let h = c.args.heap.now in
    let before = kept c.args.keeper.now in
    let asks : spot_event h.geometry before.spot ≡ Some c.in-Some.event =
    (λ i. spot_event (sym c.geometry-g.ensures i) (k.spot i)) ∙ sym c.event.ensures ∙ c.in-Some.is in
    let t = c.fire-found.ensures.collected in
    let o = keeper_after h.geometry c.args.keeper.now.seat.me.0.knows c.fire-found.new.seat.me.0.knows before t.0 k.is t.1.1 in
    let learns : c.fire-found.result ≡ learnt_by (spot_event h.geometry before.spot) t.0 = t.2 ∙ ap (λ (x : Option Event). learnt_by x t.0) (sym asks) in
    record {
      table = c.fire-found.ensures.table.0 ∙ k.table;
      empty = t.1.0 ∙ k.empty;
      is = o.0;
      stands = o.1.stands;
      spot = o.1.spot ∙ (λ i. spot_took (sym c.geometry-g.ensures i) (k.spot i) (sym learns i)) ∙ sym c.took.ensures.spot;
      made = o.1.made ∙ k.made;
      longest = o.1.longest ∙ k.longest;
      closed = o.1.closed ∙ k.closed;
    }

pub returns-clause-collected : goal.returns-clause-collected
returns-clause-collected g c =
    let k = c.requires in
    let h = c.args.heap.now in
    let before = kept c.args.keeper.now in
    let asks : spot_event h.geometry before.spot ≡ Some c.in-Some.event =
    (λ i. spot_event (sym c.geometry-g.ensures i) (k.spot i)) ∙ sym c.event.ensures ∙ c.in-Some.is in
    let t = c.fire-found.ensures.collected in
    let o = keeper_after h.geometry c.args.keeper.now.seat.me.0.knows c.fire-found.new.seat.me.0.knows before t.0 k.is t.1.1 in
    let learns : c.fire-found.result ≡ learnt_by (spot_event h.geometry before.spot) t.0 = t.2 ∙ ap (λ (x : Option Event). learnt_by x t.0) (sym asks) in
    let work : c.took.result ≡ spot_work h.geometry before.spot (learnt_by (spot_event h.geometry before.spot) t.0) =
    c.took.ensures.work ∙ (λ i. spot_work (c.geometry-g.ensures i) (sym k.spot i) (learns i)) in
    let after = the_keeper c.fire-found.new.seat.me.0.knows in
    (1, subst (λ (w : Work). Collected h.geometry before 1 w 1 after) (sym work) (one_event h.geometry before after t.0 o.1 c.in-Some.event asks), search rules)
