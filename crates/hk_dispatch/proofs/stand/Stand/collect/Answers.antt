use Rattle.std.proofs.Common.{◌∙◌, ◌+◌, ◌-◌, ap, arith, refl}
use Rattle.hk_collect.specs.Used.{is_flip}
use Rattle.hk_dispatch.proofs.WentOn.{counted, collect_went}
use Rattle.hk_dispatch.proofs.stand.Stand.collect.Goals as goal

pub returns : goal.returns
returns c = λ sheet m tick h.
    let s = c.args.self.now in
    let work = c.next_event-work.result in
    let lost = c.from.ensures ∙ c.lost_in.ensures in
    let few = c.lost_in.type_inv in
    collect_went sheet m tick s h c.requires.owed work c.next_event-work.ensures.work (let e = c.lost_in.ensures in omega (arith, few, e)) _
    (record {
      heap = c.next_event-work.ensures.next;
      tasks = refl;
      roster = refl;
      in_mid = refl;
      debt = ap (λ k. s.debt - 1 + k) lost;
      flips = ap (λ k. s.flips + k) (c.from-2.ensures ∙ c.flips_in.ensures) ∙ counted s.flips (is_flip work);
      events = refl;
      idle = refl;
      over = c.over_in-self.ensures;
    })
    c.told_event.result c.told_event.ensures
