use Rattle.std.proofs.Common.{◌∙◌, ap, sym}
use Rattle.hk_sheet.specs.declared.sheet.Sheet.{Sheet}
use Rattle.hk_dispatch.proofs.TurnTaken.{may_look, courses_seen, looked}
use Rattle.hk_dispatch.proofs.stand.Stand.look.Goals as goal

pub refresh-requires-clause-may : goal.refresh-requires-clause-may
refresh-requires-clause-may c = may_look c.args.sheet.now c.requires.0 c.args.tick c.args.self.now c.requires.1 c.deref.result.now c.deref-2.result.now
    (c.deref.ensures.value ∙ ap (λ (s : Sheet). s.high) c.sheet.view_is) c.deref-2.ensures.value

pub returns : goal.returns
returns c = λ m b.
    looked c.args.sheet.now m c.args.tick c.args.self.now b c.refresh.new.self c.refresh.ensures.room
    (c.refresh.ensures.ready c.args.sheet.now m (sym (c.deref.ensures.value ∙ ap (λ (s : Sheet). s.high) c.sheet.view_is))
    (courses_seen c.args.sheet.now m c.args.tick c.args.self.now b c.deref-2.result.now c.deref-2.ensures.value) b.shows.roster_is)
