use Rattle.std.proofs.Common.{subst}
use Rattle.hk_dispatch.specs.Session.{IsSession}
use Rattle.hk_dispatch.specs.Opened.{Opened}
use Rattle.hk_dispatch.proofs.session.SessionBy.checked.Goals as goal

pub returns-clause-session : goal.returns-clause-session
returns-clause-session g c =
    let s = c.self.inside in
    subst (λ (o : Opened g.row.P.Denot). IsSession o.geometry (g.P.Pick.choice o.pick) o.sheet o.work o.attempt o.busy o.debt) c.self.view_is
    (record { sizes = c.self.invariant.sizes; checked = s.checked.sound; choice_is = g.met.P.Pick.chooses s.pick })
