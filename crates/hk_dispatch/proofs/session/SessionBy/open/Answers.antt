use Rattle.hk_dispatch.proofs.StandsFrom.{stands_first}
use Rattle.hk_dispatch.proofs.session.SessionBy.open.Goals as goal

pub invariant_of-result : goal.invariant_of-result
invariant_of-result g c =
    let e = c.in_ok-stand.ensures in
    stands_first (g.P.Pick.choice c.args.pick) c.args.checked.sheet c.in_ok-stand.stand e.sizes e.shows e.fit
