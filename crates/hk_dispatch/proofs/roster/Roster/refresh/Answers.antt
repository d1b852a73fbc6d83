use Rattle.hk_dispatch.proofs.roster.Roster.refresh.Goals as goal

pub returns-then-tick-self-clause-ready : goal.returns-then-tick-self-clause-ready
returns-then-tick-self-clause-ready c = λ sheet m e h stale. c.look.ensures.ready sheet m e h
