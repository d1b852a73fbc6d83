use Rattle.hk_dispatch.proofs.Looking.{Looked}
use Rattle.hk_dispatch.proofs.roster.Roster.look.Given as goal

-- so far the tasks below the seat were looked through
abbrev pub invariant-loop-seat : goal.invariant-loop-seat
invariant-loop-seat l = Looked l.high l.tasks l.tick l.seat l.self
