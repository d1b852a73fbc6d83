use Rattle.std.proofs.Common.{◌≡◌, ℕ, nat_eq, IsTrue, ◌↔◌}
use Rattle.std.proofs.lemmas.Bool.{eqb-true, eq-eqb}
use Rattle.hk_core.specs.View.{flight_at}
use Rattle.hk_core.proofs.Shown.{same_answers}
use Rattle.hk_core.proofs.machine.Core.same.Goals as goal

are_equal : (a b first second : ℕ) → a ≡ first → b ≡ second → IsTrue (nat_eq a b) ↔ (first ≡ second)
are_equal a b first second e d = rw (← e, ← d) (eqb-true a b, eq-eqb a b)

pub returns-clause-plain : goal.returns-clause-plain
unfolding flight_at
returns-clause-plain c = λ history h idle.
    same_answers c.args.self.now history c.args.seat c.requires.first.0 h idle c.args.a c.args.b c.requires.first.1 c.requires.second.1 _
    (are_equal _ _ _ _ c.register.ensures c.register-2.ensures)
