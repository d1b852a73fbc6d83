use Rattle.std.proofs.Common.{◌≡◌, ℕ, nat_eq, IsTrue, ◌↔◌}
use Rattle.std.proofs.lemmas.Bool.{eqb-true, eq-eqb}
use Rattle.hk_core.specs.View.{flight_at}
use Rattle.hk_core.proofs.Shown.{is_null_answers}
use Rattle.hk_core.proofs.machine.Core.is_null.Goals as goal

is_zero : (word shown : ℕ) → word ≡ shown → IsTrue (nat_eq word 0) ↔ (shown ≡ 0)
is_zero word shown e = rw (← e) (eqb-true word 0, eq-eqb word 0)

pub returns-clause-plain : goal.returns-clause-plain
unfolding flight_at
returns-clause-plain c = λ history h idle.
    is_null_answers c.args.self.now history c.args.seat c.requires.0 h idle c.args.reg c.requires.1 _ (is_zero _ _ c.register.ensures)
