-- Rows of three tasks in their order.
use Rattle.std.proofs.Common.{zero, suc, ◌<◌, [], ◌∷◌, arith}
use Rattle.hk_plan.specs.declared.Ready.{Ready}
use Rattle.hk_dispatch.specs.Rows.{TasksRise}

pub three_rise : (a b c : Ready) → a.task < b.task → b.task < c.task → TasksRise (a ∷ b ∷ c ∷ [])
three_rise a b c p q zero (suc zero) order within = p
three_rise a b c p q zero (suc (suc zero)) order within = omega (arith, p, q)
three_rise a b c p q (suc zero) (suc (suc zero)) order within = q
three_rise a b c p q zero zero order within = absurd (omega (arith, order))
three_rise a b c p q (suc i) zero order within = absurd (omega (arith, order))
three_rise a b c p q (suc i) (suc zero) order within = absurd (omega (arith, order))
three_rise a b c p q (suc (suc i)) (suc (suc zero)) order within = absurd (omega (arith, order))
three_rise a b c p q i (suc (suc (suc j))) order within = absurd (omega (arith, within))
