use Rattle.std.proofs.Common.{ap, ◌∙◌, inl, inr, arith}
use Rattle.std.proofs.lemmas.Bool.{cases_eq}
use Rattle.std.proofs.lemmas.Bool.Decides.{nat_tests}
use Rattle.hk_rta.specs.Demand.{jitter_at}
use Rattle.hk_admit.specs.Analysis.{timings_of}
use Rattle.hk_ceiling.proofs.Late.{jitter_is}
use Rattle.hk_ceiling.proofs.admission.first_moved.Goals as goal

pub loop-place-preserved : goal.loop-place-preserved
loop-place-preserved c = λ j lt. elim (cases_eq j c.loop-place.place) [
  | inr other ↦ c.loop-place.invariant j (omega (arith, lt, other))
  | inl same ↦
      let none = c.if-task-ne0.false in
      ap (λ k. jitter_at (timings_of c.args.tasks.now) k) same
      ∙ jitter_is c.args.tasks.now c.loop-place.place c.index-tasks-place.result (omega arith) c.index-tasks-place.is ∙ grind (arith, nat_tests, none)
]
